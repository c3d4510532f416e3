-- Where the reading of a qualifier or a bound stops, what comes before can be continued to one.
use Rattle.std.proofs.Common.{◌≡◌, ℕ, not, List, [], ◌∷◌, ◌++◌, length, drop, Option, Some, None, Ok, Err, Result, refl, sym, ap, ◌∙◌, append_assoc, codes}
use Rattle.std.proofs.lemmas.Bool.{not-false}
use Rattle.deb_base.specs.PackageNames.{is_package_name, is_arch_name}
use Rattle.deb_version.specs.Faults.{first_fault}
use Rattle.deb_version.specs.Grammar.{SpellsVersion, meaning_of_components}
use Rattle.deb_version.specs.Parts.{Meaning as Version}
use Rattle.deb_version.specs.Places.{components_in}
use Rattle.deb_version.specs.declared.fault.BadVersion.{BadVersion}
use Rattle.deb_version.proofs.FaultLemmas.{spells-from_no_fault}
use Rattle.deb_relation.specs.declared.operator.Op.{Op}
use Rattle.deb_relation.specs.declared.operator.Op.TheVariants.{Equal}
use Rattle.deb_relation.specs.Grammar.{IsWhite, SpellsQualifier, SpellsOperator, SpellsBound}
use Rattle.deb_relation.specs.Reading.{Stopped, Reading, and_then, begins, behind_white, is_at_end, is_in_name, is_white, run_of, or_stop, or_fault, read_name, read_qualifier, read_operator, read_version, read_close, read_bound_behind, read_bound, some_read}
use Rattle.deb_relation.proofs.ReadParts.{either, begins_is, operator_took, version_took}
use Rattle.deb_relation.proofs.Runs.{run_of-split, run_of-passes}

-- what comes before the offset where the reading of a part stops, and what continues it to such a part
pub record Begun {A : Type 0} (spells : List ℕ → A → Type 0) (text : List ℕ) (left : ℕ) : Type 0 where
  pub before : List ℕ
  pub after : List ℕ
  pub more : List ℕ
  pub value : A
  pub split : text ≡ before ++ after
  pub left_is : length after ≡ left
  pub spelled : spells (before ++ more) value

pub ok-not : {A : Type 0} (p : A) (s : Stopped) → let r : Result A Stopped = Ok p in r ≡ Err s → ⊥
ok-not p s e = cc

pub err-same : {A : Type 0} (t s : Stopped) → let r : Result A Stopped = Err t in r ≡ Err s → t ≡ s
err-same t s e = cc

pub stopped_left : {A : Type 0} (t s : Stopped) → let r : Result A Stopped = Err t in r ≡ Err s → t.1 ≡ s.1
stopped_left {A = A} t s e = ap (λ x. x.1) (err-same {A = A} t s e)

-- a reading that stops stops at its first step or later
pub stopped_by : {A B P : Type 0} (r : Reading A) (f : A → List ℕ → Result B Stopped) (s : Stopped) → and_then r f ≡ Err s → (r ≡ Err s → P) → ((q : A × List ℕ) → r ≡ Ok q → f q.0 q.1 ≡ Err s → P) → P
stopped_by (Ok q) f s e stops goes = goes q refl e
stopped_by {B = B} (Err t) f s e stops goes = stops (ap Err (err-same {A = B} t s e))

pub name_left : (text : List ℕ) (s : Stopped) → read_name text ≡ Err s → length text ≡ s.1
unfolding read_name
name_left text s e =
    either (is_at_end (run_of is_in_name text)) _ _ _ e (λ _ x. stopped_left _ s x)
    (λ _ e1. either (is_package_name (run_of is_in_name text)) _ _ _ e1 (λ _ x. absurd (ok-not _ s x)) (λ _ x. stopped_left _ s x))

pub qualifier_begun : (text : List ℕ) (s : Stopped) → read_qualifier text ≡ Err s → Begun SpellsQualifier text s.1
unfolding read_qualifier
qualifier_begun text s e =
    either (not (begins 58 text)) _ _ _ e (λ _ x. absurd (ok-not _ s x))
    (λ colon e1. either (is_arch_name (run_of is_in_name (drop 1 text))) _ _ _ e1 (λ _ x. absurd (ok-not _ s x))
    (λ _ x. record {
      before = codes ":";
      after = drop 1 text;
      more = codes "x";
      value = Some (codes "x");
      split = begins_is 58 text (not-false (begins 58 text) colon);
      left_is = stopped_left _ s x;
      spelled = (refl, refl);
    }))

-- what follows `(` and white space
record BegunBehind (text : List ℕ) (left : ℕ) : Type 0 where
  before : List ℕ
  after : List ℕ
  more : List ℕ
  operator : List ℕ
  between : List ℕ
  version : List ℕ
  behind : List ℕ
  op : Op
  meaning : Version
  split : text ≡ before ++ after
  left_is : length after ≡ left
  spelt : before ++ more ≡ operator ++ (between ++ (version ++ (behind ++ codes ")")))
  between_white : IsWhite between
  behind_white : IsWhite behind
  spells_operator : SpellsOperator operator op
  spells : SpellsVersion version meaning

version_1 : SpellsVersion (codes "1") (meaning_of_components (components_in (codes "1")))
unfolding first_fault
version_1 = spells-from_no_fault (codes "1") refl

or_stop_left : {A : Type 0} (o : Option A) (behind : List ℕ) (t s : Stopped) → or_stop o behind t ≡ Err s → t.1 ≡ s.1
or_stop_left (Some a) behind t s e = absurd (ok-not _ s e)
or_stop_left None behind t s e = stopped_left t s e

operator_left : (text : List ℕ) (s : Stopped) → read_operator text ≡ Err s → length text ≡ s.1
unfolding read_operator
operator_left text s e = or_stop_left _ _ _ s e

or_fault_left : (o : Option BadVersion) (version : Version) (behind : List ℕ) (left : ℕ) (s : Stopped) → or_fault o version behind left ≡ Err s → left ≡ s.1
or_fault_left None version behind left s e = absurd (ok-not _ s e)
or_fault_left (Some fault) version behind left s e = stopped_left _ s e

version_left : (text : List ℕ) (s : Stopped) → read_version text ≡ Err s → length text ≡ s.1
unfolding read_version
version_left text s e = or_fault_left _ _ _ _ s e

close_left : (bound : Op × Version) (text : List ℕ) (s : Stopped) → read_close bound text ≡ Err s → length text ≡ s.1
close_left bound text s e = either (begins 41 text) _ _ _ e (λ _ x. absurd (ok-not _ s x)) (λ _ x. stopped_left _ s x)

four : (a b c d e : List ℕ) → a ++ (b ++ (c ++ (d ++ e))) ≡ (a ++ (b ++ (c ++ d))) ++ e
four a b c d e = simp append_assoc refl

bound_behind_begun : (text : List ℕ) (s : Stopped) → read_bound_behind text ≡ Err s → BegunBehind text s.1
unfolding read_bound_behind
bound_behind_begun text s e =
    stopped_by (read_operator text) _ s e
    (λ x. record {
      before = [];
      after = text;
      more = codes "=1)";
      operator = codes "=";
      between = [];
      version = codes "1";
      behind = [];
      op = Equal;
      meaning = meaning_of_components (components_in (codes "1"));
      split = refl;
      left_is = operator_left text s x;
      spelt = refl;
      between_white = tt;
      behind_white = tt;
      spells_operator = refl;
      spells = version_1;
    })
    (λ q was e1.
    let o = operator_took text q was in
    stopped_by (read_version q.1) _ s e1
    (λ x. record {
      before = o.operator ++ o.between;
      after = q.1;
      more = codes "1)";
      operator = o.operator;
      between = o.between;
      version = codes "1";
      behind = [];
      op = q.0;
      meaning = meaning_of_components (components_in (codes "1"));
      split = o.split ∙ sym (append_assoc o.operator o.between q.1);
      left_is = version_left q.1 s x;
      spelt = append_assoc o.operator o.between (codes "1)");
      between_white = o.white;
      behind_white = tt;
      spells_operator = o.spells;
      spells = version_1;
    })
    (λ r was' e2.
    let v = version_took q.1 r was' in
    record {
      before = o.operator ++ (o.between ++ (v.version ++ v.behind));
      after = r.1;
      more = codes ")";
      operator = o.operator;
      between = o.between;
      version = v.version;
      behind = v.behind;
      op = q.0;
      meaning = r.0;
      split = o.split ∙ ap (λ t. o.operator ++ (o.between ++ t)) v.split ∙ four o.operator o.between v.version v.behind r.1;
      left_is = close_left (q.0, r.0) r.1 s e2;
      spelt = sym (four o.operator o.between v.version v.behind (codes ")"));
      between_white = o.white;
      behind_white = v.white;
      spells_operator = o.spells;
      spells = v.spells;
    }))

pub bound_begun : (text : List ℕ) (s : Stopped) → read_bound (behind_white text) ≡ Err s → Begun SpellsBound text s.1
unfolding read_bound
bound_begun text s e =
    either (begins 40 (behind_white text)) _ _ _ e
    (λ begin e1.
    stopped_by (read_bound_behind (behind_white (drop 1 (behind_white text)))) some_read s e1
    (λ x. some (begins_is 40 (behind_white text) begin) (bound_behind_begun _ s x))
    (λ q was x. absurd (ok-not _ s x)))
    (λ _ x. absurd (ok-not _ s x))
  where
    three : (w v b x : List ℕ) → w ++ (40 ∷ (v ++ (b ++ x))) ≡ (w ++ (40 ∷ (v ++ b))) ++ x
    three w v b x = simp append_assoc refl

    some : behind_white text ≡ 40 ∷ drop 1 (behind_white text) → BegunBehind (behind_white (drop 1 (behind_white text))) s.1 → Begun SpellsBound text s.1
    some begin b =
        let inner = drop 1 (behind_white text) in
        let before = run_of is_white text in
        let within = run_of is_white inner in
        record {
          before = before ++ (40 ∷ (within ++ b.before));
          after = b.after;
          more = b.more;
          value = Some (b.op, b.meaning);
          split = run_of-split is_white text ∙ ap (λ t. before ++ t) (begin ∙ ap (λ t. 40 ∷ t) (run_of-split is_white inner ∙ ap (λ t. within ++ t) b.split)) ∙ three before within b.before b.after;
          left_is = b.left_is;
          spelled = record {
            before = before;
            within = within;
            operator = b.operator;
            between = b.between;
            version = b.version;
            behind = b.behind;
            spelt = sym (three before within b.before b.more) ∙ ap (λ t. before ++ (40 ∷ (within ++ t))) b.spelt;
            before_white = run_of-passes is_white text;
            within_white = run_of-passes is_white inner;
            between_white = b.between_white;
            behind_white = b.behind_white;
            spells_operator = b.spells_operator;
            spells = b.spells;
          };
        }
