-- What is read of a name, a qualifier and a bound is spelled there.
use Rattle.std.proofs.Common.{◌≡◌, inl, inr, ℕ, Bool, true, false, not, List, [], ◌∷◌, ◌++◌, length, drop, IsTrue, Option, Some, None, Ok, Err, Result, refl, sym, ap, ◌∙◌, subst, append_assoc, codes, cond}
use Rattle.std.specs.Str.{bytes_eq}
use Rattle.std.proofs.lemmas.Bool.Decides.{Decides-eqb}
use Rattle.std.proofs.lemmas.Slice.Eq.{bytes_eq-Decides}
use Rattle.deb_base.specs.PackageNames.{is_package_name, is_arch_name}
use Rattle.deb_version.specs.Parts.{Meaning as Version}
use Rattle.deb_version.specs.Grammar.{SpellsVersion, meaning_of_components}
use Rattle.deb_version.specs.Places.{components_in}
use Rattle.deb_version.specs.Faults.{first_fault}
use Rattle.deb_version.specs.declared.fault.BadVersion.{BadVersion}
use Rattle.deb_version.proofs.FaultLemmas.{spells-from_no_fault}
use Rattle.deb_relation.specs.declared.operator.Op.{Op}
use Rattle.deb_relation.specs.declared.operator.Op.TheVariants.{Earlier, EarlierEqual, Equal, LaterEqual, Later}
use Rattle.deb_relation.specs.declared.fault.Reason.TheVariants.{OperatorBad}
use Rattle.deb_relation.specs.Grammar.{IsWhite, SpellsQualifier, SpellsOperator, SpellsBound}
use Rattle.deb_relation.specs.Reading.{Stopped, Reading, and_then, begins, behind_run, behind_white, is_at_end, is_before, is_in_name, is_in_operator, is_white, run_of, operator_of, or_stop, or_fault, read_name, read_qualifier, read_operator, read_version, read_close, read_bound_behind, read_bound, some_read}
use Rattle.deb_relation.proofs.Runs.{run_of-split, run_of-passes}

-- of two answers, the one by the test
pub either : {X P : Type 0} (b : Bool) (x y z : X) → cond b x y ≡ z → (b ≡ true → x ≡ z → P) → (b ≡ false → y ≡ z → P) → P
either true x y z e f g = f refl e
either false x y z e f g = g refl e

-- a reading that goes on was one
pub record WentOn {A B : Type 0} (r : Reading A) (f : A → List ℕ → Result B Stopped) (q : B) : Type 0 where
  pub first : A × List ℕ
  pub was : r ≡ Ok first
  pub then : f first.0 first.1 ≡ Ok q

pub went_on : {A B : Type 0} (r : Reading A) (f : A → List ℕ → Result B Stopped) (q : B) → and_then r f ≡ Ok q → WentOn r f q
went_on (Ok p) f q e = record { first = p; was = refl; then = e }
went_on (Err stopped) f q e = absurd cc

pub stopped-no : {A : Type 0} (stopped : Stopped) (q : A) → let r : Result A Stopped = Err stopped in r ≡ Ok q → ⊥
stopped-no stopped q e = cc

pub ok-same : {A : Type 0} (p q : A) → let r : Result A Stopped = Ok p in r ≡ Ok q → p ≡ q
ok-same p q e = cc

pub begins_is : (byte : ℕ) (text : List ℕ) → begins byte text ≡ true → text ≡ byte ∷ drop 1 text
begins_is byte [] e = absurd cc
begins_is byte (b ∷ bs) e = ap (λ c. c ∷ bs) ((Decides-eqb b byte).0 e)

pub name_took : (text : List ℕ) (q : List ℕ × List ℕ) → read_name text ≡ Ok q → (text ≡ q.0 ++ q.1) × IsTrue (is_package_name q.0)
unfolding read_name
name_took text q e =
    either (is_at_end (run_of is_in_name text)) _ _ _ e (λ _ x. absurd (stopped-no _ _ x))
    (λ _ e1. either (is_package_name (run_of is_in_name text)) _ _ _ e1
    (λ good e2. subst (λ q. (text ≡ q.0 ++ q.1) × IsTrue (is_package_name q.0)) (ok-same _ _ e2) (run_of-split is_in_name text, good))
    (λ _ x. absurd (stopped-no _ _ x)))

-- a part that is spelled at the beginning of a text
pub record Took {A : Type 0} (spells : List ℕ → A → Type 0) (text : List ℕ) (q : A × List ℕ) : Type 0 where
  pub piece : List ℕ
  pub split : text ≡ piece ++ q.1
  pub spelled : spells piece q.0

pub qualifier_took : (text : List ℕ) (q : Option (List ℕ) × List ℕ) → read_qualifier text ≡ Ok q → Took SpellsQualifier text q
unfolding read_qualifier
qualifier_took text q e =
    either (not (begins 58 text)) _ _ _ e
    (λ _ e1. subst (Took SpellsQualifier text) (ok-same _ _ e1) (record { piece = []; split = refl; spelled = refl }))
    (λ colon e1. either (is_arch_name (run_of is_in_name (drop 1 text))) _ _ _ e1
    (λ good e2. subst (Took SpellsQualifier text) (ok-same _ _ e2) (record {
      piece = 58 ∷ run_of is_in_name (drop 1 text);
      split = begins_is 58 text (not_false (begins 58 text) colon) ∙ ap (λ t. 58 ∷ t) (run_of-split is_in_name (drop 1 text));
      spelled = (refl, good);
    }))
    (λ _ x. absurd (stopped-no _ _ x)))
  where
    not_false : (b : Bool) → not b ≡ false → b ≡ true
    not_false true e = refl
    not_false false e = cc

-- the same where white space is skipped before it and after it
pub record TookWhite {A : Type 0} (spells : List ℕ → A → Type 0) (text : List ℕ) (q : A × List ℕ) : Type 0 where
  pub piece : List ℕ
  pub more : List ℕ
  pub split : text ≡ piece ++ more
  pub behind : q.1 ≡ behind_white more
  pub spelled : spells piece q.0

-- the run that a text begins with
is_text : (run : List ℕ) (text : List ℕ) (o : Op) (rest : Option Op) (op : Op) → SpellsOperator text o → cond (bytes_eq run text) (Some o) rest ≡ Some op → (rest ≡ Some op → SpellsOperator run op) → SpellsOperator run op
is_text run text o rest op spells e others =
    either (bytes_eq run text) (Some o) rest (Some op) e
    (λ same x. subst (λ t. SpellsOperator t op) (sym ((bytes_eq-Decides run text).0 same)) (subst (SpellsOperator text) (some_same o op x) spells))
    (λ _ x. others x)
  where
    some_same : (a b : Op) → Some a ≡ Some b → a ≡ b
    some_same a b e = cc

operator_known : (run : List ℕ) (op : Op) → operator_of run ≡ Some op → SpellsOperator run op
operator_known run op e =
    is_text run (codes "<<") Earlier _ op refl e (λ e1.
    is_text run (codes "<=") EarlierEqual _ op (inl refl) e1 (λ e2.
    is_text run (codes "<") EarlierEqual _ op (inr refl) e2 (λ e3.
    is_text run (codes "=") Equal _ op refl e3 (λ e4.
    is_text run (codes ">=") LaterEqual _ op (inl refl) e4 (λ e5.
    is_text run (codes ">") LaterEqual _ op (inr refl) e5 (λ e6.
    is_text run (codes ">>") Later None op refl e6 (λ x. absurd (none_some op x))))))))
  where
    none_some : (op : Op) → None ≡ Some op → ⊥
    none_some op e = cc

pub record TookOperator (text : List ℕ) (q : Op × List ℕ) : Type 0 where
  pub operator : List ℕ
  pub between : List ℕ
  pub split : text ≡ operator ++ (between ++ q.1)
  pub spells : SpellsOperator operator q.0
  pub white : IsWhite between

pub operator_took : (text : List ℕ) (q : Op × List ℕ) → read_operator text ≡ Ok q → TookOperator text q
unfolding read_operator
operator_took text q e = from (operator_of (run_of is_in_operator text)) refl e
  where
    from : (o : Option Op) → operator_of (run_of is_in_operator text) ≡ o → or_stop o (behind_white (behind_run is_in_operator text)) (OperatorBad, length text) ≡ Ok q → TookOperator text q
    from None is x = absurd (stopped-no _ _ x)
    from (Some op) is x = subst (TookOperator text) (ok-same _ _ x) (record {
      operator = run_of is_in_operator text;
      between = run_of is_white (behind_run is_in_operator text);
      split = run_of-split is_in_operator text ∙ ap (λ t. run_of is_in_operator text ++ t) (run_of-split is_white (behind_run is_in_operator text));
      spells = operator_known (run_of is_in_operator text) op is;
      white = run_of-passes is_white (behind_run is_in_operator text);
    })

pub record TookVersion (text : List ℕ) (q : Version × List ℕ) : Type 0 where
  pub version : List ℕ
  pub behind : List ℕ
  pub split : text ≡ version ++ (behind ++ q.1)
  pub spells : SpellsVersion version q.0
  pub white : IsWhite behind

pub version_took : (text : List ℕ) (q : Version × List ℕ) → read_version text ≡ Ok q → TookVersion text q
unfolding read_version
version_took text q e = from (first_fault (run_of (is_before 41) text)) refl e
  where
    from : (o : Option BadVersion) → first_fault (run_of (is_before 41) text) ≡ o → or_fault o (meaning_of_components (components_in (run_of (is_before 41) text))) (behind_white (behind_run (is_before 41) text)) (length text) ≡ Ok q → TookVersion text q
    from (Some fault) is x = absurd (stopped-no _ _ x)
    from None is x = subst (TookVersion text) (ok-same _ _ x) (record {
      version = run_of (is_before 41) text;
      behind = run_of is_white (behind_run (is_before 41) text);
      split = run_of-split (is_before 41) text ∙ ap (λ t. run_of (is_before 41) text ++ t) (run_of-split is_white (behind_run (is_before 41) text));
      spells = spells-from_no_fault (run_of (is_before 41) text) is;
      white = run_of-passes is_white (behind_run (is_before 41) text);
    })

-- what follows `(` and white space
record TookBehind (text : List ℕ) (q : (Op × Version) × List ℕ) : Type 0 where
  operator : List ℕ
  between : List ℕ
  version : List ℕ
  behind : List ℕ
  more : List ℕ
  split : text ≡ operator ++ (between ++ (version ++ (behind ++ 41 ∷ more)))
  after : q.1 ≡ behind_white more
  between_white : IsWhite between
  behind_white : IsWhite behind
  spells_operator : SpellsOperator operator q.0.0
  spells : SpellsVersion version q.0.1

close_took : (bound : Op × Version) (text : List ℕ) (q : (Op × Version) × List ℕ) → read_close bound text ≡ Ok q → (bound ≡ q.0) × (text ≡ 41 ∷ drop 1 text) × (q.1 ≡ behind_white (drop 1 text))
close_took bound text q e =
    either (begins 41 text) _ _ _ e
    (λ close x. subst (λ q. (bound ≡ q.0) × (text ≡ 41 ∷ drop 1 text) × (q.1 ≡ behind_white (drop 1 text))) (ok-same _ _ x) (refl, begins_is 41 text close, refl))
    (λ _ x. absurd (stopped-no _ _ x))

bound_behind_took : (text : List ℕ) (q : (Op × Version) × List ℕ) → read_bound_behind text ≡ Ok q → TookBehind text q
unfolding read_bound_behind
bound_behind_took text q e =
    let s1 = went_on (read_operator text) _ q e in
    let o = operator_took text s1.first s1.was in
    let s2 = went_on (read_version s1.first.1) _ q s1.then in
    let v = version_took s1.first.1 s2.first s2.was in
    let c = close_took (s1.first.0, s2.first.0) s2.first.1 q s2.then in
    record {
      operator = o.operator;
      between = o.between;
      version = v.version;
      behind = v.behind;
      more = drop 1 s2.first.1;
      split = o.split ∙ ap (λ t. o.operator ++ (o.between ++ t)) (v.split ∙ ap (λ t. v.version ++ (v.behind ++ t)) c.1);
      after = c.2;
      between_white = o.white;
      behind_white = v.white;
      spells_operator = subst (λ b. SpellsOperator o.operator b.0) c.0 o.spells;
      spells = subst (λ b. SpellsVersion v.version b.1) c.0 v.spells;
    }

pub bound_took : (text : List ℕ) (q : Option (Op × Version) × List ℕ) → read_bound (behind_white text) ≡ Ok q → TookWhite SpellsBound text q
unfolding read_bound
bound_took text q e =
    either (begins 40 (behind_white text)) _ _ _ e
    (λ begin e1. some (begins_is 40 (behind_white text) begin) (went_on (read_bound_behind (behind_white (drop 1 (behind_white text)))) some_read q e1))
    (λ _ e1. subst (TookWhite SpellsBound text) (ok-same _ _ e1) (record { piece = []; more = text; split = refl; behind = refl; spelled = refl }))
  where
    some : behind_white text ≡ 40 ∷ drop 1 (behind_white text) → WentOn (read_bound_behind (behind_white (drop 1 (behind_white text)))) some_read q → TookWhite SpellsBound text q
    some begin s =
        let inner = drop 1 (behind_white text) in
        let b = bound_behind_took (behind_white inner) s.first s.was in
        let pieces = run_of is_white inner ++ (b.operator ++ (b.between ++ (b.version ++ (b.behind ++ codes ")")))) in
        subst (TookWhite SpellsBound text) (ok-same _ _ s.then) (record {
          piece = run_of is_white text ++ (40 ∷ pieces);
          more = b.more;
          split = run_of-split is_white text ∙ ap (λ t. run_of is_white text ++ t) (begin ∙ ap (λ t. 40 ∷ t) (run_of-split is_white inner ∙ ap (λ t. run_of is_white inner ++ t) b.split)) ∙ reordered (run_of is_white text) (run_of is_white inner) b.operator b.between b.version b.behind b.more;
          behind = b.after;
          spelled = record {
            before = run_of is_white text;
            within = run_of is_white inner;
            operator = b.operator;
            between = b.between;
            version = b.version;
            behind = b.behind;
            spelt = refl;
            before_white = run_of-passes is_white text;
            within_white = run_of-passes is_white inner;
            between_white = b.between_white;
            behind_white = b.behind_white;
            spells_operator = b.spells_operator;
            spells = b.spells;
          };
        })
      where
        reordered : (before within operator between version behind more : List ℕ) → before ++ (40 ∷ (within ++ (operator ++ (between ++ (version ++ (behind ++ 41 ∷ more)))))) ≡ (before ++ (40 ∷ (within ++ (operator ++ (between ++ (version ++ (behind ++ 41 ∷ []))))))) ++ more
        reordered before within operator between version behind more = simp append_assoc refl
