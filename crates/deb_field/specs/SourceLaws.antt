-- Lemmas that the prover checks: nothing in this file needs to be believed.
--
-- The laws for the field Source.
use Rattle.std.proofs.Common.{◌≡◌, ℕ, zero, suc, ◌-◌, ◌*◌, ◌==◌, ◌&&◌, ◌||◌, ◌≤◌, Bool, true, false, cond, IsTrue, List, [], ◌∷◌, ◌++◌, length, length-append, append_assoc, append-nil, take, get_or, Option, Some, None, refl, sym, ap, ◌∙◌, subst, arith}
use Rattle.std.proofs.lemmas.Bool.{and_parts, and_from, true≢false, false≢true, eqb-true}
use Rattle.std.proofs.lemmas.List.Folds.{list_any-append}
use Rattle.std.proofs.lemmas.Bool.Decides.{nat_tests}
use Rattle.std.proofs.lemmas.List.{take_at}
use Rattle.std.specs.List.{AllByRecursion, list_any, list_all, before_first, after_first}
use Rattle.deb_base.specs.Bodies.{IsBody, newline, is_blank_byte, is_all_blank, begins_with_blank, ends_with_blank, HasNoNewline}
use Rattle.deb_base.specs.PackageNames.{is_package_name, is_package_byte}
use Rattle.deb_base.specs.declared.code.Code.TheVariants.{BadName, BadVersion}
use Rattle.deb_base.proofs.FieldBytes.{each_from_list_all}
use Rattle.deb_base.proofs.GraphicBodies.{not_blank, IsGraphic, IsPlain, graphic_plain, IsBody-plain, IsBody-graphic}
use Rattle.deb_base.proofs.AllElements.{All-append, All-weaker}
use Rattle.deb_version.specs.Parts.{Meaning as VersionMeaning}
use Rattle.deb_version.specs.Grammar.{SpellsVersion}
use Rattle.deb_version.specs.Canonical.{version_text}
use Rattle.deb_version.specs.Faults.{first_fault}
use Rattle.deb_version.proofs.CutLemmas.{before_first-at, after_first-at, join_first}
use Rattle.deb_version.proofs.CanonicalTexts.{canonical_text_spells, canonical_text_is_short}
use Rattle.deb_version.proofs.MeaningLemmas.{one_version}
use Rattle.deb_field.specs.CanonLaw.{CanonLaw, RefusalLaw}
use Rattle.deb_field.specs.OneLine.{holds_newline, refusal_unless}
use Rattle.deb_field.specs.OneLineLaws.{HasNoNewline-test, graphic_no_newline, one_line-graphic, passes-from_none, none-from_passes, line_refusal-parts, line_refusal-from}
use Rattle.deb_base.proofs.GraphicNames.{package_name_graphic}
use Rattle.deb_relation.proofs.Bytes.{version_graphic}
use Rattle.deb_field.specs.VersionLaw.{version_from_test, test_from_version}
use Rattle.deb_field.specs.Versions.{is_version}
use Rattle.deb_field.specs.WordLaws.{ends-behind}
use Rattle.deb_base.specs.Trimming.{without_trailing_blanks, trimmed}
use Rattle.deb_base.proofs.Trims.{trailing-graphic, trimmed-graphic, trimmed_cut, trailing_cut}
use Rattle.deb_field.specs.Sources.{SourceMeaning, source_of, SpellsVersioned, SpellsSource, source_text, is_open, has_version, name_before, is_closed, without_last, version_within, versioned_refusal, source_refusal}

not_open_package : (b : ℕ) → is_package_byte b ≡ true → is_open b ≡ false
not_open_package b h = grind (arith, nat_tests)

not_open_blank : (b : ℕ) → is_blank_byte b ≡ true → is_open b ≡ false
not_open_blank b h = grind (arith, nat_tests)

no_open : (text : List ℕ) → AllByRecursion (λ b. is_open b ≡ false) text
    → list_any is_open text ≡ false
no_open [] h = refl
no_open (b ∷ bs) h = ap (λ t. t || list_any is_open bs) h.0 ∙ no_open bs h.1

name_bytes : (name : List ℕ) → is_package_name name ≡ true → list_all is_package_byte name ≡ true
name_bytes name h = (and_parts _ (list_all is_package_byte name) h).1

-- no parenthesis in a name
pub no_open_name : (name : List ℕ) → is_package_name name ≡ true → list_any is_open name ≡ false
no_open_name name h =
    no_open name (each_from_list_all is_package_byte (λ b. is_open b ≡ false) not_open_package name
    (name_bytes name h))

pub ends-closed : (text : List ℕ) (n : ℕ) → length text ≡ suc n
    → is_closed text ≡ (get_or text n 0 == 41)
ends-closed [] n long = absurd (omega arith)
ends-closed (b ∷ []) zero long = refl
ends-closed (b ∷ []) (suc n) long = absurd (omega arith)
ends-closed (b ∷ c ∷ text) zero long = absurd (omega arith)
ends-closed (b ∷ c ∷ text) (suc n) long = ends-closed (c ∷ text) n (omega arith)

closed-push : (text : List ℕ) → is_closed (text ++ 41 ∷ []) ≡ true
closed-push [] = refl
closed-push (b ∷ []) = refl
closed-push (b ∷ c ∷ text) = closed-push (c ∷ text)

closed-split : (text : List ℕ) → is_closed text ≡ true
    → (front : List ℕ) × (text ≡ front ++ 41 ∷ [])
closed-split [] h = absurd (false≢true h)
closed-split (b ∷ []) h = ([], ap (λ t. t ∷ []) (eqb-true b 41 h))
closed-split (b ∷ c ∷ text) h = let p = closed-split (c ∷ text) h in (b ∷ p.0, ap (λ t. b ∷ t) p.1)

without_last-push : (text : List ℕ) (b : ℕ) → without_last (text ++ b ∷ []) ≡ text
without_last-push text b =
    let n : length (text ++ b ∷ []) - 1 ≡ length text =
    omega (arith, length-append text (b ∷ [])) in
    ap (λ k. take k (text ++ b ∷ [])) n ∙ take_at text (b ∷ []) (length text) refl

no_empty_version : is_version [] ≡ false
unfolding first_fault
no_empty_version = refl

some_version : (text left right : List ℕ) (m : VersionMeaning) → SpellsVersion text m
    → IsTrue (is_all_blank left) → IsTrue (is_all_blank right)
    → trimmed (left ++ (text ++ right)) ≡ text
some_version [] left right m s l r =
    absurd (false≢true (sym no_empty_version ∙ test_from_version [] m s))
some_version (b ∷ text) left right m s l r =
    trimmed-graphic left b text right l r (version_graphic (b ∷ text) m s)

-- what a body with a version in parentheses holds
module _ (body name : List ℕ) (version : VersionMeaning) (s : SpellsVersioned body name version)
  where
    tail : List ℕ
    tail = s.left ++ (s.text ++ (s.right ++ (41 ∷ [])))

    cut : body ≡ (name ++ s.gap) ++ 40 ∷ tail
    unfolding tail
    cut =
        s.spelt ∙ sym (append_assoc name s.gap (40
        ∷ (s.left ++ (s.text ++ (s.right ++ (41 ∷ []))))))

    tail_is : tail ≡ (s.left ++ (s.text ++ s.right)) ++ 41 ∷ []
    unfolding tail
    tail_is =
        ap (λ t. s.left ++ t) (sym (append_assoc s.text s.right (41 ∷ [])))
        ∙ sym (append_assoc s.left (s.text ++ s.right) (41 ∷ []))

    no_open_front : list_any is_open (name ++ s.gap) ≡ false
    no_open_front =
        list_any-append is_open name s.gap
        ∙ ap (λ t. t || list_any is_open s.gap) (no_open_name name s.named)
        ∙ no_open s.gap (each_from_list_all is_blank_byte (λ b. is_open b ≡ false) not_open_blank
        s.gap s.gap_blank)

    pub versioned-has : has_version body ≡ true
    versioned-has =
        ap has_version cut ∙ list_any-append is_open (name ++ s.gap) (40 ∷ tail)
        ∙ ap (λ t. t || true) no_open_front

    behind : after_first is_open body ≡ tail
    behind =
        ap (after_first is_open) cut ∙ after_first-at is_open (name ++ s.gap) 40 tail no_open_front
        refl

    pub versioned-name : name_before body ≡ name
    versioned-name =
        ap (λ t. without_trailing_blanks (before_first is_open t)) cut
        ∙ ap without_trailing_blanks (before_first-at is_open (name ++ s.gap) 40 tail no_open_front
        refl)
        ∙ trailing-graphic name s.gap (package_name_graphic name s.named) s.gap_blank

    pub versioned-closed : is_closed (after_first is_open body) ≡ true
    versioned-closed = ap is_closed (behind ∙ tail_is) ∙ closed-push (s.left ++ (s.text ++ s.right))

    pub versioned-within : version_within body ≡ s.text
    versioned-within =
        ap (λ t. trimmed (without_last t)) (behind ∙ tail_is)
        ∙ ap trimmed (without_last-push (s.left ++ (s.text ++ s.right)) 41)
        ∙ some_version s.text s.left s.right version s.versioned s.left_blank s.right_blank

-- one reading
one_source : (body name other : List ℕ) (v w : Option VersionMeaning)
    → SpellsSource body (source_of name v) → SpellsSource body (source_of other w)
    → source_of name v ≡ source_of other w
one_source body name other None None s t = ap (λ n. source_of n None) (sym s.spelt ∙ t.spelt)
one_source body name other None (Some w) s t =
    absurd (true≢false (sym (versioned-has body other w t) ∙ ap has_version s.spelt
    ∙ no_open_name name s.named))
one_source body name other (Some v) None s t =
    absurd (true≢false (sym (versioned-has body name v s) ∙ ap has_version t.spelt
    ∙ no_open_name other t.named))
one_source body name other (Some v) (Some w) s t =
    let texts : t.text ≡ s.text =
    sym (versioned-within body other w t) ∙ versioned-within body name v s in
    let same : v ≡ w =
    one_version s.text v w s.versioned (subst (λ x. SpellsVersion x w) texts t.versioned) in
    ap (λ n. source_of n (Some v)) (sym (versioned-name body name v s)
    ∙ versioned-name body other w t) ∙ ap (λ x. source_of other (Some x)) same

-- canonical text is read back
back : (body name : List ℕ) (v : Option VersionMeaning) → SpellsSource body (source_of name v)
    → SpellsSource (source_text (source_of name v)) (source_of name v)
back body name None s = record { spelt = append-nil name; named = s.named }
back body name (Some v) s = record {
  gap = 32 ∷ [];
  left = [];
  text = version_text v;
  right = [];
  spelt = refl;
  named = s.named;
  gap_blank = refl;
  left_blank = refl;
  right_blank = refl;
  versioned = canonical_text_spells s.text v s.versioned;
}

begins-name : (name text : List ℕ) → is_package_name name ≡ true → AllByRecursion IsGraphic name
    → begins_with_blank (name ++ text) ≡ false
begins-name [] text h g = cc
begins-name (b ∷ name) text h g = not_blank b g.0

plain_source : (name text : List ℕ) → AllByRecursion IsGraphic name → AllByRecursion IsGraphic text
    → AllByRecursion IsPlain (name ++ (32 ∷ 40 ∷ (text ++ 41 ∷ [])))
plain_source name text g h =
    All-append IsPlain name (32 ∷ 40 ∷ (text ++ 41 ∷ []))
    (All-weaker IsGraphic IsPlain graphic_plain name g) (
      (omega arith, omega arith),
      (
        (omega arith, omega arith),
        All-append IsPlain text (41 ∷ []) (All-weaker IsGraphic IsPlain graphic_plain text h)
            ((omega arith, omega arith), tt),
      ),
    )

ends-source : (name text : List ℕ) → ends_with_blank (name ++ (32 ∷ 40 ∷ (text ++ 41 ∷ []))) ≡ false
ends-source name text =
    ends-behind name 32 (40 ∷ (text ++ 41 ∷ [])) ∙ ends-behind (32 ∷ 40 ∷ text) 41 []

body_of : (body name : List ℕ) (v : Option VersionMeaning) → SpellsSource body (source_of name v)
    → IsBody (source_text (source_of name v))
body_of body name None s =
    subst IsBody (sym (append-nil name)) (IsBody-graphic name (package_name_graphic name s.named))
body_of body name (Some v) s =
    let graphic = package_name_graphic name s.named in
    let plain =
    plain_source name (version_text v) graphic (version_graphic (version_text v) v
    (canonical_text_spells s.text v s.versioned)) in
    let text : List ℕ = name ++ (32 ∷ 40 ∷ (version_text v ++ 41 ∷ [])) in
    IsBody-plain text plain (begins-name name _ s.named graphic) (ends-source name (version_text v))

short : (body name : List ℕ) (v : Option VersionMeaning) → SpellsSource body (source_of name v)
    → length (source_text (source_of name v)) ≤ 2 * length body
short body name None s = omega (arith, ap length s.spelt, ap length (append-nil name))
short body name (Some v) s =
    let version = canonical_text_is_short s.text v s.versioned in
    omega (
      arith,
      version,
      ap length s.spelt,
      length-append name (s.gap ++ (40 ∷ (s.left ++ (s.text ++ (s.right ++ (41 ∷ [])))))),
      length-append s.gap (40 ∷ (s.left ++ (s.text ++ (s.right ++ (41 ∷ []))))),
      length-append s.left (s.text ++ (s.right ++ (41 ∷ []))),
      length-append s.text (s.right ++ (41 ∷ [])),
      length-append s.right (41 ∷ []),
      length-append name (32 ∷ 40 ∷ (version_text v ++ 41 ∷ [])),
      length-append (version_text v) (41 ∷ []),
    )

pub source_law : CanonLaw SourceMeaning SpellsSource source_text
source_law = record {
  one_meaning = λ body m n s t. one_source body m.name n.name m.version n.version s t;
  reads_back = λ body m s. back body m.name m.version s;
  is_body = λ body m is s. body_of body m.name m.version s;
  is_short = λ body m s. short body m.name m.version s;
}

-- a body without refusal spells a source
pub spells_versioned : (body : List ℕ) → has_version body ≡ true
    → is_package_name (name_before body) ≡ true → is_closed (after_first is_open body) ≡ true
    → (v : VersionMeaning) → SpellsVersion (version_within body) v
    → SpellsVersioned body (name_before body) v
spells_versioned body has named closed v versioned =
    let p = join_first is_open body has in
    let front = trailing_cut (before_first is_open body) in
    let inner = closed-split (after_first is_open body) closed in
    let last : without_last (after_first is_open body) ≡ inner.0 =
    ap without_last inner.1 ∙ without_last-push inner.0 41 in
    let trim = trimmed_cut (without_last (after_first is_open body)) in
    let tail : after_first is_open body
    ≡ trim.before ++ (version_within body ++ (trim.after ++ (41 ∷ []))) =
    inner.1 ∙ ap (λ t. t ++ 41 ∷ []) (sym last ∙ trim.is)
    ∙ append_assoc trim.before (version_within body ++ trim.after) (41 ∷ [])
    ∙ ap (λ t. trim.before ++ t) (append_assoc (version_within body) trim.after (41 ∷ [])) in
    let spelt : body ≡ name_before body ++ (front.cut
    ++ (40 ∷ (trim.before ++ (version_within body ++ (trim.after ++ (41 ∷ [])))))) =
    p.2 ∙ ap (λ b. before_first is_open body ++ b ∷ after_first is_open body) (eqb-true p.0 40 p.1)
    ∙ ap (λ t. before_first is_open body ++ 40 ∷ t) tail
    ∙ ap (λ t. t ++ 40 ∷ (trim.before ++ (version_within body ++ (trim.after ++ (41 ∷ [])))))
    front.is
    ∙ append_assoc (name_before body) front.cut (40
    ∷ (trim.before ++ (version_within body ++ (trim.after ++ (41 ∷ []))))) in
    record {
      gap = front.cut;
      left = trim.before;
      text = version_within body;
      right = trim.after;
      spelt = spelt;
      named = named;
      gap_blank = front.blank;
      left_blank = trim.before_blank;
      right_blank = trim.after_blank;
      versioned = versioned;
    }

versioned-parts : (named versioned : Bool)
    → cond named (refusal_unless versioned BadVersion) (Some BadName) ≡ None
    → (named ≡ true) × (versioned ≡ true)
versioned-parts true versioned none = (refl, passes-from_none versioned BadVersion none)
versioned-parts false versioned none = absurd cc

spelled_source : (body : List ℕ) (has : Bool) → has_version body ≡ has
    → cond has (versioned_refusal body) (refusal_unless (is_package_name body) BadName) ≡ None
    → (m : SourceMeaning) × SpellsSource body m
spelled_source body true h none =
    let p =
    versioned-parts (is_package_name (name_before body) && is_closed (after_first is_open body))
    (is_version (version_within body)) none in
    let q =
    and_parts (is_package_name (name_before body)) (is_closed (after_first is_open body)) p.0 in
    let version = version_from_test (version_within body) p.1 in (
      source_of (name_before body) (Some version.0),
      spells_versioned body h q.0 q.1 version.0 version.1,
    )
spelled_source body false h none = (
  source_of body None,
  record {
    spelt = refl;
    named = passes-from_none (is_package_name body) BadName none;
  },
)

-- a body that spells a source has no refusal
blank_newline : (b : ℕ) → is_blank_byte b ≡ true → (b == newline) ≡ false
blank_newline b h = grind (arith, nat_tests)

blanks_newline : (blanks : List ℕ) → IsTrue (is_all_blank blanks) → HasNoNewline blanks
blanks_newline blanks h =
    each_from_list_all is_blank_byte (λ b. (b == newline) ≡ false) blank_newline blanks h

graphic_newlines : (text : List ℕ) → AllByRecursion IsGraphic text → HasNoNewline text
graphic_newlines text h =
    All-weaker IsGraphic (λ b. (b == newline) ≡ false) graphic_no_newline text h

versioned_newline : (body name : List ℕ) (v : VersionMeaning) → SpellsVersioned body name v
    → HasNoNewline body
versioned_newline body name v s =
    let P : ℕ → Type 0 = λ b. (b == newline) ≡ false in
    let closing : AllByRecursion P (41 ∷ []) = (refl, tt) in
    let inner =
    All-append P s.left _ (blanks_newline s.left s.left_blank)
    (All-append P s.text _ (graphic_newlines s.text (version_graphic s.text v s.versioned))
    (All-append P s.right (41 ∷ []) (blanks_newline s.right s.right_blank) closing)) in
    let opening : AllByRecursion P (40 ∷ (s.left ++ (s.text ++ (s.right ++ (41 ∷ []))))) =
    (refl, inner) in
    subst (AllByRecursion P) (sym s.spelt) (All-append P name _
    (graphic_newlines name (package_name_graphic name s.named))
    (All-append P s.gap _ (blanks_newline s.gap s.gap_blank) opening))

unrefused_source : (body name : List ℕ) (v : Option VersionMeaning)
    → SpellsSource body (source_of name v) → source_refusal body ≡ None
unrefused_source body name None s =
    line_refusal-from body _ (ap holds_newline s.spelt
    ∙ one_line-graphic name (package_name_graphic name s.named))
    (ap (λ t. cond t (versioned_refusal body) (refusal_unless (is_package_name body) BadName))
    (ap has_version s.spelt ∙ no_open_name name s.named)
    ∙ none-from_passes (is_package_name body) BadName (ap is_package_name s.spelt ∙ s.named))
unrefused_source body name (Some v) s =
    let named : (is_package_name (name_before body) && is_closed (after_first is_open body))
    ≡ true =
    and_from _ _ (ap is_package_name (versioned-name body name v s) ∙ s.named)
    (versioned-closed body name v s) in
    line_refusal-from body _ (HasNoNewline-test body (versioned_newline body name v s))
    (ap (λ t. cond t (versioned_refusal body) (refusal_unless (is_package_name body) BadName))
    (versioned-has body name v s)
    ∙ ap (λ t. cond t (refusal_unless (is_version (version_within body)) BadVersion) (Some BadName))
    named
    ∙ none-from_passes (is_version (version_within body)) BadVersion
    (ap is_version (versioned-within body name v s) ∙ test_from_version s.text v s.versioned))

pub source_refusals : RefusalLaw SourceMeaning SpellsSource source_refusal
source_refusals = record {
  spelled =
      λ body none. spelled_source body (has_version body) refl (line_refusal-parts body _ none).1;
  unrefused = λ body m s. unrefused_source body m.name m.version s;
}
