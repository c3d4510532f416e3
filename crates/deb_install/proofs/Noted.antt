-- What is known of groups, as rows are appended and texts are noted.
use Rattle.std.proofs.Common.{◌≡◌, inl, inr, ℕ, cond, List, [], ◌∷◌, ◌++◌, length, append-nil, Option, Some, None, IfSome, refl, sym, ap, ◌∙◌, subst}
use Rattle.std.specs.Str.{bytes_eq}
use Rattle.std.proofs.lemmas.Bool.{cases_Bool}
use Rattle.std.proofs.lemmas.Slice.Eq.{bytes_eq-Decides}
use Rattle.std.specs.Map.{lookup}
use Rattle.std.specs.Option.{unwrap_or}
use Rattle.indexmap.specs.IndexMap.{get_by}
use Rattle.deb_relation.specs.Applying.{Environment}
use Rattle.deb_index.specs.CanonicalTexts.{OfGroup}
use Rattle.deb_index.specs.Indexes.{packages_of}
use Rattle.deb_index.specs.Listed.{Listed}
use Rattle.deb_install.specs.Building.{AppendsRows, AreNumbersOf, Grows}
use Rattle.deb_install.specs.Known.{AppendsKnown, AreKnown, HasNumber, IsEmpty, IsRowOf, Knows, Notes}
use Rattle.deb_install.specs.Rows.{group_rows}
use Rattle.deb_install.specs.declared.known.Known.{Known}
use Rattle.deb_install.specs.declared.needs.Needing.{Needing}
use Rattle.deb_install.specs.declared.readings.Readings.{Readings}
use Rattle.deb_install.proofs.Appended.{appends-then, numbers-grown}

pub number-had : {X : Type 0} (o found : Option X) → o ≡ found → IfSome o (λ x. found ≡ Some x)
number-had None found is = tt
number-had (Some x) found is = sym is

some-same : {X : Type 0} (x y : X) → Some x ≡ Some y → x ≡ y
some-same x y is = ap (λ o. unwrap_or o x) is

-- a text was noted, if the numbers of all texts are as before and its own
pub notes-by : (noted : List ℕ) (given : ℕ) (old new : Known) → ((text : List ℕ) → get_by (λ key. bytes_eq text key.items) new.numbers ≡ cond (bytes_eq noted text) (Some given) (get_by (λ key. bytes_eq text key.items) old.numbers)) → Notes noted given old new
notes-by noted given old new numbers = λ text number has.
    let number_of = get_by (λ key. bytes_eq text key.items) old.numbers in
    elim (cases_Bool (bytes_eq noted text)) [
      | inl same ↦
          inr (sym ((bytes_eq-Decides noted text).0 same), sym (some-same given number (sym (numbers text ∙ ap (λ b. cond b (Some given) number_of) same) ∙ has)))
      | inr apart ↦ inl (sym (ap (λ b. cond b (Some given) number_of) apart) ∙ sym (numbers text) ∙ has)
    ]

module _ (readings : Readings) (environment : Environment) (packages : List Listed) where
  pub known-none : (rows : List (List ℕ)) (known : Known) → IsEmpty known → AreKnown readings environment packages rows known
  known-none rows known none = λ text number has. absurd (nothing-had known text number none has)
    where
      nothing-had : (known : Known) (text : List ℕ) (number : ℕ) → IsEmpty known → HasNumber known text number → ⊥
      nothing-had known text number none has =
          let is : None ≡ Some number = sym (ap (lookup (λ key. bytes_eq text key.items)) none) ∙ has in
          absurd cc

  pub known-grown : (old new : List (List ℕ)) (known : Known) → Grows old new → AreKnown readings environment packages old known → AreKnown readings environment packages new known
  known-grown old new known grows are = λ text number has group regular is.
      numbers-grown old new (number ∷ []) (group_rows readings environment packages group) grows (are text number has group regular is)

  pub known-noted : (rows : List (List ℕ)) (noted : List ℕ) (given : ℕ) (old new : Known) → Notes noted given old new → OfGroup noted (IsRowOf readings environment packages rows given) → AreKnown readings environment packages rows old → AreKnown readings environment packages rows new
  known-noted rows noted given old new notes row are = λ text number has group regular is.
      elim (notes text number has) [
        | inl before ↦ are text number before group regular is
        | inr same ↦ subst (λ n. IsRowOf readings environment packages rows n group) (sym same.1) (row group regular (sym same.0 ∙ is))
      ]

-- the rows of which one number alone was appended
pub only-number : (old new : List (List ℕ)) (before after : List ℕ) (rows : List (List ℕ)) (number : ℕ) → ((first more : List ℕ) → after ≡ first ++ more → length first ≡ length before → more ≡ number ∷ []) → AppendsRows old new before after rows → AreNumbersOf new (number ∷ []) rows
only-number old new before after rows number only appends =
    subst (λ numbers. AreNumbersOf new numbers rows) (only before appends.numbers appends.appended refl) appends.are

module _ (needing : Needing) (environment : Environment) where
  pub knows-grown : (old new : List (List ℕ)) (known : Known) → Grows old new → Knows needing environment old known → Knows needing environment new known
  knows-grown old new known grows knows =
      record { is = knows.is; are = known-grown needing.readings environment (packages_of needing.index.now) old new known grows knows.are }

  pub appended-known : (old new : List (List ℕ)) (known : Known) (before after : List ℕ) (rows : List (List ℕ)) → Knows needing environment old known → AppendsRows old new before after rows → AppendsKnown needing environment old new known before after rows
  appended-known old new known before after rows knows appends =
      record { appends = appends; knows = knows-grown old new known appends.grows knows }

  pub known-then : (a b c : List (List ℕ)) (first second : Known) (x y z : List ℕ) (rows others : List (List ℕ)) → AppendsKnown needing environment a b first x y rows → AppendsKnown needing environment b c second y z others → AppendsKnown needing environment a c second x z (rows ++ others)
  known-then a b c first second x y z rows others one two =
      record { appends = appends-then a b c x y z rows others one.appends two.appends; knows = two.knows }

  -- none after others
  pub known-last : (a b : List (List ℕ)) (known : Known) (x y : List ℕ) (rows : List (List ℕ)) → AppendsKnown needing environment a b known x y rows → AppendsKnown needing environment a b known x y (rows ++ [])
  known-last a b known x y rows one =
      subst (AppendsKnown needing environment a b known x y) (sym (append-nil rows)) one
