-- The paragraphs that are selected: of files that mean the same, by conditions that are negated or joined, and again.
use Rattle.std.proofs.Common.{◌≡◌, ◌+◌, ◌&&◌, Bool, true, false, not, cond, List, [], ◌∷◌, ◌++◌, length, refl, ap, ◌∙◌, arith}
use Rattle.std.specs.List.{filter, list_all}
use Rattle.deb_field.specs.ValueLaws.{value_law}
use Rattle.deb_field.specs.Values.{SpellsValue, ValueMeaning, value_text}
use Rattle.deb_control.specs.Documents.{canonical_text, rules_of}
use Rattle.deb_control.specs.ValueFiles.{ValueEntries}
use Rattle.deb_control.proofs.Accepting.{accepted_means_one_thing, canonical_text_is_accepted, canonical_text_tells_accepted}
use Rattle.deb_select.specs.Conditions.{holds, selects}
use Rattle.deb_select.specs.Laws.{CanonicalTextSelectsTheSame, JoinedConditionsIntersect, NegationPartitions, SameFilesSelectTheSame, SelectedAreSelected, plain, selected_numbers}

pub same_files_select_the_same : SameFilesSelectTheSame
same_files_select_the_same kind selection first second meaning other accepted also same =
    ap (selected_numbers selection) ((canonical_text_tells_accepted ValueMeaning (SpellsValue kind) value_text (value_law kind) (rules_of kind) first second meaning other accepted also).0 same)

pub canonical_text_selects_the_same : CanonicalTextSelectsTheSame
canonical_text_selects_the_same kind selection text meaning other accepted again =
    ap (selected_numbers selection)
    (accepted_means_one_thing ValueMeaning (SpellsValue kind) value_text (value_law kind) (rules_of kind) (canonical_text meaning) other meaning again
    (canonical_text_is_accepted ValueMeaning (SpellsValue kind) value_text (value_law kind) (rules_of kind) text meaning accepted))

module _ {X : Type 0} (p : X → Bool) where
  either-way : (xs : List X) → length (filter p xs) + length (filter (λ x. not (p x)) xs) ≡ length xs
  either-way [] = refl
  either-way (x ∷ xs) = go (p x) (either-way xs)
    where
      go : (t : Bool) → length (filter p xs) + length (filter (λ x. not (p x)) xs) ≡ length xs → length (cond t (x ∷ filter p xs) (filter p xs)) + length (cond (not t) (x ∷ filter (λ x. not (p x)) xs) (filter (λ x. not (p x)) xs)) ≡ length (x ∷ xs)
      go true rest = omega (arith, rest)
      go false rest = omega (arith, rest)

  filter-again : (xs : List X) → filter p (filter p xs) ≡ filter p xs
  filter-again [] = refl
  filter-again (x ∷ xs) = go (p x) refl (filter-again xs)
    where
      go : (t : Bool) → p x ≡ t → filter p (filter p xs) ≡ filter p xs → filter p (cond t (x ∷ filter p xs) (filter p xs)) ≡ cond t (x ∷ filter p xs) (filter p xs)
      go true is rest = ap (λ t. cond t (x ∷ filter p (filter p xs)) (filter p (filter p xs))) is ∙ ap (λ l. x ∷ l) rest
      go false is rest = rest

filter-both : {X : Type 0} (p q both : X → Bool) → ((x : X) → both x ≡ (p x && q x)) → (xs : List X) → filter both xs ≡ filter q (filter p xs)
filter-both p q both is [] = refl
filter-both p q both is (x ∷ xs) = ap (λ t. cond t (x ∷ filter both xs) (filter both xs)) (is x) ∙ go (p x) (filter-both p q both is xs)
  where
    go : (t : Bool) → filter both xs ≡ filter q (filter p xs) → cond (t && q x) (x ∷ filter both xs) (filter both xs) ≡ filter q (cond t (x ∷ filter p xs) (filter p xs))
    go true rest = ap (λ l. cond (q x) (x ∷ l) l) rest
    go false rest = rest

and-joined : (a b c : Bool) → (a && (b && c)) ≡ ((a && b) && c)
and-joined true b c = refl
and-joined false b c = refl

all-joined : {X : Type 0} (p : X → Bool) (xs ys : List X) → list_all p (xs ++ ys) ≡ (list_all p xs && list_all p ys)
all-joined p [] ys = refl
all-joined p (x ∷ xs) ys = ap (λ t. p x && t) (all-joined p xs ys) ∙ and-joined (p x) (list_all p xs) (list_all p ys)

pub negation_partitions : NegationPartitions
negation_partitions conditions = record { each = λ values. refl; counted = λ meaning. either-way (selects (plain conditions)) meaning }

pub joined_conditions_intersect : JoinedConditionsIntersect
joined_conditions_intersect first second =
    let each = λ (values : ValueEntries ValueMeaning). all-joined (λ condition. holds condition values) first second in
    record { each = each; all = filter-both (selects (plain first)) (selects (plain second)) (selects (plain (first ++ second))) each }

pub selected_are_selected : SelectedAreSelected
selected_are_selected selection meaning = filter-again (selects selection) meaning
