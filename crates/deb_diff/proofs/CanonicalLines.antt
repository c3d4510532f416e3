-- With canonical versions the lines don't depend on how the files spell them.
use Rattle.std.proofs.Common.{◌≡◌, ℕ, ◌+◌, Bool, true, false, cond, is_some, List, [], ◌∷◌, ◌++◌, map, codes, Option, Some, None, refl, sym, ap, ◌∙◌}
use Rattle.std.specs.Fmt.{decimal}
use Rattle.std.specs.List.{concat, flat_map}
use Rattle.std.specs.Option.{option_map}
use Rattle.deb_base.specs.declared.version_text.VersionText.TheVariants.{Canonical}
use Rattle.deb_control.specs.Documents.{Meaning}
use Rattle.deb_diff.specs.Differences.{Changed, Difference, Fate, Removed, Upgraded, difference, difference_by_place, difference_of_others, fate_of, fates, place, placing_of}
use Rattle.deb_diff.specs.Items.{Item, item_of, items_from, items_of, release, whole}
use Rattle.deb_diff.specs.Lines.{added_text, diff_text, difference_text, fate_text, form_of}
use Rattle.deb_diff.specs.Pairing.{all_but, earliest, without, without_keys}
use Rattle.deb_diff.specs.Ranks.{Placing, rank}
use Rattle.deb_diff.specs.Spelled.{fields_after}
use Rattle.deb_diff.specs.declared.detail.Detail.{Detail}
use Rattle.deb_diff.specs.declared.kind.Kind.{Kind}
use Rattle.deb_diff.proofs.Picked.{all_but-map, earliest-map}

-- a paragraph without its spelling
abbrev bare : Item → Item
bare item = record item { spelled = [] }

abbrev bare_fate : Fate → Fate
bare_fate Removed = Removed
bare_fate (Changed other) = Changed (bare other)
bare_fate (Upgraded other) = Upgraded (bare other)

abbrev bare_pair : Item × Fate → Item × Fate
bare_pair fate = (bare fate.0, bare_fate fate.1)

map_map : {X Y Z : Type 0} (f : X → Y) (g : Y → Z) (xs : List X) → map g (map f xs) ≡ map (λ x. g (f x)) xs
map_map f g [] = refl
map_map f g (x ∷ xs) = ap (λ l. g (f x) ∷ l) (map_map f g xs)

-- paragraphs are paired by what else they have
without-bare : (key : Item → List ℕ) (xs ys : List Item) → without key (map bare xs) (map bare ys) ≡ map bare (without (λ x. key (bare x)) xs ys)
without-bare key xs [] = refl
without-bare key xs (y ∷ ys) =
    ap (λ l. without key l (map bare ys)) (all_but-map bare key (key (bare y)) xs) ∙ without-bare key (all_but (λ x. key (bare x)) (key (bare y)) xs) ys

without_keys-bare : (key : Item → List ℕ) (xs : List Item) (keys : List (List ℕ)) → without_keys key (map bare xs) keys ≡ map bare (without_keys (λ x. key (bare x)) xs keys)
without_keys-bare key xs [] = refl
without_keys-bare key xs (wanted ∷ keys) =
    ap (λ l. without_keys key l keys) (all_but-map bare key wanted xs) ∙ without_keys-bare key (all_but (λ x. key (bare x)) wanted xs) keys

-- a place by what decides on ranks
abbrev place_by : List Placing → Item → List ℕ
place_by all item = concat (item.name ∷ codes " " ∷ item.architecture ∷ codes " " ∷ decimal (rank all (placing_of item)) ∷ [])

place-bare : (items : List Item) → place (map bare items) ≡ place items
place-bare items = ap place_by (map_map bare placing_of items)

some-bare : (o : Option Item) → is_some (option_map bare o) ≡ is_some o
some-bare None = refl
some-bare (Some x) = refl

fate_of-bare : (same near : Option Item) → fate_of (option_map bare same) (option_map bare near) ≡ bare_fate (fate_of same near)
fate_of-bare (Some same) near = refl
fate_of-bare None (Some near) = refl
fate_of-bare None None = refl

cond-bare : (b : Bool) (xs ys : List Item) → cond b (map bare xs) (map bare ys) ≡ map bare (cond b xs ys)
cond-bare true xs ys = refl
cond-bare false xs ys = refl

fates-bare : (own new_place : Item → List ℕ) (old same near : List Item) → fates own new_place (map bare old) (map bare same) (map bare near) ≡ map bare_pair (fates (λ x. own (bare x)) (λ x. new_place (bare x)) old same near)
fates-bare own new_place [] same near = refl
fates-bare own new_place (x ∷ xs) same near =
    let partner = earliest release (release x) same in
    let closest = earliest (λ x. new_place (bare x)) (own (bare x)) near in
    let left = all_but release (release x) same in
    let rest = cond (is_some partner) near (all_but (λ x. new_place (bare x)) (own (bare x)) near) in
    let partner_is : earliest release (release x) (map bare same) ≡ option_map bare partner = earliest-map bare release (release x) same in
    let closest_is : earliest new_place (own (bare x)) (map bare near) ≡ option_map bare closest = earliest-map bare new_place (own (bare x)) near in
    let rest_is : cond (is_some (earliest release (release x) (map bare same))) (map bare near) (all_but new_place (own (bare x)) (map bare near)) ≡ map bare rest =
    ap (λ o. cond (is_some o) (map bare near) (all_but new_place (own (bare x)) (map bare near))) partner_is
    ∙ ap (λ b. cond b (map bare near) (all_but new_place (own (bare x)) (map bare near))) (some-bare partner)
    ∙ ap (cond (is_some partner) (map bare near)) (all_but-map bare new_place (own (bare x)) near)
    ∙ cond-bare (is_some partner) near (all_but (λ x. new_place (bare x)) (own (bare x)) near) in
    ap (λ o. (bare x, fate_of o (earliest new_place (own (bare x)) (map bare near))) ∷ fates own new_place (map bare xs) (all_but release (release x) (map bare same)) (cond (is_some (earliest release (release x) (map bare same))) (map bare near) (all_but new_place (own (bare x)) (map bare near)))) partner_is
    ∙ ap (λ o. (bare x, fate_of (option_map bare partner) o) ∷ fates own new_place (map bare xs) (all_but release (release x) (map bare same)) (cond (is_some (earliest release (release x) (map bare same))) (map bare near) (all_but new_place (own (bare x)) (map bare near)))) closest_is
    ∙ ap (λ f. (bare x, f) ∷ fates own new_place (map bare xs) (all_but release (release x) (map bare same)) (cond (is_some (earliest release (release x) (map bare same))) (map bare near) (all_but new_place (own (bare x)) (map bare near)))) (fate_of-bare partner closest)
    ∙ ap (λ l. bare_pair (x, fate_of partner closest) ∷ fates own new_place (map bare xs) l (cond (is_some (earliest release (release x) (map bare same))) (map bare near) (all_but new_place (own (bare x)) (map bare near)))) (all_but-map bare release (release x) same)
    ∙ ap (λ l. bare_pair (x, fate_of partner closest) ∷ fates own new_place (map bare xs) (map bare left) l) rest_is
    ∙ ap (λ l. bare_pair (x, fate_of partner closest) ∷ l) (fates-bare own new_place xs left rest)

abbrev bare_difference : Difference → Difference
bare_difference d = record { fates = map bare_pair d.fates; added = map bare d.added }

abbrev difference_with : List (Item × Fate) → List Item → Difference
difference_with fates added = record { fates = fates; added = added }

by_place-bare : (old new old_left new_left : List Item) → difference_by_place (map bare old) (map bare new) (map bare old_left) (map bare new_left) ≡ bare_difference (difference_by_place old new old_left new_left)
by_place-bare old new old_left new_left =
    ap (λ p. difference_with (fates p (place (map bare new_left)) (map bare old) (map bare new) (map bare new_left)) (without_keys (place (map bare new_left)) (map bare new_left) (map p (map bare old_left)))) (place-bare old_left)
    ∙ ap (λ p. difference_with (fates (place old_left) p (map bare old) (map bare new) (map bare new_left)) (without_keys p (map bare new_left) (map (place old_left) (map bare old_left)))) (place-bare new_left)
    ∙ ap (λ f. difference_with f (without_keys (place new_left) (map bare new_left) (map (place old_left) (map bare old_left)))) (fates-bare (place old_left) (place new_left) old new new_left)
    ∙ ap (λ keys. difference_with (map bare_pair (fates (place old_left) (place new_left) old new new_left)) (without_keys (place new_left) (map bare new_left) keys)) (map_map bare (place old_left) old_left)
    ∙ ap (difference_with (map bare_pair (fates (place old_left) (place new_left) old new new_left))) (without_keys-bare (place new_left) new_left (map (place old_left) old_left))

others-bare : (old new : List Item) → difference_of_others (map bare old) (map bare new) ≡ bare_difference (difference_of_others old new)
others-bare old new =
    ap (λ l. difference_by_place (map bare old) (map bare new) l (without release (map bare new) (map bare old))) (without-bare release old new)
    ∙ ap (difference_by_place (map bare old) (map bare new) (map bare (without release old new))) (without-bare release new old)
    ∙ by_place-bare old new (without release old new) (without release new old)

difference-bare : (old new : List Item) → difference (map bare old) (map bare new) ≡ bare_difference (difference old new)
difference-bare old new =
    ap (λ l. difference_of_others l (without whole (map bare new) (map bare old))) (without-bare whole old new)
    ∙ ap (difference_of_others (map bare (without whole old new))) (without-bare whole new old)
    ∙ others-bare (without whole old new) (without whole new old)

-- the lines
module _ (detail : Detail) where
  fate-bare : (fate : Item × Fate) → fate_text (form_of detail Canonical) (bare_pair fate) ≡ fate_text (form_of detail Canonical) fate
  fate-bare (old, Removed) = refl
  fate-bare (old, Changed new) = refl
  fate-bare (old, Upgraded new) = refl

  all_fates-bare : (fates : List (Item × Fate)) → flat_map (fate_text (form_of detail Canonical)) (map bare_pair fates) ≡ flat_map (fate_text (form_of detail Canonical)) fates
  all_fates-bare [] = refl
  all_fates-bare (fate ∷ fates) =
      ap (λ l. l ++ flat_map (fate_text (form_of detail Canonical)) (map bare_pair fates)) (fate-bare fate) ∙ ap (λ l. fate_text (form_of detail Canonical) fate ++ l) (all_fates-bare fates)

  all_added-bare : (items : List Item) → flat_map (added_text (form_of detail Canonical)) (map bare items) ≡ flat_map (added_text (form_of detail Canonical)) items
  all_added-bare [] = refl
  all_added-bare (item ∷ items) = ap (λ l. added_text (form_of detail Canonical) item ++ l) (all_added-bare items)

  text-bare : (old new : List Item) → difference_text (form_of detail Canonical) (difference (map bare old) (map bare new)) ≡ difference_text (form_of detail Canonical) (difference old new)
  text-bare old new =
      ap (difference_text (form_of detail Canonical)) (difference-bare old new)
      ∙ ap (λ l. l ++ flat_map (added_text (form_of detail Canonical)) (map bare (difference old new).added)) (all_fates-bare (difference old new).fates)
      ∙ ap (λ l. flat_map (fate_text (form_of detail Canonical)) (difference old new).fates ++ l) (all_added-bare (difference old new).added)

items-bare : (kind : Kind) (text other : List ℕ) (n : ℕ) (meaning : Meaning) → map bare (items_from kind text n meaning) ≡ map bare (items_from kind other n meaning)
items-bare kind text other n [] = refl
items-bare kind text other n (values ∷ more) = ap (λ l. bare (item_of kind (n + 1) (fields_after other n) values) ∷ l) (items-bare kind text other (n + 1) more)

pub canonical_lines : (kind : Kind) (detail : Detail) (a text b other : List ℕ) (old new : Meaning) → diff_text kind (form_of detail Canonical) a b old new ≡ diff_text kind (form_of detail Canonical) text other old new
canonical_lines kind detail a text b other old new =
    sym (text-bare detail (items_of kind a old) (items_of kind b new))
    ∙ ap (λ l. difference_text (form_of detail Canonical) (difference l (map bare (items_of kind b new)))) (items-bare kind a text 0 old)
    ∙ ap (λ l. difference_text (form_of detail Canonical) (difference (map bare (items_of kind text old)) l)) (items-bare kind b other 0 new)
    ∙ text-bare detail (items_of kind text old) (items_of kind other new)
