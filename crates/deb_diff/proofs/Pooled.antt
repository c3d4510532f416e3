-- The pool after an element was taken.
use Rattle.std.proofs.Common.{◌≡◌, ℕ, ◌<◌, false, cond, List, length, map, Option, Some, None, refl, sym, ap, ◌∙◌, arith, slice_set, is_some}
use Rattle.std.proofs.lemmas.List.{length-set}
use Rattle.std.specs.Option.{option_map}
use Rattle.std.specs.Str.{bytes_eq}
use Rattle.deb_diff.specs.Items.{Item}
use Rattle.deb_diff.specs.Pairing.{all_but, earliest}
use Rattle.deb_diff.specs.Pools.{IsPoolOf, Takes, left_in, numbers_of, pick}
use Rattle.deb_diff.specs.Waiting.{first_of, numbers_under, rest_of}
use Rattle.deb_diff.specs.declared.pool.Pool.{Pool}
use Rattle.deb_diff.proofs.Pairs.{all_but-none}
use Rattle.deb_diff.proofs.Picked.{all_but-map, earliest-map, numbers-first, numbers-rest, pick-map, pick-taken}

module _ (items : List Item) (key : Item → List ℕ) (wanted : List ℕ) (old new : Pool) (pool : IsPoolOf (map key items) old) where
  -- an element with its key
  abbrev keyed : ℕ × Item → ℕ × List ℕ
  keyed e = (e.0, key e.1)

  number_keyed : (o : Option (ℕ × Item)) → option_map (λ e. e.0) (option_map keyed o) ≡ option_map (λ e. e.0) o
  number_keyed None = refl
  number_keyed (Some e) = refl

  -- the first number under the key is that of the earliest that has it
  first_number : (number : Option ℕ) → number ≡ first_of (numbers_under old.waiting wanted) → number ≡ option_map (λ e. e.0) (earliest (λ e. key e.1) wanted (left_in items old))
  first_number number first =
      first ∙ ap first_of (pool.numbers wanted) ∙ numbers-first wanted (left_in (map key items) old)
      ∙ ap (λ l. option_map (λ e. e.0) (earliest (λ e. e.1) wanted l)) (pick-map key 0 items old.waits.items)
      ∙ ap (option_map (λ e. e.0)) (earliest-map keyed (λ e. e.1) wanted (left_in items old))
      ∙ number_keyed (earliest (λ e. key e.1) wanted (left_in items old))

  -- the numbers of those that are left
  rest_numbers : ((other : List ℕ) → numbers_under new.waiting other ≡ cond (bytes_eq wanted other) (rest_of (numbers_under old.waiting other)) (numbers_under old.waiting other))
      → length new.waits.items ≡ length old.waits.items → left_in items new ≡ all_but (λ e. key e.1) wanted (left_in items old) → IsPoolOf (map key items) new
  rest_numbers rest long left =
      let keys : left_in (map key items) new ≡ all_but (λ e. e.1) wanted (left_in (map key items) old) =
      pick-map key 0 items new.waits.items ∙ ap (map keyed) left ∙ sym (all_but-map keyed (λ e. e.1) wanted (left_in items old)) ∙ ap (all_but (λ e. e.1) wanted) (sym (pick-map key 0 items old.waits.items)) in
      record {
        length_is = long ∙ pool.length_is;
        numbers = λ other. rest other ∙ ap (λ l. cond (bytes_eq wanted other) (rest_of l) l) (pool.numbers other) ∙ sym (numbers-rest wanted other (left_in (map key items) old)) ∙ ap (numbers_of other) (sym keys);
      }

  none_mapped : (o : Option (ℕ × Item)) → None ≡ option_map (λ e. e.0) o → is_some o ≡ false
  none_mapped None e = refl
  none_mapped (Some x) e = cc e

  -- none has the key
  pub takes-none : None ≡ first_of (numbers_under old.waiting wanted)
      → ((other : List ℕ) → numbers_under new.waiting other ≡ cond (bytes_eq wanted other) (rest_of (numbers_under old.waiting other)) (numbers_under old.waiting other)) → new.waits.items ≡ old.waits.items → Takes items key wanted old None new
  takes-none first rest same =
      let found = first_number None first in
      let left : left_in items new ≡ all_but (λ e. key e.1) wanted (left_in items old) = ap (pick 0 items) same ∙ sym (all_but-none (λ e. key e.1) wanted (left_in items old) (none_mapped _ found)) in
      record { found = found; left = left; is_pool = rest_numbers rest (ap length same) left }

  some_mapped : (o : Option (ℕ × Item)) (number : ℕ) → Some number ≡ option_map (λ e. e.0) o → (e : ℕ × Item) × (o ≡ Some e) × (number ≡ e.0)
  some_mapped None number e = cc e
  some_mapped (Some x) number e = (x, refl, cc)

  -- the earliest that has it
  pub takes-some : (number : ℕ) → Some number ≡ first_of (numbers_under old.waiting wanted)
      → ((other : List ℕ) → numbers_under new.waiting other ≡ cond (bytes_eq wanted other) (rest_of (numbers_under old.waiting other)) (numbers_under old.waiting other)) → (number < length old.waits.items → new.waits.items ≡ slice_set old.waits.items number false) → Takes items key wanted old (Some number) new
  takes-some number first rest same =
      let found = first_number (Some number) first in
      let e = some_mapped (earliest (λ e. key e.1) wanted (left_in items old)) number found in
      let taken = pick-taken key 0 items old.waits.items wanted e.0 e.1 in
      let at : number ≡ taken.at = omega (arith, e.2, taken.number) in
      let flags : new.waits.items ≡ slice_set old.waits.items taken.at false = same (omega (arith, at, taken.below)) ∙ ap (λ i. slice_set old.waits.items i false) at in
      let left : left_in items new ≡ all_but (λ e. key e.1) wanted (left_in items old) = ap (pick 0 items) flags ∙ taken.left in
      record { found = found; left = left; is_pool = rest_numbers rest (ap length flags ∙ length-set old.waits.items taken.at false) left }
