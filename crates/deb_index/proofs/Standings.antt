-- In their order, offers before those that meet a bound come first, and those behind them last.
use Rattle.std.proofs.Common.{◌≡◌, ℕ, ◌+◌, ◌-◌, ◌<◌, ◌≤◌, Bool, true, false, List, drop, get_or, length, length-drop, Option, None, Some, refl, sym, ap, ◌∙◌, subst, arith}
use Rattle.std.specs.Cmp.{IsStrictWeakOrder, IsTotalOrder, alike_right, on_total}
use Rattle.std.specs.Cmp.Lexicographic.{options_total}
use Rattle.std.specs.List.Sorted.{IsPartitionedBy, IsSortedBy}
use Rattle.std.specs.Option.{option_cmp}
use Rattle.std.specs.Ordering.{is_gt, is_le, is_lt, ordering_reverse}
use Rattle.std.specs.declared.cmp.Ordering.{Ordering}
use Rattle.std.specs.declared.cmp.Ordering.TheVariants.{Less, Equal as Same, Greater}
use Rattle.std.proofs.lemmas.Bool.{false≢true}
use Rattle.std.proofs.lemmas.List.{get_or-drop}
use Rattle.std.proofs.lemmas.List.Sorted.{ranks_by, sorted_far}
use Rattle.deb_version.specs.Order.{version_cmp}
use Rattle.deb_version.specs.OrderLemmas.{version_total}
use Rattle.deb_version.specs.Parts.{Meaning as Version}
use Rattle.deb_relation.specs.declared.operator.Op.{Op}
use Rattle.deb_relation.specs.declared.operator.Op.TheVariants.{Earlier, EarlierEqual, Equal, LaterEqual, Later}
use Rattle.deb_index.specs.Crowds.{comes_first}
use Rattle.deb_index.specs.Offers.{offer_cmp, offered, side, standing, standing_of}
use Rattle.deb_index.specs.declared.store.Store.{Store}

-- the order of offers is total
pub offers_total : (store : Store) → IsTotalOrder (offer_cmp store)
offers_total store = on_total (offered store) (options_total version_total)

pub comes_first_is_weak : (store : Store) → IsStrictWeakOrder (comes_first store)
comes_first_is_weak store = ranks_by (offers_total store) (λ o. o)

-- `Less` up to `Greater`
abbrev upto : Ordering → Ordering → Bool
upto Less b = true
upto Same Less = false
upto Same Same = true
upto Same Greater = true
upto Greater Less = false
upto Greater Same = false
upto Greater Greater = true

upto-greater : (a : Ordering) → upto a Greater ≡ true
upto-greater Less = refl
upto-greater Same = refl
upto-greater Greater = refl

upto-itself : (a : Ordering) → upto a a ≡ true
upto-itself Less = refl
upto-itself Same = refl
upto-itself Greater = refl

upto-lt : (a b : Ordering) → upto a b ≡ true → is_lt b ≡ true → is_lt a ≡ true
upto-lt Less b up e = refl
upto-lt a Same up e = absurd (false≢true e)
upto-lt a Greater up e = absurd (false≢true e)
upto-lt Same Less up e = absurd (false≢true up)
upto-lt Greater Less up e = absurd (false≢true up)

upto-le : (a b : Ordering) → upto a b ≡ true → is_le b ≡ true → is_le a ≡ true
upto-le Less b up e = refl
upto-le Same b up e = refl
upto-le Greater Less up e = absurd (false≢true up)
upto-le Greater Same up e = absurd (false≢true up)
upto-le Greater Greater up e = e

-- a bound keeps the order
side-low : (op : Op) → upto (side op Less) (side op Same) ≡ true
side-low Earlier = refl
side-low EarlierEqual = refl
side-low Equal = refl
side-low LaterEqual = refl
side-low Later = refl

side-high : (op : Op) → upto (side op Same) (side op Greater) ≡ true
side-high Earlier = refl
side-high EarlierEqual = refl
side-high Equal = refl
side-high LaterEqual = refl
side-high Later = refl

side-far : (op : Op) → upto (side op Less) (side op Greater) ≡ true
side-far Earlier = refl
side-far EarlierEqual = refl
side-far Equal = refl
side-far LaterEqual = refl
side-far Later = refl

side-keeps : (op : Op) (a b : Ordering) → upto a b ≡ true → upto (side op a) (side op b) ≡ true
side-keeps op Less Less up = upto-itself (side op Less)
side-keeps op Less Same up = side-low op
side-keeps op Less Greater up = side-far op
side-keeps op Same Less up = absurd (false≢true up)
side-keeps op Same Same up = upto-itself (side op Same)
side-keeps op Same Greater up = side-high op
side-keeps op Greater Less up = absurd (false≢true up)
side-keeps op Greater Same up = absurd (false≢true up)
side-keeps op Greater Greater up = upto-itself (side op Greater)

-- a total order, seen from a third one
module _ {K : Type 0} {R : K → K → Ordering} (total : IsTotalOrder R) where
  seen_from : (x y z : K) → is_gt (R x y) ≡ false → upto (R x z) (R y z) ≡ true
  seen_from x y z first = go (R x y) refl (R y z) refl
    where
      go : (r : Ordering) → R x y ≡ r → (s : Ordering) → R y z ≡ s → upto (R x z) (R y z) ≡ true
      go Less e Less f = ap (λ a. upto a (R y z)) (total.trans x y z e f)
      go Less e Same f = ap (λ a. upto a (R y z)) (sym (alike_right total y z x f) ∙ e)
      go Less e Greater f = ap (upto (R x z)) f ∙ upto-greater (R x z)
      go Same e s f = ap (λ a. upto a (R y z)) (total.congr x y z e) ∙ upto-itself (R y z)
      go Greater e s f = absurd (false≢true (sym first ∙ ap is_gt e))

module _ (store : Store) (bound : Op × Version) where
  version-keeps : (v w : Option Version) → is_gt (option_cmp version_cmp v w) ≡ false → upto (standing_of bound v) (standing_of bound w) ≡ true
  version-keeps None w first = refl
  version-keeps (Some v) None first = absurd (false≢true (sym first))
  version-keeps (Some v) (Some w) first = side-keeps bound.0 (version_cmp v bound.1) (version_cmp w bound.1) (seen_from version_total v w bound.1 first)

  not_after : (a b : ℕ) → is_lt (offer_cmp store b a) ≡ false → is_gt (offer_cmp store a b) ≡ false
  not_after a b e = ap is_gt ((offers_total store).antisymm a b) ∙ turned (offer_cmp store b a) e
    where
      turned : (o : Ordering) → is_lt o ≡ false → is_gt (ordering_reverse o) ≡ false
      turned Less e = absurd (false≢true (sym e))
      turned Same e = refl
      turned Greater e = refl

  module _ (offers : List ℕ) (sorted : IsSortedBy (comes_first store) offers) where
    in_order : (i j d : ℕ) → i ≤ j → j < length offers → upto (standing store bound (get_or offers i d)) (standing store bound (get_or offers j d)) ≡ true
    in_order i j d low high = version-keeps (offered store (get_or offers i d)) (offered store (get_or offers j d)) (not_after (get_or offers i d) (get_or offers j d) (sorted_far (comes_first store) (comes_first_is_weak store) offers sorted i j d low high))

    pub before_parted : IsPartitionedBy (λ o. is_lt (standing store bound o)) offers
    before_parted i j d low high = upto-lt (standing store bound (get_or offers i d)) (standing store bound (get_or offers j d)) (in_order i j d low high)

    pub upto_parted : (at : ℕ) → at ≤ length offers → IsPartitionedBy (λ o. is_le (standing store bound o)) (drop at offers)
    upto_parted at within i j d low high e =
        let long : length (drop at offers) ≡ length offers - at = length-drop at offers in
        subst (λ o. is_le (standing store bound o) ≡ true) (sym (get_or-drop at offers i d))
        (upto-le (standing store bound (get_or offers (at + i) d)) (standing store bound (get_or offers (at + j) d)) (in_order (at + i) (at + j) d (omega (arith, low)) (omega (arith, high, long, within)))
        (subst (λ o. is_le (standing store bound o) ≡ true) (get_or-drop at offers j d) e))
