-- How many go before one, among those that are sorted.
use Rattle.std.proofs.Common.{◌≡◌, ℕ, ◌+◌, ◌-◌, ◌≤◌, ◌<◌, ◌&&◌, Bool, true, false, cond, List, [], ◌∷◌, ◌++◌, map, length, take, Bor, codes, get_or, refl, sym, ap, ◌∙◌, arith, zero, suc}
use Rattle.std.specs.Cmp.{IsStrictWeakOrder, IsTotalOrder, back_total, on_total, then_total}
use Rattle.std.specs.List.{count_by, filter}
use Rattle.std.specs.List.Sorted.{IsPartitionPoint, IsPartitionedBy, IsPermutation, IsSortedBy}
use Rattle.std.specs.Cmp.Lexicographic.{options_total}
use Rattle.std.specs.Ordering.{is_eq, is_lt, ordering_then}
use Rattle.std.specs.declared.cmp.Ordering.{Ordering}
use Rattle.std.specs.declared.cmp.Ordering.TheVariants.{Less, Equal, Greater}
use Rattle.std.proofs.lemmas.Cmp.{nat_cmp_total, nat_list_cmp_total}
use Rattle.std.proofs.lemmas.List.Sorted.{ranks_by, sorted_far, sum_by-IsPermutation}
use Rattle.std.proofs.lemmas.List.{map-append, take_more}
use Rattle.std.proofs.lemmas.List.Sums.{length-filter, sum_by-cons}
use Rattle.deb_version.specs.OrderLemmas.{version_total}
use Rattle.std.specs.Fmt.{decimal}
use Rattle.std.proofs.lemmas.Bool.{false≢true}
use Rattle.deb_diff.specs.Kepts.{architecture_in, name_in}
use Rattle.deb_diff.specs.Places.{comes_first, place_among, placing_cmp, placing_in, placing_of_ranked}
use Rattle.deb_diff.specs.Pools.{pick}
use Rattle.deb_diff.specs.declared.kept.Kept.{Kept}
use Rattle.deb_diff.specs.Ranks.{Placing, goes_before, latest_first, rank, series_cmp}
use Rattle.deb_diff.specs.declared.ranks.Ranked.{Ranked}

-- the orders are total
series_total : IsTotalOrder series_cmp
series_total = then_total (on_total (λ p. p.name) nat_list_cmp_total) (on_total (λ p. p.architecture) nat_list_cmp_total)

latest_total : IsTotalOrder latest_first
latest_total = then_total (back_total (on_total (λ p. p.version) (options_total version_total))) (on_total (λ p. p.number) nat_cmp_total)

placing_total : IsTotalOrder placing_cmp
placing_total = then_total series_total latest_total

pub comes_first_is_weak : IsStrictWeakOrder comes_first
comes_first_is_weak = ranks_by placing_total placing_of_ranked

-- where a test holds of the first ones and of no other, it holds of so many
none_hold : {X : Type 0} (p : X → Bool) (xs : List X) → ((k : ℕ) (d : X) → k < length xs → p (get_or xs k d) ≡ false) → length (filter p xs) ≡ 0
none_hold p [] h = refl
none_hold p (x ∷ xs) h = rw (h 0 x (omega arith)) (none_hold p xs (λ k d below. h (suc k) d (omega (arith, below))))

first_hold : {X : Type 0} (p : X → Bool) (xs : List X) (i : ℕ) → i ≤ length xs → ((k : ℕ) (d : X) → k < i → p (get_or xs k d) ≡ true) → ((k : ℕ) (d : X) → i ≤ k → k < length xs → p (get_or xs k d) ≡ false) → length (filter p xs) ≡ i
first_hold p [] i most hold fails = omega (arith, most)
first_hold p (x ∷ xs) zero most hold fails = none_hold p (x ∷ xs) (λ k d below. fails k d (omega arith) below)
first_hold p (x ∷ xs) (suc i) most hold fails =
    rw (hold 0 x (omega arith)) (ap suc (first_hold p xs i (omega (arith, most)) (λ k d below. hold (suc k) d (omega (arith, below))) (λ k d least below. fails (suc k) d (omega (arith, least)) (omega (arith, below)))))

pub point_counts : {X : Type 0} (p : X → Bool) (xs : List X) (i : ℕ) → i ≤ length xs → IsPartitionPoint (λ y. p y ≡ true) (λ y. p y ≡ false) xs i → count_by p xs ≡ i
point_counts p xs i most point =
    sym (length-filter p xs) ∙ first_hold p xs i most (λ k d below. point.0 k d (omega arith) below) (λ k d least below. point.1 k d least below)

-- a test that holds of what comes before one, by an order that the sorting one decides
parted : {X K : Type 0} (R S : K → K → Ordering) → IsTotalOrder R → IsTotalOrder S → ((a b : K) → is_lt (S a b) ≡ true → is_lt (R a b) ≡ true) → (key : X → K) (one : K) (xs : List X) → IsSortedBy (λ a b. is_lt (R (key a) (key b))) xs → IsPartitionedBy (λ y. is_lt (S (key y) one)) xs
parted {X} {K} R S r s decides key one xs up i j d most below holds = go (is_lt (S (key (get_or xs i d)) one)) refl
  where
    not_less : (b : Bool) → is_lt (S (key (get_or xs j d)) (key (get_or xs i d))) ≡ b → b ≡ false
    not_less false is = refl
    not_less true is = sym (decides _ _ is) ∙ sorted_far (λ a b. is_lt (R (key a) (key b))) (ranks_by r key) xs up i j d most below

    go : (b : Bool) → is_lt (S (key (get_or xs i d)) one) ≡ b → is_lt (S (key (get_or xs i d)) one) ≡ true
    go true is = is
    go false is = absurd (false≢true (sym ((ranks_by s (λ k. k)).chain (key (get_or xs j d)) (key (get_or xs i d)) one (not_less _ refl) is) ∙ holds))

pub before_parted : (one : Placing) (xs : List Ranked) → IsSortedBy comes_first xs → IsPartitionedBy (λ y. is_lt (placing_cmp (placing_of_ranked y) one)) xs
before_parted one xs up = parted placing_cmp placing_cmp placing_total placing_total (λ a b is. is) placing_of_ranked one xs up

pub others_parted : (one : Placing) (xs : List Ranked) → IsSortedBy comes_first xs → IsPartitionedBy (λ y. is_lt (series_cmp (placing_of_ranked y) one)) xs
others_parted one xs up = parted placing_cmp series_cmp placing_total series_total (λ a b. decides (series_cmp a b) (latest_first a b)) placing_of_ranked one xs up
  where
    decides : (s l : Ordering) → is_lt s ≡ true → is_lt (ordering_then s l) ≡ true
    decides Less l is = refl
    decides Equal l is = cc is
    decides Greater l is = cc is

-- what comes before one is of another name or architecture, or goes before it
each_one : (s l : Ordering) → cond (is_lt (ordering_then s l)) 1 0 ≡ cond (is_lt s) 1 0 + cond (is_eq s && is_lt l) 1 0
each_one Less l = refl
each_one Equal l = omega arith
each_one Greater l = refl

counts_split : (one : Placing) (xs : List Ranked) → count_by (λ y. is_lt (placing_cmp (placing_of_ranked y) one)) xs ≡ count_by (λ y. is_lt (series_cmp (placing_of_ranked y) one)) xs + rank (map placing_of_ranked xs) one
counts_split one [] = refl
counts_split one (x ∷ xs) =
    let p = placing_of_ranked x in
    omega (arith, counts_split one xs, each_one (series_cmp p one) (latest_first p one), sum_by-cons (λ y. cond (is_lt (placing_cmp (placing_of_ranked y) one)) 1 0) x xs, sum_by-cons (λ y. cond (is_lt (series_cmp (placing_of_ranked y) one)) 1 0) x xs, sum_by-cons (λ a. cond (goes_before a one) 1 0) p (map placing_of_ranked xs))

pub rank_is : (one : Placing) (xs : List Ranked) (before others : ℕ) → before ≤ length xs → others ≤ length xs
    → IsPartitionPoint (λ y. is_lt (placing_cmp (placing_of_ranked y) one) ≡ true) (λ y. is_lt (placing_cmp (placing_of_ranked y) one) ≡ false) xs before
    → IsPartitionPoint (λ y. is_lt (series_cmp (placing_of_ranked y) one) ≡ true) (λ y. is_lt (series_cmp (placing_of_ranked y) one) ≡ false) xs others
    → before - others ≡ rank (map placing_of_ranked xs) one
rank_is one xs before others most most_others point point_others =
    omega (arith, point_counts (λ y. is_lt (placing_cmp (placing_of_ranked y) one)) xs before most point, point_counts (λ y. is_lt (series_cmp (placing_of_ranked y) one)) xs others most_others point_others, counts_split one xs)

-- places don't depend on the order of those that are left
pub places_permuted : (xs ys : List Placing) → IsPermutation xs ys → (kept : List (Bor Kept)) → map (λ k. place_among ys k.now) kept ≡ map (λ k. place_among xs k.now) kept
places_permuted xs ys moved [] = refl
places_permuted xs ys moved (k ∷ kept) =
    ap (λ n. (name_in k.now ++ codes " " ++ architecture_in k.now ++ codes " " ++ decimal n) ∷ map (λ k. place_among ys k.now) kept) (sum_by-IsPermutation (λ a. cond (goes_before a (placing_in k.now)) 1 0) xs ys moved)
    ∙ ap (λ l. place_among xs k.now ∷ l) (places_permuted xs ys moved kept)

-- those of some borrowed paragraphs that wait
pub lent_placings : (n : ℕ) (refs : List (Bor Kept)) (flags : List Bool) → map (λ k. placing_in k.now) (map (λ e. e.1) (pick n refs flags)) ≡ map placing_in (map (λ e. e.1) (pick n (map (λ k. k.now) refs) flags))
lent_placings n [] flags = refl
lent_placings n (r ∷ refs) [] = refl
lent_placings n (r ∷ refs) (true ∷ flags) = ap (λ l. placing_in r.now ∷ l) (lent_placings (n + 1) refs flags)
lent_placings n (r ∷ refs) (false ∷ flags) = lent_placings (n + 1) refs flags

-- the keys so far, with that of the next element
pub mapped-more : {X Y Z : Type 0} (f : Y → Z) (g : X → Z) (old new : List Y) (y : Y) (xs : List X) (i : ℕ) (x : X) → i < length xs → x ≡ get_or xs i x → new ≡ old ++ y ∷ [] → map f old ≡ map g (take i xs) → f y ≡ g x → map f new ≡ map g (take (i + 1) xs)
mapped-more f g old new y xs i x below at new_is before is =
    ap (map f) new_is ∙ map-append f old (y ∷ []) ∙ ap (λ l. l ++ f y ∷ []) before ∙ ap (λ z. map g (take i xs) ++ z ∷ []) (is ∙ ap g at)
    ∙ sym (map-append g (take i xs) (get_or xs i x ∷ [])) ∙ sym (ap (map g) (take_more xs i x below))
