-- The order of the keys' bytes is Debian's order of the versions.
use Rattle.deb_version.proofs.Common.{◌≡◌, ◌≢◌, ℕ, ◌+◌, ◌<◌, ◌≤◌, true, false, cond, List, [], ◌∷◌, ◌++◌, map, length, inl, inr, refl, sym, ap, ◌∙◌, subst, arith, nat_lt, append_assoc, append-nil, length-map, cases_Bool, nat_tests, nat_cmp, ordering_then, MatchOrdering, ranks, nat_cmp_is, tied_itself, Ordering, Less, Equal, Greater, Meaning, Part, Components, meaning_of_components, component_cmp, end_rank, part_cmp, rank_of, text_cmp, version_cmp, HasTexts-from_spelled}
use Rattle.std.specs.FinMap.{nat_cmp-IsAntisymmetric, slice_cmp-IsAntisymmetric}
use Rattle.std.specs.Cmp.Lexicographic.{nat_list_cmp_total}
use Rattle.std.specs.Int.Digits.{digits_of as digits_in_base}
use Rattle.std.proofs.lemmas.Int.Digits.{length-digits_of_step}
use Rattle.deb_version.specs.Keys.{byte_order, key_end, byte_key, count_key, key_digits, number_key, part_key, component_key, version_key}
use Rattle.deb_version.specs.KeyLaws.{SortsAsItsVersion, KeysSortAsVersions, KeysSortAsVersionsSpelled, KeysMayBeFollowed, EqualVersionsHaveOneKey}
use Rattle.deb_version.specs.OrderLaws.{HasTexts}
use Rattle.deb_version.specs.OrderLemmas.{HaveTexts, IsComponent, component_of_text, has_texts}
use Rattle.deb_version.proofs.BaseOrder.{ordering_then_assoc, before-Equal, digits_cmp, counted}

-- Bytes that sort as the values do, whatever follows them.
abbrev SortsLike : {A : Type 0} → (A → A → Ordering) → (A → List ℕ) → A → A → Type 0
SortsLike cmp key a b = (x y : List ℕ) → byte_order (key a ++ x) (key b ++ y) ≡ ordering_then (cmp a b) (byte_order x y)

-- ---- counts and numbers

-- a count of 240 or more has bytes
has_bytes : (n : ℕ) → 240 ≤ n → 0 < length (digits_in_base 256 n)
has_bytes n large = omega (arith, length-digits_of_step 256 n (omega arith) (omega arith))

pub count_key-short : (n : ℕ) → nat_lt n 240 ≡ true → count_key n ≡ n ∷ []
count_key-short n e = ap (λ v. cond v (n ∷ []) ((239 + length (digits_in_base 256 n)) ∷ digits_in_base 256 n)) e

pub count_key-long : (n : ℕ) → nat_lt n 240 ≡ false → count_key n ≡ (239 + length (digits_in_base 256 n)) ∷ digits_in_base 256 n
count_key-long n e = ap (λ v. cond v (n ∷ []) ((239 + length (digits_in_base 256 n)) ∷ digits_in_base 256 n)) e

below_240 : (n : ℕ) → nat_lt n 240 ≡ true → n < 240
below_240 n e = grind (arith, nat_tests)

pub from_240 : (n : ℕ) → nat_lt n 240 ≡ false → 240 ≤ n
from_240 n e = grind (arith, nat_tests)

-- two numbers with one number added to both
nat_cmp-shift : (c m n : ℕ) → nat_cmp (c + m) (c + n) ≡ nat_cmp m n
nat_cmp-shift c m n = sym (nat_cmp_is _ _ (nat_cmp m n) (by_ranks (nat_cmp m n) (ranks m n)))
  where
    by_ranks : (r : Ordering) → MatchOrdering r (m < n) (m ≡ n) (n < m) → MatchOrdering r (c + m < c + n) (c + m ≡ c + n) (c + n < c + m)
    by_ranks Less h = omega arith
    by_ranks Equal h = omega arith
    by_ranks Greater h = omega arith

lower_first : (a b m n : ℕ) (p q : Ordering) → a < b → m < n → ordering_then (nat_cmp a b) p ≡ ordering_then (nat_cmp m n) q
lower_first a b m n p q h k = ap (λ o. ordering_then o p) (sym (nat_cmp_is a b Less h)) ∙ ap (λ o. ordering_then o q) (nat_cmp_is m n Less k)

higher_first : (a b m n : ℕ) (p q : Ordering) → b < a → n < m → ordering_then (nat_cmp a b) p ≡ ordering_then (nat_cmp m n) q
higher_first a b m n p q h k = ap (λ o. ordering_then o p) (sym (nat_cmp_is a b Greater h)) ∙ ap (λ o. ordering_then o q) (nat_cmp_is m n Greater k)

count_sorts : (m n : ℕ) → SortsLike nat_cmp count_key m n
count_sorts m n x y =
    elim (cases_Bool (nat_lt m 240)) [
      | inl short_m ↦ elim (cases_Bool (nat_lt n 240)) [
        | inl short_n ↦ both (count_key-short m short_m) (count_key-short n short_n) refl
        | inr long_n ↦
            let low = below_240 m short_m in
            let high = from_240 n long_n in
            both (count_key-short m short_m) (count_key-long n long_n)
            (lower_first m (239 + length (digits_in_base 256 n)) m n (byte_order x (digits_in_base 256 n ++ y)) (byte_order x y) (omega (arith, low, has_bytes n high)) (omega (arith, low, high)))
      ]
      | inr long_m ↦ elim (cases_Bool (nat_lt n 240)) [
        | inl short_n ↦
            let low = below_240 n short_n in
            let high = from_240 m long_m in
            both (count_key-long m long_m) (count_key-short n short_n)
            (higher_first (239 + length (digits_in_base 256 m)) n m n (byte_order (digits_in_base 256 m ++ x) y) (byte_order x y) (omega (arith, low, has_bytes m high)) (omega (arith, low, high)))
        | inr long_n ↦ both (count_key-long m long_m) (count_key-long n long_n)
            (ap (λ o. ordering_then o (byte_order (digits_in_base 256 m ++ x) (digits_in_base 256 n ++ y))) (nat_cmp-shift 239 (length (digits_in_base 256 m)) (length (digits_in_base 256 n)))
            ∙ counted (digits_in_base 256 m) (digits_in_base 256 n) x y
            ∙ ap (λ o. ordering_then o (byte_order x y)) (digits_cmp 256 m n (omega arith)))
      ]
    ]
  where
    both : {k l : List ℕ} → count_key m ≡ k → count_key n ≡ l → byte_order (k ++ x) (l ++ y) ≡ ordering_then (nat_cmp m n) (byte_order x y)
        → byte_order (count_key m ++ x) (count_key n ++ y) ≡ ordering_then (nat_cmp m n) (byte_order x y)
    both {k = k} p q e = ap (λ l. byte_order (l ++ x) (count_key n ++ y)) p ∙ ap (λ l. byte_order (k ++ x) (l ++ y)) q ∙ e

-- a list with its length before it
counted_sorts : (ds es x y : List ℕ)
    → byte_order ((count_key (length ds) ++ ds) ++ x) ((count_key (length es) ++ es) ++ y)
    ≡ ordering_then (ordering_then (nat_cmp (length ds) (length es)) (byte_order ds es)) (byte_order x y)
counted_sorts ds es x y =
    ap (λ l. byte_order l ((count_key (length es) ++ es) ++ y)) (append_assoc (count_key (length ds)) ds x)
    ∙ ap (byte_order (count_key (length ds) ++ (ds ++ x))) (append_assoc (count_key (length es)) es y)
    ∙ count_sorts (length ds) (length es) (ds ++ x) (es ++ y)
    ∙ counted ds es x y

-- codes of digits sort as the digits
codes_sort : (ds es : List ℕ) → byte_order (map (λ d. 48 + d) ds) (map (λ d. 48 + d) es) ≡ byte_order ds es
codes_sort [] [] = refl
codes_sort [] (e ∷ es) = refl
codes_sort (d ∷ ds) [] = refl
codes_sort (d ∷ ds) (e ∷ es) =
    ap (λ o. ordering_then o (byte_order (map (λ d. 48 + d) ds) (map (λ d. 48 + d) es))) (nat_cmp-shift 48 d e)
    ∙ ap (ordering_then (nat_cmp d e)) (codes_sort ds es)

digits_sort : (m n : ℕ) → ordering_then (nat_cmp (length (key_digits m)) (length (key_digits n))) (byte_order (key_digits m) (key_digits n)) ≡ nat_cmp m n
digits_sort m n =
    ap (λ k. ordering_then (nat_cmp k (length (key_digits n))) (byte_order (key_digits m) (key_digits n))) (length-map (digits_in_base 10 m) (λ d. 48 + d))
    ∙ ap (λ k. ordering_then (nat_cmp (length (digits_in_base 10 m)) k) (byte_order (key_digits m) (key_digits n))) (length-map (digits_in_base 10 n) (λ d. 48 + d))
    ∙ ap (ordering_then (nat_cmp (length (digits_in_base 10 m)) (length (digits_in_base 10 n)))) (codes_sort (digits_in_base 10 m) (digits_in_base 10 n))
    ∙ digits_cmp 10 m n (omega arith)

number_sorts : (m n : ℕ) → SortsLike nat_cmp number_key m n
number_sorts m n x y = counted_sorts (key_digits m) (key_digits n) x y ∙ ap (λ o. ordering_then o (byte_order x y)) (digits_sort m n)

-- ---- texts

byte_less : (a b : ℕ) → rank_of a < rank_of b → byte_key a < byte_key b
byte_less a b lower = grind (arith, nat_tests)

byte_same : (a b : ℕ) → rank_of a ≡ rank_of b → byte_key a ≡ byte_key b
byte_same a b same = grind (arith, nat_tests)

byte_sorts : (a b : ℕ) → nat_cmp (byte_key a) (byte_key b) ≡ nat_cmp (rank_of a) (rank_of b)
byte_sorts a b = sym (nat_cmp_is _ _ (nat_cmp (rank_of a) (rank_of b)) (by_ranks (nat_cmp (rank_of a) (rank_of b)) (ranks (rank_of a) (rank_of b))))
  where
    by_ranks : (r : Ordering) → MatchOrdering r (rank_of a < rank_of b) (rank_of a ≡ rank_of b) (rank_of b < rank_of a)
        → MatchOrdering r (byte_key a < byte_key b) (byte_key a ≡ byte_key b) (byte_key b < byte_key a)
    by_ranks Less h = byte_less a b h
    by_ranks Equal h = byte_same a b h
    by_ranks Greater h = byte_less b a h

-- the end sorts among the bytes as among their ranks, and as none of them
end_less : (b : ℕ) → end_rank < rank_of b → key_end < byte_key b
end_less b lower = grind (arith, nat_tests)

less_end : (b : ℕ) → rank_of b < end_rank → byte_key b < key_end
less_end b lower = grind (arith, nat_tests)

no_end : (b : ℕ) → end_rank ≢ rank_of b
no_end b same = grind (arith, nat_tests)

end_unequal : (b : ℕ) → nat_cmp end_rank (rank_of b) ≢ Equal
end_unequal b same = no_end b (nat_cmp-IsAntisymmetric end_rank (rank_of b) same)

unequal_end : (b : ℕ) → nat_cmp (rank_of b) end_rank ≢ Equal
unequal_end b same = no_end b (sym (nat_cmp-IsAntisymmetric (rank_of b) end_rank same))

end_sorts : (b : ℕ) → nat_cmp key_end (byte_key b) ≡ nat_cmp end_rank (rank_of b)
end_sorts b = sym (nat_cmp_is _ _ (nat_cmp end_rank (rank_of b)) (by_ranks (nat_cmp end_rank (rank_of b)) (ranks end_rank (rank_of b))))
  where
    by_ranks : (r : Ordering) → MatchOrdering r (end_rank < rank_of b) (end_rank ≡ rank_of b) (rank_of b < end_rank)
        → MatchOrdering r (key_end < byte_key b) (key_end ≡ byte_key b) (byte_key b < key_end)
    by_ranks Less h = end_less b h
    by_ranks Equal h = absurd (no_end b h)
    by_ranks Greater h = less_end b h

sorts_end : (b : ℕ) → nat_cmp (byte_key b) key_end ≡ nat_cmp (rank_of b) end_rank
sorts_end b = sym (nat_cmp_is _ _ (nat_cmp (rank_of b) end_rank) (by_ranks (nat_cmp (rank_of b) end_rank) (ranks (rank_of b) end_rank)))
  where
    by_ranks : (r : Ordering) → MatchOrdering r (rank_of b < end_rank) (rank_of b ≡ end_rank) (end_rank < rank_of b)
        → MatchOrdering r (byte_key b < key_end) (byte_key b ≡ key_end) (key_end < byte_key b)
    by_ranks Less h = less_end b h
    by_ranks Equal h = absurd (no_end b (sym h))
    by_ranks Greater h = end_less b h

-- what is unequal decides, whatever follows it
decides : (r p q s : Ordering) → r ≢ Equal → ordering_then r p ≡ ordering_then (ordering_then r q) s
decides Less p q s unequal = refl
decides Equal p q s unequal = absurd (unequal refl)
decides Greater p q s unequal = refl

decides_part : (r p q s t u : Ordering) → r ≢ Equal → ordering_then r p ≡ ordering_then (ordering_then (ordering_then (ordering_then r q) s) t) u
decides_part Less p q s t u unequal = refl
decides_part Equal p q s t u unequal = absurd (unequal refl)
decides_part Greater p q s t u unequal = refl

text_sorts : (s t x y : List ℕ) → byte_order (map byte_key s ++ key_end ∷ x) (map byte_key t ++ key_end ∷ y) ≡ ordering_then (text_cmp s t) (byte_order x y)
text_sorts [] [] x y = refl
text_sorts [] (c ∷ t) x y =
    ap (λ o. ordering_then o (byte_order x (map byte_key t ++ key_end ∷ y))) (end_sorts c)
    ∙ decides (nat_cmp end_rank (rank_of c)) _ (text_cmp [] t) (byte_order x y) (end_unequal c)
text_sorts (b ∷ s) [] x y =
    ap (λ o. ordering_then o (byte_order (map byte_key s ++ key_end ∷ x) y)) (sorts_end b)
    ∙ decides (nat_cmp (rank_of b) end_rank) _ (text_cmp s []) (byte_order x y) (unequal_end b)
text_sorts (b ∷ s) (c ∷ t) x y =
    ap (λ o. ordering_then o (byte_order (map byte_key s ++ key_end ∷ x) (map byte_key t ++ key_end ∷ y))) (byte_sorts b c)
    ∙ ap (ordering_then (nat_cmp (rank_of b) (rank_of c))) (text_sorts s t x y)
    ∙ sym (ordering_then_assoc (nat_cmp (rank_of b) (rank_of c)) (text_cmp s t) (byte_order x y))

-- ---- parts and components

part_sorts : (p q : Part) → SortsLike part_cmp part_key p q
part_sorts p q x y =
    ap (λ l. byte_order l (part_key q ++ y)) (append_assoc (map byte_key p.0) (key_end ∷ number_key p.1) x)
    ∙ ap (byte_order (map byte_key p.0 ++ key_end ∷ (number_key p.1 ++ x))) (append_assoc (map byte_key q.0) (key_end ∷ number_key q.1) y)
    ∙ text_sorts p.0 q.0 (number_key p.1 ++ x) (number_key q.1 ++ y)
    ∙ ap (ordering_then (text_cmp p.0 q.0)) (number_sorts p.1 q.1 x y)
    ∙ sym (ordering_then_assoc (text_cmp p.0 q.0) (nat_cmp p.1 q.1) (byte_order x y))

-- one part before two lists
more_sorts : (p q : Part) (ps qs : List Part) → SortsLike component_cmp component_key ps qs → SortsLike component_cmp component_key (p ∷ ps) (q ∷ qs)
more_sorts p q ps qs rest x y =
    ap (λ l. byte_order l (component_key (q ∷ qs) ++ y)) (append_assoc (part_key p) (component_key ps) x)
    ∙ ap (byte_order (part_key p ++ (component_key ps ++ x))) (append_assoc (part_key q) (component_key qs) y)
    ∙ part_sorts p q (component_key ps ++ x) (component_key qs ++ y)
    ∙ ap (ordering_then (part_cmp p q)) (rest x y)
    ∙ sym (ordering_then_assoc (part_cmp p q) (component_cmp ps qs) (byte_order x y))

-- A list that ends sorts before one that goes on, unless that goes on with a tilde: a part after
-- the first has a text, so that it isn't the empty part that continues the shorter list.
end_before_part : (text : List ℕ) (n : ℕ) (qs : List Part) (x y : List ℕ) → text ≢ []
    → byte_order (component_key [] ++ x) (component_key ((text, n) ∷ qs) ++ y) ≡ ordering_then (component_cmp [] ((text, n) ∷ qs)) (byte_order x y)
end_before_part [] n qs x y some = absurd (some refl)
end_before_part (c ∷ text) n qs x y some =
    ap (λ o. ordering_then o (byte_order x (((map byte_key text ++ key_end ∷ number_key n) ++ component_key qs) ++ y))) (end_sorts c)
    ∙ decides_part (nat_cmp end_rank (rank_of c)) _ (text_cmp [] text) (nat_cmp 0 n) (component_cmp [] qs) (byte_order x y) (end_unequal c)

part_before_end : (text : List ℕ) (n : ℕ) (ps : List Part) (x y : List ℕ) → text ≢ []
    → byte_order (component_key ((text, n) ∷ ps) ++ x) (component_key [] ++ y) ≡ ordering_then (component_cmp ((text, n) ∷ ps) []) (byte_order x y)
part_before_end [] n ps x y some = absurd (some refl)
part_before_end (c ∷ text) n ps x y some =
    ap (λ o. ordering_then o (byte_order (((map byte_key text ++ key_end ∷ number_key n) ++ component_key ps) ++ x) y)) (sorts_end c)
    ∙ decides_part (nat_cmp (rank_of c) end_rank) _ (text_cmp text []) (nat_cmp n 0) (component_cmp ps []) (byte_order x y) (unequal_end c)

rest_sorts : (ps qs : List Part) → HaveTexts ps → HaveTexts qs → SortsLike component_cmp component_key ps qs
rest_sorts [] [] t u x y = refl
rest_sorts [] (q ∷ qs) t u x y = end_before_part q.0 q.1 qs x y u.0
rest_sorts (p ∷ ps) [] t u x y = part_before_end p.0 p.1 ps x y t.0
rest_sorts (p ∷ ps) (q ∷ qs) t u x y = more_sorts p q ps qs (rest_sorts ps qs t.1 u.1) x y

component_sorts : (ps qs : List Part) → IsComponent ps → IsComponent qs → SortsLike component_cmp component_key ps qs
component_sorts ps qs p q =
    subst (λ l. SortsLike component_cmp component_key l qs) (sym p.3)
    (subst (λ l. SortsLike component_cmp component_key (p.0 ∷ p.1) l) (sym q.3) (more_sorts p.0 q.0 p.1 q.1 (rest_sorts p.1 q.1 p.2 q.2)))

-- ---- versions

version_sorts : (a b : Meaning) → HasTexts a → HasTexts b → SortsLike version_cmp version_key a b
version_sorts a b s t x y =
    ap (λ l. byte_order l (version_key b ++ y)) (regroup a x)
    ∙ ap (byte_order (1 ∷ (number_key a.epoch ++ (component_key a.upstream ++ (component_key a.revision ++ x))))) (regroup b y)
    ∙ number_sorts a.epoch b.epoch (component_key a.upstream ++ (component_key a.revision ++ x)) (component_key b.upstream ++ (component_key b.revision ++ y))
    ∙ ap (ordering_then (nat_cmp a.epoch b.epoch))
    (component_sorts a.upstream b.upstream (component_of_text _ _ s.upstream.1) (component_of_text _ _ t.upstream.1) (component_key a.revision ++ x) (component_key b.revision ++ y)
    ∙ ap (ordering_then (component_cmp a.upstream b.upstream)) (component_sorts a.revision b.revision (component_of_text _ _ s.revision.1) (component_of_text _ _ t.revision.1) x y)
    ∙ sym (ordering_then_assoc (component_cmp a.upstream b.upstream) (component_cmp a.revision b.revision) (byte_order x y)))
    ∙ sym (ordering_then_assoc (nat_cmp a.epoch b.epoch) (ordering_then (component_cmp a.upstream b.upstream) (component_cmp a.revision b.revision)) (byte_order x y))
  where
    regroup : (m : Meaning) (z : List ℕ) → version_key m ++ z ≡ 1 ∷ (number_key m.epoch ++ (component_key m.upstream ++ (component_key m.revision ++ z)))
    regroup m z =
        ap (λ l. 1 ∷ l) (append_assoc (number_key m.epoch) (component_key m.upstream ++ component_key m.revision) z
        ∙ ap (λ l. number_key m.epoch ++ l) (append_assoc (component_key m.upstream) (component_key m.revision) z))

-- The order of keys is the order of versions.
pub keys_sort : KeysSortAsVersions
keys_sort a b s t =
    ap (λ l. byte_order l (version_key b)) (sym (append-nil (version_key a)))
    ∙ ap (byte_order (version_key a ++ [])) (sym (append-nil (version_key b)))
    ∙ version_sorts a b s t [] [] ∙ before-Equal (version_cmp a b)

pub keys_sort_spelled : KeysSortAsVersionsSpelled
keys_sort_spelled s t a b p q = keys_sort a b (HasTexts-from_spelled s a p) (HasTexts-from_spelled t b q)

pub sorts_as_its_version : (c : Components) → SortsAsItsVersion (meaning_of_components c)
sorts_as_its_version c t b q = keys_sort (meaning_of_components c) b (has_texts c) (HasTexts-from_spelled t b q)

pub keys_followed : KeysMayBeFollowed
keys_followed s t a b p q = version_sorts a b (HasTexts-from_spelled s a p) (HasTexts-from_spelled t b q)

pub equal_keys : EqualVersionsHaveOneKey
equal_keys s t a b p q =
    let order = keys_sort_spelled s t a b p q in (
      λ same. sym order ∙ ap (byte_order (version_key a)) (sym same) ∙ tied_itself nat_list_cmp_total (version_key a),
      λ equal. slice_cmp-IsAntisymmetric nat_cmp-IsAntisymmetric (version_key a) (version_key b) (order ∙ equal),
    )
