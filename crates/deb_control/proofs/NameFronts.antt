-- The fronts of names as numbers: where two of them differ, the names are in the same order.
use Rattle.deb_control.proofs.Common.{◌≡◌, ℕ, zero, suc, ◌+◌, ◌<◌, ◌==◌, ◌^◌, Bool, true, false, List, [], ◌∷◌, get_or, Ordering, Less, Equal, Greater, refl, sym, ap, ◌∙◌, arith, nat_tests, cond, AllByRecursion, All-from_recursion, All-get_or, and_parts, is_lt, ordering_reverse, IsSortedBy, Field, has_name, not, is_name, name_is_ascii, inl, inr, ◌⊎◌, ◌-◌, ◌≤◌, length, take, drop, add-one, cases_lt, drop-cons, drop_all, take-append-drop, tied_itself, ◌++◌, subst, capitalised, byte_order, to_ascii_uppercase, to_ascii_lowercase, nat_list_cmp_total, IsKeyIn, comes_first, key_bytes, name_of, no_field}
use Rattle.std.proofs.Common.{◌*◌, ◌&&◌, pow-suc}
use Rattle.deb_base.specs.Bodies.{is_body}
use Rattle.std.proofs.Math.Nat.{pow-le-pow_right}
use Rattle.std.proofs.lemmas.Cmp.{nat_cmp_total, ranked}
use Rattle.std.proofs.lemmas.List.{get_or-take, get_or_past, length-take-le}
use Rattle.std.proofs.lemmas.Nat.{mul-add-lt}
use Rattle.std.specs.Ordering.{MatchOrdering, nat_cmp, ordering_then}
use Rattle.deb_syntax.specs.Fields.{are_fields, is_field}
use Rattle.deb_control.specs.Sorting.{front_number}
use Rattle.deb_control.specs.declared.canon_text.SortKey.{SortKey}

abbrev Bytes : List ℕ → Type 0
Bytes ys = AllByRecursion (λ b. b < 256) ys

front-below : (k : ℕ) (ys : List ℕ) → Bytes ys → front_number k ys < 256 ^ k
front-below zero ys are = omega arith
front-below (suc k) [] are = pow-le-pow_right {n = 256} (omega arith) {i = 0} {j = suc k} (omega arith)
front-below (suc k) (b ∷ ys) are = omega (arith, pow-suc 256 k, mul-add-lt b (256 ^ k) (front_number k ys) 256 are.0 (front-below k ys are.1))

less-from_fronts : (k : ℕ) (xs ys : List ℕ) → Bytes xs → Bytes ys → front_number k xs < front_number k ys → byte_order xs ys ≡ Less
less-from_fronts zero xs ys are other less = absurd (omega (arith, less))
less-from_fronts (suc k) xs [] are other less = absurd (omega (arith, less))
less-from_fronts (suc k) [] (b ∷ ys) are other less = refl
less-from_fronts (suc k) (a ∷ xs) (b ∷ ys) are other less = go (less-from_fronts k xs ys are.1 other.1) (nat_cmp a b) refl (ranked a b (nat_cmp a b) refl)
  where
    go : (front_number k xs < front_number k ys → byte_order xs ys ≡ Less) → (o : Ordering) → nat_cmp a b ≡ o → MatchOrdering o (a < b) (a ≡ b) (b < a) → ordering_then (nat_cmp a b) (byte_order xs ys) ≡ Less
    go rest Less e is = ap (λ o. ordering_then o (byte_order xs ys)) e
    go rest Equal e is = ap (λ o. ordering_then o (byte_order xs ys)) e ∙ rest (omega (arith, less, ap (λ c. c * 256 ^ k) is))
    go rest Greater e is = absurd (omega (arith, less, mul-add-lt b (256 ^ k) (front_number k ys) a is (front-below k ys other.1)))

-- the number before each text changes nothing
order-fronts : (k : ℕ) (xs ys : List ℕ) → Bytes xs → Bytes ys → byte_order (front_number k xs ∷ xs) (front_number k ys ∷ ys) ≡ byte_order xs ys
order-fronts k xs ys are other = go (nat_cmp (front_number k xs) (front_number k ys)) refl (ranked (front_number k xs) (front_number k ys) _ refl)
  where
    go : (o : Ordering) → nat_cmp (front_number k xs) (front_number k ys) ≡ o → MatchOrdering o (front_number k xs < front_number k ys) (front_number k xs ≡ front_number k ys) (front_number k ys < front_number k xs)
        → ordering_then (nat_cmp (front_number k xs) (front_number k ys)) (byte_order xs ys) ≡ byte_order xs ys
    go Less e is = ap (λ o. ordering_then o (byte_order xs ys)) e ∙ sym (less-from_fronts k xs ys are other is)
    go Equal e is = ap (λ o. ordering_then o (byte_order xs ys)) e
    go Greater e is =
        ap (λ o. ordering_then o (byte_order xs ys)) e
        ∙ sym (nat_list_cmp_total.antisymm xs ys ∙ ap ordering_reverse (less-from_fronts k ys xs other are is))

spelled-bytes : (begins : Bool) (ys : List ℕ) → AllByRecursion (λ b. b < 128) ys → Bytes (capitalised begins ys)
spelled-bytes begins [] are = tt
spelled-bytes begins (b ∷ ys) are = (go begins, spelled-bytes (b == 45) ys are.1)
  where
    go : (begins : Bool) → cond begins (to_ascii_uppercase b) (to_ascii_lowercase b) < 256
    go true = grind (arith, nat_tests, are.0)
    go false = grind (arith, nat_tests, are.0)

names-bytes : (fields : List Field) → are_fields fields ≡ true → (k : ℕ) → Bytes (name_of fields k)
names-bytes [] are zero = tt
names-bytes [] are (suc k) = tt
names-bytes (field ∷ fields) are zero =
    let outer = and_parts (is_field field && not (has_name field.name fields)) (are_fields fields) are in
    let inner = and_parts (is_field field) (not (has_name field.name fields)) outer.0 in
    spelled-bytes true field.name (name_is_ascii field.name (and_parts (is_name field.name) (is_body field.body) inner.0).0)
names-bytes (field ∷ fields) are (suc k) = names-bytes fields (and_parts (is_field field && not (has_name field.name fields)) (are_fields fields) are).1 k

module _ (fields : List Field) (are : are_fields fields ≡ true) where
  abbrev keys_cmp : SortKey → SortKey → Ordering
  keys_cmp key other = byte_order (key_bytes fields key) (key_bytes fields other)

  keys-names : (key other : SortKey) → IsKeyIn fields key → IsKeyIn fields other → keys_cmp key other ≡ byte_order (name_of fields key.number) (name_of fields other.number)
  keys-names key other is beside =
      ap (λ f. byte_order (f ∷ name_of fields key.number) (key_bytes fields other)) is
      ∙ ap (λ f. byte_order (front_number 8 (name_of fields key.number) ∷ name_of fields key.number) (f ∷ name_of fields other.number)) beside
      ∙ order-fronts 8 (name_of fields key.number) (name_of fields other.number) (names-bytes fields are key.number) (names-bytes fields are other.number)

  pub sorted-names : (keys : List SortKey) → AllByRecursion (IsKeyIn fields) keys → IsSortedBy (λ key other. is_lt (keys_cmp key other)) keys → IsSortedBy (comes_first fields) keys
  sorted-names keys each up k d low within =
      let all = All-from_recursion (IsKeyIn fields) keys each in
      let key = get_or keys k d in
      let behind = get_or keys (k + 1) d in
      ap is_lt (sym (keys-names behind key (All-get_or (IsKeyIn fields) keys (k + 1) d within all) (All-get_or (IsKeyIn fields) keys k d (omega (arith, within)) all)))
      ∙ up k d low within

-- one more byte behind a front, or one that is missing
front-some : (k front : ℕ) (begins : Bool) (b spelled : ℕ) (rest : List ℕ) → spelled ≡ cond begins (to_ascii_uppercase b) (to_ascii_lowercase b)
    → (front * 256 + spelled) * 256 ^ k + front_number k (capitalised (b == 45) rest) ≡ front * 256 ^ suc k + front_number (suc k) (capitalised begins (b ∷ rest))
front-some k front begins b spelled rest is = rw (sym is, pow-suc 256 k) (omega arith)

front-none : (k front : ℕ) (begins : Bool) (spelled : ℕ) → spelled ≡ cond begins (to_ascii_uppercase 0) (to_ascii_lowercase 0)
    → (front * 256 + spelled) * 256 ^ k + front_number k (capitalised false []) ≡ front * 256 ^ suc k + front_number (suc k) (capitalised begins [])
front-none k front true spelled is = rw (is, none k, pow-suc 256 k) (omega arith)
  where
    none : (k : ℕ) → front_number k [] ≡ 0
    none zero = refl
    none (suc k) = refl
front-none k front false spelled is = rw (is, none k, pow-suc 256 k) (omega arith)
  where
    none : (k : ℕ) → front_number k [] ≡ 0
    none zero = refl
    none (suc k) = refl

pub front-next : (name : List ℕ) (i front : ℕ) (begins : Bool) (b spelled : ℕ) → i < 8 → spelled ≡ cond begins (to_ascii_uppercase b) (to_ascii_lowercase b) → b ≡ get_or name i 0
    → (front * 256 + spelled) * 256 ^ (8 - (i + 1)) + front_number (8 - (i + 1)) (capitalised (b == 45) (drop (i + 1) name)) ≡ front * 256 ^ (8 - i) + front_number (8 - i) (capitalised begins (drop i name))
front-next name i front begins b spelled within is byte =
    subst (λ n. (front * 256 + spelled) * 256 ^ (8 - (i + 1)) + front_number (8 - (i + 1)) (capitalised (b == 45) (drop (i + 1) name)) ≡ front * 256 ^ n + front_number n (capitalised begins (drop i name))) (omega (arith, within))
    (by_case (cases_lt i (length name)))
  where
    k : ℕ
    k = 8 - (i + 1)

    by_case : (i < length name) ⊎ (length name ≤ i) → (front * 256 + spelled) * 256 ^ k + front_number k (capitalised (b == 45) (drop (i + 1) name)) ≡ front * 256 ^ suc k + front_number (suc k) (capitalised begins (drop i name))
    by_case (inl some) =
        let cons : drop i name ≡ b ∷ drop (i + 1) name = drop-cons name i 0 some ∙ ap (λ c. c ∷ drop (suc i) name) (sym byte) ∙ ap (λ n. b ∷ drop n name) (sym (add-one i)) in
        rw cons (front-some k front begins b spelled (drop (i + 1) name) is)
    by_case (inr none) =
        let zero_byte : b ≡ 0 = byte ∙ get_or_past name i 0 none in
        rw (drop_all i name none, drop_all (i + 1) name (omega (arith, none))) (front-none k front begins spelled (subst (λ c. spelled ≡ cond begins (to_ascii_uppercase c) (to_ascii_lowercase c)) zero_byte is))

-- ---- names whose first bytes are the same

abbrev after_front : Bool → List ℕ → Bool
after_front begins [] = begins
after_front begins (b ∷ bs) = after_front (b == 45) bs

order-behind : (begins : Bool) (front xs ys : List ℕ) → byte_order (capitalised begins (front ++ xs)) (capitalised begins (front ++ ys)) ≡ byte_order (capitalised (after_front begins front) xs) (capitalised (after_front begins front) ys)
order-behind begins [] xs ys = refl
order-behind begins (b ∷ front) xs ys =
    ap (λ o. ordering_then o (byte_order (capitalised (b == 45) (front ++ xs)) (capitalised (b == 45) (front ++ ys)))) (tied_itself nat_cmp_total (cond begins (to_ascii_uppercase b) (to_ascii_lowercase b)))
    ∙ order-behind (b == 45) front xs ys

after-last : (begins : Bool) (front : List ℕ) (k : ℕ) → length front ≡ suc k → after_front begins front ≡ (get_or front k 0 == 45)
after-last begins [] k e = absurd (omega (arith, e))
after-last begins (b ∷ []) zero e = refl
after-last begins (b ∷ []) (suc k) e = absurd (omega (arith, e))
after-last begins (b ∷ c ∷ front) zero e = absurd (omega (arith, e))
after-last begins (b ∷ c ∷ front) (suc k) e = after-last (b == 45) (c ∷ front) k (omega (arith, e))

pub order-rest : (n : ℕ) (name other : List ℕ) (before : ℕ) → n ≤ length name → take n name ≡ take n other → (n ≡ 0 → before ≡ 45) → (0 < n → before ≡ get_or name (n - 1) 0)
    → byte_order (capitalised (before == 45) (drop n name)) (capitalised (before == 45) (drop n other)) ≡ byte_order (capitalised true name) (capitalised true other)
order-rest zero name other before within same first last = rw (first refl) refl
order-rest (suc n) name other before within same first last =
    let front = take (suc n) name in
    let byte : before ≡ get_or name n 0 = last (omega arith) ∙ ap (λ i. get_or name i 0) (omega arith) in
    let begins : after_front true front ≡ (before == 45) =
    after-last true front n (length-take-le (suc n) name within) ∙ ap (λ b. b == 45) (get_or-take (suc n) name n 0 (omega arith) ∙ sym byte) in
    let beside : front ++ drop (suc n) other ≡ other = ap (λ t. t ++ drop (suc n) other) same ∙ take-append-drop (suc n) other in
    sym (ap (λ t. byte_order (capitalised t (drop (suc n) name)) (capitalised t (drop (suc n) other))) begins)
    ∙ sym (order-behind true front (drop (suc n) name) (drop (suc n) other))
    ∙ ap (λ t. byte_order (capitalised true t) (capitalised true (front ++ drop (suc n) other))) (take-append-drop (suc n) name)
    ∙ ap (λ t. byte_order (capitalised true name) (capitalised true t)) beside
