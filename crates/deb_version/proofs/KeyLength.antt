-- The key of a version that a text of n bytes spells has at most 2n + 8 bytes.
use Rattle.deb_version.proofs.Common.{◌≡◌, ◌≢◌, ℕ, zero, suc, ◌+◌, ◌*◌, ◌^◌, ◌<◌, ◌≤◌, ◌==◌, List, [], ◌∷◌, ◌++◌, map, length, Option, Some, None, inl, inr, refl, sym, ap, subst, arith, nat_lt, cases_Bool, length-append, length-map, length-drop, prefix_len, IfSome, Cut, IsDigits, AreCuts, part_of, parts_of, parts_of_cuts, cuts_of, joined, joined-cuts_of, AreCuts-cuts_of, value_of, Components, spelling, epoch_text, epoch_value, revision_text, revision_parts, meaning_of_components}
use Rattle.std.proofs.Common.{pow-suc}
use Rattle.std.specs.Int.Digits.{digits_of as digits_in_base}
use Rattle.std.proofs.lemmas.Int.Digits.{length-digits_of-le}
use Rattle.deb_version.specs.Keys.{byte_key, component_key, count_key, key_digits, key_end, number_key, part_key, version_key}
use Rattle.deb_version.specs.KeyLaws.{KeyIsShort}
use Rattle.deb_version.proofs.AllowedLemmas.{IsEpoch, are_components-fact}
use Rattle.deb_version.proofs.KeyOrder.{count_key-long, count_key-short, from_240}
use Rattle.deb_version.proofs.KeyWritten.{key_digits-value_of}

-- ---- numbers

pow_above : (j : ℕ) → j + 2 < 256 ^ (suc j)
pow_above zero = omega (arith, pow-suc 256 0)
pow_above (suc j) = omega (arith, pow_above j, pow-suc 256 (suc j))

-- a count of 240 or more has fewer bytes than it counts
bytes_fewer : (d : ℕ) → 240 ≤ d → length (digits_in_base 256 d) + 1 ≤ d
bytes_fewer zero large = absurd (omega arith)
bytes_fewer (suc zero) large = absurd (omega arith)
bytes_fewer (suc (suc j)) large =
    let above : suc (suc j) < 256 ^ (suc j) = omega (arith, pow_above j) in
    omega (arith, length-digits_of-le 256 (suc j) (suc (suc j)) (omega arith) above)

length-count_key : (d : ℕ) → 0 < d → length (count_key d) ≤ d
length-count_key d some =
    elim (cases_Bool (nat_lt d 240)) [
      | inl short ↦ omega (arith, ap length (count_key-short d short))
      | inr long ↦ omega (arith, ap length (count_key-long d long), bytes_fewer d (from_240 d long))
    ]

-- the key of a number of at most r digits: twice as many bytes, or one where there is no digit
length-number_key : (n r : ℕ) → length (key_digits n) ≤ r → (length (number_key n) ≤ 2 * r + 1) × (0 < r → length (number_key n) ≤ 2 * r)
length-number_key n r short = by_count (length (key_digits n)) refl
  where
    by_count : (d : ℕ) → length (key_digits n) ≡ d → (length (number_key n) ≤ 2 * r + 1) × (0 < r → length (number_key n) ≤ 2 * r)
    by_count zero e =
        let whole = length-append (count_key (length (key_digits n))) (key_digits n) in
        let count = ap (λ k. length (count_key k)) e in (
          omega (arith, whole, count, e),
          λ some. omega (arith, whole, count, e),
        )
    by_count (suc d) e =
        let whole = length-append (count_key (length (key_digits n))) (key_digits n) in
        let count = length-count_key (length (key_digits n)) (omega arith) in (
          omega (arith, whole, count),
          λ some. omega (arith, whole, count),
        )

-- the key of the number of a run
length-run : (run : List ℕ) → IsDigits run → (length (number_key (value_of run)) ≤ 2 * length run + 1) × (0 < length run → length (number_key (value_of run)) ≤ 2 * length run)
length-run run digits =
    let fewer = length-drop (prefix_len (λ b. b == 48) run) run in
    let same = ap length (key_digits-value_of run digits) in
    length-number_key (value_of run) (length run) (omega (arith, fewer, same))

-- ---- components

length-some : (l : List ℕ) → l ≢ [] → 0 < length l
length-some [] some = absurd (some refl)
length-some (b ∷ l) some = omega arith

length-part_key : (cut : Cut) → length (part_key (part_of cut)) ≡ length cut.0 + (1 + length (number_key (value_of cut.1)))
length-part_key cut =
    let whole = length-append (map byte_key cut.0) (key_end ∷ number_key (value_of cut.1)) in
    let text = length-map cut.0 byte_key in
    omega (arith, whole, text)

length-joined : (cut : Cut) (cuts : List Cut) → length (joined (cut ∷ cuts)) ≡ length cut.0 + (length cut.1 + length (joined cuts))
length-joined cut cuts = omega (arith, length-append cut.0 (cut.1 ++ joined cuts), length-append cut.1 (joined cuts))

length-more : (cut : Cut) (cuts : List Cut)
    → length (component_key (parts_of_cuts (cut ∷ cuts))) ≡ length cut.0 + (1 + length (number_key (value_of cut.1))) + length (component_key (parts_of_cuts cuts))
length-more cut cuts = omega (arith, length-append (part_key (part_of cut)) (component_key (parts_of_cuts cuts)), length-part_key cut)

-- cuts that each have a text
length-rest : (cut : Cut) (cuts : List Cut) → AreCuts (cut ∷ cuts) → cut.0 ≢ [] → length (component_key (parts_of_cuts (cut ∷ cuts))) ≤ 2 * length (joined (cut ∷ cuts)) + 2
length-rest cut [] are some = omega (arith, length-more cut [], length-joined cut [], length-some cut.0 some, (length-run cut.1 are.1).0)
length-rest cut (next ∷ cuts) are some =
    omega (arith, length-more cut (next ∷ cuts), length-joined cut (next ∷ cuts), length-some cut.0 some, (length-run cut.1 are.1).1 (length-some cut.1 are.2), length-rest next cuts are.4 are.3)

-- and any cuts
length-cuts : (cuts : List Cut) → AreCuts cuts → length (component_key (parts_of_cuts cuts)) ≤ 2 * length (joined cuts) + 3
length-cuts [] are = absurd are
length-cuts (cut ∷ []) are = omega (arith, length-more cut [], length-joined cut [], (length-run cut.1 are.1).0)
length-cuts (cut ∷ next ∷ cuts) are =
    omega (arith, length-more cut (next ∷ cuts), length-joined cut (next ∷ cuts), (length-run cut.1 are.1).1 (length-some cut.1 are.2), length-rest next cuts are.4 are.3)

length-component_key : (text : List ℕ) → length (component_key (parts_of text)) ≤ 2 * length text + 3
length-component_key text =
    omega (arith, length-cuts (cuts_of text) (AreCuts-cuts_of text), ap length (joined-cuts_of text))

-- ---- versions

length-epoch : (e : Option (List ℕ)) → IfSome e IsEpoch → length (number_key (epoch_value e)) ≤ 2 * length (epoch_text e) + 1
length-epoch None is = omega arith
length-epoch (Some digits) is = omega (arith, (length-run digits is.1).0, length-append digits (58 ∷ []))

length-revision : (r : Option (List ℕ)) → length (component_key (revision_parts r)) ≤ 2 * length (revision_text r) + 3
length-revision None = omega arith
length-revision (Some revision) = omega (arith, length-component_key revision)

length-key : (c : Components) → IfSome c.epoch IsEpoch → length (version_key (meaning_of_components c)) ≤ 2 * length (spelling c) + 8
length-key c epoch =
    let key = length-append (number_key (epoch_value c.epoch)) (component_key (parts_of c.upstream) ++ component_key (revision_parts c.revision)) in
    let components = length-append (component_key (parts_of c.upstream)) (component_key (revision_parts c.revision)) in
    let text = length-append (epoch_text c.epoch) (c.upstream ++ revision_text c.revision) in
    let rest = length-append c.upstream (revision_text c.revision) in
    omega (arith, key, components, text, rest, length-epoch c.epoch epoch, length-component_key c.upstream, length-revision c.revision)

pub key_is_short : KeyIsShort
key_is_short text m h =
    subst (λ n. length (version_key n) ≤ 2 * length text + 8) (sym h.means)
    (subst (λ l. length (version_key (meaning_of_components h.components)) ≤ 2 * length l + 8) (sym h.spelt)
    (length-key h.components (are_components-fact h.components h.allowed).epoch))
