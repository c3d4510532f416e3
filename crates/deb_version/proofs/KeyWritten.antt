-- The key of a component, cut by cut, and of a number, as the code writes them.
use Rattle.deb_version.proofs.Common.{◌≡◌, ◌≢◌, ℕ, ◌^◌, ◌<◌, ◌≤◌, ◌==◌, Bool, true, false, List, [], ◌∷◌, ◌++◌, length, Option, Some, None, option_copied, unwrap_or, Bor, is_some, IfSome, IsTrue, refl, sym, ap, ◌∙◌, subst, arith, nat_tests, eqb-false, true≢false, cons_not_nil, append_assoc, is_revision_byte, is_upstream_byte, Cut, part_of, parts_of, parts_of_cuts, cuts_of, cuts_after, joined, joined-cuts_of, value_of, IsDigits, Version, components_of}
use Rattle.std.specs.Prelude.{if◌then◌else◌, is_ok, OnOk}
use Rattle.std.specs.declared.result.Result.{Result}
use Rattle.std.specs.declared.result.Result.TheVariants.{Ok, Err}
use Rattle.std.specs.Int.Digits.{digits_of as digits_in_base}
use Rattle.std.proofs.lemmas.Int.Digits.{length-digits_of-le}
use Rattle.deb_version.specs.Keys.{AreAscii, component_key, key_digits, key_end, part_key}
use Rattle.deb_version.proofs.AllowedLemmas.{IsRevision, are_components-fact}
use Rattle.deb_version.proofs.CanonicalComponent.{All-append_front, All-append_back, All-weaker}
use Rattle.deb_version.proofs.CanonicalCuts.{joined_after, positive_of_digits, without_zeros-none, without_zeros-some}
use Rattle.deb_version.proofs.CanonicalDigits.{digits_of-positive}
use Rattle.deb_version.proofs.LeadingZeros.{without_zeros}

-- the key of what follows a cut
abbrev pub rest_key : List ℕ → List ℕ
rest_key [] = key_end ∷ []
rest_key (b ∷ rest) = component_key (parts_of (b ∷ rest))

-- the key of a component begins with that of its first part
component_key-first : (bytes after : List ℕ) (cut : Cut) → cuts_of bytes ≡ cut ∷ cuts_after after
    → component_key (parts_of bytes) ≡ part_key (part_of cut) ++ rest_key after
component_key-first bytes [] cut e = ap (λ cuts. component_key (parts_of_cuts cuts)) e
component_key-first bytes (b ∷ after) cut e = ap (λ cuts. component_key (parts_of_cuts cuts)) e

-- One part more is written, and then what follows it is left.
pub one_part_written : (out new bytes after whole : List ℕ) (cut : Cut) → cuts_of bytes ≡ cut ∷ cuts_after after
    → out ++ component_key (parts_of bytes) ≡ whole → new ≡ out ++ part_key (part_of cut) → new ++ rest_key after ≡ whole
one_part_written out new bytes after whole cut e written more =
    ap (λ l. l ++ rest_key after) more ∙ append_assoc out (part_key (part_of cut)) (rest_key after)
    ∙ ap (λ l. out ++ l) (sym (component_key-first bytes after cut e)) ∙ written

pub rest_key-some : (after : List ℕ) → (length after == 0) ≡ false → rest_key after ≡ component_key (parts_of after)
rest_key-some [] some = absurd (true≢false some)
rest_key-some (b ∷ after) some = refl

-- the bytes of a component are those of its first cut and what follows it
cut_apart : (bytes after : List ℕ) (cut : Cut) → cuts_of bytes ≡ cut ∷ cuts_after after → bytes ≡ cut.0 ++ (cut.1 ++ after)
cut_apart bytes after cut e =
    sym (joined-cuts_of bytes) ∙ ap joined e ∙ ap (λ l. cut.0 ++ (cut.1 ++ l)) (joined_after after)

pub AreAscii-text : (bytes after : List ℕ) (cut : Cut) → cuts_of bytes ≡ cut ∷ cuts_after after → AreAscii bytes → AreAscii cut.0
AreAscii-text bytes after cut e ascii = All-append_front (λ b. b < 128) cut.0 (cut.1 ++ after) (subst AreAscii (cut_apart bytes after cut e) ascii)

pub AreAscii-after : (bytes after : List ℕ) (cut : Cut) → cuts_of bytes ≡ cut ∷ cuts_after after → AreAscii bytes → AreAscii after
AreAscii-after bytes after cut e ascii =
    All-append_back (λ b. b < 128) cut.1 after (All-append_back (λ b. b < 128) cut.0 (cut.1 ++ after) (subst AreAscii (cut_apart bytes after cut e) ascii))

-- ---- the bytes of a version are ASCII

revision_byte-ascii : (b : ℕ) → IsTrue (is_revision_byte b) → b < 128
revision_byte-ascii b allowed = grind (arith, nat_tests)

upstream_byte-ascii : (has_epoch : Bool) (b : ℕ) → IsTrue (is_upstream_byte has_epoch b) → b < 128
upstream_byte-ascii true b allowed = grind (arith, nat_tests)
upstream_byte-ascii false b allowed = grind (arith, nat_tests)

pub AreAscii-upstream : (v : Version) → AreAscii v.upstream.now
AreAscii-upstream v =
    All-weaker (λ b. IsTrue (is_upstream_byte (is_some (option_copied v.epoch)) b)) (λ b. b < 128) (upstream_byte-ascii (is_some (option_copied v.epoch))) v.upstream.now
    (are_components-fact (components_of v) v.well_formed).upstream_bytes

-- the revision of a version, and what represents an absent one
pub AreAscii-revision : (v : Version) (absent : Bor (List ℕ)) → absent.now ≡ [] → AreAscii (unwrap_or v.revision absent).now
AreAscii-revision v absent none = of_revision v.revision (are_components-fact (components_of v) v.well_formed).revision
  where
    of_revision : (r : Option (Bor (List ℕ))) → IfSome (option_copied r) IsRevision → AreAscii (unwrap_or r absent).now
    of_revision None is = subst AreAscii (sym none) tt
    of_revision (Some revision) is = All-weaker (λ b. IsTrue (is_revision_byte b)) (λ b. b < 128) revision_byte-ascii revision.now is.1

-- ---- numbers

-- The digits that are left without leading zeros are those of the key.
pub key_digits-value_of : (run : List ℕ) → IsDigits run → without_zeros run ≡ key_digits (value_of run)
key_digits-value_of run digits = by_left (without_zeros run) refl
  where
    by_left : (left : List ℕ) → without_zeros run ≡ left → without_zeros run ≡ key_digits (value_of run)
    by_left [] none = none ∙ sym (ap key_digits (without_zeros-none run none))
    by_left (b ∷ left) is =
        let some : without_zeros run ≢ [] = λ none. cons_not_nil b left (sym is ∙ none) in
        let positive = eqb-false (value_of run) 0 (positive_of_digits run digits some) in
        without_zeros-some run digits some ∙ digits_of-positive (value_of run) (omega (arith, positive))

-- the bytes of a count fit eight
pub length-bytes : (n : ℕ) → n < 2 ^ 64 → length (digits_in_base 256 n) ≤ 8
length-bytes n fits = length-digits_of-le 256 8 n (omega arith) fits

-- what `extend_from_slice` wrote, where it succeeds
pub on_ok_items : {T E : Type 0} (r : Result T E) (new a b c : List ℕ) → new ≡ (if is_ok r then a else b) → a ≡ c → OnOk r (new ≡ c)
on_ok_items (Ok v) new a b c e f = e ∙ f
on_ok_items (Err x) new a b c e f = tt
