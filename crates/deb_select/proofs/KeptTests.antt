-- What is kept of a value passes what is kept of a test exactly if the value passes the test.
use Rattle.std.proofs.Common.{◌≡◌, ℕ, true, List, refl, ap, ◌∙◌}
use Rattle.std.specs.Ordering.{nat_cmp}
use Rattle.deb_base.specs.declared.kind.Kind.{Kind}
use Rattle.deb_base.specs.declared.kind.Kind.TheVariants.{Name, Source, Version, Architecture, ArchitectureWords, Flag, MultiArch, Number, Line, Folded, Relation, Text}
use Rattle.deb_version.specs.Canonical.{digits_of}
use Rattle.deb_version.specs.Parts.{value_of}
use Rattle.deb_version.proofs.ByteLemmas.{all_pass-test}
use Rattle.deb_version.proofs.CanonicalDigits.{IsDigits-digits_of, value_of-digits_of}
use Rattle.deb_version.proofs.KeyOrder.{keys_sort_spelled}
use Rattle.deb_version.proofs.NumberOrder.{value_of-order-at}
use Rattle.std.specs.Char.{is_ascii_digit}
use Rattle.deb_field.specs.Values.{SpellsKind, ValueMeaning}
use Rattle.deb_select.specs.Conditions.{Compares, ContainsText, IsPresent, NamesOne, TestMeaning, compare_values, comparison_holds, passes}
use Rattle.deb_select.specs.Grammar.{Parts, SpellsTest}
use Rattle.deb_select.specs.Kept.{compare_keys, is_number, number_key, passes_kept, test_kept, value_kept, value_key}

number-keys : (n m : ℕ) → compare_keys true (number_key n) (number_key m) ≡ nat_cmp n m
number-keys n m =
    value_of-order-at (digits_of n) (digits_of m) (number_key n) (number_key m) (all_pass-test is_ascii_digit (digits_of n) (IsDigits-digits_of n)) (all_pass-test is_ascii_digit (digits_of m) (IsDigits-digits_of m)) refl refl
    ∙ ap (λ k. nat_cmp k (value_of (digits_of m))) (value_of-digits_of n) ∙ ap (nat_cmp n) (value_of-digits_of m)

-- keys compare as the values do
keys-compare : (kind : Kind) (body other : List ℕ) (a b : ValueMeaning) → SpellsKind kind body a → SpellsKind kind other b → compare_keys (is_number a) (value_key a) (value_key b) ≡ compare_values a b
keys-compare Name body other a b s t = rw (s.1, t.1) refl
keys-compare Source body other a b s t = rw (s.1, t.1) refl
keys-compare Version body other a b s t = rw (s.1, t.1) (keys_sort_spelled body other s.0 t.0 s.2 t.2)
keys-compare Architecture body other a b s t = rw (s.1, t.1) refl
keys-compare ArchitectureWords body other a b s t = rw (s.1, t.1) refl
keys-compare Flag body other a b s t = rw (s.1, t.1) refl
keys-compare MultiArch body other a b s t = rw (s.1, t.1) refl
keys-compare Number body other a b s t = rw (s.1, t.1) (number-keys s.0 t.0)
keys-compare Line body other a b s t = rw (s.1, t.1) refl
keys-compare Folded body other a b s t = rw (s.1, t.1) refl
keys-compare (Relation sort) body other a b s t = rw (s.1, t.1) refl
keys-compare Text body other a b s t = rw (s.1, t.1) refl

pub kept-passes : (kind : Kind) (parts : Parts) (test : TestMeaning) (body : List ℕ) (value : ValueMeaning) → SpellsTest kind parts test → SpellsKind kind body value → passes_kept (test_kept test) (value_kept value) ≡ passes test value
kept-passes kind parts IsPresent body value spells is = refl
kept-passes kind parts (Compares comparison asked) body value spells is = ap (comparison_holds comparison) (keys-compare kind body parts.value value asked is spells.3)
kept-passes kind parts (ContainsText part) body value spells is = refl
kept-passes kind parts (NamesOne name) body value spells is = refl
