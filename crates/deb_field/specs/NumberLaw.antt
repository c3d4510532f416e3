-- Lemmas that the prover checks: nothing in this file needs to be believed.
--
-- The laws for numbers.
use Rattle.std.proofs.Common.{◌≡◌, ℕ, ◌*◌, ◌≤◌, List, length, ◌==◌, not, true, IsTrue, refl, sym, ◌∙◌, arith, subst, rules, tests}
use Rattle.std.specs.Char.{is_ascii_digit}
use Rattle.std.specs.List.{AllByRecursion, list_all}
use Rattle.std.proofs.lemmas.Bool.{and_parts, and_from, not-true, not_from_false}
use Rattle.deb_version.proofs.ByteLemmas.{all_pass-fact, all_pass-test, empty-fact, empty-test}
use Rattle.deb_version.specs.Parts.{value_of}
use Rattle.deb_version.specs.Canonical.{digits_of}
use Rattle.deb_version.proofs.CanonicalDigits.{value_of-digits_of, IsDigits-digits_of, digits_of-some, length-digits_of-value_of}
use Rattle.deb_base.specs.declared.code.Code.TheVariants.{BadNumber}
use Rattle.deb_field.specs.CanonLaw.{CanonLaw, RefusalLaw}
use Rattle.deb_field.specs.OneLine.{refusal_unless}
use Rattle.deb_field.specs.OneLineLaws.{one_line-graphic, passes-from_none, none-from_passes, line_refusal-parts, line_refusal-from}
use Rattle.deb_field.specs.Numbers.{SpellsNumber, are_digits, number_refusal}
use Rattle.deb_base.proofs.AllElements.{All-weaker}
use Rattle.deb_base.proofs.GraphicBodies.{IsGraphic, IsBody-graphic}

pub graphic_digit : (b : ℕ) → IsTrue (is_ascii_digit b) → IsGraphic b
graphic_digit b h = search (rules, tests)

short : (body : List ℕ) (n : ℕ) → SpellsNumber body n → length (digits_of n) ≤ 2 * length body
short body n spells =
    let within = length-digits_of-value_of body spells.digits spells.some in
    let within' : length (digits_of n) ≤ length body =
    subst (λ k. length (digits_of k) ≤ length body) spells.value within in
    omega (arith, within')

pub number_law : CanonLaw ℕ SpellsNumber digits_of
number_law = record {
  one_meaning = λ body m n s t. sym s.value ∙ t.value;
  reads_back =
      λ body m s. record {
        some = digits_of-some m;
        digits = IsDigits-digits_of m;
        value = value_of-digits_of m;
      };
  is_body =
      λ body m is s.
      IsBody-graphic (digits_of m)
      (All-weaker (λ b. IsTrue (is_ascii_digit b)) IsGraphic graphic_digit (digits_of m)
      (IsDigits-digits_of m));
  is_short = short;
}

pub number_spelled : (body : List ℕ) → IsTrue (are_digits body) → SpellsNumber body (value_of body)
number_spelled body h =
    let parts = and_parts (not (length body == 0)) (list_all is_ascii_digit body) h in
    record {
      some = empty-fact body (not-true (length body == 0) parts.0);
      digits = all_pass-fact is_ascii_digit body parts.1;
      value = refl;
    }

-- what spells a number passes the test
pub are_digits-test : (body : List ℕ) (n : ℕ) → SpellsNumber body n → are_digits body ≡ true
are_digits-test body n s =
    and_from (not (length body == 0)) (list_all is_ascii_digit body)
    (not_from_false (length body == 0) (empty-test body s.some))
    (all_pass-test is_ascii_digit body s.digits)

digits_graphic : (body : List ℕ) (n : ℕ) → SpellsNumber body n → AllByRecursion IsGraphic body
digits_graphic body n s =
    All-weaker (λ b. IsTrue (is_ascii_digit b)) IsGraphic graphic_digit body s.digits

pub number_refusals : RefusalLaw ℕ SpellsNumber number_refusal
number_refusals = record {
  spelled =
      λ body none. (
        value_of body,
        number_spelled body
            (passes-from_none (are_digits body) BadNumber
            (line_refusal-parts body (refusal_unless (are_digits body) BadNumber) none).1),
      );
  unrefused =
      λ body n s. line_refusal-from body (refusal_unless (are_digits body) BadNumber)
      (one_line-graphic body (digits_graphic body n s))
      (none-from_passes (are_digits body) BadNumber (are_digits-test body n s));
}
