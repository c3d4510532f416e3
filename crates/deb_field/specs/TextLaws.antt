-- Lemmas that the prover checks: nothing in this file needs to be believed.
--
-- The laws for values that are their own text.
use Rattle.std.proofs.Common.{◌≡◌, ℕ, ◌*◌, ◌≤◌, Bool, true, IsTrue, List, length, None, refl, sym, ap, ◌∙◌, subst, arith}
use Rattle.std.proofs.lemmas.Bool.{not-true, not_from_false}
use Rattle.std.specs.List.{AllByRecursion}
use Rattle.deb_base.specs.Bodies.{IsBody}
use Rattle.deb_base.specs.declared.code.Code.{Code}
use Rattle.deb_base.specs.declared.code.Code.TheVariants.{BadName, BadArchitecture}
use Rattle.deb_base.specs.PackageNames.{is_package_name, is_arch_name}
use Rattle.deb_base.proofs.GraphicBodies.{IsGraphic}
use Rattle.deb_base.proofs.GraphicNames.{package_name_graphic, arch_name_graphic}
use Rattle.deb_field.specs.CanonLaw.{CanonLaw, RefusalLaw}
use Rattle.deb_field.specs.OneLine.{holds_newline, refusal_unless, line_refusal}
use Rattle.deb_field.specs.OneLineLaws.{one_line-graphic, passes-from_none, none-from_passes, line_refusal-parts, line_refusal-from}
use Rattle.deb_field.specs.Texts.{SpellsItself, text_itself, SpellsText, text_refusal, SpellsLine, one_line_refusal, SpellsName, name_refusal, SpellsArchitecture, architecture_refusal}

-- whatever the test
module _ (test : List ℕ → Bool) where
  one : (body m n : List ℕ) → SpellsItself test body m → SpellsItself test body n → m ≡ n
  one body m n s t = sym s.0 ∙ t.0

  back : (body m : List ℕ) → SpellsItself test body m → SpellsItself test m m
  back body m s = (refl, subst (λ b. IsTrue (test b)) s.0 s.1)

  short : (body m : List ℕ) → SpellsItself test body m → length m ≤ 2 * length body
  short body m s = omega (arith, ap length s.0)

  pub itself_law : CanonLaw (List ℕ) (SpellsItself test) text_itself
  itself_law =
      record {
        one_meaning = one;
        reads_back = back;
        is_body = λ body m is s. subst IsBody s.0 is;
        is_short = short;
      }

pub text_refusals : RefusalLaw (List ℕ) SpellsText text_refusal
text_refusals = record { spelled = λ body none. (body, (refl, refl)); unrefused = λ body m s. refl }

pub line_refusals : RefusalLaw (List ℕ) SpellsLine one_line_refusal
line_refusals = record {
  spelled =
      λ body none. (
        body,
        (
          refl,
          not_from_false (holds_newline body)
              (line_refusal-parts body None none).0,
        ),
      );
  unrefused = λ body m s. line_refusal-from body None (not-true (holds_newline body) s.1) refl;
}

-- a test that only graphic bytes pass, and its code
module _ (test : List ℕ → Bool) (code : Code)
    (graphic : (body : List ℕ) → test body ≡ true → AllByRecursion IsGraphic body) where
  pub tested_refusals : RefusalLaw (List ℕ) (SpellsItself test)
      (λ body. line_refusal body (refusal_unless (test body) code))
  tested_refusals = record {
    spelled =
        λ body none. (
          body,
          (
            refl,
            passes-from_none (test body) code
                (line_refusal-parts body (refusal_unless (test body) code) none).1,
          ),
        );
    unrefused =
        λ body m s. line_refusal-from body (refusal_unless (test body) code)
        (one_line-graphic body (graphic body s.1)) (none-from_passes (test body) code s.1);
  }

pub name_refusals : RefusalLaw (List ℕ) SpellsName name_refusal
name_refusals = tested_refusals is_package_name BadName package_name_graphic

pub architecture_refusals : RefusalLaw (List ℕ) SpellsArchitecture architecture_refusal
architecture_refusals = tested_refusals is_arch_name BadArchitecture arch_name_graphic
