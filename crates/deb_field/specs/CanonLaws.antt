-- Lemmas that the prover checks: nothing in this file needs to be believed.
--
-- What follows from the law of a kind, and the law of a kind of values among several.
use Rattle.std.proofs.Common.{◌≡◌, ℕ, ◌*◌, ◌≤◌, List, length, Option, refl, sym, ap, ◌∙◌, subst}
use Rattle.deb_base.specs.Bodies.{IsBody}
use Rattle.deb_base.specs.declared.code.Code.{Code}
use Rattle.deb_field.specs.CanonLaw.{CanonLaw, OneText, RefusalLaw, Through}

pub one_text : (M : Type 0) (spells : List ℕ → M → Type 0) (text_of : M → List ℕ)
    → CanonLaw M spells text_of → OneText M spells text_of
one_text M spells text_of law body other m n s t = (
  λ same. law.one_meaning (text_of m) m n (law.reads_back body m s)
      (subst (λ text. spells text n) (sym same) (law.reads_back other n t)),
  ap text_of,
)

pub law-through : (M V : Type 0) (inject : M → V) (spells : List ℕ → M → Type 0)
    (text_of : M → List ℕ) (text : V → List ℕ) → ((m : M) → text (inject m) ≡ text_of m)
    → CanonLaw M spells text_of → CanonLaw V (Through inject spells) text
law-through M V inject spells text_of text same law =
    let text_is : (v : V) (m : M) → v ≡ inject m → text v ≡ text_of m =
    λ v m e. ap text e ∙ same m in
    record {
      one_meaning =
          λ body v w s t. s.1 ∙ ap inject (law.one_meaning body s.0 t.0 s.2 t.2) ∙ sym t.1;
      reads_back =
          λ body v s. (
            s.0,
            s.1,
            subst (λ b. spells b s.0) (sym (text_is v s.0 s.1))
                (law.reads_back body s.0 s.2),
          );
      is_body = λ body v is s. subst IsBody (sym (text_is v s.0 s.1)) (law.is_body body s.0 is s.2);
      is_short =
          λ body v s. subst (λ b. length b ≤ 2 * length body) (sym (text_is v s.0 s.1))
          (law.is_short body s.0 s.2);
    }

pub refusals-through : (M V : Type 0) (inject : M → V) (spells : List ℕ → M → Type 0)
    (refusal : List ℕ → Option Code) → RefusalLaw M spells refusal
    → RefusalLaw V (Through inject spells) refusal
refusals-through M V inject spells refusal law = record {
  spelled = λ body none. let s = law.spelled body none in (inject s.0, (s.0, refl, s.1));
  unrefused = λ body v s. law.unrefused body s.0 s.2;
}
