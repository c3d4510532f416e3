-- Lemmas that the prover checks: nothing in this file needs to be believed.
--
-- The laws for the words of Essential and of Multi-Arch.
use Rattle.std.proofs.Common.{◌≡◌, ℕ, ◌*◌, ◌≤◌, true, List, length, None, codes, refl, sym, ap, ◌∙◌, subst, arith, inl, inr}
use Rattle.std.proofs.lemmas.Bool.{false≢true, true≢false, or_cases}
use Rattle.std.proofs.lemmas.Slice.Eq.{bytes_eq-Decides}
use Rattle.std.specs.Str.{bytes_eq}
use Rattle.deb_base.specs.Bodies.{IsBody}
use Rattle.deb_base.specs.declared.code.Code.TheVariants.{BadWord}
use Rattle.deb_field.specs.CanonLaw.{CanonLaw, RefusalLaw}
use Rattle.deb_field.specs.OneLine.{refusal_unless}
use Rattle.deb_field.specs.OneLineLaws.{passes-from_none, line_refusal-parts}
use Rattle.deb_field.specs.Flags.{flag_text, SpellsFlag, is_flag, flag_refusal, multi_arch_text, SpellsMultiArch, is_multi_arch, multi_arch_refusal}
use Rattle.deb_field.specs.declared.flag.Flag.{Flag}
use Rattle.deb_field.specs.declared.flag.Flag.TheVariants as flags
use Rattle.deb_field.specs.declared.flag.MultiArch.{MultiArch}
use Rattle.deb_field.specs.declared.flag.MultiArch.TheVariants as multi_archs

-- words that differ: what reads a word back
one_flag : (m n : Flag) → flag_text m ≡ flag_text n → m ≡ n
one_flag flags.Yes flags.Yes e = refl
one_flag flags.Yes flags.No e = cc
one_flag flags.No flags.Yes e = cc
one_flag flags.No flags.No e = refl

one_multi_arch : (m n : MultiArch) → multi_arch_text m ≡ multi_arch_text n → m ≡ n
one_multi_arch multi_archs.No multi_archs.No e = refl
one_multi_arch multi_archs.No multi_archs.Same e = cc
one_multi_arch multi_archs.No multi_archs.Foreign e = cc
one_multi_arch multi_archs.No multi_archs.Allowed e = cc
one_multi_arch multi_archs.Same multi_archs.No e = cc
one_multi_arch multi_archs.Same multi_archs.Same e = refl
one_multi_arch multi_archs.Same multi_archs.Foreign e = cc
one_multi_arch multi_archs.Same multi_archs.Allowed e = cc
one_multi_arch multi_archs.Foreign multi_archs.No e = cc
one_multi_arch multi_archs.Foreign multi_archs.Same e = cc
one_multi_arch multi_archs.Foreign multi_archs.Foreign e = refl
one_multi_arch multi_archs.Foreign multi_archs.Allowed e =
    absurd (false≢true (ap (λ text. bytes_eq text (codes "allowed")) e))
one_multi_arch multi_archs.Allowed multi_archs.No e = cc
one_multi_arch multi_archs.Allowed multi_archs.Same e = cc
one_multi_arch multi_archs.Allowed multi_archs.Foreign e =
    absurd (true≢false (ap (λ text. bytes_eq text (codes "allowed")) e))
one_multi_arch multi_archs.Allowed multi_archs.Allowed e = refl

-- whatever the words
module _ (M : Type 0) (word : M → List ℕ) (one : (m n : M) → word m ≡ word n → m ≡ n) where
  word_short : (body : List ℕ) (m : M) → body ≡ word m → length (word m) ≤ 2 * length body
  word_short body m s = omega (arith, ap length s)

  pub word_law : CanonLaw M (λ body m. body ≡ word m) word
  word_law =
      record {
        one_meaning = λ body m n s t. one m n (sym s ∙ t);
        reads_back = λ body m s. refl;
        is_body = λ body m is s. subst IsBody s is;
        is_short = word_short;
      }

pub flag_law : CanonLaw Flag SpellsFlag flag_text
flag_law = word_law Flag flag_text one_flag

pub multi_arch_law : CanonLaw MultiArch SpellsMultiArch multi_arch_text
multi_arch_law = word_law MultiArch multi_arch_text one_multi_arch

spells_flag : (body : List ℕ) → is_flag body ≡ true → (m : Flag) × SpellsFlag body m
spells_flag body h =
    elim (or_cases (bytes_eq body (codes "yes")) (bytes_eq body (codes "no")) h) [
      | inl e ↦ (flags.Yes, (bytes_eq-Decides body (codes "yes")).0 e)
      | inr e ↦ (flags.No, (bytes_eq-Decides body (codes "no")).0 e)
    ]

spells_multi_arch : (body : List ℕ) → is_multi_arch body ≡ true
    → (m : MultiArch) × SpellsMultiArch body m
spells_multi_arch body h =
    elim (or_cases _ (bytes_eq body (codes "allowed")) h) [
      | inr e ↦ (multi_archs.Allowed, (bytes_eq-Decides body (codes "allowed")).0 e)
      | inl f ↦ elim (or_cases _ (bytes_eq body (codes "foreign")) f) [
        | inr e ↦ (multi_archs.Foreign, (bytes_eq-Decides body (codes "foreign")).0 e)
        | inl g ↦ elim (or_cases (bytes_eq body (codes "no")) (bytes_eq body (codes "same")) g) [
          | inl e ↦ (multi_archs.No, (bytes_eq-Decides body (codes "no")).0 e)
          | inr e ↦ (multi_archs.Same, (bytes_eq-Decides body (codes "same")).0 e)
        ]
      ]
    ]

flag_unrefused : (m : Flag) → flag_refusal (flag_text m) ≡ None
flag_unrefused flags.Yes = refl
flag_unrefused flags.No = refl

multi_arch_unrefused : (m : MultiArch) → multi_arch_refusal (multi_arch_text m) ≡ None
multi_arch_unrefused multi_archs.No = refl
multi_arch_unrefused multi_archs.Same = refl
multi_arch_unrefused multi_archs.Foreign = refl
multi_arch_unrefused multi_archs.Allowed = refl

pub flag_refusals : RefusalLaw Flag SpellsFlag flag_refusal
flag_refusals = record {
  spelled =
      λ body none. spells_flag body (passes-from_none (is_flag body) BadWord
      (line_refusal-parts body (refusal_unless (is_flag body) BadWord) none).1);
  unrefused = λ body m s. ap flag_refusal s ∙ flag_unrefused m;
}

pub multi_arch_refusals : RefusalLaw MultiArch SpellsMultiArch multi_arch_refusal
multi_arch_refusals = record {
  spelled =
      λ body none. spells_multi_arch body (passes-from_none (is_multi_arch body) BadWord
      (line_refusal-parts body (refusal_unless (is_multi_arch body) BadWord) none).1);
  unrefused = λ body m s. ap multi_arch_refusal s ∙ multi_arch_unrefused m;
}
