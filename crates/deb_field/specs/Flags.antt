-- The words of Essential and of Multi-Arch. Debian Policy 5.6.9 (Essential); the words of
-- Multi-Arch are those of deb-control(5).
use Rattle.std.specs.Prelude.{◌≡◌, ℕ, ◌||◌, Bool, List, [], ◌∷◌, map, Option, Some, None, codes, refl}
use Rattle.std.specs.Str.{bytes_eq}
use Rattle.deb_base.specs.declared.code.Code.{Code}
use Rattle.deb_base.specs.declared.code.Code.TheVariants.{NotOneLine, BadWord}
use Rattle.deb_field.specs.OneLine.{line_refusal, refusal_unless}
use Rattle.deb_field.specs.declared.flag.Flag.{Flag}
use Rattle.deb_field.specs.declared.flag.Flag.TheVariants as flags
use Rattle.deb_field.specs.declared.flag.MultiArch.{MultiArch}
use Rattle.deb_field.specs.declared.flag.MultiArch.TheVariants as multi_archs

-- the word of a flag
abbrev pub flag_text : Flag → List ℕ
flag_text flags.Yes = codes "yes"
flag_text flags.No = codes "no"

-- the body is the flag's word
abbrev pub SpellsFlag : List ℕ → Flag → Type 0
SpellsFlag body flag = body ≡ flag_text flag

abbrev pub is_flag : List ℕ → Bool
is_flag body = bytes_eq body (codes "yes") || bytes_eq body (codes "no")

abbrev pub flag_refusal : List ℕ → Option Code
flag_refusal body = line_refusal body (refusal_unless (is_flag body) BadWord)

-- the word of Multi-Arch
abbrev pub multi_arch_text : MultiArch → List ℕ
multi_arch_text multi_archs.No = codes "no"
multi_arch_text multi_archs.Same = codes "same"
multi_arch_text multi_archs.Foreign = codes "foreign"
multi_arch_text multi_archs.Allowed = codes "allowed"

-- the body is that word
abbrev pub SpellsMultiArch : List ℕ → MultiArch → Type 0
SpellsMultiArch body word = body ≡ multi_arch_text word

abbrev pub is_multi_arch : List ℕ → Bool
is_multi_arch body =
    bytes_eq body (codes "no") || bytes_eq body (codes "same") || bytes_eq body (codes "foreign")
    || bytes_eq body (codes "allowed")

abbrev pub multi_arch_refusal : List ℕ → Option Code
multi_arch_refusal body = line_refusal body (refusal_unless (is_multi_arch body) BadWord)

flag_words : (flag_refusal (codes "yes") ≡ None) × (flag_refusal (codes "no") ≡ None)
    × (flag_refusal (codes "Yes") ≡ Some BadWord) × (flag_refusal [] ≡ Some BadWord)
    × (flag_refusal (codes "yes\n no") ≡ Some NotOneLine)
flag_words = (refl, refl, refl, refl, refl)

multi_arch_words : (multi_arch_refusal (codes "no") ≡ None)
    × (multi_arch_refusal (codes "same") ≡ None) × (multi_arch_refusal (codes "foreign") ≡ None)
    × (multi_arch_refusal (codes "allowed") ≡ None)
multi_arch_words = (refl, refl, refl, refl)

no_multi_arch_words : (multi_arch_refusal (codes "Same") ≡ Some BadWord)
    × (multi_arch_refusal (codes "yes") ≡ Some BadWord) × (multi_arch_refusal [] ≡ Some BadWord)
no_multi_arch_words = (refl, refl, refl)

-- the words themselves
texts_of_flags : map flag_text (flags.Yes ∷ flags.No ∷ []) ≡ codes "yes" ∷ codes "no" ∷ []
texts_of_flags = refl

texts_of_multi_arch : map multi_arch_text
    (multi_archs.No ∷ multi_archs.Same ∷ multi_archs.Foreign ∷ multi_archs.Allowed ∷ [])
    ≡ codes "no" ∷ codes "same" ∷ codes "foreign" ∷ codes "allowed" ∷ []
texts_of_multi_arch = refl

-- other words for the same, and words that only begin or end so
other_flags : map flag_refusal
    (codes "true" ∷ codes "1" ∷ codes "y" ∷ codes "YES" ∷ codes "yes " ∷ codes "yess"
    ∷ codes "false" ∷ codes "none" ∷ codes "same" ∷ [])
    ≡ Some BadWord ∷ Some BadWord ∷ Some BadWord ∷ Some BadWord ∷ Some BadWord ∷ Some BadWord
    ∷ Some BadWord ∷ Some BadWord ∷ Some BadWord ∷ []
other_flags = refl

other_multi_arch : map multi_arch_refusal
    (codes "none" ∷ codes "all" ∷ codes "any" ∷ codes "both" ∷ codes "allow" ∷ codes "foreign "
    ∷ codes "NO" ∷ [])
    ≡ Some BadWord ∷ Some BadWord ∷ Some BadWord ∷ Some BadWord ∷ Some BadWord ∷ Some BadWord
    ∷ Some BadWord ∷ []
other_multi_arch = refl
