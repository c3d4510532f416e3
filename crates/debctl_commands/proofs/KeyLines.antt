-- The lines of the keys of versions, one after another.
use Rattle.std.proofs.Common.{◌≡◌, ◌<◌, ◌+◌, ◌++◌, ℕ, List, [], ◌∷◌, Err, Vec, length, map, take, get_or, String, Global, string_bytes, inl, inr, ap, sym, subst, ◌∙◌, arith, zero, suc, append_assoc, append-nil}
use Rattle.std.proofs.lemmas.List.{map_more}
use Rattle.deb_base.specs.declared.fault.Fault.{Fault}
use Rattle.deb_base.specs.declared.fault.Fault.TheVariants.{Refused, Memory, Read, Write}
use Rattle.deb_version.specs.Grammar.{SpellsVersion}
use Rattle.deb_version.specs.Parts.{Meaning}
use Rattle.debctl_commands.specs.KeyJob.{GivesKey, GivesKeys, HaveNoVersion, SpellVersions, key_line, key_lines}
use Rattle.debctl_commands.specs.VersionJobs.{IsNoVersion}

-- the lines of the keys of some texts
abbrev pub KeysSoFar : List (List ℕ) → List ℕ → Type 0
KeysSoFar texts lines =
    (versions : List Meaning) × SpellVersions texts versions × (lines ≡ key_lines versions)

spell_more : (texts : List (List ℕ)) (versions : List Meaning) (text : List ℕ) (version : Meaning) → SpellVersions texts versions → SpellsVersion text version
    → SpellVersions (texts ++ text ∷ []) (versions ++ version ∷ [])
spell_more [] [] text version spelled is = (is, tt)
spell_more [] (v ∷ versions) text version spelled is = absurd spelled
spell_more (t ∷ texts) [] text version spelled is = absurd spelled
spell_more (t ∷ texts) (v ∷ versions) text version spelled is = (spelled.0, spell_more texts versions text version spelled.1 is)

lines_more : (versions : List Meaning) (version : Meaning) → key_lines (versions ++ version ∷ []) ≡ key_lines versions ++ key_line version
lines_more [] version = append-nil (key_line version)
lines_more (v ∷ versions) version = ap (λ l. key_line v ++ l) (lines_more versions version) ∙ sym (append_assoc (key_line v) (key_lines versions) (key_line version))

-- one more text
pub keys_push : (xs : List (String Global)) (i : ℕ) (x : String Global) (text old line new : List ℕ) → i < length xs → x ≡ get_or xs i x → text ≡ string_bytes x
    → KeysSoFar (map string_bytes (take i xs)) old → ((version : Meaning) × SpellsVersion text version × (line ≡ key_line version)) → new ≡ old ++ line
    → KeysSoFar (map string_bytes (take (i + 1) xs)) new
keys_push xs i x text old line new below at text_is so_far key is =
    subst (λ texts. KeysSoFar texts new) (sym (map_more string_bytes xs i x below ∙ ap (λ t. map string_bytes (take i xs) ++ string_bytes t ∷ []) (sym at) ∙ ap (λ t. map string_bytes (take i xs) ++ t ∷ []) (sym text_is))) (
      so_far.0 ++ key.0 ∷ [],
      spell_more (map string_bytes (take i xs)) so_far.0 text key.0 so_far.1 key.1,
      is ∙ ap (λ l. l ++ line) so_far.2 ∙ ap (λ l. key_lines so_far.0 ++ l) key.2 ∙ sym (lines_more so_far.0 key.0),
    )

have_no_version : (xs : List (String Global)) (i : ℕ) (x : String Global) → i < length xs → x ≡ get_or xs i x → IsNoVersion (string_bytes x) → HaveNoVersion (map string_bytes xs)
have_no_version [] i x below at none = absurd (omega (arith, below))
have_no_version (y ∷ ys) zero x below at none = inl (subst (λ (t : String Global). IsNoVersion (string_bytes t)) at none)
have_no_version (y ∷ ys) (suc i) x below at none = inr (have_no_version ys i x (omega (arith, below)) at none)

-- a fault of one text is that of all
pub keys_fault : (xs : List (String Global)) (i : ℕ) (x : String Global) (text : List ℕ) (fault : Fault) → i < length xs → x ≡ get_or xs i x → text ≡ string_bytes x
    → GivesKey {T = String Global} string_bytes text (Err fault) → GivesKeys {T = Vec ℕ Global} (λ lines. lines.items) (map string_bytes xs) (Err fault)
keys_fault xs i x text (Refused refusal) below at text_is gives = (gives.0, have_no_version xs i x below at (subst IsNoVersion text_is gives.1))
keys_fault xs i x text Memory below at text_is gives = tt
keys_fault xs i x text Read below at text_is gives = absurd gives
keys_fault xs i x text Write below at text_is gives = absurd gives
