-- What is reported of words that ask for no job. The texts and the statuses are this project's own.
use Rattle.std.proofs.Common.{inl}
use Rattle.std.specs.Prelude.{◌≡◌, ◌⊎◌, ℕ, List, [], ◌∷◌, ◌++◌, length, Option, Some, String}
use Rattle.std.specs.Prelude.{string_bytes, codes, refl}
use Rattle.std.specs.Str.{is_utf8, chars}
use lib.Utf8.{encode}
use Rattle.std.specs.declared.alloc.Global.{Global}
use Rattle.deb_base.specs.Bodies.{newline}
use Rattle.deb_base.specs.Literals.{string}
use Rattle.deb_base.specs.declared.fault.Fault.TheVariants as fault
use Rattle.debctl_commands.specs.Reporting.{ReportsFault, ReportsFront, ReportsUnwritten}
use Rattle.debctl_commands.specs.Reporting.{ReportsWhole}
use Rattle.debctl_args.specs.declared.arguments.UsageFault.{UsageFault}
use Rattle.debctl_args.specs.declared.arguments.UsageFault.TheVariants.{Usage, Help, Memory}

-- a text with its newline
abbrev pub line_of : List ℕ → List ℕ
line_of text = text ++ newline ∷ []

-- A mistake by its text on `err`, with status 3; a call for help by the help on `out`, with
-- status 0.
abbrev pub ReportsUsage : {W E : Type 0} → (W → Option (List ℕ)) → (W → ℕ) → W → W →
    (E → Option (List ℕ)) → (E → ℕ) → E → E → UsageFault → ℕ → Type 0
ReportsUsage held writes out new held_err failures_err err err_after (Usage text) status =
    (new ≡ out)
    × (ReportsWhole held_err failures_err err err_after (line_of (string_bytes text)) 3 status
    ⊎ ReportsFront held_err failures_err err err_after (line_of (string_bytes text)) status)
ReportsUsage held writes out new held_err failures_err err err_after (Help text) status =
    (ReportsWhole held writes out new (line_of (string_bytes text)) 0 status × (err_after ≡ err))
    ⊎ ReportsUnwritten held writes out new held_err failures_err err err_after
    (line_of (string_bytes text)) status
ReportsUsage held writes out new held_err failures_err err err_after Memory status =
    (new ≡ out) × ReportsFault held_err failures_err err err_after fault.Memory status

line_of_usage : (line_of (codes "usage: unknown code") ≡ codes "usage: unknown code\n")
    × (line_of [] ≡ codes "\n")
line_of_usage = (refl, refl)

-- for the worked cases: the text of a mistake, or of the help
abbrev usage : String Global
unfolding is_utf8 chars encode
usage = string (codes "no") refl refl

-- a mistake has the status 3, and help that was written has the status 0
told_of_usage : ReportsUsage Some length [] [] Some (λ held. 7) [] (codes "no\n") (Usage usage) 3
    × ReportsUsage Some (λ held. 7) [] (codes "no\n") Some length [] [] (Help usage) 0
unfolding usage
told_of_usage = (
  (refl, inl (record { written = refl; counted = refl; status = refl })),
  inl (record { written = refl; counted = refl; status = refl }, refl),
)
