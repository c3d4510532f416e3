-- Status 2 of the jobs that report every refusal of a file.
use Rattle.std.proofs.Common.{◌≡◌, ℕ, List, [], ◌∷◌, length, Option, refl, subst}
use Rattle.std.specs.Prelude.{◌==◌, if◌then◌else◌}
use Rattle.std.specs.Io.KnownBytes.{Appends}
use Rattle.deb_base.specs.declared.doc.Doc.{Doc}
use Rattle.deb_base.specs.declared.refusal.Refusal.{Refusal}
use Rattle.deb_control.specs.AllRefusals.{refusals_of}
use Rattle.debctl_commands.specs.AllJobs.{WritesRefusals}

abbrev status_of : ℕ → ℕ
status_of n = if n == 0 then 0 else 2

-- a file of this status has a refusal
two_has_one : (refusals : List Refusal) (n : ℕ) → n ≡ length refusals → status_of n ≡ 2 → (first : Refusal) × (more : List Refusal) × (refusals ≡ first ∷ more)
two_has_one [] n is two = let bad : status_of 0 ≡ 2 = subst (λ m. status_of m ≡ 2) is two in cc
two_has_one (first ∷ more) n is two = (first, more, refl)

pub writes_refusals : (doc : Doc) (text lines : List ℕ) (old new : Option (List ℕ)) (n : ℕ) → n ≡ length (refusals_of doc text) → status_of n ≡ 2 → Appends old new lines → WritesRefusals doc text lines old new
writes_refusals doc text lines old new n is two written =
    let has = two_has_one (refusals_of doc text) n is two in
    record { first = has.0; more = has.1; refusals = has.2; written = written }
