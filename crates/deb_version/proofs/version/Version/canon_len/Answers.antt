use Rattle.deb_version.proofs.Common.{◌≡◌, ◌+◌, [], ◌∷◌, length, ap, arith, length-append, epoch_text, revision_text, canonical_epoch, components_of, meaning_of}
use Rattle.deb_version.proofs.CanonicalFits.{canonical_fits, length-canonical, length-version_text}
use Rattle.deb_version.proofs.version.Version.canon_len.Goals as goal
use Rattle.deb_version.proofs.version.Version.canon_len.Goals.{After-written_revision, in-Some, in_default}

-- the length with the epoch, where canonical text has one
with_epoch : (c : After-written_revision) → c.match-written_epoch.len ≡ c.component_len-len.result + length (epoch_text (canonical_epoch (meaning_of c.args.self.now)))
with_epoch c =
    elim c.match-written_epoch.branch [
      | in-Some w ↦ omega (arith, w.len-is, ap (λ o. length (epoch_text o)) w.in-Some.ensures, length-append w.in-Some.epoch.now (58 ∷ []))
      | in_default w ↦ omega (arith, w.len-is, ap (λ o. length (epoch_text o)) w.in_default.ensures)
    ]

pub overflow_add-len-in-Some-written_revision-2 : goal.overflow_add-len-in-Some-written_revision-2
overflow_add-len-in-Some-written_revision-2 c =
    let v = c.args.self.now in
    let fits = canonical_fits (components_of v) v.well_formed v.short in
    let whole = length-version_text (meaning_of v) in
    let revision = ap (λ o. length (revision_text o)) c.in-Some-written_revision.ensures in
    let epoch = with_epoch (goal.at.overflow_add-len-in-Some-written_revision-2 c).After-written_revision in
    omega (arith, fits, whole, revision, epoch, c.component_len-len.ensures.value, c.component_len.ensures.value)

pub returns-in-Some-written_revision-clause-short : goal.returns-in-Some-written_revision-clause-short
returns-in-Some-written_revision-clause-short c =
    let v = c.args.self.now in
    let twice = length-canonical (components_of v) v.well_formed in
    let whole = length-version_text (meaning_of v) in
    let revision = ap (λ o. length (revision_text o)) c.in-Some-written_revision.ensures in
    let epoch = with_epoch (goal.at.returns-in-Some-written_revision-clause-short c).After-written_revision in
    omega (arith, twice, whole, revision, epoch, c.component_len-len.ensures.value, c.component_len.ensures.value)

pub returns-in_default-written_revision-clause-short : goal.returns-in_default-written_revision-clause-short
returns-in_default-written_revision-clause-short c =
    let v = c.args.self.now in
    let twice = length-canonical (components_of v) v.well_formed in
    let whole = length-version_text (meaning_of v) in
    let revision = ap (λ o. length (revision_text o)) c.in_default-written_revision.ensures in
    let epoch = with_epoch (goal.at.returns-in_default-written_revision-clause-short c).After-written_revision in
    omega (arith, twice, whole, revision, epoch, c.component_len-len.ensures.value)
