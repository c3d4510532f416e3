use Rattle.deb_version.proofs.Common.{◌≡◌, ap, refl, sym, ◌∙◌, components_of}
use Rattle.deb_version.proofs.CanonicalWritten.{or_zero, or_zero-now, revision_left_out, revision_for_hyphen, revision_written}
use Rattle.deb_version.proofs.version.Version.written_revision.Goals as goal
use Rattle.deb_version.proofs.version.Version.written_revision.Goals.{After-is_no_revision, else-is_no_revision-via-then-is_no_revision+else-not-contains, else-is_no_revision-via-else-is_no_revision}

revision_is : (c : After-is_no_revision) → c.unwrap_or-revision.result.now ≡ or_zero (components_of c.args.self.now).revision
revision_is c = ap (λ r. r.now) c.unwrap_or-revision.ensures ∙ or_zero-now c.args.self.now.revision _ refl

pub returns-then-not-contains : goal.returns-then-not-contains
returns-then-not-contains c =
    let place = (goal.at.returns-then-not-contains c).After-is_no_revision in
    revision_left_out (components_of c.args.self.now) c.unwrap_or-revision.result.now (revision_is place) (sym c.is_no_revision.ensures ∙ c.if-is_no_revision.true)
    (sym c.contains.ensures.value ∙ c.if-not-contains.true)

pub returns-else-is_no_revision : goal.returns-else-is_no_revision
returns-else-is_no_revision c =
    let place = (goal.at.returns-else-is_no_revision c).After-is_no_revision in
    elim c.else-is_no_revision.branch [
      | else-is_no_revision-via-then-is_no_revision+else-not-contains w ↦
          revision_for_hyphen (components_of c.args.self.now) c.unwrap_or-revision.result.now (revision_is place) (sym c.is_no_revision.ensures ∙ w.if-is_no_revision.true)
          (sym w.contains.ensures.value ∙ w.if-not-contains.false)
      | else-is_no_revision-via-else-is_no_revision w ↦
          revision_written (components_of c.args.self.now) c.unwrap_or-revision.result.now (revision_is place) (sym c.is_no_revision.ensures ∙ w.if-is_no_revision.false)
    ]
