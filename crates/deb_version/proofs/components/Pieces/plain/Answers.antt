use Rattle.deb_version.proofs.Common.{[], ◌∷◌, Some, None, sym, ◌∙◌, subst, IsTrue, AllByRecursion, is_revision_byte}
use Rattle.deb_version.proofs.ByteLemmas.{all_pass-fact, empty-fact}
use Rattle.deb_version.proofs.Emptiness.{nil_of_length}
use Rattle.deb_version.proofs.PlainVersions.{joined, plain_allowed}
use Rattle.deb_version.proofs.Runs.{run_passes}
use Rattle.deb_version.proofs.components.Pieces.plain.Goals as goal
use Rattle.deb_version.proofs.components.Pieces.plain.Goals.{After-is_empty}

bytes : (c : After-is_empty) → AllByRecursion (λ b. IsTrue (is_revision_byte b)) c.split_at.result.0.now
bytes c = subst (AllByRecursion (λ b. IsTrue (is_revision_byte b))) (sym c.split_at.ensures.front) (run_passes is_revision_byte c.args.text.now c.revision_len.result c.revision_len.ensures.value)

pub returns-then-is_empty-2 : goal.returns-then-is_empty-2
returns-then-is_empty-2 c =
    let upstream = c.split_at.result.0.now in
    let behind = c.split_at.result.1.now in (
      plain_allowed upstream (sym c.is_empty.ensures ∙ c.if-is_empty.false) (bytes (goal.at.returns-then-is_empty-2 c).After-is_empty) None tt,
      joined c.args.text.now upstream behind c.revision_len.result c.split_at.ensures.front c.split_at.ensures.back [] (nil_of_length behind (sym c.is_empty-2.ensures ∙ c.if-is_empty-2.true)),
    )

pub returns : goal.returns
returns c =
    let upstream = c.split_at.result.0.now in
    let revision = c.in_ok-revision.revision.now in
    let is = c.is_revision.ensures c.if-not-is_revision.false in (
      plain_allowed upstream (sym c.is_empty.ensures ∙ c.if-is_empty.false) (bytes (goal.at.returns c).After-is_empty) (Some revision) (empty-fact revision is.0, all_pass-fact is_revision_byte revision is.1),
      joined c.args.text.now upstream c.split_at.result.1.now c.revision_len.result c.split_at.ensures.front c.split_at.ensures.back (45 ∷ revision) c.in_ok-revision.ensures,
    )
