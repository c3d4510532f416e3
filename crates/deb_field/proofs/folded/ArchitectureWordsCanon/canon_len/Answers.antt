use Rattle.std.proofs.Common.{◌*◌, ◌≤◌, length, subst, sym}
use Rattle.deb_field.specs.Shown.{architectures_named}
use Rattle.deb_field.specs.WordLaws.{architectures_law}
use Rattle.deb_field.proofs.folded.ArchitectureWordsCanon.canon_len.Goals as goal

pub returns-clause-short : goal.returns-clause-short
returns-clause-short c body s =
    subst (λ n. n ≤ 2 * length body) (sym c.words_len.ensures)
    (architectures_law.is_short body (architectures_named c.args.self.now) s)
