use Rattle.std.proofs.Common.{◌*◌, ◌≤◌, length, subst, sym}
use Rattle.deb_field.specs.Shown.{folded_words}
use Rattle.deb_field.specs.WordLaws.{folded_law}
use Rattle.deb_field.proofs.folded.FoldedCanon.canon_len.Goals as goal

pub returns-clause-short : goal.returns-clause-short
returns-clause-short c body s =
    subst (λ n. n ≤ 2 * length body) (sym c.words_len.ensures)
    (folded_law.is_short body (folded_words c.args.self.now) s)
