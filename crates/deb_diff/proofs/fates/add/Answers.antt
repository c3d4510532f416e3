use Rattle.std.proofs.Common.{codes, refl}
use Rattle.std.proofs.lemmas.Result.{on_ok_weaker}
use Rattle.deb_diff.proofs.Fating.{kept_line, line-values}
use Rattle.deb_diff.proofs.fates.add.Goals as goal

pub returns : goal.returns
returns c = λ item is.
    on_ok_weaker c.append_whole.result
    (λ e. line-values c.args.out.now.items c.append_item.new.out.items c.append_whole.new.out.items _ _ _ _ c.in_ok-append_item.ensures (kept_line c.args.form.versions (codes "added") c.args.kept.now item is) e refl)
    (c.append_whole.ensures item is)
