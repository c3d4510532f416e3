use Rattle.std.proofs.Common.{◌++◌, length, subst, sym}
use Rattle.debctl_ffi.specs.Feeds.{ShowNext}
use Rattle.debctl_ffi.proofs.reader.Reader.read.Goals as goal

pub returns-in-Ok-shorten-clause-piece : goal.returns-in-Ok-shorten-clause-piece
returns-in-Ok-shorten-clause-piece c = λ doc fed given is shows on.
    let takes = c.in-Ok.ensures.ok doc fed given is shows in
    record {
      fresh = takes.fresh;
      fed = c.in-Ok-shorten.ensures.fed doc (fed ++ c.args.text.now) (given ++ takes.fresh) takes.fed;
      shows = subst (ShowNext (length given) takes.fresh) (sym c.in-Ok-shorten.ensures.tables) takes.shows;
    }
