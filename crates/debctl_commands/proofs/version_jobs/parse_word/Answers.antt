use Rattle.std.proofs.Common.{refl, subst, sym}
use Rattle.deb_version.specs.Grammar.{SpellsVersion}
use Rattle.debctl_commands.proofs.version_jobs.parse_word.Goals as goal

pub returns-in-Err : goal.returns-in-Err
returns-in-Err c = (refl, λ version spelled. c.in-Err.ensures.accepted version (subst (λ text. SpellsVersion text version) (sym c.as_bytes.ensures.value) spelled))
