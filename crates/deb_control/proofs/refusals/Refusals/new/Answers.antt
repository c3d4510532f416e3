use Rattle.std.proofs.Common.{[], refl}
use Rattle.deb_control.proofs.GivenRefusals.{are_first, awaits_all, takes_none}
use Rattle.deb_control.proofs.refusals.Refusals.new.Goals as goal

pub returns-clause-starts : goal.returns-clause-starts
returns-clause-starts c = λ text. record {
  first = are_first c.args.doc text [] _ refl;
  refused = refl;
  taken = takes_none text;
  reads = c.new.ensures.doc;
  stands = awaits_all c.args.doc text _ _ (c.new.ensures.fits text);
}
