use Rattle.deb_version.proofs.Common.{arith}
use Rattle.deb_version.proofs.ParseLemmas.{allowed, short_spelling}
use Rattle.deb_version.proofs.version.Version.of_faultless.Goals as goal

pub invariant_of-result : goal.invariant_of-result
invariant_of-result c = record {
  well_formed = allowed c.args.text.now _ c.of.ensures c.requires;
  short = short_spelling c.args.text.now _ c.of.ensures (omega (arith, c.well_formed.0.1));
}
