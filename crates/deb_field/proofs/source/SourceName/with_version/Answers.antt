use Rattle.std.proofs.Common.{sym, ◌∙◌}
use Rattle.deb_version.specs.Version.{meaning_of}
use Rattle.deb_field.proofs.SourceLemmas.{source-short}
use Rattle.deb_field.proofs.source.SourceName.with_version.Goals as goal

pub invariant_of-result : goal.invariant_of-result
invariant_of-result c = record {
  well_formed = sym c.is_package_name.ensures ∙ c.if-not-is_package_name.false;
  short = source-short c.args.before.now c.args.behind.now c.without_trailing_blanks-name.result.now c.without_last.result.now c.trimmed.result.now (meaning_of c.in-Ok.version) c.requires
      (sym c.is_closed.ensures ∙ c.if-not-is_closed.false) c.without_trailing_blanks-name.ensures c.without_last.ensures c.trimmed.ensures c.in-Ok.ensures.ok;
}
