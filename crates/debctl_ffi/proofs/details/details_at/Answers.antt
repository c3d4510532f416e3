use Rattle.std.proofs.Common.{◌∙◌, ap, inl, sym}
use Rattle.deb_index.specs.FirstLines.{line_at}
use Rattle.deb_index.specs.Kept.{line_of, listed_of}
use Rattle.deb_index.specs.Named.{package_at}
use Rattle.debctl_ffi.specs.Details.{at_line}
use Rattle.debctl_ffi.proofs.Loading.{lines_held, packages_held}
use Rattle.debctl_ffi.proofs.details.details_at.Goals as goal

pub returns-in-Ok-clause-answers : goal.returns-in-Ok-clause-answers
returns-in-Ok-clause-answers c = inl (record {
  told = c.at_line.result;
  items = c.deref.result.now;
  found = (
    ap (λ a. a.status) c.at_line.ensures,
    λ packages has lines has_lines. record {
      listed = listed_of c.in-Some-package.found;
      line = line_of c.in-Some-package.found;
      is = ap (λ ps. package_at c.args.number ps) (packages_held c.args.loaded.now c.in-Some.index packages c.in-Some.is has)
          ∙ sym c.in-Some-package.ensures.listed;
      starts = ap (λ ls. line_at c.args.number ls) (lines_held c.args.loaded.now c.in-Some.index lines c.in-Some.is has_lines)
          ∙ sym c.in-Some-package.ensures.line;
      answer_is = c.at_line.ensures ∙ ap at_line c.line.ensures;
      kept = c.deref.ensures.value ∙ c.in-Ok.ensures;
    },
  );
  replies = c.reply.ensures;
})
