use Rattle.std.proofs.Common.{◌∙◌, ap, inl, sym}
use Rattle.deb_index.specs.Kept.{listed_of}
use Rattle.deb_index.specs.Named.{package_at}
use Rattle.debctl_ffi.proofs.Loading.{packages_held}
use Rattle.debctl_ffi.proofs.loaded.Loaded.package_at.Goals as goal

pub returns-in-Ok-clause-answers : goal.returns-in-Ok-clause-answers
returns-in-Ok-clause-answers c = inl (record {
  told = c.yes.result;
  items = c.deref.result.now;
  found = (
    c.yes.ensures,
    λ packages has. record {
      listed = listed_of c.in-Some-package.found;
      is = ap (λ ps. package_at c.args.number ps) (packages_held c.args.self.now c.in-Some.index packages c.in-Some.is has)
          ∙ sym c.in-Some-package.ensures.listed;
      words = c.deref.ensures.value ∙ c.in-Ok.ensures;
    },
  );
  replies = c.reply.ensures;
})
