use Rattle.std.proofs.Common.{ap, rules, tests}
use Rattle.std.proofs.lemmas.Iterator.Consumers.{YieldsList-from_first}
use Rattle.std.proofs.lemmas.Iterator.Search.{all_from_yields_List}
use Rattle.deb_base.specs.PackageNames.{is_arch_name}
use Rattle.deb_field.specs.Words.{words_of}
use Rattle.deb_field.proofs.folded.are_arch_names.Goals as goal

pub returns : goal.returns
returns c =
    all_from_yields_List is_arch_name c.all.new.self _ _ c.all.ensures.ran
    (YieldsList-from_first (λ x. x.now) (λ w. words_of w.rest.now) (words_of c.args.body.now) (ap words_of c.of.ensures))
    (λ x r q k. search (rules, tests))
