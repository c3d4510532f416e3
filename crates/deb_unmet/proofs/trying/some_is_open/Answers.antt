use Rattle.std.proofs.Common.{sym, ◌∙◌, rules, tests}
use Rattle.std.proofs.lemmas.Iterator.Consumers.{YieldsList-from_first}
use Rattle.std.proofs.lemmas.Iterator.Search.{any_from_yields_List}
use Rattle.deb_field.specs.Words.{words_of}
use Rattle.deb_unmet.specs.Readings.{is_open}
use Rattle.deb_unmet.proofs.trying.some_is_open.Goals as goal

pub returns : goal.returns
returns c =
    any_from_yields_List is_open c.any.new.self _ _ c.any.ensures.ran
    (YieldsList-from_first (λ x. x.now) (λ w. words_of w.rest.now) (words_of c.args.text.now) (c.words.ensures ∙ sym c.new.ensures))
    (λ x r q k. search (rules, tests))
