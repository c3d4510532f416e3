use Rattle.std.proofs.Common.{rules, map, [], Ok, ap, sym, ◌∙◌}
use Rattle.deb_relation.specs.Reading.{next_restrictions, read_formula}
use Rattle.deb_relation.specs.Sets.{insert_by}
use Rattle.deb_relation.specs.Texts.{restrictions_text}
use Rattle.deb_relation.specs.Views.{restrictions_of}
use Rattle.deb_relation.proofs.Gathering.{gather-none}
use Rattle.deb_relation.proofs.ReadLists.{step-next_restrictions}
use Rattle.deb_relation.proofs.SpelledLists.{no_list}
use Rattle.deb_relation.proofs.formula.read_formula.Goals as goal

pub returns-then-not-begins : goal.returns-then-not-begins
unfolding read_formula
returns-then-not-begins c =
    gather-none next_restrictions (insert_by restrictions_text) step-next_restrictions [] c.args.text.now (no_list c.args.text.now (search rules))
    ∙ ap (λ items. Ok (map restrictions_of items, c.args.text.now)) (sym c.new.ensures.items)
