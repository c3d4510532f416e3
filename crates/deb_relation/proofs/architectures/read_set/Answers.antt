use Rattle.std.proofs.Common.{[]}
use Rattle.std.proofs.lemmas.Result.{err_from_is_err_and}
use Rattle.deb_relation.specs.Grammar.{set_of}
use Rattle.deb_relation.specs.Reading.{append, next_architecture}
use Rattle.deb_relation.specs.Sets.{insert_by, itself}
use Rattle.deb_relation.specs.Views.{names_of}
use Rattle.deb_relation.proofs.GatheredSets.{mapped-ok, mapped-stop, put_member}
use Rattle.deb_relation.proofs.architectures.read_set.Goals as goal

pub returns-in_err-names : goal.returns-in_err-names
returns-in_err-names c =
    let p = err_from_is_err_and c.from_residual.result c.from_residual.ensures.1 in
    mapped-stop (next_architecture c.args.negated) append (insert_by itself) (set_of itself) (put_member itself) [] c.args.text.now (λ p. (names_of p.0.items, p.1.now)) (λ p. (names_of p.0.items, p.1.now)) c.from_residual.result p.0 _ p.1 p.2 c.in_err-names.ensures

pub returns : goal.returns
returns c = mapped-ok (next_architecture c.args.negated) append (insert_by itself) (set_of itself) (put_member itself) [] c.args.text.now (names_of c.in_ok-names.names.items) (names_of c.sort_names.new.names.items) c.in_ok-names.rest.now c.in_ok-names.ensures c.in_ok-sort_names.ensures
