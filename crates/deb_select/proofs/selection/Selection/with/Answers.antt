use Rattle.std.proofs.Common.{◌≡◌, ◌+◌, ◌∷◌, [], length-append, sym, ap, ◌∙◌}
use Rattle.deb_base.specs.Names.{folded}
use Rattle.deb_base.specs.Kinds.{known_row}
use Rattle.deb_base.proofs.CanonicalNames.{canonical_name-folded, folded-from_canonical_name}
use Rattle.deb_select.specs.Kept.{test_shown}
use Rattle.deb_select.specs.Selections.{IsSpelled, tests_under}
use Rattle.deb_select.proofs.Asked.{all-push, rows_marked, same_row, tests_added}
use Rattle.deb_select.proofs.selection.Selection.with.Goals as goal

pub returns : goal.returns
returns c = λ doc meaning added has is.
    let name : c.args.condition.name.items ≡ folded added.name = ap (λ k. k.name) is.shown in
    let row : c.row-row.result ≡ known_row added.name =
    c.row-row.ensures ∙ c.of.ensures ∙ ap known_row c.deref.ensures.value ∙ same_row c.args.condition.name.items added.name (ap folded name ∙ folded-from_canonical_name (folded added.name) added.name (canonical_name-folded added.name)) in
    record {
      of_kind = has.of_kind;
      negated = has.negated;
      tests = tests_added meaning.conditions added c.args.condition.name.items (test_shown c.args.condition.test) (tests_under c.args.self.tests) (tests_under c.put.new.tests) name (ap (λ k. k.test) is.shown) has.tests c.in_ok-put.ensures;
      counted = ap (λ n. n + 1) has.counted ∙ sym (length-append meaning.conditions (added ∷ []));
      rows = rows_marked c.args.self.rows c.mark.new.rows c.row-row.result meaning.conditions added c.mark.ensures row has.rows;
      spelled = all-push (IsSpelled doc) meaning.conditions added has.spelled (is.text, is.spells);
    }
