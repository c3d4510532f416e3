use Rattle.std.proofs.Common.{◌≡◌, map, sym, ap, ◌∙◌, subst}
use Rattle.std.proofs.lemmas.List.Folds.{list_all-map}
use Rattle.std.proofs.lemmas.Result.{IfOk-weaker}
use Rattle.std.specs.List.{list_all}
use Rattle.deb_base.specs.Kinds.{kind_of}
use Rattle.deb_field.specs.ValueLaws.{kind_law}
use Rattle.deb_field.specs.ValueMeanings.{value_meaning}
use Rattle.deb_field.specs.Values.{SpellsKind}
use Rattle.deb_select.specs.Kept.{passes_kept, test_shown, value_kept}
use Rattle.deb_select.proofs.selection.all_pass.Goals as goal

pub returns-then-lacks_name : goal.returns-then-lacks_name
returns-then-lacks_name c = λ value spells.
    let field = c.args.field.now in
    let is_kind : c.kind-kind.result ≡ kind_of c.args.doc field.name.now = c.kind-kind.ensures field.name.now (sym field.named) in
    sym
    (list_all-map (λ test. passes_kept test (value_kept value)) test_shown c.args.tests.now
    ∙ c.lacks_name.ensures c.if-lacks_name.true value (subst (λ k. SpellsKind k field.body.now value) (sym is_kind) spells))

pub returns : goal.returns
returns c = λ value spells.
    let field = c.args.field.now in
    let kind = kind_of c.args.doc field.name.now in
    let is_kind : c.kind-kind.result ≡ kind = c.kind-kind.ensures field.name.now (sym field.named) in
    let same : value_meaning c.in-Ok.value ≡ value =
    (kind_law kind).one_meaning field.body.now (value_meaning c.in-Ok.value) value (subst (λ k. SpellsKind k field.body.now (value_meaning c.in-Ok.value)) is_kind c.in-Ok.ensures.ok) spells in
    IfOk-weaker c.value_passes.result (λ passed. passed ≡ list_all (λ test. passes_kept (test_shown test) (value_kept (value_meaning c.in-Ok.value))) c.args.tests.now)
    (λ passed. passed ≡ list_all (λ test. passes_kept test (value_kept value)) (map test_shown c.args.tests.now))
    (λ passed is. is
    ∙ ap (λ value. list_all (λ test. passes_kept (test_shown test) (value_kept value)) c.args.tests.now) same
    ∙ sym (list_all-map (λ test. passes_kept test (value_kept value)) test_shown c.args.tests.now)) c.value_passes.ensures
