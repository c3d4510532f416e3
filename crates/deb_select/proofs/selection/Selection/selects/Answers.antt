use Rattle.std.proofs.Common.{◌≡◌, ◌++◌, ◌∷◌, [], map, rules, sym, ap, ◌∙◌, subst}
use Rattle.std.proofs.lemmas.List.{map-append}
use Rattle.deb_syntax.specs.Raw.{field_of, fields_left}
use Rattle.deb_control.specs.CheckedStates.{doc_judged, passing_judged}
use Rattle.deb_select.specs.Selections.{tests_lent}
use Rattle.deb_select.proofs.Judging.{JudgedSo, none-judged}
use Rattle.deb_select.proofs.Selected.{asked-fails, asked-next, fields-all, fields-next, judged-all, judged-early, unasked-next}
use Rattle.deb_select.proofs.selection.Selection.selects.Goals as goal

pub loop-field-init : goal.loop-field-init
loop-field-init c = record { fields = search rules; judged = λ meaning values has are. none-judged meaning.conditions values c.args.self.now.count has.counted }

pub returns-then-left-eq0 : goal.returns-then-left-eq0
returns-then-left-eq0 c = λ meaning values has are.
    judged-early (doc_judged c.args.paragraph.now) (passing_judged c.args.paragraph.now).seen c.args.paragraph.now.raw.fields meaning values are c.args.self.now has (map field_of c.loop-field.yielded) c.loop-field.left
    c.if-left-eq0.true (c.loop-field.invariant.judged meaning values has are)

pub returns-then-not-branch : goal.returns-then-not-branch
returns-then-not-branch c = λ meaning values has are.
    let seen = (passing_judged c.args.paragraph.now).seen in
    let done = map field_of c.loop-field.yielded in
    let field = field_of c.in-Some.field in
    let whole : done ++ field ∷ fields_left c.next.new.self ≡ seen.fields =
    ap (λ l. done ++ l) (sym c.in-Some.ensures.steps) ∙ c.loop-field.invariant.fields ∙ ap fields_left c.into_iter-field-iterator.ensures.into_iter_gives ∙ c.fields-field-items.ensures in
    asked-fails (doc_judged c.args.paragraph.now) seen c.args.paragraph.now.raw.fields meaning values are c.args.self.now has done (fields_left c.next.new.self) field whole c.in-Some-2.tests.now
    (ap tests_lent (sym c.in-Some-2.is) ∙ c.in_ok-tests.ensures (doc_judged c.args.paragraph.now) meaning has) c.in_ok-all_pass.field-0 c.in_ok-all_pass.ensures c.if-not-branch.true

pub loop-field-preserved : goal.loop-field-preserved
loop-field-preserved c =
    let seen = (passing_judged c.args.paragraph.now).seen in
    let done = map field_of c.loop-field.yielded in
    let field = field_of c.in-Some.field in
    record {
      fields = fields-next field_of c.loop-field.yielded c.in-Some.field (fields_left c.loop-field.field-iterator) (fields_left c.next.new.self) _ c.in-Some.ensures.steps c.loop-field.invariant.fields;
      judged = λ meaning values has are.
          let whole : done ++ field ∷ fields_left c.next.new.self ≡ seen.fields =
          ap (λ l. done ++ l) (sym c.in-Some.ensures.steps) ∙ c.loop-field.invariant.fields ∙ ap fields_left c.into_iter-field-iterator.ensures.into_iter_gives ∙ c.fields-field-items.ensures in
          subst (λ l. JudgedSo meaning.conditions values l c.loop-field.left) (sym (map-append field_of c.loop-field.yielded (c.in-Some.field ∷ [])))
          (unasked-next (doc_judged c.args.paragraph.now) seen c.args.paragraph.now.raw.fields meaning values are c.args.self.now has done (fields_left c.next.new.self) field whole c.loop-field.left
          (ap tests_lent (sym c.in_default.is) ∙ c.in_ok-tests.ensures (doc_judged c.args.paragraph.now) meaning has) (c.loop-field.invariant.judged meaning values has are));
    }

pub loop-field-preserved-in-Some-2 : goal.loop-field-preserved-in-Some-2
loop-field-preserved-in-Some-2 c =
    let seen = (passing_judged c.args.paragraph.now).seen in
    let done = map field_of c.loop-field.yielded in
    let field = field_of c.in-Some.field in
    record {
      fields = fields-next field_of c.loop-field.yielded c.in-Some.field (fields_left c.loop-field.field-iterator) (fields_left c.next.new.self) _ c.in-Some.ensures.steps c.loop-field.invariant.fields;
      judged = λ meaning values has are.
          let whole : done ++ field ∷ fields_left c.next.new.self ≡ seen.fields =
          ap (λ l. done ++ l) (sym c.in-Some.ensures.steps) ∙ c.loop-field.invariant.fields ∙ ap fields_left c.into_iter-field-iterator.ensures.into_iter_gives ∙ c.fields-field-items.ensures in
          subst (λ l. JudgedSo meaning.conditions values l c.saturating_sub-left.result) (sym (map-append field_of c.loop-field.yielded (c.in-Some.field ∷ [])))
          (asked-next (doc_judged c.args.paragraph.now) seen c.args.paragraph.now.raw.fields meaning values are c.args.self.now has done (fields_left c.next.new.self) field whole c.in-Some-2.tests.now
          (ap tests_lent (sym c.in-Some-2.is) ∙ c.in_ok-tests.ensures (doc_judged c.args.paragraph.now) meaning has) c.in_ok-all_pass.field-0 c.in_ok-all_pass.ensures
          c.loop-field.left c.saturating_sub-left.result c.saturating_sub-left.ensures c.if-not-branch.false (c.loop-field.invariant.judged meaning values has are));
    }

pub returns : goal.returns
returns c = λ meaning values has are.
    let seen = (passing_judged c.args.paragraph.now).seen in
    let all : map field_of c.loop-field.yielded ≡ seen.fields =
    fields-all (map field_of c.loop-field.yielded) (fields_left c.loop-field.field-iterator) seen.fields c.in-None.ensures.steps.0 (c.loop-field.invariant.fields ∙ ap fields_left c.into_iter-field-iterator.ensures.into_iter_gives ∙ c.fields-field-items.ensures) in
    judged-all (doc_judged c.args.paragraph.now) seen c.args.paragraph.now.raw.fields meaning values are c.args.self.now has c.loop-field.left
    (subst (λ l. JudgedSo meaning.conditions values l c.loop-field.left) all (c.loop-field.invariant.judged meaning values has are))
