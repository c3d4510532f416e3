use Rattle.std.proofs.Common.{◌≡◌, ◌++◌, map}
use Rattle.deb_syntax.specs.Raw.{field_of, fields_left}
use Rattle.deb_control.specs.CheckedStates.{doc_judged, passing_judged}
use Rattle.deb_control.specs.Paragraphs.{AreValuesOf}
use Rattle.deb_control.specs.ValueFiles.{ValueEntries}
use Rattle.deb_field.specs.Values.{ValueMeaning}
use Rattle.deb_select.specs.Conditions.{SelectionMeaning}
use Rattle.deb_select.specs.Selections.{HasConditions}
use Rattle.deb_select.proofs.Judging.{JudgedSo}
use Rattle.deb_select.proofs.selection.Selection.selects.Given as goal

abbrev pub invariant-loop-field : goal.invariant-loop-field
invariant-loop-field l = record {
  fields : map field_of l.yielded ++ fields_left l.field-iterator ≡ fields_left l.initial.field-iterator;
  judged : (meaning : SelectionMeaning) (values : ValueEntries ValueMeaning) → HasConditions (doc_judged l.paragraph) meaning l.self → AreValuesOf (doc_judged l.paragraph) (passing_judged l.paragraph).seen values
      → JudgedSo meaning.conditions values (map field_of l.yielded) l.left;
}
