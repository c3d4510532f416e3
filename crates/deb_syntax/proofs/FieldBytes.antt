-- The bytes of a name and of the spaces and tabs around a body, and that the body of a field whose lines are text is text.
use Rattle.deb_syntax.proofs.Common.{List, ◌∷◌, ◌++◌, subst, arith, AllByRecursion, Line, Field, SpellsField, colon, name_is_ascii, blanks_are_ascii, IsUtf8-after_all_ascii, IsUtf8-before_all_ascii, IsUtf8-after_ascii, IsUtf8-joined}
use Rattle.std.specs.Str.{IsUtf8}

-- the body of a field whose lines are text is text
pub IsUtf8-body : (own : List Line) (field : Field) → AllByRecursion IsUtf8 own → SpellsField own field → IsUtf8 field.body
IsUtf8-body own field text spells =
    let whole = subst IsUtf8 spells.spelt (IsUtf8-joined own text) in
    let behind_name = IsUtf8-after_all_ascii field.name (colon ∷ (spells.before ++ (field.body ++ spells.after))) (name_is_ascii field.name spells.name) whole in
    let behind_colon = IsUtf8-after_ascii colon (spells.before ++ (field.body ++ spells.after)) (omega arith) behind_name in
    let behind_blanks = IsUtf8-after_all_ascii spells.before (field.body ++ spells.after) (blanks_are_ascii spells.before spells.before_blank) behind_colon in
    IsUtf8-before_all_ascii field.body spells.after (blanks_are_ascii spells.after spells.after_blank) behind_blanks
