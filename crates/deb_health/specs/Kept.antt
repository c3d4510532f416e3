-- What is kept of a package until the whole set is read. Debian Policy 7.2 to 7.4; which texts are
-- kept is this project's own.
use Rattle.std.specs.Prelude.{List, codes}
use Rattle.deb_syntax.specs.Fields.{Field}
use Rattle.deb_field.specs.Values.{ValueMeaning}
use Rattle.deb_control.specs.FieldWords.{value_under}
use Rattle.deb_control.specs.ValueFiles.{ValueEntries}
use Rattle.deb_unmet.specs.KeptParagraphs.{HoldsTexts}
use Rattle.deb_unmet.specs.Paragraphs.{IsRelationText}
use Rattle.deb_health.specs.declared.kept.Kept.{Kept}

-- The texts of its lines about unmet groups, and the canonical ones of Conflicts and Breaks.
pub record HoldsMember (fields : List Field) (values : ValueEntries ValueMeaning) (kept : Kept) :
    Type 0 where
  pub unmet : HoldsTexts fields values kept.unmet
  pub conflicts : IsRelationText kept.conflicts.items (value_under (codes "Conflicts") values)
  pub breaks : IsRelationText kept.breaks.items (value_under (codes "Breaks") values)
