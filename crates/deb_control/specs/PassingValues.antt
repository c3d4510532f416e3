-- The values of a paragraph that passes. Debian Policy 5.1.
use Rattle.std.specs.Prelude.{◌≡◌, ℕ, List, Option}
use Rattle.std.specs.FinMap.{find}
use Rattle.deb_base.specs.Names.{canonical_name}
use Rattle.deb_syntax.specs.Answers.{Seen}
use Rattle.deb_syntax.specs.Meaning.{byte_order}
use Rattle.deb_base.specs.declared.doc.Doc.{Doc}
use Rattle.deb_field.specs.Values.{ValueMeaning}
use Rattle.deb_control.specs.Paragraphs.{AreValuesOf}
use Rattle.deb_control.specs.ValueFiles.{ValueEntries}

-- Of the paragraph's values, this is the one under a name, without ASCII case.
pub record HasValue (doc : Doc) (seen : Seen) (name : List ℕ)
    (value : Option ValueMeaning) : Type 0 where
  pub values : ValueEntries ValueMeaning
  pub are : AreValuesOf doc seen values
  pub found : value ≡ find byte_order (canonical_name name) values
