-- What tables of fields have.
use Rattle.std.specs.Prelude.{ℕ, List}
use Rattle.deb_base.specs.declared.doc.Doc.{Doc}
use Rattle.debctl_ffi.specs.Fields.{AreFields, AreTables, Numbered}
use Rattle.debctl_ffi.specs.declared.field.Tables.{Tables}

-- They have these fields.
abbrev pub HasTables : Tables → List Numbered → Type 0
HasTables tables shown = AreTables shown tables.spans.items tables.names.items tables.values.items

-- They have the fields of the paragraphs of the file that pass.
pub record ShowFields (doc : Doc) (text : List ℕ) (tables : Tables) : Type 0 where
  pub shown : List Numbered
  pub are : AreFields doc text shown
  pub has : HasTables tables shown
