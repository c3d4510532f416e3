-- What is kept of source packages until all of them are read. Debian Policy 5.6.1, 5.6.12 and 7.7;
-- what is kept is this project's own.
use Rattle.std.specs.Prelude.{◌≡◌, ℕ, List, codes}
use Rattle.deb_field.specs.Values.{ValueMeaning}
use Rattle.deb_control.specs.Documents.{Meaning, Accepted}
use Rattle.deb_control.specs.FieldWords.{value_under, word_under}
use Rattle.deb_control.specs.Pairs.{Pairwise}
use Rattle.deb_control.specs.ValueFiles.{ValueEntries}
use Rattle.deb_unmet.specs.Paragraphs.{IsRelationText}
use Rattle.deb_install.specs.SourceKinds.{doc_of, name_field}
use Rattle.deb_install.specs.declared.kept_source.KeptBuild.{KeptBuild}
use Rattle.deb_install.specs.declared.kept_source.KeptSource.{KeptSource}
use Rattle.deb_install.specs.declared.source_kind.SourceKind.{SourceKind}

-- The canonical texts of its build dependencies, and of what must not be there when it is built.
pub record HoldsBuild (values : ValueEntries ValueMeaning) (kept : KeptBuild) : Type 0 where
  pub depends : IsRelationText kept.depends.items (value_under (codes "Build-Depends") values)
  pub depends_arch : IsRelationText kept.depends_arch.items
      (value_under (codes "Build-Depends-Arch") values)
  pub depends_indep : IsRelationText kept.depends_indep.items
      (value_under (codes "Build-Depends-Indep") values)
  pub conflicts : IsRelationText kept.conflicts.items
      (value_under (codes "Build-Conflicts") values)
  pub conflicts_arch : IsRelationText kept.conflicts_arch.items
      (value_under (codes "Build-Conflicts-Arch") values)
  pub conflicts_indep : IsRelationText kept.conflicts_indep.items
      (value_under (codes "Build-Conflicts-Indep") values)

-- These, its name, and the canonical text of its version.
pub record HoldsSource (kind : SourceKind) (values : ValueEntries ValueMeaning)
    (kept : KeptSource) : Type 0 where
  pub name : kept.name.items ≡ word_under (name_field kind) values
  pub version : kept.version.items ≡ word_under (codes "Version") values
  pub build : HoldsBuild values kept.build

-- The file is accepted, and this is kept of its source packages, in their order.
pub record HoldsSources (kind : SourceKind) (text : List ℕ) (kept : List KeptSource) : Type 0 where
  pub meaning : Meaning
  pub accepted : Accepted (doc_of kind) text meaning
  pub holds : Pairwise (HoldsSource kind) meaning kept
