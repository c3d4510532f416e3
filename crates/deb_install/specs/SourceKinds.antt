-- The kinds of files that describe source packages. Debian Policy 5.4 and 5.6.1.
use Rattle.std.specs.Prelude.{◌≡◌, ℕ, List, [], ◌∷◌, codes, map, refl}
use Rattle.deb_base.specs.declared.doc.Doc.{Doc}
use Rattle.deb_base.specs.declared.doc.Doc.TheVariants as docs
use Rattle.deb_install.specs.declared.source_kind.SourceKind.{SourceKind}
use Rattle.deb_install.specs.declared.source_kind.SourceKind.TheVariants.{Sources, Source}

abbrev pub doc_of : SourceKind → Doc
doc_of Sources = docs.Sources
doc_of Source = docs.Source

-- the field that names a package
abbrev pub name_field : SourceKind → List ℕ
name_field Sources = codes "Package"
name_field Source = codes "Source"

worked-kinds : (map doc_of (Sources ∷ Source ∷ []) ≡ docs.Sources ∷ docs.Source ∷ [])
    × (map name_field (Sources ∷ Source ∷ []) ≡ codes "Package" ∷ codes "Source" ∷ [])
worked-kinds = (refl, refl)
