-- Which kinds of files are compared, and what names their paragraphs. Debian Policy 5.3 and 5.4;
-- dpkg(1) (the status file).
use Rattle.std.specs.Prelude.{◌≡◌, ℕ, Bool, true, false, List, [], ◌∷◌, map, codes, refl}
use Rattle.deb_base.specs.declared.doc.Doc.{Doc}
use Rattle.deb_base.specs.declared.doc.Doc.TheVariants as docs
use Rattle.deb_diff.specs.declared.kind.Kind.{Kind}
use Rattle.deb_diff.specs.declared.kind.Kind.TheVariants.{Packages, Binary, Sources, Source, Status}

abbrev pub doc_of : Kind → Doc
doc_of Packages = docs.Packages
doc_of Binary = docs.Binary
doc_of Sources = docs.Sources
doc_of Source = docs.Source
doc_of Status = docs.Status

-- its paragraphs are binary packages
abbrev pub is_binary : Kind → Bool
is_binary Packages = true
is_binary Binary = true
is_binary Sources = false
is_binary Source = false
is_binary Status = true

-- the field that names a package
abbrev pub name_field : Kind → List ℕ
name_field Packages = codes "Package"
name_field Binary = codes "Package"
name_field Sources = codes "Package"
name_field Source = codes "Source"
name_field Status = codes "Package"

abbrev all_kinds : List Kind
all_kinds = Packages ∷ Binary ∷ Sources ∷ Source ∷ Status ∷ []

worked-kinds : (map doc_of all_kinds
    ≡ docs.Packages ∷ docs.Binary ∷ docs.Sources ∷ docs.Source ∷ docs.Status ∷ [])
    × (map is_binary all_kinds ≡ true ∷ true ∷ false ∷ false ∷ true ∷ [])
    × (map name_field all_kinds
    ≡ codes "Package" ∷ codes "Package" ∷ codes "Package" ∷ codes "Source" ∷ codes "Package"
    ∷ [])
worked-kinds = (refl, refl, refl)
