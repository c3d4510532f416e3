-- Which relations of which kind of file are asked. Debian Policy 5.3, 5.4, 7.2 and 7.7.
use Rattle.std.specs.Prelude.{◌≡◌, ℕ, Bool, true, false, List, [], ◌∷◌, ◌++◌, map, get_or, codes, refl}
use Rattle.deb_base.specs.Kinds.{known_fields, known_row, row_count}
use Rattle.deb_base.specs.declared.doc.Doc.{Doc}
use Rattle.deb_base.specs.declared.doc.Doc.TheVariants as docs
use Rattle.deb_base.specs.declared.kind.Kind.TheVariants.{Text}
use Rattle.deb_base.specs.declared.version_text.VersionText.{VersionText}
use Rattle.deb_unmet.specs.declared.asked.Asked.{Asked}
use Rattle.deb_unmet.specs.declared.asked.Asked.TheVariants.{Packages, Binary, Sources, Source}
use Rattle.deb_unmet.specs.declared.asked.Request.{Request}
use Rattle.deb_unmet.specs.declared.asked.SourcesAsked.{SourcesAsked}
use Rattle.deb_unmet.specs.declared.asked.SourcesAsked.TheVariants.{OfTarget, All}
use Rattle.deb_unmet.specs.declared.asked.Strength.{Strength}
use Rattle.deb_unmet.specs.declared.asked.Strength.TheVariants.{Depends, Recommends}

-- these relations, with this text of each version
abbrev pub request_for : Asked → VersionText → Request
request_for asked versions = record { asked = asked; versions = versions }

-- the kind of the file
abbrev pub doc_of : Asked → Doc
doc_of (Packages strength) = docs.Packages
doc_of (Binary strength) = docs.Binary
doc_of (Sources which) = docs.Sources
doc_of (Source which) = docs.Source

-- the fields whose groups are asked, in the order of their lines
abbrev pub fields_with : Strength → List (List ℕ)
fields_with Depends = codes "Pre-Depends" ∷ codes "Depends" ∷ []
fields_with Recommends = codes "Pre-Depends" ∷ codes "Depends" ∷ codes "Recommends" ∷ []

abbrev pub build_fields : List (List ℕ)
build_fields =
    codes "Build-Depends" ∷ codes "Build-Depends-Arch" ∷ codes "Build-Depends-Indep" ∷ []

abbrev pub fields_asked : Asked → List (List ℕ)
fields_asked (Packages strength) = fields_with strength
fields_asked (Binary strength) = fields_with strength
fields_asked (Sources which) = build_fields
fields_asked (Source which) = build_fields

-- the rows of these fields in the table of fields; one that it doesn't have if there are only two
abbrev pub rows_with : Strength → List ℕ
rows_with Depends = map known_row (fields_with Depends) ++ row_count ∷ []
rows_with Recommends = map known_row (fields_with Recommends)

abbrev pub rows_asked : Asked → List ℕ
rows_asked (Packages strength) = rows_with strength
rows_asked (Binary strength) = rows_with strength
rows_asked (Sources which) = map known_row build_fields
rows_asked (Source which) = map known_row build_fields

-- its paragraphs are binary packages
abbrev pub is_binary : Asked → Bool
is_binary (Packages strength) = true
is_binary (Binary strength) = true
is_binary (Sources which) = false
is_binary (Source which) = false

-- only source packages that are built for the target are asked
abbrev pub is_of_target : SourcesAsked → Bool
is_of_target OfTarget = true
is_of_target All = false

abbrev pub by_target : Asked → Bool
by_target (Packages strength) = false
by_target (Binary strength) = false
by_target (Sources which) = is_of_target which
by_target (Source which) = is_of_target which

-- the field that names a package
abbrev pub name_field : Asked → List ℕ
name_field (Packages strength) = codes "Package"
name_field (Binary strength) = codes "Package"
name_field (Sources which) = codes "Package"
name_field (Source which) = codes "Source"

abbrev all_asked : List Asked
all_asked =
    Packages Depends ∷ Packages Recommends ∷ Binary Depends ∷ Binary Recommends ∷ Sources All
    ∷ Source OfTarget ∷ []

worked-kinds : map doc_of all_asked
    ≡ docs.Packages ∷ docs.Packages ∷ docs.Binary ∷ docs.Binary ∷ docs.Sources ∷ docs.Source ∷ []
worked-kinds = refl

abbrev strong : List (List ℕ)
strong = codes "Pre-Depends" ∷ codes "Depends" ∷ []

abbrev with_recommends : List (List ℕ)
with_recommends = codes "Pre-Depends" ∷ codes "Depends" ∷ codes "Recommends" ∷ []

abbrev to_build : List (List ℕ)
to_build = codes "Build-Depends" ∷ codes "Build-Depends-Arch" ∷ codes "Build-Depends-Indep" ∷ []

worked-fields : map fields_asked all_asked
    ≡ strong ∷ with_recommends ∷ strong ∷ with_recommends ∷ to_build ∷ to_build ∷ []
worked-fields = refl

-- the names in the rows of the table; nothing after the last one
abbrev names_in : List ℕ → List (List ℕ)
names_in rows = map (λ row. (get_or known_fields row ([], Text)).0) rows

worked-rows : map (λ asked. names_in (rows_asked asked)) all_asked
    ≡ (strong ++ [] ∷ []) ∷ with_recommends ∷ (strong ++ [] ∷ []) ∷ with_recommends ∷ to_build
    ∷ to_build ∷ []
unfolding known_row
worked-rows = refl

worked-targets : map by_target (Sources OfTarget ∷ Source All ∷ all_asked)
    ≡ true ∷ false ∷ false ∷ false ∷ false ∷ false ∷ false ∷ true ∷ []
worked-targets = refl

worked-packages : (map is_binary all_asked ≡ true ∷ true ∷ true ∷ true ∷ false ∷ false ∷ [])
    × (map name_field all_asked
    ≡ codes "Package" ∷ codes "Package" ∷ codes "Package" ∷ codes "Package" ∷ codes "Package"
    ∷ codes "Source" ∷ [])
worked-packages = (refl, refl)
