-- Which paragraphs of a file are asked. Debian Policy 5.6.8 and 11.1: a source package is built for
-- the architectures that it names, by `any` for each, and by `all` its packages for all are. That
-- others aren't asked, and that names are left out, is this project's own.
use Rattle.std.specs.Prelude.{◌≡◌, ℕ, Bool, cond, ◌||◌, List, [], ◌∷◌, map, Option, Some, None, codes, refl}
use Rattle.std.specs.List.{list_any}
use Rattle.std.specs.Str.{bytes_eq}
use Rattle.deb_relation.specs.Applying.{Environment, is_among}
use Rattle.deb_relation.specs.Environments.{environment_with}
use Rattle.deb_field.specs.Values.{ValueMeaning, NameMeans, SourceMeans, VersionMeans, ArchitectureMeans, ArchitecturesMean, FlagMeans, MultiArchMeans, NumberMeans, LineMeans, FoldedMeans, RelationMeans, TextMeans}
use Rattle.deb_control.specs.FieldWords.{value_under, word_under}
use Rattle.deb_control.specs.ValueFiles.{ValueEntries}
use Rattle.deb_unmet.specs.Asked.{by_target, is_binary, name_field}
use Rattle.deb_unmet.specs.Readings.{is_open}
use Rattle.deb_unmet.specs.declared.applying.Applies.{Applies}
use Rattle.deb_unmet.specs.declared.applying.Applies.TheVariants.{Surely, Maybe, Never}
use Rattle.deb_unmet.specs.declared.asked.Asked.{Asked}
use Rattle.deb_unmet.specs.declared.asked.Asked.TheVariants.{Packages, Sources, Source}
use Rattle.deb_unmet.specs.declared.asked.SourcesAsked.TheVariants.{OfTarget, All}
use Rattle.deb_unmet.specs.declared.asked.Strength.TheVariants.{Depends}

-- the names in the Architecture of a source package; none if it has no such field
abbrev pub names_in : ValueMeaning → Option (List (List ℕ))
names_in (NameMeans x) = None
names_in (SourceMeans x) = None
names_in (VersionMeans x) = None
names_in (ArchitectureMeans x) = None
names_in (ArchitecturesMean names) = Some names
names_in (FlagMeans x) = None
names_in (MultiArchMeans x) = None
names_in (NumberMeans x) = None
names_in (LineMeans x) = None
names_in (FoldedMeans x) = None
names_in (RelationMeans x) = None
names_in (TextMeans x) = None

abbrev pub names_under : Option ValueMeaning → Option (List (List ℕ))
names_under None = None
names_under (Some value) = names_in value

-- a package with this name in its Architecture is built for the target
abbrev pub names_target : List ℕ → List ℕ → Bool
names_target target name =
    bytes_eq name (codes "any") || (bytes_eq name (codes "all") || bytes_eq name target)

-- A package that names none of these may be built for the target if a name may be read as holding
-- it.
abbrev pub applies_to : List ℕ → Option (List (List ℕ)) → Applies
applies_to target None = Surely
applies_to target (Some names) =
    cond (list_any (names_target target) names) Surely
    (cond (list_any is_open names) Maybe Never)

-- by the value of Architecture
abbrev pub source_applies : Environment → Option ValueMeaning → Applies
source_applies environment value = applies_to environment.target (names_under value)

-- Whether a paragraph with these values is asked: surely; maybe, then its lines say `unsure`; or
-- never, then it has none.
abbrev pub is_tried : Asked → Environment → List (List ℕ) → ValueEntries ValueMeaning → Applies
is_tried asked environment without values =
    cond (is_binary asked)
    (cond (is_among (word_under (name_field asked) values) without) Never Surely)
    (cond (by_target asked)
    (source_applies environment (value_under (codes "Architecture") values)) Surely)

-- For amd64: no field, an empty one, `any`, `all`, the target, others, and names that may hold it.
abbrev for_amd64 : Environment
for_amd64 = environment_with (codes "amd64") []

abbrev built_for : List (List ℕ) → Option ValueMeaning
built_for names = Some (ArchitecturesMean names)

worked-sources : map (source_applies for_amd64)
    (None ∷ built_for [] ∷ built_for (codes "any" ∷ [])
    ∷ built_for (codes "i386" ∷ codes "all" ∷ [])
    ∷ built_for (codes "i386" ∷ codes "amd64" ∷ []) ∷ built_for (codes "i386" ∷ codes "arm64" ∷ [])
    ∷ built_for (codes "i386" ∷ codes "linux-any" ∷ []) ∷ built_for (codes "any-i386" ∷ [])
    ∷ built_for (codes "kfreebsd-amd64" ∷ [])
    ∷ built_for (codes "linux-any" ∷ codes "any" ∷ []) ∷ [])
    ≡ Surely ∷ Never ∷ Surely ∷ Surely ∷ Surely ∷ Never ∷ Maybe ∷ Maybe ∷ Maybe ∷ Surely ∷ []
worked-sources = refl

-- values of other kinds say nothing
worked-kinds : map names_under
    (Some (NameMeans (codes "any")) ∷ Some (ArchitectureMeans (codes "any"))
    ∷ Some (FoldedMeans (codes "any" ∷ [])) ∷ built_for (codes "any" ∷ []) ∷ None ∷ [])
    ≡ None ∷ None ∷ None ∷ Some (codes "any" ∷ []) ∷ None ∷ []
worked-kinds = refl

-- A source package for i386 alone, named aa; and a binary package of this name.
abbrev source : ValueEntries ValueMeaning
source =
    (codes "Architecture", ArchitecturesMean (codes "i386" ∷ []))
    ∷ (codes "Package", NameMeans (codes "aa")) ∷ []

abbrev binary : ValueEntries ValueMeaning
binary =
    (codes "Architecture", ArchitectureMeans (codes "i386"))
    ∷ (codes "Package", NameMeans (codes "aa")) ∷ []

worked-tried : (map (λ asked. is_tried asked for_amd64 (codes "aa" ∷ []) source)
    (Sources OfTarget ∷ Sources All ∷ Source OfTarget ∷ Source All ∷ [])
    ≡ Never ∷ Surely ∷ Never ∷ Surely ∷ [])
    × (map (λ without. is_tried (Packages Depends) for_amd64 without binary)
    ((codes "bb" ∷ codes "aa" ∷ []) ∷ (codes "a" ∷ codes "aab" ∷ []) ∷ [] ∷ [])
    ≡ Never ∷ Surely ∷ Surely ∷ [])
worked-tried = (refl, refl)
