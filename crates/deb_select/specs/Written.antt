-- What is written of the paragraphs that are selected: this project's own. The lines of a paragraph
-- are those of Debian Policy 5.1.
use Rattle.std.specs.Prelude.{◌≡◌, ℕ, Bool, true, false, List, [], ◌∷◌, ◌++◌, codes, refl}
use Rattle.deb_base.specs.Bodies.{newline, paragraph_limit}
use Rattle.deb_version.specs.Places.{version_in}
use Rattle.deb_syntax.specs.Lines.{Paragraph, paragraphs_of, with_newlines}
use Rattle.deb_field.specs.Values.{ValueMeaning, NameMeans, VersionMeans}
use Rattle.deb_control.specs.Documents.{Meaning}
use Rattle.deb_control.specs.ValueFiles.{ValueEntries}
use Rattle.deb_select.specs.Conditions.{Compares, SelectionMeaning, selects}
use Rattle.deb_select.specs.declared.comparison.Comparison.TheVariants.{Later}

-- what separates a paragraph from those before it, if there are any
abbrev pub gap : Bool → List ℕ
gap true = newline ∷ []
gap false = []

-- the lines of paragraphs as they are in the file, each ended by a newline, with an empty line
-- between two paragraphs, and before the first if one was written before
abbrev pub written_after : Bool → List Paragraph → List ℕ
written_after begun [] = []
written_after begun (p ∷ ps) = gap begun ++ (with_newlines p.lines ++ written_after true ps)

-- whether there is a paragraph
abbrev pub has_some : List Paragraph → Bool
has_some [] = false
has_some (p ∷ ps) = true

-- a paragraph, if it is selected
abbrev pub one_if : Bool → Paragraph → List Paragraph
one_if true p = p ∷ []
one_if false p = []

-- the paragraphs that are selected, where the first ones mean this
abbrev pub chosen : SelectionMeaning → Meaning → List Paragraph → List Paragraph
chosen selection [] paragraphs = []
chosen selection (values ∷ meaning) [] = []
chosen selection (values ∷ meaning) (p ∷ paragraphs) =
    one_if (selects selection values) p ++ chosen selection meaning paragraphs

-- and their text
abbrev pub chosen_text : Bool → SelectionMeaning → Meaning → List Paragraph → List ℕ
chosen_text begun selection meaning paragraphs =
    written_after begun (chosen selection meaning paragraphs)

-- two versions of a package, with two blank lines between them, the last one without newline
abbrev values : List ℕ → ValueEntries ValueMeaning
values version =
    (codes "Package", NameMeans (codes "aa")) ∷ (codes "Version", VersionMeans (version_in version))
    ∷ []

abbrev both : List Paragraph
both = paragraphs_of (codes "package:aa \nversion: 1.9\n\n \nVersion:1.10\nPackage: aa")

abbrev later_than : List ℕ → Bool → SelectionMeaning
later_than version negated = record {
  conditions =
      record {
        name = codes "Version";
        test = Compares Later (VersionMeans (version_in version));
      } ∷ [];
  negated = negated;
}

-- the bytes of the lines stay, spaces at their ends too
worked-text : (chosen_text false (later_than (codes "1.9") false)
    (values (codes "1.9") ∷ values (codes "1.10") ∷ []) both ≡ codes "Version:1.10\nPackage: aa\n")
    × (chosen_text false (later_than (codes "1.9") true)
    (values (codes "1.9") ∷ values (codes "1.10") ∷ []) both
    ≡ codes "package:aa \nversion: 1.9\n")
    × (chosen_text true (later_than (codes "1") false)
    (values (codes "1.9") ∷ values (codes "1.10") ∷ []) both
    ≡ codes "\npackage:aa \nversion: 1.9\n\nVersion:1.10\nPackage: aa\n")
    × (chosen_text false (later_than (codes "1.9") false) (values (codes "1.9") ∷ []) both ≡ [])
unfolding paragraph_limit
worked-text = (refl, refl, refl, refl)

worked-some : (has_some [] ≡ false) × (has_some both ≡ true)
unfolding paragraph_limit
worked-some = (refl, refl)
