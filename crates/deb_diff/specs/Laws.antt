-- Laws of differences. Debian Policy 5.1; the canonical text is this project's own.
use Rattle.std.specs.Prelude.{◌≡◌, ◌↔◌, ◌⊎◌, ℕ, List, [], None}
use Rattle.std.specs.List.{AllByRecursion}
use Rattle.std.specs.List.Sorted.{IsPermutation}
use Rattle.deb_base.specs.declared.version_text.VersionText.TheVariants.{Canonical}
use Rattle.deb_version.specs.Canonical.{version_text}
use Rattle.deb_version.specs.Faults.{first_fault}
use Rattle.deb_version.specs.Places.{version_in}
use Rattle.deb_control.specs.Documents.{Meaning, Accepted, canonical_text}
use Rattle.deb_diff.specs.Differences.{difference, removed}
use Rattle.deb_diff.specs.Items.{Item, items_of}
use Rattle.deb_diff.specs.Kinds.{doc_of}
use Rattle.deb_diff.specs.Lines.{diff_text, form_of}
use Rattle.deb_diff.specs.declared.detail.Detail.{Detail}
use Rattle.deb_diff.specs.declared.form.Form.{Form}
use Rattle.deb_diff.specs.declared.kind.Kind.{Kind}
use Rattle.deb_diff.specs.declared.kind.Kind.TheVariants.{Packages, Binary, Sources, Source, Status}

-- There is no line exactly if the files hold the same paragraphs in some order.
abbrev pub NoLineIfPermuted : Type 0
NoLineIfPermuted =
    (kind : Kind) (form : Form) (text other : List ℕ) (old new : Meaning)
    → Accepted (doc_of kind) text old → Accepted (doc_of kind) other new
    → (diff_text kind form text other old new ≡ []) ↔ IsPermutation old new

-- If the files are swapped, removed and added paragraphs are swapped.
abbrev pub SwappedFilesSwapLines : Type 0
SwappedFilesSwapLines =
    (kind : Kind) (text other : List ℕ) (old new : Meaning) →
    (removed (difference (items_of kind text old) (items_of kind other new))
    ≡ (difference (items_of kind other new) (items_of kind text old)).added)
    × ((difference (items_of kind text old) (items_of kind other new)).added
    ≡ removed (difference (items_of kind other new) (items_of kind text old)))

-- The lines with canonical versions don't change if either file or both are replaced by their
-- canonical text.
abbrev pub CanonicalTextChangesNoLine : Type 0
CanonicalTextChangesNoLine =
    (kind : Kind) (detail : Detail) (text other : List ℕ) (old new old_again new_again : Meaning)
    → Accepted (doc_of kind) text old → Accepted (doc_of kind) other new
    → Accepted (doc_of kind) (canonical_text old) old_again
    → Accepted (doc_of kind) (canonical_text new) new_again
    → (diff_text kind (form_of detail Canonical) (canonical_text old) other old_again new
    ≡ diff_text kind (form_of detail Canonical) text other old new)
    × (diff_text kind (form_of detail Canonical) text (canonical_text new) old new_again
    ≡ diff_text kind (form_of detail Canonical) text other old new)
    × (diff_text kind (form_of detail Canonical) (canonical_text old) (canonical_text new) old_again
    new_again
    ≡ diff_text kind (form_of detail Canonical) text other old new)

-- The spelled text is a version, and its canonical text is the canonical version.
pub record SpellsItsVersion (item : Item) : Type 0 where
  pub is_version : first_fault item.spelled ≡ None
  pub canonical : version_text (version_in item.spelled) ≡ item.version

-- The paragraph has no version, and its texts are empty.
pub record HasNoVersion (item : Item) : Type 0 where
  pub spelled : item.spelled ≡ []
  pub canonical : item.version ≡ []

-- A paragraph of the kind spells its version so; of a status file it may have none.
abbrev pub SpellsAnyVersion : Kind → Item → Type 0
SpellsAnyVersion Packages item = SpellsItsVersion item
SpellsAnyVersion Binary item = SpellsItsVersion item
SpellsAnyVersion Sources item = SpellsItsVersion item
SpellsAnyVersion Source item = SpellsItsVersion item
SpellsAnyVersion Status item = HasNoVersion item ⊎ SpellsItsVersion item

-- Each paragraph of an accepted file spells its version so. The lines with spelled versions are one
-- function of the same difference as those with canonical ones, and differ in these words alone:
-- `printed` is the only word that the choice decides on.
abbrev pub SpelledVersionsAreEqual : Type 0
SpelledVersionsAreEqual =
    (kind : Kind) (text : List ℕ) (meaning : Meaning) → Accepted (doc_of kind) text meaning
    → AllByRecursion (SpellsAnyVersion kind) (items_of kind text meaning)
