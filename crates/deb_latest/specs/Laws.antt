-- What holds of the paragraphs with the latest versions.
use Rattle.std.specs.Prelude.{◌≡◌, ◌↔◌, ℕ, List, ◌++◌, Option, true, false}
use Rattle.std.specs.List.{AllByRecursion}
use Rattle.std.specs.Ordering.{is_gt}
use Rattle.deb_version.specs.Order.{version_cmp}
use Rattle.deb_version.specs.Parts.{Meaning as Version}
use Rattle.deb_control.specs.Documents.{Accepted, Meaning, canonical_text}
use Rattle.deb_latest.specs.BestOf.{AreNumbered}
use Rattle.deb_latest.specs.Entries.{architecture_of, doc_of, key_of, name_of}
use Rattle.deb_latest.specs.Members.{Member}
use Rattle.deb_latest.specs.Requests.{Asked, latest_of}
use Rattle.deb_field.specs.Values.{ValueMeaning}
use Rattle.deb_control.specs.ValueFiles.{ValueEntries}
use Rattle.deb_latest.specs.declared.kind.Kind.{Kind}
use Rattle.deb_latest.specs.declared.request.By.TheVariants.{NameAndArchitecture}
use Rattle.deb_latest.specs.Winning.{Entry, is_considered, winners_in}

-- Of a package with a considered paragraph one wins, and no other of the package.
pub record HasOneWinner (limit : Option Version) (entries : List Entry) (key : List ℕ) : Type 0
  where
    pub winner : Entry
    pub member : Member winner (winners_in limit entries)
    pub of : winner.key ≡ key
    pub only : (e : Entry) → Member e (winners_in limit entries) → e.key ≡ key
        → e.number ≡ winner.number

abbrev pub EachPackageHasOneWinner : Type 0
EachPackageHasOneWinner =
    (limit : Option Version) (entries : List Entry) → AreNumbered 0 entries → (e : Entry)
    → Member e entries → is_considered limit e ≡ true → HasOneWinner limit entries e.key

-- What wins is one of the paragraphs and is considered, and no considered one of its package has a
-- later version.
pub record IsLatest (limit : Option Version) (entries : List Entry) (e : Entry) : Type 0 where
  pub member : Member e entries
  pub considered : is_considered limit e ≡ true
  pub latest : (other : Entry) → Member other entries → is_considered limit other ≡ true
      → other.key ≡ e.key → is_gt (version_cmp other.version e.version) ≡ false

abbrev pub WinnersAreLatest : Type 0
WinnersAreLatest =
    (limit : Option Version) (entries : List Entry) (e : Entry)
    → Member e (winners_in limit entries) → IsLatest limit entries e

-- Among those that win all win.
abbrev pub WinnersWin : Type 0
WinnersWin =
    (limit : Option Version) (entries : List Entry)
    → winners_in limit (winners_in limit entries) ≡ winners_in limit entries

-- Those that win of two lists are those that win among the winners of each.
abbrev pub WinnersOfWinners : Type 0
WinnersOfWinners =
    (limit : Option Version) (first second : List Entry) → AreNumbered 0 (first ++ second)
    → winners_in limit (first ++ second)
    ≡ winners_in limit (winners_in limit first ++ winners_in limit second)

-- In an accepted file what tells packages from others by name and architecture is equal exactly if
-- both are.
abbrev pub IsOnePackage : ValueEntries ValueMeaning → ValueEntries ValueMeaning → Type 0
IsOnePackage values others =
    (key_of NameAndArchitecture values ≡ key_of NameAndArchitecture others)
    ↔ ((name_of values ≡ name_of others) × (architecture_of values ≡ architecture_of others))

abbrev pub KeysTellPackages : Type 0
KeysTellPackages =
    (kind : Kind) (first second : List ℕ) (meaning other : Meaning)
    → Accepted (doc_of kind) first meaning → Accepted (doc_of kind) second other
    → AllByRecursion (λ values. AllByRecursion (IsOnePackage values) other) meaning

-- Which win doesn't change if a file is replaced by its canonical text.
abbrev pub CanonicalTextHasTheSame : Type 0
CanonicalTextHasTheSame =
    (asked : Asked) (before after meaning other : Meaning) (text : List ℕ)
    → Accepted (doc_of asked.kind) text meaning
    → Accepted (doc_of asked.kind) (canonical_text meaning) other
    → latest_of asked (before ++ (other ++ after)) ≡ latest_of asked (before ++ (meaning ++ after))
