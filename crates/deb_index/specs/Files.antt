-- An index of several files: what a further file adds to it, how many packages each file has, and
-- the file of a package. The rules are this project's own.
use Rattle.std.specs.Prelude.{◌≡◌, ℕ, ◌+◌, ◌-◌, nat_eq, nat_le, nat_lt, cond, if◌then◌else◌, length, List, [], ◌∷◌, ◌++◌, map, Option, None, Some, codes, refl}
use Rattle.std.specs.Fmt.{decimal, digits}
use Rattle.std.specs.List.{flat_map}
use Rattle.std.specs.Str.{is_utf8, chars}
use lib.Utf8.{encode}
use Rattle.deb_base.specs.Bodies.{paragraph_limit}
use Rattle.deb_control.specs.Pairs.{Pairwise}
use Rattle.deb_index.specs.Listed.{Listed}
use Rattle.deb_index.specs.Members.{ListsMembers, member_lines, member_spellings}
use Rattle.deb_index.specs.Stores.{lines_in, listed_in, spellings_in}
use Rattle.deb_index.specs.declared.members.Members.{Members}
use Rattle.deb_index.specs.declared.members.Members.TheVariants.{All, Installed}
use Rattle.deb_index.specs.declared.store.Store.{Store}

-- The file is accepted, and all packages are those before followed by those that it lists, in its
-- order.
pub record ListsAfter (members : Members) (text : List ℕ) (before all : List Listed) : Type 0 where
  pub packages : List Listed
  pub lists : ListsMembers members text packages
  pub follow : all ≡ before ++ packages

-- The files are accepted, and list these, each in its order.
abbrev pub ListEach : Members → List (List ℕ) → List (List Listed) → Type 0
ListEach members texts lists = Pairwise (ListsMembers members) texts lists

-- The files are accepted, and list these packages: those of the first, then those of the next, each
-- in its order.
pub record ListsFiles (members : Members) (texts : List (List ℕ)) (packages : List Listed)
    : Type 0 where
  pub lists : List (List Listed)
  pub each : ListEach members texts lists
  pub joined : packages ≡ flat_map (λ list. list) lists

-- The files are accepted, and each lists so many packages.
pub record CountsFiles (members : Members) (texts : List (List ℕ)) (counts : List ℕ) : Type 0 where
  pub lists : List (List Listed)
  pub each : ListEach members texts lists
  pub counted : counts ≡ map length lists

-- the first lines of their paragraphs, and the texts by which these spell their versions, in the
-- order of their packages
abbrev pub files_lines : Members → List (List ℕ) → List ℕ
files_lines members texts = flat_map (member_lines members) texts

abbrev pub files_spellings : Members → List (List ℕ) → List (List ℕ)
files_spellings members texts = flat_map (member_spellings members) texts

-- A store has after its own packages those that the file lists, with their lines and the texts of
-- their versions.
pub record StoresFile (members : Members) (text : List ℕ) (old new : Store) : Type 0 where
  pub listed : ListsAfter members text (listed_in old) (listed_in new)
  pub lines : lines_in new ≡ lines_in old ++ member_lines members text
  pub spellings : spellings_in new ≡ spellings_in old ++ member_spellings members text

-- Where files have so many packages, the file that has the package with a number, from 1: its place
-- among them, where the first has this one; none if they have fewer packages.
abbrev pub file_from : ℕ → List ℕ → ℕ → Option ℕ
file_from place [] number = None
file_from place (count ∷ counts) number =
    if nat_le number count
    then Some place
    else file_from (place + 1) counts (number - count)

-- the place, from 1
abbrev pub file_of : List ℕ → ℕ → Option ℕ
file_of counts number = if nat_eq number 0 then None else file_from 1 counts number

-- the file that the line of a package names: none where there is only one
abbrev pub file_shown : List ℕ → ℕ → Option ℕ
file_shown counts number = cond (nat_lt 1 (length counts)) (file_of counts number) None

-- and the word at the end of the line, in two parts: ` @K`, or nothing
abbrev pub file_mark : Option ℕ → List ℕ
file_mark None = []
file_mark (Some place) = codes " @"

abbrev pub file_place : Option ℕ → List ℕ
file_place None = []
file_place (Some place) = decimal place

-- two packages, none, three, and none: the first and the last of each file, and none
worked-files : map (file_of (2 ∷ 0 ∷ 3 ∷ 0 ∷ [])) (0 ∷ 1 ∷ 2 ∷ 3 ∷ 5 ∷ 6 ∷ [])
    ≡ None ∷ Some 1 ∷ Some 1 ∷ Some 3 ∷ Some 3 ∷ None ∷ []
worked-files = refl

-- an empty file first, a file of one package, and no file
worked-first : map (file_of (0 ∷ 1 ∷ [])) (0 ∷ 1 ∷ 2 ∷ []) ≡ None ∷ Some 2 ∷ None ∷ []
worked-first = refl

worked-one : map (file_of (2 ∷ [])) (0 ∷ 1 ∷ 2 ∷ 3 ∷ []) ≡ None ∷ Some 1 ∷ Some 1 ∷ None ∷ []
worked-one = refl

worked-no-file : map (file_of []) (0 ∷ 1 ∷ []) ≡ None ∷ None ∷ []
worked-no-file = refl

-- no file is named of one, nor of a package that isn't there
worked-shown : (map (file_shown (2 ∷ [])) (1 ∷ 2 ∷ 3 ∷ []) ≡ None ∷ None ∷ None ∷ [])
    × (map (file_shown (2 ∷ 1 ∷ [])) (1 ∷ 2 ∷ 3 ∷ 4 ∷ []) ≡ Some 1 ∷ Some 1 ∷ Some 2 ∷ None ∷ [])
worked-shown = (refl, refl)

worked-words : (map file_mark (None ∷ Some 12 ∷ []) ≡ [] ∷ codes " @" ∷ [])
    × (map file_place (None ∷ Some 12 ∷ []) ≡ [] ∷ codes "12" ∷ [])
unfolding digits
worked-words = (refl, refl)

-- no file, and two files of which the second lists two packages
worked-none : ListsFiles All [] [] × CountsFiles All [] []
worked-none = (
  record { lists = []; each = tt; joined = refl },
  record { lists = []; each = tt; counted = refl },
)

worked-two : (text more : List ℕ) (p q r : Listed) → ListsMembers All text (p ∷ [])
    → ListsMembers All more (q ∷ r ∷ [])
    → ListsFiles All (text ∷ more ∷ []) (p ∷ q ∷ r ∷ [])
    × CountsFiles All (text ∷ more ∷ []) (1 ∷ 2 ∷ [])
worked-two text more p q r first second =
    let lists = (p ∷ []) ∷ (q ∷ r ∷ []) ∷ [] in (
      record { lists = lists; each = (first, (second, tt)); joined = refl },
      record { lists = lists; each = (first, (second, tt)); counted = refl },
    )

-- two files of which the first begins with an empty line, and no file
abbrev files : List (List ℕ)
files = codes "\nVersion: 01\n" ∷ codes "Version: 2\n\nVersion: 3\n" ∷ []

worked-read : (map (files_lines All) ([] ∷ files ∷ []) ≡ [] ∷ (2 ∷ 1 ∷ 3 ∷ []) ∷ [])
    × (map (files_spellings All) ([] ∷ files ∷ [])
    ≡ [] ∷ (codes "01" ∷ codes "2" ∷ codes "3" ∷ []) ∷ [])
    × (map (files_lines Installed) ([] ∷ files ∷ []) ≡ [] ∷ [] ∷ [])
unfolding paragraph_limit is_utf8 chars encode
worked-read = (refl, refl, refl)
