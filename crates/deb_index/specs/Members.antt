-- Which paragraphs of a file are packages of an index: all of an index of packages, or those of the
-- installed packages of a status file. Debian Policy 5.3; dpkg(1).
use Rattle.std.specs.Prelude.{◌≡◌, ℕ, Bool, true, false, List, [], ◌∷◌, ◌++◌, map, codes, refl}
use Rattle.std.specs.List.{filter}
use Rattle.std.specs.Str.{is_utf8, chars}
use lib.Utf8.{encode}
use Rattle.deb_base.specs.Bodies.{paragraph_limit}
use Rattle.deb_base.specs.declared.doc.Doc.{Doc}
use Rattle.deb_base.specs.declared.doc.Doc.TheVariants as docs
use Rattle.deb_syntax.specs.Answers.{Seen}
use Rattle.deb_syntax.specs.Fields.{Field}
use Rattle.deb_field.specs.Values.{ValueMeaning}
use Rattle.deb_control.specs.Documents.{Meaning}
use Rattle.deb_control.specs.Pairs.{Pairwise}
use Rattle.deb_control.specs.Paragraphs.{AreValuesOf}
use Rattle.deb_control.specs.ValueFiles.{ValueEntries}
use Rattle.deb_index.specs.FirstLines.{first_lines}
use Rattle.deb_index.specs.Installed.{KeepsInstalled, ListsInstalled, installed_lines, installed_spellings, is_member, is_member_by}
use Rattle.deb_index.specs.Keeping.{KeepsAll}
use Rattle.deb_index.specs.Listed.{Listed}
use Rattle.deb_index.specs.Listing.{Lists, ListsAll}
use Rattle.deb_index.specs.Stores.{IsStore, lines_in, listed_in, spellings_in}
use Rattle.deb_index.specs.VersionSpellings.{version_body, version_spellings}
use Rattle.deb_index.specs.declared.members.Members.{Members}
use Rattle.deb_index.specs.declared.members.Members.TheVariants.{All, Installed}
use Rattle.deb_index.specs.declared.store.Store.{Store}

-- the kind of the file
abbrev pub doc_of : Members → Doc
doc_of All = docs.Packages
doc_of Installed = docs.Status

-- whether a paragraph is one of them, by its values and by its fields
abbrev pub has_values : Members → ValueEntries ValueMeaning → Bool
has_values All values = true
has_values Installed values = is_member values

abbrev pub has_fields : Members → List Field → Bool
has_fields All fields = true
has_fields Installed fields = is_member_by fields

abbrev pub has_seen : Members → Seen → Bool
has_seen members seen = has_fields members seen.fields

-- those of some paragraphs
abbrev pub seen_in : Members → List Seen → List Seen
seen_in members given = filter (has_seen members) given

-- The file is accepted, and lists these packages, in its order.
abbrev pub ListsMembers : Members → List ℕ → List Listed → Type 0
ListsMembers All = ListsAll
ListsMembers Installed = ListsInstalled

-- The first lines of their paragraphs, and the texts by which these spell their versions.
abbrev pub member_lines : Members → List ℕ → List ℕ
member_lines All = first_lines
member_lines Installed = installed_lines

abbrev pub member_spellings : Members → List ℕ → List (List ℕ)
member_spellings All = version_spellings
member_spellings Installed = installed_spellings

-- This is kept of all paragraphs of the file.
abbrev pub KeepsMembers : Members → (List Seen → Type 0) → List ℕ → Type 0
KeepsMembers All = KeepsAll docs.Packages
KeepsMembers Installed = KeepsInstalled

-- by its fields and by its values a paragraph is a member, or isn't
abbrev pub HasBoth : Members → Seen → ValueEntries ValueMeaning → Type 0
HasBoth members seen values = has_seen members seen ≡ has_values members values

-- What a store keeps of these paragraphs, of which each passes, after what it had: the packages
-- that the members among them list, the lines at which these start, and how they spell their
-- versions.
pub record KeepsGiven (members : Members) (old new : Store) (given : List Seen) : Type 0 where
  pub kept : IsStore new
  pub meaning : Meaning
  pub are : Pairwise (AreValuesOf (doc_of members)) given meaning
  pub same : Pairwise (HasBoth members) given meaning
  pub passing : Pairwise (AreValuesOf docs.Packages) (seen_in members given)
      (filter (has_values members) meaning)
  pub packages : List Listed
  pub lists : Pairwise Lists (filter (has_values members) meaning) packages
  pub listed : listed_in new ≡ listed_in old ++ packages
  pub lines : lines_in new ≡ lines_in old ++ map (λ seen. seen.first) (seen_in members given)
  pub spellings : spellings_in new
      ≡ spellings_in old ++ map (λ seen. version_body seen.fields) (seen_in members given)

worked-docs : map doc_of (All ∷ Installed ∷ []) ≡ docs.Packages ∷ docs.Status ∷ []
worked-docs = refl

-- of a paragraph that isn't of an installed package, and of one without values
worked-has : (map (λ members. has_values members []) (All ∷ Installed ∷ []) ≡ true ∷ false ∷ [])
    × (map (λ members. seen_in members (record { first = 3; fields = [] } ∷ []))
    (All ∷ Installed ∷ []) ≡ (record { first = 3; fields = [] } ∷ []) ∷ [] ∷ [])
worked-has = (refl, refl)

-- a file whose first paragraph alone is of an installed package
abbrev file : List ℕ
file = codes "Status: a b installed\nArchitecture: all\nVersion: 01\n\nVersion: 2\n"

worked-file : (map (λ members. member_lines members file) (All ∷ Installed ∷ [])
    ≡ (1 ∷ 5 ∷ []) ∷ (1 ∷ []) ∷ [])
    × (map (λ members. member_spellings members file) (All ∷ Installed ∷ [])
    ≡ (codes "01" ∷ codes "2" ∷ []) ∷ (codes "01" ∷ []) ∷ [])
unfolding paragraph_limit is_utf8 chars encode
worked-file = (refl, refl)
