-- The packages that a store keeps.
use Rattle.std.specs.Prelude.{◌≡◌, ◌+◌, ◌<◌, ◌≤◌, ℕ, None, List, [], ◌∷◌, ◌++◌, length, map}
use Rattle.std.specs.List.{All, AllPairs, slice_index_or}
use Rattle.deb_version.specs.Canonical.{version_text}
use Rattle.deb_version.specs.Faults.{first_fault}
use Rattle.deb_version.specs.Places.{version_in}
use Rattle.deb_index.specs.Entries.{HasNumber, IsIn, Places, entry_name, provision_at}
use Rattle.deb_index.specs.Listed.{Listed}
use Rattle.deb_index.specs.ProvidedNames.{IsNotAfter}
use Rattle.deb_index.specs.Spans.{part}
use Rattle.deb_index.specs.VersionSpellings.{spelling_or}
use Rattle.deb_index.specs.declared.store.Record.{Record}
use Rattle.deb_index.specs.declared.store.Store.{Store}

-- the texts of a package in the buffer, and its entries in their list
abbrev pub name_by : List ℕ → Record → List ℕ
name_by bytes r = part r.start r.name_end bytes

abbrev pub version_by : List ℕ → Record → List ℕ
version_by bytes r = part r.name_end r.version_end bytes

-- the text by which the file spells the version, if it isn't the canonical one
abbrev pub besides_by : List ℕ → Record → List ℕ
besides_by bytes r = part r.version_end r.besides_end bytes

abbrev pub architecture_by : List ℕ → Record → List ℕ
architecture_by bytes r = part r.besides_end r.architecture_end bytes

abbrev pub entries_by : List Places → Record → List Places
entries_by entries r = part r.first r.entries_end entries

-- the package of a record
abbrev pub listed_by : List ℕ → List Places → Record → Listed
listed_by bytes entries r =
    record {
      name = name_by bytes r;
      version = version_in (version_by bytes r);
      architecture = architecture_by bytes r;
      multi_arch = r.multi_arch;
      provisions = map (provision_at bytes) (entries_by entries r);
    }

-- the packages of a store
abbrev pub listed_in : Store → List Listed
listed_in store = map (listed_by store.bytes.items store.entries.items) store.records.items

-- the lines at which their paragraphs start
abbrev pub line_by : Record → ℕ
line_by r = r.line

abbrev pub lines_in : Store → List ℕ
lines_in store = map line_by store.records.items

-- the texts by which these spell their versions
abbrev pub spelling_by : List ℕ → Record → List ℕ
spelling_by bytes r = spelling_or (version_by bytes r) (besides_by bytes r)

abbrev pub spellings_in : Store → List (List ℕ)
spellings_in store = map (spelling_by store.bytes.items) store.records.items

-- A version's text is one, and canonical.
pub record IsVersionKept (version : List ℕ) : Type 0 where
  pub faultless : first_fault version ≡ None
  pub canonical : version_text (version_in version) ≡ version

-- A text is that of a version with this canonical text.
pub record IsSpelling (version text : List ℕ) : Type 0 where
  pub faultless : first_fault text ≡ None
  pub canonical : version_text (version_in text) ≡ version

-- A record is that of a package: its offsets are within the lists, its version is one, and its
-- entries are in the order of their names.
pub record IsKept (bytes : List ℕ) (entries : List Places) (r : Record) : Type 0 where
  pub name_end : r.name_end ≤ length bytes
  pub version_end : r.version_end ≤ length bytes
  pub besides_end : r.besides_end ≤ length bytes
  pub architecture_end : r.architecture_end ≤ length bytes
  pub entries_end : r.entries_end ≤ length entries
  pub version : IsVersionKept (version_by bytes r)
  pub spelling : IsSpelling (version_by bytes r) (spelling_by bytes r)
  pub ascend : AllPairs IsNotAfter (map (entry_name bytes) (entries_by entries r))

-- The packages of a store are packages, and their entries are entries with their numbers.
pub record IsStore (store : Store) : Type 0 where
  pub entries : All (IsIn store.bytes.items) store.entries.items
  pub records : All (IsKept store.bytes.items store.entries.items) store.records.items
  pub numbered : (k : ℕ) (d : Record) → k < length store.records.items
      → All (HasNumber (k + 1))
      (entries_by store.entries.items (slice_index_or store.records.items k d))

-- one package more, with the text of its version
pub record KeepsOneMore (old new : Store) (p : Listed) (text : List ℕ) : Type 0 where
  pub kept : IsStore new
  pub listed : listed_in new ≡ listed_in old ++ p ∷ []
  pub spellings : spellings_in new ≡ spellings_in old ++ text ∷ []
