-- A package as a store has it at another place: its entries with another number, and the offsets of
-- these.
use Rattle.std.specs.Prelude.{◌≡◌, ◌+◌, ◌<◌, ℕ, not, length, List, [], ◌∷◌, map, None, codes, refl}
use Rattle.std.specs.List.{All, filter, slice_index_or}
use Rattle.deb_relation.specs.Applying.{is_among}
use Rattle.deb_index.specs.Entries.{HasNumber, IsIn}
use Rattle.deb_index.specs.Stores.{IsKept, entries_by, line_by, listed_by, name_by, spelling_by}
use Rattle.deb_index.specs.declared.entry.Entry.{Entry}
use Rattle.deb_index.specs.declared.store.Record.{Record}
use Rattle.deb_index.specs.declared.store.Store.{Store}

-- an entry with the number of its package
abbrev pub with_number : ℕ → Entry → Entry
with_number number e =
    record {
      start = e.start;
      name_end = e.name_end;
      version = e.version;
      end = e.end;
      number = number;
    }

-- a package with the offsets of its entries
abbrev pub with_entries : ℕ → ℕ → Record → Record
with_entries first entries_end r =
    record {
      start = r.start;
      name_end = r.name_end;
      version_end = r.version_end;
      besides_end = r.besides_end;
      architecture_end = r.architecture_end;
      first = first;
      entries_end = entries_end;
      line = r.line;
      multi_arch = r.multi_arch;
    }

-- the packages of a store that have none of these names
abbrev pub left_in : List (List ℕ) → List ℕ → List Record → List Record
left_in names bytes records = filter (λ r. not (is_among (name_by bytes r) names)) records

-- Entries and records, over the bytes of a store, are those of some of its packages: they list the
-- same, and their entries have their numbers.
pub record Copies (bytes : List ℕ) (others : List Entry) (some : List Record) (entries : List Entry)
    (records : List Record) : Type 0 where
  pub are_in : All (IsIn bytes) entries
  pub kept : All (IsKept bytes entries) records
  pub numbered : (k : ℕ) (d : Record) → k < length records
      → All (HasNumber (k + 1)) (entries_by entries (slice_index_or records k d))
  pub listed : map (listed_by bytes entries) records ≡ map (listed_by bytes others) some
  pub lines : map line_by records ≡ map line_by some
  pub spellings : map (spelling_by bytes) records ≡ map (spelling_by bytes) some

-- those of its packages that have none of these names
abbrev pub CopiesLeft : List (List ℕ) → Store → List Entry → List Record → Type 0
CopiesLeft names store entries records =
    Copies store.bytes.items store.entries.items
    (left_in names store.bytes.items store.records.items) entries records

worked-number : with_number 7 (record { start = 1; name_end = 2; version = 3; end = 4; number = 5 })
    ≡ record { start = 1; name_end = 2; version = 3; end = 4; number = 7 }
worked-number = refl

abbrev kept : ℕ → ℕ → Record
kept first entries_end =
    record {
      start = 1;
      name_end = 2;
      version_end = 3;
      besides_end = 4;
      architecture_end = 5;
      first = first;
      entries_end = entries_end;
      line = 8;
      multi_arch = None;
    }

worked-entries : with_entries 10 11 (kept 6 7) ≡ kept 10 11
worked-entries = refl

-- its name is the second byte of the text: it is left unless that is among the names
worked-left : (left_in (codes "a" ∷ codes "bc" ∷ []) (codes "abc") (kept 6 7 ∷ []) ≡ kept 6 7 ∷ [])
    × (left_in (codes "a" ∷ codes "b" ∷ []) (codes "abc") (kept 6 7 ∷ []) ≡ [])
    × (left_in [] (codes "abc") (kept 6 7 ∷ []) ≡ kept 6 7 ∷ [])
worked-left = (refl, refl, refl)
