-- The canonical texts of the entries of Provides that an index keeps.
use Rattle.std.specs.Prelude.{◌≡◌, ℕ, List, ◌++◌, codes, refl}
use Rattle.deb_relation.specs.Texts.{group_text}
use Rattle.deb_index.specs.Entries.{provision_at}
use Rattle.deb_index.specs.KeptTexts.{entry_of}
use Rattle.deb_index.specs.declared.entry.Entry.{Entry}

-- of an entry in the canonical text of the field
abbrev pub entry_text : List ℕ → Entry → List ℕ
entry_text text e = group_text (entry_of (provision_at text e))

-- with the comma after another entry
abbrev pub later_entry : List ℕ → Entry → List ℕ
later_entry text e = codes ", " ++ entry_text text e

worked-entries : (entry_text (codes "aa, bb (= 2)")
    (record { start = 0; name_end = 2; version = 2; end = 2; number = 1 }) ≡ codes "aa")
    × (later_entry (codes "aa, bb (= 2)")
    (record { start = 4; name_end = 6; version = 10; end = 11; number = 1 }) ≡ codes ", bb (= 2)")
unfolding group_text
worked-entries = (refl, refl)
