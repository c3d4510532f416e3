-- What reading the files of some paths into one index gives.
use Rattle.std.proofs.Common.{◌≡◌, ◌⊎◌, ◌+◌, ℕ, List, [], ◌∷◌, ◌++◌, Some, None, Result, Ok, Err, length, inl, inr, refl, sym, ap, ◌∙◌}
use Rattle.deb_base.specs.Faults.{IsReadersFault, MatchFault}
use Rattle.deb_base.specs.declared.doc.Doc.TheVariants as docs
use Rattle.deb_base.specs.declared.fault.Fault.{Fault}
use Rattle.deb_base.specs.declared.fault.Fault.TheVariants.{Memory, Read}
use Rattle.deb_control.specs.Checking.{IsRefusalOfDocument}
use Rattle.deb_control.specs.Documents.{refusal_of}
use Rattle.deb_control.proofs.ComparedSoFar.{none_refused}
use Rattle.deb_index.specs.Indexes.{counts_of, packages_of}
use Rattle.deb_index.specs.Listed.{Listed}
use Rattle.deb_index.specs.Members.{ListsMembers, doc_of, member_spellings}
use Rattle.deb_index.specs.declared.index.Index.{Index}
use Rattle.deb_index.specs.declared.members.Members.{Members}
use Rattle.deb_index.specs.declared.members.Members.TheVariants.{All, Installed}
use Rattle.deb_index.proofs.FilesRead.{more-counts, more-lists, more-spellings, no_file-counts, no_file-lists}
use Rattle.debctl_commands.specs.IndexFiles.{AddsIndex, AnswersIndexes, HasFiles, IsOfNone, ReadsIndexes}
use Rattle.debctl_commands.specs.OpenedFiles.{InOrder, Opener, ReadsMore}
use Rattle.debctl_commands.specs.declared.file_fault.PlaceFault.{PlaceFault}
use Rattle.debctl_commands.proofs.InOrderSteps.{all_opened, gathered, opened_or_fault, refused_place}

-- a file that lists packages isn't refused
pub none_if_listed : (members : Members) (text : List ℕ) (packages : List Listed) → ListsMembers members text packages → refusal_of (doc_of members) text ≡ None
none_if_listed All text packages lists = none_refused docs.Packages text (length lists.meaning) (record { meaning = lists.meaning; accepted = lists.accepted; count = refl })
none_if_listed Installed text packages lists = none_refused docs.Status text (length lists.meaning) (record { meaning = lists.meaning; accepted = lists.accepted; count = refl })

module _ (members : Members) where
  -- one more file
  one_more : (before : List (List ℕ)) (text : List ℕ) (index next : Index) → HasFiles members before index → AddsIndex members index (Some text) (Ok next) → HasFiles members (before ++ text ∷ []) next
  one_more before text index next has adds = record {
    lists = more-lists members before text (packages_of index) (packages_of next) has.lists (adds.lists text refl);
    spells = adds.spells text refl ∙ ap (λ l. l ++ member_spellings members text) has.spells ∙ sym (more-spellings members before text);
    counts = more-counts members before text (packages_of index) (packages_of next) (counts_of index) (counts_of next) has.counts (adds.lists text refl) adds.counts;
  }

  of_none : (none : Index) → IsOfNone none → HasFiles members [] none
  of_none none is = record {
    lists = no_file-lists members (packages_of none) is.packages;
    spells = is.spellings;
    counts = no_file-counts members (counts_of none) is.counts;
  }

  listed : (before : List (List ℕ)) (text : List ℕ) (index next : Index) → HasFiles members before index → AddsIndex members index (Some text) (Ok next) → refusal_of (doc_of members) text ≡ None
  listed before text index next has adds = let after = adds.lists text refl in none_if_listed members text after.packages after.lists

  refused : (before : List (List ℕ)) (text : List ℕ) (index : Index) (fault : Fault) → HasFiles members before index → AddsIndex members index (Some text) (Err fault) → MatchFault fault (λ refusal. refusal_of (doc_of members) text ≡ Some refusal) (Unit {0}) (Unit {0}) (Unit {0})
  refused before text index fault has adds = adds.refused text refl

  module _ {F R : Type 0} (by : Opener F R) where
    -- the fault at a file is one of reading it
    fault_at_file : (place : ℕ) (paths : List (List ℕ)) (files after : F) (index : Index) (told : PlaceFault) → InOrder (ReadsMore by (AddsIndex members)) place paths files index (Err told) after → IsReadersFault told.fault IsRefusalOfDocument
    fault_at_file place [] files after index told order = absurd order
    fault_at_file place (path ∷ paths) files after index told (inl failed) = failed.0.adds.fault
    fault_at_file place (path ∷ paths) files after index told (inr (f, next, done, others)) = fault_at_file (place + 1) paths f after next told others

    -- what was read, beginning with an index of no file
    pub answers_read : (paths : List (List ℕ)) (files after : F) (none : Index) (answer : Result Index PlaceFault) → IsOfNone none → InOrder (ReadsMore by (AddsIndex members)) 1 paths files none answer after → AnswersIndexes by members paths files answer after
    answers_read paths files after none (Ok index) is order = record {
      in_order = inr (none, is, order);
      has = λ texts known. gathered by (AddsIndex members) (doc_of members) (HasFiles members) one_more listed refused 1 paths texts [] files after none index order known (of_none none is);
    }
    answers_read paths files after none (Err told) is order = record {
      in_order = inr (none, is, order);
      refused = λ texts known. refused_place by (AddsIndex members) (doc_of members) (HasFiles members) one_more listed refused 1 paths texts [] files after none told order known (of_none none is);
      fault = fault_at_file 1 paths files after none told order;
    }

    -- memory was refused before a file was opened
    pub answers_unread : (paths : List (List ℕ)) (files : F) → AnswersIndexes by members paths files (Err (record { place = 1; fault = Memory })) files
    answers_unread paths files = record { in_order = inl (refl, refl); refused = λ texts known. tt; fault = tt }

    -- an opening fails only with a failed read
    pub read_or_opened : (paths : List (List ℕ)) (files after : F) (index : Index) → ReadsIndexes by members paths files (Ok index) after → by.unopened after ≡ by.unopened files
    read_or_opened paths files after index (inl none) = let bad : ⊥ = cc in absurd bad
    read_or_opened paths files after index (inr (none, is, order)) = all_opened by (AddsIndex members) 1 paths files after none index order

    pub failed_or_opened : (paths : List (List ℕ)) (files after : F) (told : PlaceFault) → ReadsIndexes by members paths files (Err told) after → (by.unopened after ≡ by.unopened files) ⊎ (told.fault ≡ Read)
    failed_or_opened paths files after told (inl none) = inl (ap by.unopened none.1)
    failed_or_opened paths files after told (inr (none, is, order)) = opened_or_fault by (AddsIndex members) 1 paths files after none told order
