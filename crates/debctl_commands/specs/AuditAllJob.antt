-- What the job of `audit --all` answers and writes: of each file a record for each refusal and one
-- for its end, and the worst status. The records and statuses are this project's own; the refusals
-- are those of the runs of lines of a document of a kind (Debian Policy 5.1 and 5.3 to 5.6).
use Rattle.std.specs.Prelude.{◌≡◌, ℕ, List, [], ◌∷◌, ◌++◌, length, Option, Some, Result, Ok, Err}
use Rattle.std.specs.Prelude.{IfOk, IfErr, MatchResult, codes, refl}
use Rattle.std.specs.Fmt.{decimal, digits}
use Rattle.std.specs.List.{concat, flat_map}
use Rattle.std.specs.Str.{is_utf8, chars}
use lib.Utf8.{encode}
use Rattle.deb_base.specs.Devices.{failures_after, read_failures_after, write_failures_after, Puts}
use Rattle.deb_base.specs.Reading.{IsMemoryOrRead}
use Rattle.deb_base.specs.declared.code.Code.TheVariants.{NoColon}
use Rattle.deb_base.specs.declared.doc.Doc.{Doc}
use Rattle.deb_base.specs.declared.doc.Doc.TheVariants.{Source}
use Rattle.deb_base.specs.declared.fault.Fault.{Fault}
use Rattle.deb_base.specs.declared.fault.Fault.TheVariants.{Refused, Memory, Read, Write}
use Rattle.deb_base.specs.declared.refusal.Refusal.{Refusal}
use Rattle.deb_explain.specs.Escapes.{escaped_byte}
use Rattle.deb_explain.specs.Paths.{is_hidden, path_byte}
use Rattle.deb_control.specs.AllRefusals.{passed_of, refusals_of, total_line}
use Rattle.deb_control.specs.declared.summary.Summary.{Summary}
use Rattle.debctl_commands.specs.AuditJob.{audit_path, audit_record, record_end}
use Rattle.debctl_commands.specs.Taking.{TakesFile}
use Rattle.debctl_commands.specs.declared.unopened.Unopened.{Unopened}
use Rattle.debctl_commands.specs.declared.unopened.Unopened.TheVariants.{NotFound}
use Rattle.debctl_args.specs.declared.jobs.LineEnd.{LineEnd}
use Rattle.debctl_args.specs.declared.jobs.LineEnd.TheVariants.{Newline, Nul}

-- ---- records and statuses

-- the record of a refusal, as `audit` writes it
abbrev pub refusal_record : LineEnd → List ℕ → Refusal → List ℕ
refusal_record end path refusal = audit_record end path (Ok (Err (Refused refusal)))

-- the record of the counts of a file, which has the words of its last line
abbrev pub total_record : LineEnd → List ℕ → Summary → List ℕ
total_record end path summary =
    audit_path end path ++ concat (codes ": ok " ∷ decimal summary.passed ∷ codes ", "
    ∷ decimal summary.refused ∷ codes " refused" ∷ (record_end end ∷ []) ∷ [])

-- the record of the end of a file: its counts, or the fault that ended its reading
abbrev pub end_record : LineEnd → List ℕ → Result Summary Fault → List ℕ
end_record end path (Ok summary) = total_record end path summary
end_record end path (Err fault) = audit_record end path (Ok (Err fault))

-- What is reported of a file: why it couldn't be opened; its refusals and its end; or its first
-- refusals alone, if a write failed at the last of them.
pub data FileReport : Type 0 where
  unopened : Unopened → FileReport
  whole : List Refusal → Result Summary Fault → FileReport
  cut : List Refusal → FileReport

abbrev pub report_records : LineEnd → List ℕ → FileReport → List ℕ
report_records end path (unopened why) = audit_record end path (Err why)
report_records end path (whole refusals last) =
    flat_map (refusal_record end path) refusals ++ end_record end path last
report_records end path (cut refusals) = flat_map (refusal_record end path) refusals

-- the status of a file that was read, by its refusals
abbrev pub refusals_status : List Refusal → ℕ
refusals_status [] = 0
refusals_status (refusal ∷ more) = 2

abbrev pub end_status : List Refusal → Result Summary Fault → ℕ
end_status refusals (Ok summary) = refusals_status refusals
end_status refusals (Err fault) = 3

-- the status of a file; one whose report a failed write has cut has none
abbrev pub HasStatus : FileReport → ℕ → Type 0
HasStatus (unopened why) status = status ≡ 3
HasStatus (whole refusals last) status = status ≡ end_status refusals last
HasStatus (cut refusals) status = ⊥

-- ---- files

-- These are the first refusals of a text; or all of them, and the counts are its own.
abbrev pub AreFirstOf : Doc → List ℕ → List Refusal → Type 0
AreFirstOf doc text refusals = (more : List Refusal) × (refusals_of doc text ≡ refusals ++ more)

pub record AreAllOf (doc : Doc) (text : List ℕ) (refusals : List Refusal) (summary : Summary)
    : Type 0 where
  pub all : refusals_of doc text ≡ refusals
  pub passed : summary.passed ≡ passed_of doc text
  pub refused : summary.refused ≡ length refusals

-- What was found in a file that was read to its end, or to a fault, and what was taken of it: by
-- the text that its reader has before and after, and the reader's counts of failed calls.
pub record FindsAll (doc : Doc) (left left_after : Option (List ℕ)) (count count_after : ℕ)
    (refusals : List Refusal) (last : Result Summary Fault) : Type 0 where
  pub first : (text : List ℕ) → left ≡ Some text → AreFirstOf doc text refusals
  pub all : (text : List ℕ) → left ≡ Some text → IfOk last (AreAllOf doc text refusals)
  pub fault : IfErr last IsMemoryOrRead
  pub reads : count_after ≡ read_failures_after count last
  pub reads_at_most : TakesFile left left_after

-- The same of a file that was read to a refusal.
pub record FindsFirst (doc : Doc) (left left_after : Option (List ℕ)) (count count_after : ℕ)
    (refusals : List Refusal) : Type 0 where
  pub first : (text : List ℕ) → left ≡ Some text → AreFirstOf doc text refusals
  pub reads : count_after ≡ count
  pub reads_at_most : TakesFile left left_after

abbrev pub Finds : Doc → Option (List ℕ) → Option (List ℕ) → ℕ → ℕ → FileReport → Type 0
Finds doc left left_after count count_after (unopened why) = ⊥
Finds doc left left_after count count_after (whole refusals last) =
    FindsAll doc left left_after count count_after refusals last
Finds doc left left_after count count_after (cut refusals) =
    FindsFirst doc left left_after count count_after refusals

-- A file that was opened is read so. Of one that couldn't be opened it is reported why.
abbrev pub FindsOpened : {R : Type 0} → (R → Option (List ℕ)) → (R → ℕ) → Doc → Result R Unopened
    → Result R Unopened → FileReport → Type 0
FindsOpened left failures doc (Ok reader) (Ok after) report =
    Finds doc (left reader) (left after) (failures reader) (failures after) report
FindsOpened left failures doc (Ok reader) (Err why_after) report = ⊥
FindsOpened left failures doc (Err why) after report =
    (after ≡ Err why) × (report ≡ unopened why)

-- Of a report exactly the records were written, and the status is the file's; or a write failed,
-- before which a prefix of them was written.
pub record WritesReport (end : LineEnd) (path : List ℕ) (report : FileReport)
    (old new : Option (List ℕ)) (writes writes_after : ℕ) (status : Result ℕ Fault)
    : Type 0 where
  pub written : Puts old new status (report_records end path report)
  pub ends : MatchResult status (HasStatus report) (λ fault. fault ≡ Write)
  pub counted : writes_after ≡ write_failures_after writes status

-- The file of a path was opened, read and reported. `opened` is what opening it gave, and `after`
-- the same once it was read; `text` and `unopened` are the texts of the files and the count of
-- failed openings.
pub record ReportsPath {F R W : Type 0} (left : R → Option (List ℕ)) (failures : R → ℕ)
    (opens : F → List ℕ → Result R Unopened → F → Type 0) (text : F → List ℕ → Option (List ℕ))
    (unopened : F → ℕ) (held : W → Option (List ℕ)) (writes : W → ℕ) (doc : Doc) (end : LineEnd)
    (path : List ℕ) (files : F) (out : W) (status : Result ℕ Fault) (files_after : F)
    (out_after : W) : Type 0 where
  pub opened : Result R Unopened
  pub after : Result R Unopened
  pub report : FileReport
  pub opens_once : opens files path opened files_after
  pub known : IfOk opened (λ reader. left reader ≡ text files path)
  pub unchanged : text files_after ≡ text files
  pub counts_unopened : unopened files_after ≡ failures_after (unopened files) opened
  pub finds : FindsOpened left failures doc opened after report
  pub writes_report : WritesReport end path report (held out) (held out_after) (writes out)
      (writes out_after) status

-- ---- worked cases

-- the last record is the last line of `check --all` after the path
records_of_totals :
    (total_record Newline (codes "a/b") (record { passed = 4; refused = 30 })
    ≡ codes "a/b: ok 4, 30 refused\n")
    × (total_record Nul (codes "a\nb") (record { passed = 0; refused = 0 })
    ≡ codes "a\nb: ok 0, 0 refused" ++ 0 ∷ [])
    × (total_record Newline [] (record { passed = 4; refused = 30 })
    ≡ codes ": " ++ total_line 4 30)
unfolding digits is_utf8 chars encode is_hidden path_byte escaped_byte
records_of_totals = (refl, refl, refl)

-- for the worked cases: a refusal of a line
abbrev bad : ℕ → Refusal
bad n = record { code = NoColon; line = n }

records_of_files :
    (report_records Newline (codes "b")
    (whole (bad 1 ∷ bad 5 ∷ []) (Ok (record { passed = 2; refused = 2 })))
    ≡ codes "b: line 1: 6 NoColon\nb: line 5: 6 NoColon\nb: ok 2, 2 refused\n")
    × (report_records Newline (codes "b") (whole [] (Ok (record { passed = 2; refused = 0 })))
    ≡ codes "b: ok 2, 0 refused\n")
    × (report_records Newline (codes "b") (whole (bad 3 ∷ []) (Err Read))
    ≡ codes "b: line 3: 6 NoColon\nb: fault: read\n")
    × (report_records Newline (codes "b") (cut (bad 3 ∷ [])) ≡ codes "b: line 3: 6 NoColon\n")
    × (report_records Newline (codes "b") (unopened NotFound)
    ≡ codes "b: fault: read: no such file or directory\n")
unfolding digits is_utf8 chars encode is_hidden path_byte escaped_byte
records_of_files = (refl, refl, refl, refl, refl)

-- the status of a file that was read: by its refusals, or 3 after a fault
statuses_of_files : (end_status [] (Ok (record { passed = 2; refused = 0 })) ≡ 0)
    × (end_status (bad 1 ∷ bad 5 ∷ []) (Ok (record { passed = 2; refused = 2 })) ≡ 2)
    × (end_status [] (Err Read) ≡ 3) × (end_status (bad 1 ∷ []) (Err Memory) ≡ 3)
    × HasStatus (unopened NotFound) 3 × HasStatus (whole (bad 1 ∷ []) (Err Read)) 3
    × (HasStatus (cut (bad 1 ∷ [])) 2 ≡ ⊥)
statuses_of_files = (refl, refl, refl, refl, refl, refl, refl)

-- a file that can't be opened is reported with the same reason, and no file that was opened is
unopened_is_found :
    FindsOpened Some length Source (Err NotFound) (Err NotFound) (unopened NotFound)
    × (FindsOpened Some length Source (Ok []) (Ok []) (unopened NotFound) ≡ ⊥)
    × (FindsOpened Some length Source (Ok []) (Err NotFound) (unopened NotFound) ≡ ⊥)
unopened_is_found = ((refl, refl), refl, refl)
