-- What the job of `audit` answers and writes of a file: a record, and the status. The
-- records and statuses are this project's own; acceptance and refusals are those of documents of a
-- kind (Debian Policy 5.1 and 5.3 to 5.6).
use Rattle.std.specs.Prelude.{◌≡◌, ℕ, true, List, [], ◌∷◌, ◌++◌, length, Option, Some, Result, Ok}
use Rattle.std.specs.Prelude.{Err, IfOk, MatchResult, codes, refl}
use Rattle.std.specs.Fmt.{decimal, digits}
use Rattle.std.specs.List.{concat}
use Rattle.std.specs.Str.{is_utf8, chars}
use lib.Utf8.{encode}
use Rattle.deb_base.specs.Bodies.{newline}
use Rattle.deb_base.specs.Codes.{number_of, name_of}
use Rattle.deb_base.specs.Devices.{failures_after, write_failures_after, Puts}
use Rattle.deb_base.specs.Lines.{fault_line}
use Rattle.deb_base.specs.declared.code.Code.TheVariants.{NoColon}
use Rattle.deb_base.specs.declared.fault.Fault.{Fault}
use Rattle.deb_base.specs.declared.fault.Fault.TheVariants.{Refused, Memory, Read, Write}
use Rattle.deb_base.specs.declared.doc.Doc.{Doc}
use Rattle.deb_base.specs.declared.doc.Doc.TheVariants.{Source}
use Rattle.deb_explain.specs.Escapes.{escaped_byte}
use Rattle.deb_explain.specs.Paths.{is_hidden, path_byte, shown_path}
use Rattle.debctl_commands.specs.DocumentJobs.{ok_line}
use Rattle.debctl_commands.specs.Verdicts.{demand, verdict_status, verdict_words, AnswersFile}
use Rattle.debctl_commands.specs.declared.verdict.Verdict.{Verdict}
use Rattle.debctl_commands.specs.declared.verdict.Verdict.TheVariants.{Whole, NoNewline, TooFew}
use Rattle.debctl_args.specs.declared.jobs.Demands.{Demands}
use Rattle.debctl_commands.specs.Reporting.{status_of}
use Rattle.debctl_commands.specs.Unopened.{unopened_words}
use Rattle.debctl_commands.specs.declared.unopened.Unopened.{Unopened}
use Rattle.debctl_commands.specs.declared.unopened.Unopened.TheVariants.{NotFound, NotUtf8}
use Rattle.debctl_args.specs.declared.jobs.LineEnd.{LineEnd}
use Rattle.debctl_args.specs.declared.jobs.LineEnd.TheVariants.{Newline, Nul}

-- ---- records and statuses

-- a fault, as its line has it
abbrev pub fault_words : Fault → List ℕ
fault_words (Refused refusal) =
    concat (codes "line " ∷ decimal refusal.line ∷ codes ": " ∷ decimal (number_of refusal.code)
    ∷ codes " " ∷ name_of refusal.code ∷ [])
fault_words Memory = codes "fault: memory"
fault_words Read = codes "fault: read"
fault_words Write = codes "fault: write"

-- what is answered of a file
abbrev pub answer_words : Result Verdict Fault → List ℕ
answer_words (Ok verdict) = verdict_words verdict
answer_words (Err fault) = fault_words fault

-- what became of a file: of one that couldn't be opened, with why
abbrev pub outcome_words : Result (Result Verdict Fault) Unopened → List ℕ
outcome_words (Ok answer) = answer_words answer
outcome_words (Err why) = codes "fault: read: " ++ unopened_words why

-- a record is a line, with the path as it can be shown; or it ends with the byte 0, and has the
-- path as it is
abbrev pub audit_path : LineEnd → List ℕ → List ℕ
audit_path Newline path = shown_path path
audit_path Nul path = path

abbrev pub record_end : LineEnd → ℕ
record_end Newline = newline
record_end Nul = 0

-- the record of a file
abbrev pub audit_record : LineEnd → List ℕ → Result (Result Verdict Fault) Unopened → List ℕ
audit_record end path outcome =
    audit_path end path ++ (codes ": " ++ (outcome_words outcome ++ record_end end ∷ []))

-- the status of what is answered: 0 where a file is accepted and meets the demands, 2 where it is
-- refused or doesn't, else 3
abbrev pub answer_status : Result Verdict Fault → ℕ
answer_status (Ok verdict) = verdict_status verdict
answer_status (Err fault) = status_of fault

-- the status of a file
abbrev pub outcome_status : Result (Result Verdict Fault) Unopened → ℕ
outcome_status (Ok answer) = answer_status answer
outcome_status (Err why) = 3

-- ---- files

-- A file that was opened is answered, and nothing more is asked of its reader. Of one that couldn't
-- be opened the answer is why.
abbrev pub AnswersOpened : {R : Type 0} → (R → Option (List ℕ)) → (R → ℕ) → Doc → Demands
    → Result R Unopened → Result R Unopened → Result (Result Verdict Fault) Unopened → Type 0
AnswersOpened left failures doc demands (Ok reader) (Ok after) (Ok answer) =
    AnswersFile doc demands (left reader) (left after) (failures reader) (failures after) answer
AnswersOpened left failures doc demands (Ok reader) (Ok after) (Err why) = ⊥
AnswersOpened left failures doc demands (Ok reader) (Err why_after) outcome = ⊥
AnswersOpened left failures doc demands (Err why) after outcome =
    (after ≡ Err why) × (outcome ≡ Err why)

-- The file of a path was opened once, answered and reported by its record, and the status is the
-- file's; or a write failed, before which a prefix of the record was written. `opened` is what
-- opening it gave, and `after` the same once it was answered; `text` and `unopened` are the texts
-- of the files and the count of failed openings.
pub record AuditsPath {F R W : Type 0} (left : R → Option (List ℕ)) (failures : R → ℕ)
    (opens : F → List ℕ → Result R Unopened → F → Type 0) (text : F → List ℕ → Option (List ℕ))
    (unopened : F → ℕ) (held : W → Option (List ℕ)) (writes : W → ℕ) (doc : Doc)
    (demands : Demands) (end : LineEnd) (path : List ℕ) (files : F) (out : W)
    (status : Result ℕ Fault) (files_after : F) (out_after : W) : Type 0 where
  pub opened : Result R Unopened
  pub after : Result R Unopened
  pub outcome : Result (Result Verdict Fault) Unopened
  pub opens_once : opens files path opened files_after
  pub known : IfOk opened (λ reader. left reader ≡ text files path)
  pub unchanged : text files_after ≡ text files
  pub counts_unopened : unopened files_after ≡ failures_after (unopened files) opened
  pub answers : AnswersOpened left failures doc demands opened after outcome
  pub reported : Puts (held out) (held out_after) status (audit_record end path outcome)
  pub ends : MatchResult status (λ n. n ≡ outcome_status outcome) (λ fault. fault ≡ Write)
  pub counted : writes out_after ≡ write_failures_after (writes out) status

line_of_accepted : audit_record Newline (codes "a/b") (Ok (Ok (Whole 2))) ≡ codes "a/b: ok 2\n"
unfolding digits is_utf8 chars encode is_hidden path_byte escaped_byte
line_of_accepted = refl

-- a refusal, and a fault, as the line of each has it
words_are_of_lines :
    (fault_line (Refused (record { code = NoColon; line = 1 }))
    ≡ fault_words (Refused (record { code = NoColon; line = 1 })) ++ newline ∷ [])
    × (fault_words (Refused (record { code = NoColon; line = 1 })) ≡ codes "line 1: 6 NoColon")
    × (fault_line Memory ≡ fault_words Memory ++ newline ∷ [])
    × (fault_line Read ≡ fault_words Read ++ newline ∷ [])
    × (fault_line Write ≡ fault_words Write ++ newline ∷ [])
    × (ok_line 120 ≡ answer_words (Ok (Whole 120)) ++ newline ∷ [])
unfolding digits
words_are_of_lines = (refl, refl, refl, refl, refl, refl)

lines_of_incomplete : (audit_record Newline (codes "b") (Ok (Ok NoNewline))
    ≡ codes "b: incomplete: no newline at the end\n")
    × (audit_record Nul (codes "b") (Ok (Ok (TooFew 1 20)))
    ≡ codes "b: incomplete: 1 of at least 20 paragraphs" ++ 0 ∷ [])
unfolding digits is_utf8 chars encode is_hidden path_byte escaped_byte
lines_of_incomplete = (refl, refl)

line_of_refused :
    audit_record Newline (codes "b") (Ok (Err (Refused (record { code = NoColon; line = 1 }))))
    ≡ codes "b: line 1: 6 NoColon\n"
unfolding digits is_utf8 chars encode is_hidden path_byte escaped_byte
line_of_refused = refl

line_of_unopened : audit_record Newline (codes "missing") (Err NotFound)
    ≡ codes "missing: fault: read: no such file or directory\n"
unfolding is_utf8 chars encode is_hidden path_byte escaped_byte
line_of_unopened = refl

line_of_memory : audit_record Newline (codes "c") (Ok (Err Memory)) ≡ codes "c: fault: memory\n"
unfolding is_utf8 chars encode is_hidden path_byte escaped_byte
line_of_memory = refl

-- a path with a newline is one line, or a record with the newline in it; a path may have no byte
odd_paths : (audit_record Newline (codes "a\nb") (Ok (Err Read)) ≡ codes "a\\nb: fault: read\n")
    × (audit_record Nul (codes "a\nb") (Ok (Err Read)) ≡ codes "a\nb: fault: read" ++ 0 ∷ [])
    × (audit_record Newline [] (Err NotUtf8) ≡ codes ": fault: read: the path isn't UTF-8\n")
unfolding is_utf8 chars encode is_hidden path_byte escaped_byte
odd_paths = (refl, refl, refl)

status_of_each : (outcome_status (Ok (Ok (Whole 1))) ≡ 0)
    × (outcome_status (Ok (Ok NoNewline)) ≡ 2) × (outcome_status (Ok (Ok (TooFew 1 2))) ≡ 2)
    × (outcome_status (Ok (Err (Refused (record { code = NoColon; line = 1 })))) ≡ 2)
    × (outcome_status (Ok (Err Read)) ≡ 3) × (outcome_status (Err NotFound) ≡ 3)
status_of_each = (refl, refl, refl, refl, refl, refl)

-- a file that can't be opened is reported with the same reason, and no file is reported otherwise
unopened_is_reported :
    AnswersOpened Some length Source (demand true 2) (Err NotFound) (Err NotFound) (Err NotFound)
    × (AnswersOpened Some length Source (demand true 2) (Ok []) (Ok []) (Err NotFound) ≡ ⊥)
    × (AnswersOpened Some length Source (demand true 2) (Ok []) (Err NotFound) (Ok (Err Read)) ≡ ⊥)
unopened_is_reported = ((refl, refl), refl, refl)
