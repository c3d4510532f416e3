-- What the job of `query --relation-from` answers and reports: that of `query`, for the relation
-- that a file contains. The limit of that file, and its refusal, are this project's own.
use Rattle.std.proofs.Common.{arith}
use Rattle.std.specs.Prelude.{◌≡◌, ◌⊎◌, ◌+◌, ◌<◌, ◌≤◌, ℕ, ⊤, Bool, List, Option, Some, Result, Ok, Err}
use Rattle.std.specs.Prelude.{length, codes, refl}
use Rattle.std.specs.Fmt.{digits}
use Rattle.deb_base.specs.Bodies.{paragraph_limit}
use Rattle.deb_base.specs.Devices.{read_failures_after}
use Rattle.deb_base.specs.Faults.{IsReadersFault}
use Rattle.deb_base.specs.Lines.{fault_line, refusal_line}
use Rattle.deb_base.specs.declared.code.Code.TheVariants.{ParagraphTooLong}
use Rattle.deb_base.specs.declared.fault.Fault.{Fault}
use Rattle.deb_base.specs.declared.fault.Fault.TheVariants.{Read}
use Rattle.deb_base.specs.declared.refusal.Refusal.{Refusal}
use Rattle.deb_control.specs.declared.side.Side.TheVariants.{First, Second}
use Rattle.deb_control.specs.declared.side.SideFault.{SideFault}
use Rattle.deb_index.specs.Questions.{Question}
use Rattle.deb_index.specs.declared.members.Members.{Members}
use Rattle.debctl_commands.specs.JobDevices.{ReaderOfJob, WriterOfJob}
use Rattle.debctl_commands.specs.Promises.{Promise, yes_or_no}
use Rattle.debctl_commands.specs.QueryJob.{AreRefused, QueriesFile}
use Rattle.debctl_commands.specs.declared.query_job.QueryOptions.{QueryOptions}

-- ---- the relation

-- a file has more bytes than a paragraph may have
abbrev pub IsLong : List ℕ → Type 0
IsLong text = paragraph_limit < length text

abbrev pub long_relation : Refusal
long_relation = record { code = ParagraphTooLong; line = 0 }

-- These bytes were read as a relation: all of the file's, where these are known.
pub record IsRead (left : Option (List ℕ)) (relation : List ℕ) : Type 0 where
  pub short : length relation ≤ paragraph_limit
  pub all : (text : List ℕ) → left ≡ Some text → text ≡ relation

-- The file is too long, where its text is known.
pub record RefusesLong (left : Option (List ℕ)) (refusal : Refusal) : Type 0 where
  pub long : (text : List ℕ) → left ≡ Some text → IsLong text
  pub is : refusal ≡ long_relation

-- The file of the relation is too long, or the words with its relation are refused.
abbrev pub AreRefusedFrom : (List ℕ → Question) → Option (List ℕ) → Type 0
AreRefusedFrom ask left =
    (relation : List ℕ) × (left ≡ Some relation) × (IsLong relation ⊎ AreRefused (ask relation))

-- ---- the answer

-- `ask` is the question of the command-line arguments about a relation, `first` the reader of its
-- file, and `second` that of the index.

-- the answer of a query, whose faults are those of the second file
abbrev pub at_second : {T : Type 0} → Result T Fault → Result T SideFault
at_second (Ok answer) = Ok answer
at_second (Err fault) = Err (record { side = Second; fault = fault })

-- A relation was read, and the query of it has this answer.
pub record QueriesRead {W : Type 0} (members : Members) (options : QueryOptions)
    (ask : List ℕ → Question) (first second : ReaderOfJob) (out : WriterOfJob W)
    (answer : Result Bool SideFault) : Type 0 where
  pub relation : List ℕ
  pub read : IsRead first.text relation
  pub unfailed : first.failures_after ≡ first.failures
  pub queried : Result Bool Fault
  pub is : answer ≡ at_second queried
  pub queries : QueriesFile members options (ask relation) second.text second.failures
      second.failures_after out.held out.failures out.old out.new queried

-- No relation was read, since the file is too long, memory was refused or a read failed. The index
-- wasn't read, and nothing was written to `out`.
pub record LeavesUnread {W : Type 0} (first second : ReaderOfJob) (out : WriterOfJob W)
    (answer : Result Bool SideFault) : Type 0 where
  pub fault : Fault
  pub is : answer ≡ Err (record { side = First; fault = fault })
  pub fault_is : IsReadersFault fault (RefusesLong first.text)
  pub counted : first.failures_after ≡ read_failures_after {T = ⊤} first.failures (Err fault)
  pub untouched : second.failures_after ≡ second.failures
  pub unwritten : out.new ≡ out.old

-- What the job promises: its faults are reported without a side.
abbrev pub from_promise : {W : Type 0} → Members → QueryOptions → (List ℕ → Question) → Promise W
from_promise {W} members options ask =
    record {
      Answer = Bool;
      Failure = SideFault;
      report = yes_or_no;
      fault = λ told. told.fault;
      line = λ told. fault_line told.fault;
      Says = λ first second out answer.
          QueriesRead members options ask first second out answer
          ⊎ LeavesUnread first second out answer;
    }

line_of_long_relation : refusal_line long_relation ≡ codes "line 0: 8 ParagraphTooLong\n"
unfolding digits
line_of_long_relation = refl

-- a file of as many bytes as a paragraph may have isn't long, and one of one byte more is
limit_of_relations : (text : List ℕ) → length text ≡ paragraph_limit → IsLong text → ⊥
limit_of_relations text is long = omega (arith, is, long)

beyond_the_limit : (text : List ℕ) → length text ≡ paragraph_limit + 1 → IsLong text
beyond_the_limit text is = omega (arith, is)

-- and what was read is never longer than that
read_is_short : (left : Option (List ℕ)) (relation : List ℕ) → IsRead left relation
    → length relation ≤ paragraph_limit
read_is_short left relation read = read.short

sides_of_answers : (at_second {T = ℕ} (Ok 7) ≡ Ok 7)
    × (at_second {T = ℕ} (Err Read) ≡ Err (record { side = Second; fault = Read }))
sides_of_answers = (refl, refl)
