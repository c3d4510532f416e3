-- What was read of the file of a relation.
use Rattle.std.proofs.Common.{◌≡◌, ◌⊎◌, ◌<◌, ◌≤◌, ◌++◌, ℕ, Bool, List, Option, Result, Ok, Err, length, inl, inr, ap, ◌∙◌, refl, sym, subst, arith, append-nil, length-append}
use Rattle.std.proofs.Math.Dec.{lit≤}
use Rattle.deb_base.specs.Bodies.{paragraph_limit, file_limit}
use Rattle.deb_base.specs.Lines.{fault_line}
use Rattle.deb_base.specs.Reading.{ReadsEnough, TakesNoMore}
use Rattle.deb_base.specs.declared.fault.Fault.{Fault}
use Rattle.deb_index.specs.declared.members.Members.{Members}
use Rattle.deb_index.specs.Questions.{Question}
use Rattle.debctl_commands.specs.JobDevices.{ReaderOfJob, WriterOfJob}
use Rattle.debctl_commands.specs.Promises.{Ends, plain, yes_or_no}
use Rattle.debctl_commands.specs.QueryFrom.{AreRefusedFrom, IsRead, QueriesRead, RefusesLong, at_second, from_promise, long_relation}
use Rattle.debctl_commands.specs.QueryJob.{AreRefused, QueriesFile}
use Rattle.debctl_commands.specs.Reporting.{ReportsBy}
use Rattle.debctl_commands.specs.declared.query_job.QueryOptions.{QueryOptions}

-- a file of a relation may have fewer bytes than any file
pub no_more : (text : List ℕ) (left : Option (List ℕ)) → TakesNoMore text 16777216 left → TakesNoMore text file_limit left
unfolding file_limit
no_more text left takes =
    let fewer : 16777216 ≤ 4294967295 = lit≤ tt in
    record { rest = takes.rest; told = takes.told; few = omega (arith, takes.few, fewer) }

-- as many bytes as a relation may have are all of the file
pub is_read : (left : Option (List ℕ)) (read : List ℕ) → length read ≤ 16777216 → ReadsEnough 16777216 left read → IsRead left read
unfolding paragraph_limit
is_read left read short enough = record {
  short = short;
  all = λ text known. let e = enough text known in elim e.enough [
    | inl nothing ↦ e.whole ∙ ap (λ rest. read ++ rest) nothing ∙ append-nil read
    | inr long ↦ absurd (omega (arith, long, short))
  ];
}

-- more bytes are of a file that is too long
pub is_long : (left : Option (List ℕ)) (read : List ℕ) → 16777216 < length read → ReadsEnough 16777216 left read → RefusesLong left long_relation
unfolding paragraph_limit
is_long left read long enough = record {
  long = λ text known. let e = enough text known in omega (arith, long, ap length e.whole, length-append read e.rest);
  is = refl;
}

-- the words are refused with the relation that was read, if they are with that of the file
pub words_of_read : (ask : List ℕ → Question) (left : Option (List ℕ)) (relation word : List ℕ) → IsRead left relation → word ≡ relation → AreRefusedFrom ask left → AreRefused (ask word)
words_of_read ask left relation word read is bad = go bad.2
  where
    same : bad.0 ≡ relation
    same = read.all bad.0 bad.1

    go : (paragraph_limit < length bad.0) ⊎ AreRefused (ask bad.0) → AreRefused (ask word)
    go (inl long) = let short = read.short in let lengths : length bad.0 ≡ length relation = ap length same in absurd (omega (arith, long, short, lengths))
    go (inr refused) = subst (λ t. AreRefused (ask t)) (same ∙ sym is) refused

-- the query of the relation that was read has an answer, which is that of the job
pub read_ends : {W E : Type 0} (members : Members) (options : QueryOptions) (ask : List ℕ → Question) (first second : ReaderOfJob) (out : WriterOfJob W) (err : WriterOfJob E) (relation word : List ℕ) → IsRead first.text relation → word ≡ relation → first.failures_after ≡ first.failures
    → (status : ℕ) → Ends (plain yes_or_no (λ none second out. QueriesFile members options (ask word) second.text second.failures second.failures_after out.held out.failures out.old out.new)) first second out err status → Ends (from_promise members options ask) first second out err status
read_ends {W} members options ask first second out err relation word read is unfailed status (answer, says, reported) = go answer (subst (λ r. QueriesFile members options (ask r) second.text second.failures second.failures_after out.held out.failures out.old out.new answer) is says) reported
  where
    queried : (answer : Result Bool Fault) → QueriesFile members options (ask relation) second.text second.failures second.failures_after out.held out.failures out.old out.new answer → QueriesRead members options ask first second out (at_second answer)
    queried answer says = record { relation = relation; read = read; unfailed = unfailed; queried = answer; is = refl; queries = says }

    go : (answer : Result Bool Fault) → QueriesFile members options (ask relation) second.text second.failures second.failures_after out.held out.failures out.old out.new answer
        → ReportsBy yes_or_no (λ (fault : Fault). fault) fault_line err.held err.failures err.old err.new answer status → Ends (from_promise {W = W} members options ask) first second out err status
    go (Ok met) says reported = (Ok met, inl (queried (Ok met) says), reported)
    go (Err fault) says reported = (at_second (Err fault), inl (queried (Err fault) says), reported)
