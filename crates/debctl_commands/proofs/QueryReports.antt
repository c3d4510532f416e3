-- From what the parts of a query answer to what the job answers.
use Rattle.std.proofs.Common.{◌≡◌, ℕ, Bool, List, Option, Some, Result, Ok, Err, inl, inr, refl, subst}
use Rattle.std.specs.Io.KnownBytes.{Appends}
use Rattle.deb_base.specs.Devices.{AppendsFront, read_failures_after}
use Rattle.deb_base.specs.Faults.{IsReadersFault, RefusedOrMemory}
use Rattle.deb_base.specs.declared.fault.Fault.{Fault}
use Rattle.deb_base.specs.declared.fault.Fault.TheVariants.{Refused, Memory, Read, Write}
use Rattle.deb_control.specs.Calls.{IfRefused}
use Rattle.deb_control.specs.Checking.{IsRefusalOfDocument}
use Rattle.deb_control.specs.Documents.{refusal_of}
use Rattle.deb_index.specs.Listed.{Listed}
use Rattle.deb_index.specs.Members.{ListsMembers, doc_of, member_spellings}
use Rattle.deb_index.specs.declared.members.Members.{Members}
use Rattle.deb_index.specs.Reports.{report}
use Rattle.deb_index.specs.declared.index.Index.{Index}
use Rattle.deb_index.specs.Asked.{Asks, relation_asked}
use Rattle.deb_index.specs.Questions.{IsGood, Question, RefusesWords, environment_in}
use Rattle.deb_index.specs.declared.question.Question.{Question as Asked}
use Rattle.debctl_commands.specs.QueryJob.{AreRefused, QueriesFile, ReportsOver, options_text}
use Rattle.debctl_commands.specs.declared.query_job.QueryOptions.{QueryOptions}

-- the words of a question that was parsed are good
abbrev pub good_words : (q : Question) (asked : Asked) → Asks q asked → IsGood q
good_words q asked asks = record { relation = relation_asked asked; spelled = asks.spelled; environment = asks.environment }

-- and are not refused
pub not_refused : (q : Question) → IsGood q → AreRefused q → ⊥
not_refused q good bad = elim bad [
  | inl none ↦ none good.relation good.spelled
  | inr is_false ↦ let is = good.environment in cc
]

-- the words are refused, or out of memory: nothing was read or written
pub words_refused : {W : Type 0} (members : Members) (options : QueryOptions) (q : Question) (left : Option (List ℕ)) (count : ℕ) (held : W → Option (List ℕ)) (failures : W → ℕ) (out : W) (fault : Fault)
    → RefusedOrMemory fault (RefusesWords q) → QueriesFile members options q left count count held failures out out (Err fault)
words_refused members options q left count held failures out (Refused refusal) is =
    record { ok = λ text known. tt; refused = λ text known. inl is; write = λ text known. tt; refusal = inl is; unwritten = refl; reads = refl; writes = refl }
words_refused members options q left count held failures out Memory is =
    record { ok = λ text known. tt; refused = λ text known. tt; write = λ text known. tt; refusal = tt; unwritten = refl; reads = refl; writes = refl }
words_refused members options q left count held failures out Read is = absurd is
words_refused members options q left count held failures out Write is = absurd is

-- a fault of the index: nothing was written
pub index_refused : {W : Type 0} (members : Members) (options : QueryOptions) (q : Question) (left : Option (List ℕ)) (count count_after : ℕ) (held : W → Option (List ℕ)) (failures : W → ℕ) (out : W) (fault : Fault)
    → IsGood q → ((text : List ℕ) → left ≡ Some text → IfRefused {T = Index} (Err fault) (λ refusal. refusal_of (doc_of members) text ≡ Some refusal)) → IsReadersFault fault IsRefusalOfDocument
    → count_after ≡ read_failures_after {T = Index} count (Err fault) → QueriesFile members options q left count count_after held failures out out (Err fault)
index_refused members options q left count count_after held failures out (Refused refusal) good refused is reads =
    record { ok = λ text known. tt; refused = λ text known. inr (inl (record { good = good; refused = refused text known })); write = λ text known. tt; refusal = inr (good, inl is); unwritten = refl; reads = reads; writes = refl }
index_refused members options q left count count_after held failures out Memory good refused is reads =
    record { ok = λ text known. tt; refused = λ text known. tt; write = λ text known. tt; refusal = tt; unwritten = refl; reads = reads; writes = refl }
index_refused members options q left count count_after held failures out Read good refused is reads =
    record { ok = λ text known. tt; refused = λ text known. tt; write = λ text known. tt; refusal = tt; unwritten = refl; reads = reads; writes = refl }
index_refused members options q left count count_after held failures out Write good refused is reads = absurd is

-- what is written over an index that was read
pub queries_over : {W : Type 0} (members : Members) (options : QueryOptions) (q : Question) (left : Option (List ℕ)) (count count_after : ℕ) (held : W → Option (List ℕ)) (failures : W → ℕ) (out new : W) (answer : Result Bool Fault) (good : IsGood q) (spellings : List (List ℕ)) (packages : List Listed)
    → ((text : List ℕ) → left ≡ Some text → ListsMembers members text packages) → ((text : List ℕ) → left ≡ Some text → spellings ≡ member_spellings members text) → count_after ≡ count → ReportsOver options spellings packages good.relation (environment_in q) held failures out new answer
    → QueriesFile members options q left count count_after held failures out new answer
queries_over members options q left count count_after held failures out new (Ok met) good spellings packages lists spelled reads over =
    let answers = report packages good.relation (environment_in q) in
    record {
      ok = λ text known. record { answers = answers; reported = record { good = good; packages = packages; lists = lists text known; plain = over.ok.0; is = refl }; met_is = over.ok.1; written = subst (λ texts. Appends (held out) (held new) (options_text options texts packages good.relation (environment_in q))) (spelled text known) over.ok.2 };
      refused = λ text known. tt;
      write = λ text known. tt;
      refusal = tt;
      unwritten = tt;
      reads = reads;
      writes = over.writes;
    }
queries_over members options q left count count_after held failures out new (Err (Refused refusal)) good spellings packages lists spelled reads over =
    record {
      ok = λ text known. tt;
      refused = λ text known. inr (inr (record { good = good; packages = packages; lists = lists text known; holds = over.fault.0; is = over.fault.1 }));
      write = λ text known. tt;
      refusal = inr (good, inr over.fault.1);
      unwritten = over.fault.2;
      reads = reads;
      writes = over.writes;
    }
queries_over members options q left count count_after held failures out new (Err Memory) good spellings packages lists spelled reads over =
    record { ok = λ text known. tt; refused = λ text known. tt; write = λ text known. tt; refusal = tt; unwritten = over.fault; reads = reads; writes = over.writes }
queries_over members options q left count count_after held failures out new (Err Read) good spellings packages lists spelled reads over = absurd over.fault
queries_over members options q left count count_after held failures out new (Err Write) good spellings packages lists spelled reads over =
    let answers = report packages good.relation (environment_in q) in
    record {
      ok = λ text known. tt;
      refused = λ text known. tt;
      write = λ text known. record { answers = answers; reported = record { good = good; packages = packages; lists = lists text known; plain = over.fault.0; is = refl }; written = subst (λ texts. AppendsFront (held out) (held new) (options_text options texts packages good.relation (environment_in q))) (spelled text known) over.fault.1 };
      refusal = tt;
      unwritten = tt;
      reads = reads;
      writes = over.writes;
    }
