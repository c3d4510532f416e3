-- What is known of a report for the words that ask for it, where it is known for the question that
-- was parsed from them; and of one file, where it is known for any number of them.
use Rattle.std.proofs.Common.{◌≡◌, ◌∙◌, ℕ, Bool, List, [], ◌∷◌, Result, Ok, Err, length, ap, inl, inr, refl, subst}
use Rattle.std.specs.Prelude.{IfErr, IfOk, Vec}
use Rattle.std.specs.Global.{Global}
use Rattle.deb_base.specs.Faults.{RefusedOrMemory}
use Rattle.deb_base.specs.declared.fault.Fault.{Fault}
use Rattle.deb_base.specs.declared.fault.Fault.TheVariants.{Refused, Memory, Read, Write}
use Rattle.deb_base.specs.declared.refusal.Refusal.{Refusal}
use Rattle.deb_relation.specs.Applying.{Environment}
use Rattle.deb_relation.specs.Meaning.{Relation}
use Rattle.deb_index.specs.Asked.{Asks, environment_asked, relation_asked}
use Rattle.deb_index.specs.Listed.{Listed}
use Rattle.deb_index.specs.Listing.{ListsAll}
use Rattle.deb_index.specs.Questions.{Question, RefusesQuery, RefusesWords, environment_in}
use Rattle.deb_index.specs.declared.members.Members.TheVariants as members
use Rattle.deb_index.specs.Reports.{report}
use Rattle.deb_index.specs.declared.question.Question.{Question as Asked}
use Rattle.debctl_ffi.specs.Queries.{Kept, RefusesAsked, RefusesKept, ReportsKept, ReportsOn, ReportsOver, detail_text, files_text}
use Rattle.debctl_ffi.specs.declared.report.Detail.{Detail}
use Rattle.debctl_ffi.specs.declared.report.Detail.TheVariants.{Reasons, Verdicts}
use Rattle.debctl_ffi.proofs.Refusals.{good_words}

-- in the environment of the words
kept_on : (detail : Detail) (q : Question) (kept : Kept) (asked : Asked) (met : Bool) (bytes : List ℕ) → Asks q asked
    → ReportsOver detail kept (relation_asked asked) (environment_asked asked) met bytes → ReportsKept detail q kept met bytes
kept_on detail q kept asked met bytes asks over =
    record {
      good = good_words q asked asks;
      over = subst (λ e. ReportsOver detail kept (relation_asked asked) e met bytes) asks.is over;
    }

pub answers_kept : (detail : Detail) (q : Question) (kept : Kept) (asked : Asked) (answer : Result (Bool × Vec ℕ Global) Fault) → Asks q asked
    → IfOk answer (λ found. ReportsOver detail kept (relation_asked asked) (environment_asked asked) found.0 found.1.items)
    → IfOk answer (λ found. ReportsKept detail q kept found.0 found.1.items)
answers_kept detail q kept asked (Ok found) asks over = kept_on detail q kept asked found.0 found.1.items asks over
answers_kept detail q kept asked (Err fault) asks over = tt

-- the words are good, and a wildcard is refused, or out of memory
lists_refused : (q : Question) (asked : Asked) (fault : Fault) → Asks q asked → RefusedOrMemory fault (RefusesAsked (relation_asked asked))
    → RefusedOrMemory fault (RefusesKept q)
lists_refused q asked (Refused refusal) asks is = inr (record { good = good_words q asked asks; refused = is })
lists_refused q asked Memory asks is = tt
lists_refused q asked Read asks is = absurd is
lists_refused q asked Write asks is = absurd is

pub faults_kept : (q : Question) (asked : Asked) (answer : Result (Bool × Vec ℕ Global) Fault) → Asks q asked
    → IfErr answer (λ fault. RefusedOrMemory fault (RefusesAsked (relation_asked asked)))
    → IfErr answer (λ fault. RefusedOrMemory fault (RefusesKept q))
faults_kept q asked (Ok found) asks is = tt
faults_kept q asked (Err fault) asks is = lists_refused q asked fault asks is

pub words_refused_kept : (q : Question) (fault : Fault) → RefusedOrMemory fault (RefusesWords q) → RefusedOrMemory fault (RefusesKept q)
words_refused_kept q (Refused refusal) is = inl is
words_refused_kept q Memory is = tt
words_refused_kept q Read is = absurd is
words_refused_kept q Write is = absurd is

-- of one file none is named
one_file-text : (detail : Detail) (count : ℕ) (packages : List Listed) (relation : Relation) (environment : Environment)
    → files_text detail (count ∷ []) packages relation environment ≡ detail_text detail packages relation environment
one_file-text Verdicts count packages relation environment = refl
one_file-text Reasons count packages relation environment = refl

pub on_one_file : (detail : Detail) (q : Question) (text : List ℕ) (kept : Kept) (met : Bool) (bytes : List ℕ) → ListsAll text kept.packages
    → kept.counts ≡ length kept.packages ∷ [] → ReportsKept detail q kept met bytes → ReportsOn detail q text met bytes
on_one_file detail q text kept met bytes lists alone is =
    let relation = is.good.relation in
    record {
      answers = report kept.packages relation (environment_in q);
      reported = record { good = is.good; packages = kept.packages; lists = lists; plain = is.over.plain; is = refl };
      met_is = is.over.met_is;
      text_is =
          is.over.text_is ∙ ap (λ counts. files_text detail counts kept.packages relation (environment_in q)) alone
          ∙ one_file-text detail (length kept.packages) kept.packages relation (environment_in q);
    }

pub refused_on : (q : Question) (text : List ℕ) (kept : Kept) (refusal : Refusal) → ListsAll text kept.packages → RefusesKept q refusal
    → RefusesQuery members.All q text refusal
refused_on q text kept refusal lists (inl words) = inl words
refused_on q text kept refusal lists (inr is) =
    inr (inr (record { good = is.good; packages = kept.packages; lists = lists; holds = is.refused.0; is = is.refused.1 }))

-- of the answer to the question
pub answers_on : (detail : Detail) (q : Question) (text : List ℕ) (asked : Asked) (kept : Kept) (answer : Result (Bool × Vec ℕ Global) Fault) → Asks q asked → ListsAll text kept.packages
    → kept.counts ≡ length kept.packages ∷ []
    → IfOk answer (λ found. ReportsOver detail kept (relation_asked asked) (environment_asked asked) found.0 found.1.items)
    → IfOk answer (λ found. ReportsOn detail q text found.0 found.1.items)
answers_on detail q text asked kept (Ok found) asks lists alone over =
    on_one_file detail q text kept found.0 found.1.items lists alone (kept_on detail q kept asked found.0 found.1.items asks over)
answers_on detail q text asked kept (Err fault) asks lists alone over = tt

pub faults_on : (q : Question) (text : List ℕ) (asked : Asked) (kept : Kept) (answer : Result (Bool × Vec ℕ Global) Fault) → Asks q asked → ListsAll text kept.packages
    → IfErr answer (λ fault. RefusedOrMemory fault (RefusesAsked (relation_asked asked)))
    → IfErr answer (λ fault. RefusedOrMemory fault (RefusesQuery members.All q text))
faults_on q text asked kept (Ok found) asks lists is = tt
faults_on q text asked kept (Err (Refused refusal)) asks lists is = refused_on q text kept refusal lists (lists_refused q asked (Refused refusal) asks is)
faults_on q text asked kept (Err Memory) asks lists is = tt
faults_on q text asked kept (Err Read) asks lists is = absurd is
faults_on q text asked kept (Err Write) asks lists is = absurd is
