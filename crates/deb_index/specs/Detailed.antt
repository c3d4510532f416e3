-- The report with reasons that the values of the code are to the contracts, and the answer of the
-- call that makes it.
use Rattle.std.specs.Prelude.{◌≡◌, ℕ, List, [], ◌∷◌, ◌++◌, drop, length, take, IsFalse, IsTrue, Result, Ok, Err, codes, refl}
use Rattle.deb_base.specs.Faults.{RefusedOrMemory}
use Rattle.deb_base.specs.declared.fault.Fault.{Fault}
use Rattle.deb_relation.specs.Applying.{Environment}
use Rattle.deb_relation.specs.Meaning.{Relation}
use Rattle.deb_relation.specs.Tests.{some_wildcard}
use Rattle.deb_index.specs.Listed.{Listed}
use Rattle.deb_index.specs.Questions.{wildcard}
use Rattle.deb_index.specs.Reported.{answer_of, answers_left, report_of}
use Rattle.deb_index.specs.Reports.{Answer}
use Rattle.deb_index.specs.ReportText.{VersionShown, canonical_version}
use Rattle.deb_index.specs.Why.{Detailed, detailed_report_by}
use Rattle.deb_index.specs.declared.why.DetailedAnswer.{DetailedAnswer}
use Rattle.deb_index.specs.declared.why.DetailedAnswers.{DetailedAnswers}
use Rattle.deb_index.specs.declared.why.DetailedReport.{DetailedReport}
use Rattle.deb_index.specs.declared.verdict.Verdict.TheVariants.{Unmet}

abbrev pub detailed_of : DetailedAnswer → Detailed
detailed_of reported =
    record { answer = answer_of reported.answer; reasons = reported.reasons.now }

-- the first of some lengths, or 0
abbrev pub first_len : List ℕ → ℕ
first_len [] = 0
first_len (n ∷ lens) = n

-- the answers with their lines, of which each has as many bytes as its length says
abbrev pub details_cut : List Answer → List ℕ → List ℕ → List Detailed
details_cut [] reasons lens = []
details_cut (a ∷ answers) reasons lens =
    record { answer = a; reasons = take (first_len lens) reasons }
    ∷ details_cut answers (drop (first_len lens) reasons) (drop 1 lens)

-- the answers that an iterator has left
abbrev pub details_left : DetailedAnswers → List Detailed
details_left left = details_cut (answers_left left.answers) left.reasons.now left.lens.now

abbrev pub details_of : DetailedReport → List Detailed
details_of reported =
    details_cut (report_of reported.report) reported.reasons.items reported.lens.items

-- Lines were appended, and this is how many bytes they have.
pub record AppendsBelow (old new lines : List ℕ) (len : ℕ) : Type 0 where
  pub appended : new ≡ old ++ lines
  pub counted : len ≡ length lines

-- the report of a relation with reasons, or its refusal for a wildcard
abbrev pub DetailsOfBy : VersionShown → List Listed → Relation → Environment
    → Result DetailedReport Fault → Type 0
DetailsOfBy shown packages relation environment (Ok found) =
    IsFalse (some_wildcard relation)
    × (details_of found ≡ detailed_report_by shown packages relation environment)
DetailsOfBy shown packages relation environment (Err fault) =
    RefusedOrMemory fault (λ refusal. IsTrue (some_wildcard relation) × (refusal ≡ wildcard))

-- with canonical versions
abbrev pub DetailsOf : List Listed → Relation → Environment → Result DetailedReport Fault → Type 0
DetailsOf packages relation environment answer =
    DetailsOfBy canonical_version packages relation environment answer

-- two bytes for the first answer, none for the second, and the others for the third
abbrev answered : List ℕ → Answer
answered text = record { text = text; verdict = Unmet; packages = [] }

worked-cut : details_cut (answered (codes "a") ∷ answered (codes "b") ∷ answered (codes "c") ∷ [])
    (codes "xxyyy") (2 ∷ 0 ∷ 3 ∷ [])
    ≡ record { answer = answered (codes "a"); reasons = codes "xx" }
    ∷ record { answer = answered (codes "b"); reasons = [] }
    ∷ record { answer = answered (codes "c"); reasons = codes "yyy" } ∷ []
worked-cut = refl

worked-first : (first_len [] ≡ 0) × (first_len (3 ∷ 1 ∷ []) ≡ 3)
worked-first = (refl, refl)
