-- The report that the values of the code are to the contracts.
use Rattle.std.specs.Prelude.{List}
use Rattle.deb_index.specs.AnswerStores.{answers_cut, answers_in, numbered}
use Rattle.deb_index.specs.Indexes.{packages_of}
use Rattle.deb_index.specs.Kept.{listed_of}
use Rattle.deb_index.specs.Reports.{Numbered, Answer}
use Rattle.deb_index.specs.declared.answer.Answer.{Answer as Answered}
use Rattle.deb_index.specs.declared.answer.Answers.{Answers}
use Rattle.deb_index.specs.declared.answer.Found.{Found}
use Rattle.deb_index.specs.declared.answer.FoundPackages.{FoundPackages}
use Rattle.deb_index.specs.declared.report.Report.{Report}

abbrev pub found_of : Found → Numbered
found_of found = (found.number, listed_of found.package)

-- the packages that an iterator has left
abbrev pub found_left : FoundPackages → List Numbered
found_left found = numbered (packages_of found.index.now) found.numbers.now

abbrev pub answer_of : Answered → Answer
answer_of reported =
    record {
      text = reported.text.now;
      verdict = reported.verdict;
      packages = found_left reported.packages;
    }

-- the answers that an iterator has left
abbrev pub answers_left : Answers → List Answer
answers_left left =
    answers_cut (packages_of left.index.now) left.texts.now left.numbers.now left.spans.now

abbrev pub report_of : Report → List Answer
report_of reported = answers_in (packages_of reported.index.now) reported.answers
