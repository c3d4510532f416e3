-- The proofs of the laws, as a set that the module of laws names.
use Rattle.deb_syntax.proofs.AnswerLaws.{answers-accepted, accepted-answers, next_answer-end, next_answer-behind}
use Rattle.deb_syntax.proofs.JudgingLaws.{judged-complete}
use Rattle.deb_syntax.proofs.JudgingLawsMeaning.{entries_of-permutation, entries_of-same, body_at-entries_of}
use Rattle.deb_syntax.proofs.JudgingLawsRefusals.{spells-unique}
use Rattle.deb_syntax.proofs.LinesLaws.{joined-pieces_of}
use Rattle.deb_syntax.proofs.LinesLawsPlaces.{meant_or_refused, paragraphs_of-IsRun, paragraphs_of-StandsAmong, means-unique}
use Rattle.deb_syntax.proofs.LinesLawsRuns.{paragraphs_from-AreRuns, paragraphs_from-unique}
use Rattle.deb_syntax.proofs.LinesLawsTexts.{lines_of-no_newline, with_newlines-lines_of, lines_of-with_newlines}
use Rattle.deb_syntax.proofs.StreamLaws.{answers_are_of_stream}

pub ruleset laws = (judged-complete, entries_of-permutation, entries_of-same, body_at-entries_of, joined-pieces_of, lines_of-with_newlines, means-unique, answers-accepted, accepted-answers, next_answer-end, next_answer-behind, spells-unique, lines_of-no_newline, with_newlines-lines_of, paragraphs_of-IsRun, paragraphs_of-StandsAmong, meant_or_refused, paragraphs_from-AreRuns, paragraphs_from-unique, answers_are_of_stream)
