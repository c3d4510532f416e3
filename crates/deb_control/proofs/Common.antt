-- Passes on the names of specifications and of lower crates that the proofs cite. Declares nothing.
pub use Rattle.std.proofs.Common.{All, Bool, Bor, Equal, Err, Greater, IfErr, IfNone, IfOk, IfSome, IsFalse, IsPermutation, IsSome, IsTrue, Less, List, MatchResult, None, Ok, Option, Ordering, Result, Some, [], add-one, ap, append-nil, append_assoc, arith, cond, drop, eqb, false, flat_map, get_or, inl, inr, is_eq, is_ok, is_some, leb, length, length-append, map, min, nat_le, not, option_map, refl, rules, slice_get, subst, suc, sym, take, take-append-drop, tests, true, zero, ℕ, ◌&&◌, ◌++◌, ◌+◌, ◌-◌, ◌<◌, ◌==◌, ◌^◌, ◌||◌, ◌↔◌, ◌∙◌, ◌∷◌, ◌≡◌, ◌≤◌, ◌⊎◌}
pub use Rattle.std.proofs.KnownBytes.{Appends-nil, Appends-trans}
pub use Rattle.std.proofs.Math.Nat.{min-le_left, min-le_right}
pub use Rattle.std.proofs.Math.Seq.{drop-cons}
pub use Rattle.std.proofs.lemmas.Bool.{and_from, and_parts, both_ways, cases_lt, cond_both, false_from_ne_true, false≢true, le-leb, leb-true, lt-leb, ne_eqb, not-false, not-true, or_from, or_parts}
pub use Rattle.std.proofs.lemmas.Bool.Decides.{nat_tests}
pub use Rattle.std.proofs.lemmas.Cmp.{nat_list_cmp_total, tied_itself}
pub use Rattle.std.proofs.lemmas.Iterator.{YieldsList-from_slice}
pub use Rattle.std.proofs.lemmas.Iterator.Search.{all_from_yields_List}
pub use Rattle.std.proofs.lemmas.List.{append_cancel_left, drop_all, length-map, map-append, take-append-le}
pub use Rattle.std.proofs.lemmas.List.Elements.{All-cons, All-from_recursion, All-get_or, All-nil, All-tail, recursion_from_All}
pub use Rattle.std.proofs.lemmas.List.Sorted.{All-permutation, IsPermutation-map, answers_always, ranks_by, sorted_far}
pub use Rattle.std.proofs.lemmas.List.Sums.{sum_by-append, sum_by-cons}
pub use Rattle.std.proofs.lemmas.Map.Text.{is_eq-slice_cmp}
pub use Rattle.std.proofs.lemmas.Option.{get_or_from_slice_get, slice_get_cases, slice_get_within}
pub use Rattle.std.proofs.lemmas.Result.{err_from_is_err_and}
pub use Rattle.std.proofs.lemmas.Slice.Eq.{bytes_eq-Decides}
pub use Rattle.std.specs.BTreeMap.{insert_entry}
pub use Rattle.std.specs.Char.{to_ascii_lowercase, to_ascii_uppercase}
pub use Rattle.std.specs.FinMap.{find}
pub use Rattle.std.specs.Io.KnownBytes.{Appends}
pub use Rattle.std.specs.List.{AllByRecursion, fold, list_all, list_any, sum_by}
pub use Rattle.std.specs.List.Sorted.{IsSortedBy}
pub use Rattle.std.specs.Ordering.{eq_by_cmp, is_lt, match_ordering, ordering_reverse}
pub use Rattle.std.specs.Prelude.{is_none, ⊤}
pub use Rattle.std.specs.Str.{IsUtf8, bytes_eq}
pub use Rattle.deb_base.proofs.AllElements.{All-append, All-drop}
pub use Rattle.deb_base.proofs.CanonicalNames.{canonical_name-canonical_name, canonical_name-from_folded, folded-from_canonical_name}
pub use Rattle.deb_base.proofs.FieldBytes.{IsUtf8-with_all_ascii, blanks_are_ascii, each_from_list_all, each_name_byte, name_is_ascii}
pub use Rattle.deb_base.proofs.LaterPieces.{HoldNoBlank, HoldNoBlank-body, HoldNoBlank-pieces_of, later_pieces-append, later_pieces-cons}
pub use Rattle.deb_base.proofs.TextLines.{IsUtf8-lines, IsUtf8-with_ascii}
pub use Rattle.deb_base.proofs.Writes.{AppendsFront-more, AppendsFront-then}
pub use Rattle.deb_base.specs.Bodies.{Line, is_all_blank, is_blank, is_blank_byte, is_body_shape, line_length, newline, paragraph_limit, pieces_of, with_byte, file_limit}
pub use Rattle.deb_base.specs.Codes.{number_of}
pub use Rattle.deb_base.specs.Devices.{AppendsFront, Shown, read_failures_after}
pub use Rattle.deb_base.specs.Faults.{IsReadersFault, RefusedOrMemory}
pub use Rattle.deb_base.specs.FieldNames.{colon, is_name, is_name_byte, may_begin_name}
pub use Rattle.deb_base.specs.Names.{canonical_name, capitalised, folded}
pub use Rattle.deb_base.specs.declared.code.Code.{Code}
pub use Rattle.deb_base.specs.declared.code.Code.TheVariants.{FileTooLong, MissingField, NoParagraph, ParagraphTooLong, TooManyParagraphs}
pub use Rattle.deb_base.specs.declared.fault.Fault.{Fault}
pub use Rattle.deb_base.specs.declared.fault.Fault.TheVariants.{Memory, Read, Refused, Write}
pub use Rattle.deb_base.specs.declared.refusal.Refusal.{Refusal}
pub use Rattle.deb_field.specs.CanonLaw.{CanonLaw}
pub use Rattle.deb_base.specs.Docs.{is_single}
pub use Rattle.deb_base.specs.Kinds.{kind_of, required}
pub use Rattle.deb_field.specs.ValueCodes.{IsCodeOfValues, refusals_are_of_values}
pub use Rattle.deb_field.specs.ValueLaws.{fields_of_any_are_texts, kind_of_canonical_name, value_law, value_refusals}
pub use Rattle.deb_field.specs.ValueMeanings.{value_meaning}
pub use Rattle.deb_field.specs.Values.{SpellsKind, SpellsValue, ValueMeaning, kind_refusal, value_refusal, value_text}
pub use Rattle.deb_base.specs.declared.doc.Doc.{Doc}
pub use Rattle.deb_base.specs.declared.doc.Doc.TheVariants.{Any}
pub use Rattle.deb_base.specs.Reading.{TakesNoMore}
pub use Rattle.deb_syntax.proofs.Advancing.{reach_limit, taken_none}
pub use Rattle.deb_syntax.proofs.AnswerLaws.{next_answer-refusal}
pub use Rattle.deb_syntax.proofs.Boundaries.{lines_of-append}
pub use Rattle.deb_syntax.proofs.Callers.{goes-from_passes}
pub use Rattle.deb_syntax.proofs.FieldBytes.{IsUtf8-body}
pub use Rattle.deb_syntax.proofs.JudgingLaws.{bytes_eq-swap, judged-complete, push-append}
pub use Rattle.deb_syntax.proofs.JudgingLawsMeaning.{body_at-entries_of, distinct-permutation, entries_of-permutation}
pub use Rattle.deb_syntax.proofs.JudgingLawsRefusals.{judged-sound}
pub use Rattle.deb_syntax.proofs.LeftAnswers.{left-paragraphs}
pub use Rattle.deb_syntax.proofs.LinesLaws.{joined-pieces_of}
pub use Rattle.deb_syntax.proofs.LinesLawsPlaces.{means-unique, paragraphs_of-IsRun, paragraphs_of-StandsAmong}
pub use Rattle.deb_syntax.proofs.LinesOfPieces.{IsNonempty, IsNonempty-pieces_of, lines_of-pieces}
pub use Rattle.deb_syntax.proofs.ParagraphLines.{HaveLines, HaveLines-paragraphs_from}
pub use Rattle.deb_syntax.proofs.Parts.{line_beyond-some, part_within-all, part_within-some}
pub use Rattle.deb_syntax.proofs.Runs.{paragraphs_from-run}
pub use Rattle.deb_syntax.specs.Answers.{Seen, answer_of_first, begin_of_first, is_line, line_beyond, line_too_long, next_answer, next_begin, paragraph_answer, paragraphs_within, part_within, seen_from, whole_lines, with_whole}
pub use Rattle.deb_syntax.specs.Cursors.{cursor_state}
pub use Rattle.deb_syntax.specs.Fields.{AreDistinct, Field, IsShort, SpellsField, SpellsFields, SpellsParagraph, are_fields, are_numbered, has_name, is_field}
pub use Rattle.deb_syntax.specs.Judging.{judged}
pub use Rattle.deb_syntax.specs.Laws.{IsRun, StandsAmong, body_of}
pub use Rattle.deb_syntax.specs.Lines.{IsClosed, Paragraph, begins_blank, ends_line, lines_of, paragraphs_from, paragraphs_of, total_length, with_line}
pub use Rattle.deb_syntax.specs.Meaning.{Entries, HaveMeanings, Means, byte_order, entries_after, entries_of}
pub use Rattle.deb_syntax.specs.Paragraphs.{advance_answer, seen_of, state_of}
pub use Rattle.deb_syntax.specs.Raw.{field_named, field_of, fields_of}
pub use Rattle.deb_syntax.specs.Reading.{Advances, Answers, AnswersBegin, Begins, Fits, GivesNone, IsRefusalOfText, Moment, State, passed_count}
pub use Rattle.deb_syntax.specs.declared.raw.RawField.{RawField}
pub use Rattle.deb_control.specs.Acceptance.{IsAccepted, has_values}
pub use Rattle.deb_control.specs.AcceptanceLaws.{AcceptedIsWritten, AcceptedMeansOneThing, CanonicalTextIsAccepted, CanonicalTextIsItsOwn, CanonicalTextTellsAccepted, RefusedOrAccepted}
pub use Rattle.deb_control.specs.Refused.{seen_given, seen_in}
pub use Rattle.deb_control.specs.Calls.{HasParagraphs, IfCutOff, IfRefused, WritesCanonical, WritesRead, WritesRefused}
pub use Rattle.deb_control.specs.Canonical.{behind_colon, field_text, file_text, paragraph_text}
pub use Rattle.deb_control.specs.CheckedStates.{checked_moment, checked_state, passing_of}
pub use Rattle.deb_control.specs.CanonTexts.{AreKeysOf, AreRows, ArePlaced, IsGood, IsKeyIn, IsOrderOf, IsRow, NamesAscend, comes_first, key_bytes, known_names, name_of, no_field, numbers_in, picked, text_under}
pub use Rattle.deb_control.specs.Checking.{AnswersChecked, CheckedMoment, CheckedState, Checks, ChecksOn, FitsChecked, Follow, FollowGiven, GivesEnd, GivesPassing, HasChecked, IsRefusalOfDocument, Passing, current_answer, is_judged, is_passing, is_text_of, all_pass, passing_seen, seen_last, text_built, whole_answer}
pub use Rattle.deb_control.specs.Comparing.{Agrees, RefusesSecond, AnswersSame}
pub use Rattle.deb_control.specs.Documents.{Meaning, canonical_text, out_of, refusal_of, rules_of, text_unless_refused}
pub use Rattle.deb_control.specs.Finding.{AddsPassing, RefusesSeen, end_answer, given_answer, seen_found}
pub use Rattle.deb_control.specs.Laws.{IsAllOf, IsRefusalOfFile, RefusalsAreOfTheFile, RefusalsOfAnyAreOfText}
pub use Rattle.deb_control.specs.Pairs.{Pairwise}
pub use Rattle.deb_control.specs.ParagraphValues.{values_of}
pub use Rattle.deb_control.specs.Paragraphs.{AreValuesOf, IsTypedField, field_in, text_of_values, values_in}
pub use Rattle.deb_control.specs.PassingValues.{HasValue}
pub use Rattle.deb_control.specs.ReadingOn.{ReadsFile, ReadsOn, shown}
pub use Rattle.deb_control.specs.Refusals.{Answered, Outcome, answer_behind, answer_of_seen, built, canonical_entries, canonical_field, followed, has_some, have_names, line_behind, next_after, next_checked, next_given, outcome, outcome_behind, passed_in, refusal_by, refusal_or, refused_or_built, stopped, value_refusal_of, within_file}
pub use Rattle.deb_control.specs.Rules.{AreRulesOf, Rules}
pub use Rattle.deb_control.specs.Sorting.{name_before}
pub use Rattle.deb_control.specs.Totals.{bytes_with, gap_behind}
pub use Rattle.deb_control.specs.ValueFileLaws.{CanonicalTextMeansTheSame, CanonicalTextTellsMeanings, TextMeansOneThing}
pub use Rattle.deb_control.specs.ValueFiles.{MeansValues, SpellsEntries, SpellsEntry, ValueEntries, bodies_of, body_under, values_text}
pub use Rattle.deb_control.specs.Visiting.{IsVisit, Visit, HoldsFound, VisitsField, VisitsFields, VisitsValues, canonical_visit, fields_visited, most, texts_length, visit_of, visit_text}
pub use Rattle.deb_control.specs.declared.checked_text.CheckedText.{CheckedText}
pub use Rattle.deb_control.specs.declared.checked.Checked.{Checked}
pub use Rattle.deb_control.specs.declared.totals.Totals.{Totals}
pub use Rattle.deb_control.specs.declared.typed_field.TypedField.{TypedField}
