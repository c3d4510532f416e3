-- The names of specifications and of lower crates that the proofs cite, passed on from one span. Declares nothing.
pub use Rattle.std.proofs.Common.{Bool, Contains, Err, IfNone, IsFalse, IsPermutation, IsTrue, IsUtf8, List, MatchOption, MatchResult, None, Ok, Option, Result, Some, T, [], ap, append_assoc, arith, cond, drop, eqb, false, flat_map, fold, get_or, inl, inr, leb, length, length-append, length-drop, length-take, map, nat_le, nat_lt, not, refl, rules, set, slice_index, slice_index_or, slice_range, subst, suc, sym, take, true, zero, ℕ, ◌&&◌, ◌++◌, ◌+◌, ◌-◌, ◌<◌, ◌==◌, ◌||◌, ◌∙◌, ◌∷◌, ◌≡◌, ◌≢◌, ◌≤◌, ◌⊎◌}
pub use Rattle.std.proofs.Math.Seq.{drop-append_seam, drop-length, take-add, take-append-add, take-append_seam}
pub use Rattle.std.proofs.lemmas.Bool.{and_from, and_parts, and_right, cases_lt, cond-false, cond-true, cond_both, eq-eqb, eqb-true, false_from_ne_true, false≢true, le-leb, leb-false, leb-true, lt-leb, lt-ltb, ltb-true, not-false, not-true, not_from_false, or_from, or_parts, or_right, true≢false}
pub use Rattle.std.proofs.lemmas.Bool.Decides.{nat_tests, same_from_decides}
pub use Rattle.std.proofs.lemmas.Cmp.{nat_list_cmp_total}
pub use Rattle.std.proofs.lemmas.List.{append-nil, drop-drop, drop-take, drop_all, drop_at, drop_more, length-set, length-take-le, length_push, map_push, places, same_lists, take-append-drop, take-append-le, take_all, take_at, take_more, take_more_set, take_rest, with_items_is}
pub use Rattle.std.proofs.lemmas.List.Elements.{All-from_get_or}
pub use Rattle.std.proofs.lemmas.List.Folds.{Any-from_list_any, list_all-append, list_any-append, list_any_at, list_any_none}
pub use Rattle.std.proofs.lemmas.List.Sorted.{Contains-permutation, IsPermutation-middle, IsPermutation-sym, IsPermutation-to_front, list_any-IsPermutation}
pub use Rattle.std.proofs.lemmas.List.Splits.{join_with_byte-slice_split}
pub use Rattle.std.proofs.lemmas.List.Sums.{passes_at_first, position_or_len_is, split_at_first, sum_by-append, sum_by-cons}
pub use Rattle.std.proofs.lemmas.Map.Keys.{IsDistinct-IsPermutation}
pub use Rattle.std.proofs.lemmas.Map.Text.{is_eq-slice_cmp}
pub use Rattle.std.proofs.lemmas.Option.{MatchOption-at_none}
pub use Rattle.std.proofs.lemmas.Result.{IfErr-weaker, MatchResult-at_err, MatchResult-at_ok, MatchResult-weaker, err_from_is_err_and}
pub use Rattle.std.proofs.lemmas.Simd.{map-map}
pub use Rattle.std.proofs.lemmas.Slice.Eq.{bytes_eq-Decides}
pub use Rattle.std.proofs.lemmas.Str.{IsUtf8-from_is_utf8, is_utf8-from_IsUtf8}
pub use Rattle.std.specs.BTreeMap.{insert_entry}
pub use Rattle.std.specs.Cmp.Lexicographic.{nat_list_eq_equiv}
pub use Rattle.std.specs.FinMap.{is_sorted, nat_cmp-IsAntisymmetric, put, slice_cmp-IsAntisymmetric}
pub use Rattle.std.specs.FinMap.Entries.{by_order, find-put, is_sorted-put, same_entries}
pub use Rattle.std.specs.Io.KnownBytes.{Consumes, IsAtEnd}
pub use Rattle.std.specs.List.{AllByRecursion, after_first, before_first, list_all, list_any, position_or_len, prefix_len}
pub use Rattle.std.specs.Option.{option_map}
pub use Rattle.std.specs.Ordering.{eq_by_cmp, match_ordering}
pub use Rattle.std.specs.Prelude.{IfSome, IsSome}
pub use Rattle.std.specs.Str.{bytes_eq, is_utf8}
pub use Rattle.std.specs.declared.cmp.Ordering.{Ordering}
pub use Rattle.std.specs.declared.cmp.Ordering.TheVariants.{Equal, Greater, Less}
pub use Rattle.deb_base.proofs.AllElements.{All-append, All-drop, All-weaker}
pub use Rattle.deb_base.proofs.BodyLemmas.{IsBody-from_test, is_body-from_IsBody, slice_split-pieces_of}
pub use Rattle.deb_base.proofs.CanonicalNames.{canonical_name-from_folded, folded-from_canonical_name}
pub use Rattle.deb_base.proofs.FieldBytes.{IsUtf8-after_all_ascii, IsUtf8-before_all_ascii, blanks_are_ascii, each_from_list_all, each_name_byte, name_is_ascii}
pub use Rattle.deb_base.proofs.LaterPieces.{later_pieces-append}
pub use Rattle.deb_base.proofs.TextLines.{IsUtf8-after_ascii, IsUtf8-joined, IsUtf8-lines}
pub use Rattle.deb_base.proofs.Trims.{IsTrimmed, trimmed-between, trimmed_cut}
pub use Rattle.deb_base.specs.Bodies.{HasNoNewline, IsBody, Line, begins_with_blank, ends_with_blank, is_all_blank, is_blank, is_blank_byte, is_body, is_body_shape, is_continuation, joined, line_length, newline, paragraph_limit, pieces_of, with_byte, file_limit}
pub use Rattle.deb_base.specs.Devices.{Shown, read_failures_after}
pub use Rattle.deb_base.specs.Faults.{IsReadersFault}
pub use Rattle.deb_base.specs.FieldNames.{colon, is_name, is_name_byte, may_begin_name}
pub use Rattle.deb_base.specs.Kinds.{known_row, row_count}
pub use Rattle.deb_base.specs.KnownFields.{IsAtFront, row_of}
pub use Rattle.deb_base.specs.Names.{canonical_name, folded}
pub use Rattle.deb_base.specs.declared.known_fields.FieldId.{FieldId}
pub use Rattle.deb_base.specs.declared.known_fields.NameAtFront.{NameAtFront}
pub use Rattle.deb_base.specs.Trimming.{trimmed}
pub use Rattle.deb_base.specs.declared.code.Code.{Code}
pub use Rattle.deb_base.specs.declared.code.Code.TheVariants.{BadFieldName, DuplicateField, FileTooLong, NoColon, NotUtf8, ParagraphTooLong}
pub use Rattle.deb_base.specs.declared.fault.Fault.{Fault}
pub use Rattle.deb_base.specs.declared.fault.Fault.TheVariants.{Memory, Read, Refused, Write}
pub use Rattle.deb_base.specs.declared.refusal.Refusal.{Refusal}
pub use Rattle.memchr.specs.Find.{IsFirstByte, is_byte}
pub use Rattle.deb_base.specs.Reading.{TakesNoMore, piece_limit}
pub use Rattle.deb_syntax.specs.Ahead.{At, HasFirst, IsExtentOf, IsFirst, KeepsLine, KeepsLines, SameCounts, Skips, left_answer, left_begin, passed_of}
pub use Rattle.deb_syntax.specs.Answers.{Seen, answer_of_first, begin_of_first, is_line, line_beyond, line_too_long, next_answer, next_begin, paragraph_answer, paragraphs_within, part_within, seen_from, whole_lines, with_whole}
pub use Rattle.deb_syntax.specs.Extents.{AreBlank, AreNotBlank}
pub use Rattle.deb_syntax.specs.Cursors.{Comes, CursorState, IsEnd, PassesOn, Sees, Takes, buffer_of, cursor_state, had, left_count, room_of, start_of}
pub use Rattle.deb_syntax.specs.Fields.{AreDistinct, Field, IsShort, SpellsField, SpellsFields, SpellsParagraph, are_fields, are_numbered, has_name, is_field}
pub use Rattle.deb_syntax.specs.Judging.{begins_armour, begins_comment, begun, continuation_line, continued, ended, field_line, has_colon, is_named, judged, line_judged, lines_judged, with_text}
pub use Rattle.deb_syntax.specs.Laws.{AreRuns, IsFirstRefusal, IsLineRefusal, IsRefusalWithin, IsRun, IsTextRefusal, StandsAmong, body_at, body_of, with_last_newline}
pub use Rattle.deb_syntax.specs.Lines.{IsClosed, Paragraph, begins_blank, ends_blank, ends_line, lines_of, paragraphs_from, paragraphs_of, total_length, with_line, with_newlines}
pub use Rattle.deb_syntax.specs.Meaning.{Accepted, Entries, HaveMeanings, Means, byte_order, entries_after, entries_of}
pub use Rattle.deb_syntax.specs.Paragraphs.{state_of}
pub use Rattle.deb_syntax.specs.FieldSpans.{IsFaultOf, Keeps, KeepsNext, LastGoesOn, StandsAt, begun_at, begun_fields, ends_before, field_at, fields_at, has_row, has_stood, is_kept, lies_within, name_at}
pub use Rattle.deb_syntax.specs.Raw.{field_named, fields_of, has_field_in}
pub use Rattle.deb_syntax.specs.Reading.{Advances, Answers, Begins, BeginsHere, Fits, GivesLine, GivesNext, GivesNone, IsRefusalOfText, Moment, KeepsErrors, State, passed_count, state_from, tells_end}
pub use Rattle.deb_syntax.specs.CurrentParagraphs.{EndsOverlong, HidesLong, current_of, stands_within}
pub use Rattle.deb_syntax.specs.NextLines.{CutsLine, Describes, DropsLong, EndsLine, IsEndedLine, IsNear, IsNewline, IsNextLine, KeepsCounts, ReadsLine}
pub use Rattle.deb_syntax.specs.declared.ending.Extent.{Extent}
pub use Rattle.deb_syntax.specs.declared.file_cursor.FileCursor.{FileCursor}
pub use Rattle.deb_syntax.specs.declared.file_cursor.Visible.{Visible}
pub use Rattle.deb_syntax.specs.declared.first.FirstLine.{FirstLine}
pub use Rattle.deb_syntax.specs.declared.first.FirstLine.TheVariants.{TooLong, NoMore, Buffered}
pub use Rattle.deb_syntax.specs.declared.folded_name.FoldedName.{FoldedName}
pub use Rattle.deb_syntax.specs.declared.line.Dropped.{Dropped}
pub use Rattle.deb_syntax.specs.declared.line.NextLine.{NextLine}
pub use Rattle.deb_syntax.specs.declared.line.NextLine.TheVariants.{Blank, Cut, Ended, Overlong, Whole}
pub use Rattle.deb_syntax.specs.declared.field_span.FieldSpan.{FieldSpan}
pub use Rattle.deb_syntax.specs.declared.seen_names.Names.{Names}
