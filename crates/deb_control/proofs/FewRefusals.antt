-- A file has few refusals.
use Rattle.std.proofs.Common.{◌≤◌, ℕ, ◌+◌, ◌++◌, Bool, true, false, cond, List, [], ◌∷◌, length, Option, None, Some, Result, Ok, Err, ap, arith, suc}
use Rattle.std.proofs.lemmas.List.{length-map}
use Rattle.deb_base.specs.Bodies.{Line, is_blank, paragraph_limit, file_limit}
use Rattle.deb_base.specs.declared.doc.Doc.{Doc}
use Rattle.deb_base.specs.declared.refusal.Refusal.{Refusal}
use Rattle.deb_syntax.specs.Answers.{line_beyond, paragraphs_within, part_within}
use Rattle.deb_syntax.specs.Lines.{Paragraph, begins_blank, lines_of, paragraphs_from, with_line}
use Rattle.deb_syntax.specs.Meaning.{Entries}
use Rattle.deb_syntax.proofs.Boundaries.{few_lines}
use Rattle.deb_control.specs.AllRefusals.{refusals_of, refusals_of_stream}
use Rattle.deb_control.specs.Documents.{rules_of}
use Rattle.deb_control.specs.Refusals.{answer_behind, line_behind}
use Rattle.deb_control.specs.Rules.{Rules}
use Rattle.deb_control.specs.SeenRefusals.{refusals_seen}
use Rattle.deb_control.specs.Streams.{end_of, ended_by, is_end_under, item_of, stream_behind_under, with_answer, with_item}
use Rattle.deb_control.proofs.Remaining.{part_short}
use Rattle.deb_control.proofs.SeenRefusals.{alone_are}

few_behind : (rules : Rules) (beyond : Option ℕ) (n : ℕ) (before : List Entries) (left : List Paragraph) → length (refusals_of_stream (stream_behind_under paragraph_limit file_limit rules beyond n before left)) ≤ length left + 1
few_behind rules beyond n before [] = go (answer_behind rules beyond n before [])
  where
    go : (a : Result (Option Entries) Refusal) → length (refusals_of_stream (end_of a)) ≤ 1
    go (Ok entries) = omega arith
    go (Err refusal) = omega arith
few_behind rules beyond n before (p ∷ left) = go (answer_behind rules beyond n before (p ∷ left)) (λ passed. few_behind rules beyond n passed left)
  where
    go : (a : Result (Option Entries) Refusal) → ((passed : List Entries) → length (refusals_of_stream (stream_behind_under paragraph_limit file_limit rules beyond n passed left)) ≤ length left + 1) → length (refusals_of_stream (with_answer (is_end_under paragraph_limit rules p) p before a (λ passed. stream_behind_under paragraph_limit file_limit rules beyond n passed left))) ≤ suc (length left) + 1
    go (Ok (Some entries)) few = omega (arith, few (before ++ entries ∷ []))
    go (Ok None) few = omega arith
    go (Err refusal) few = either (is_end_under paragraph_limit rules p refusal)
      where
        either : (t : Bool) → length (refusals_of_stream (cond t (ended_by (Some refusal)) (with_item (item_of p (Err refusal)) (stream_behind_under paragraph_limit file_limit rules beyond n before left)))) ≤ suc (length left) + 1
        either true = omega arith
        either false = omega (arith, few before)

few_with_line : (n : ℕ) (line : Line) (t : Bool) (ps : List Paragraph) → length (with_line n line t ps) ≤ length ps + 1
few_with_line n line false (p ∷ ps) = omega arith
few_with_line n line false [] = omega arith
few_with_line n line true ps = omega arith

few_from : (n : ℕ) (lines : List Line) → length (paragraphs_from n lines) ≤ length lines
few_from n [] = omega arith
few_from n (line ∷ lines) = go (is_blank line) (few_from (n + 1) lines)
  where
    go : (t : Bool) → length (paragraphs_from (n + 1) lines) ≤ length lines → length (cond t (paragraphs_from (n + 1) lines) (with_line n line (begins_blank lines) (paragraphs_from (n + 1) lines))) ≤ suc (length lines)
    go true few = omega (arith, few)
    go false few = omega (arith, few, few_with_line n line (begins_blank lines) (paragraphs_from (n + 1) lines))

-- a file has fewer refusals than the greatest count
few_refusals : (doc : Doc) (text : List ℕ) → length (refusals_of doc text) ≤ file_limit + 1
few_refusals doc text =
    omega (arith, few_behind (rules_of doc) (line_beyond 1 file_limit text) (line_behind text) [] (paragraphs_within text), few_from 1 (lines_of (part_within file_limit text)), few_lines (part_within file_limit text), (part_short text).1)

pub few_seen : (doc : Doc) (text : List ℕ) → length (refusals_seen doc text) ≤ file_limit + 1
few_seen doc text = omega (arith, few_refusals doc text, ap length (alone_are doc text), length-map (refusals_seen doc text) (λ seen. seen.refusal))
