-- What remains of lines without their refused runs: the paragraphs that pass, and no newline or byte more.
use Rattle.std.proofs.Common.{◌≡◌, ◌≢◌, ◌+◌, ◌-◌, ◌≤◌, ◌++◌, Bool, ℕ, true, false, cond, List, [], ◌∷◌, length, map, take, drop, Option, None, Some, Result, Ok, Err, refl, sym, ap, ◌∙◌, subst, arith, append_assoc, true≢false}
use Rattle.std.proofs.Math.Seq.{drop-append-add, drop-append_seam, take-append_seam}
use Rattle.std.proofs.lemmas.List.Sums.{sum_by-append}
use Rattle.std.specs.List.{AllByRecursion}
use Rattle.deb_base.proofs.AllElements.{All-append}
use Rattle.deb_base.specs.Bodies.{HasNoNewline, Line, is_blank, line_length, paragraph_limit, file_limit}
use Rattle.deb_base.specs.declared.refusal.Refusal.{Refusal}
use Rattle.deb_syntax.proofs.JudgingLaws.{all_left, all_right}
use Rattle.deb_syntax.proofs.NextParagraph.{no_paragraph}
use Rattle.deb_syntax.proofs.Runs.{paragraphs_from-blanks, paragraphs_from-run}
use Rattle.deb_syntax.specs.Extents.{AreBlank, AreNotBlank}
use Rattle.deb_syntax.specs.Laws.{AreRuns}
use Rattle.deb_syntax.specs.Lines.{Paragraph, begins_blank, paragraphs_from, total_length}
use Rattle.deb_syntax.specs.Meaning.{Entries}
use Rattle.deb_control.proofs.Passing.{AllPass, Passes, never_past, passes-from_answer}
use Rattle.deb_control.specs.Refusals.{answer_behind}
use Rattle.deb_control.specs.Rules.{Rules}
use Rattle.deb_control.specs.Streams.{CheckedItem, CheckedStream, end_of, ended_by, is_end_under, item_of, refusals_in, stream_behind_under, with_answer, with_item}
use Rattle.deb_control.proofs.Renumbered.{passes_moved}
use Rattle.deb_control.specs.Remaining.{passed_bodies, passed_lines, remaining_lines}

pub blank_begins : (lines : List Line) → AreBlank lines → begins_blank lines ≡ true
blank_begins [] h = refl
blank_begins (line ∷ lines) h = h.0

-- one line of a run comes first, unless a blank line does
begins_front : (blanks own rest more lines : List Line) → lines ≡ blanks ++ (own ++ rest) → AreBlank blanks → own ≢ [] → AreNotBlank own → begins_blank lines ≡ true → begins_blank (blanks ++ more) ≡ true
begins_front (blank ∷ blanks) own rest more lines is blank_lines some solid begins = blank_lines.0
begins_front [] [] rest more lines is blank_lines some solid begins = absurd (some refl)
begins_front [] (line ∷ own) rest more lines is blank_lines some solid begins = absurd (true≢false (sym begins ∙ ap begins_blank is ∙ solid.0))

-- the paragraphs of blank lines, a run and what follows
paragraphs_kept : (m : ℕ) (blanks own more : List Line) → AreBlank blanks → own ≢ [] → AreNotBlank own → begins_blank more ≡ true → paragraphs_from m (blanks ++ (own ++ more)) ≡ record { first = m + length blanks; lines = own } ∷ paragraphs_from (m + length blanks + length own) more
paragraphs_kept m blanks [] more blank some solid begins = absurd (some refl)
paragraphs_kept m blanks (line ∷ own) more blank some solid begins =
    paragraphs_from-blanks m blanks ((line ∷ own) ++ more) blank ∙ paragraphs_from-run (m + length blanks) line own more solid begins

-- how many bytes may remain of the lines after the last paragraph that is looked at
abbrev pub tail_length : Option ℕ → List Line → ℕ
tail_length None tail = total_length tail
tail_length (Some line) tail = 0

-- What remains of lines: the paragraphs that pass after others, at whatever line.
pub record Remains (rules : Rules) (beyond : Option ℕ) (before : List Entries) (lines tail out : List Line) (items : List CheckedItem) : Type 0 where
  pub passes : (m : ℕ) → AllPass rules None before (paragraphs_from m out) (passed_bodies items)
  pub own : (m : ℕ) → map (λ p. p.lines) (paragraphs_from m out) ≡ passed_lines items
  pub begins : begins_blank lines ≡ true → begins_blank out ≡ true
  pub no_newline : AllByRecursion HasNoNewline out
  pub short : total_length out ≤ total_length lines + tail_length beyond tail

total : (a b : List Line) → total_length (a ++ b) ≡ total_length a + total_length b
total a b = sum_by-append line_length a b

never_beyond : (rules : Rules) (beyond : Option ℕ) (nb : ℕ) (before : List Entries) (next : Option Entries) → answer_behind rules beyond nb before [] ≡ Ok next → beyond ≡ None
never_beyond rules None nb before next h = refl
never_beyond rules (Some line) nb before next h = absurd (cc)

module _ (rules : Rules) (beyond : Option ℕ) (nb : ℕ) (tail : List Line) (blank : beyond ≡ None → AreBlank tail) (whole : AllByRecursion HasNoNewline tail) where
  abbrev stream : List Entries → List Paragraph → CheckedStream
  stream before left = stream_behind_under paragraph_limit file_limit rules beyond nb before left

  -- what remains, where the stream is this one
  abbrev out_of : ℕ → List Line → CheckedStream → List Line
  out_of n lines s = remaining_lines n lines s.items s.end

  nothing : (before : List Entries) (lines : List Line) → Remains rules beyond before lines tail [] []
  nothing before lines = record { passes = λ m. refl; own = λ m. refl; begins = λ _. refl; no_newline = tt; short = omega arith }

  all_blank : (before : List Entries) (lines : List Line) → beyond ≡ None → AreBlank lines → AllByRecursion HasNoNewline lines → Remains rules beyond before lines tail (lines ++ tail) []
  all_blank before lines fits blank_lines none =
      let all : AreBlank (lines ++ tail) = All-append (λ line. is_blank line ≡ true) lines tail blank_lines (blank fits) in
      record {
        passes = λ m. subst (λ ps. AllPass rules None before ps []) (sym (no_paragraph m (lines ++ tail) all)) refl;
        own = λ m. ap (map (λ p. p.lines)) (no_paragraph m (lines ++ tail) all);
        begins = λ _. blank_begins (lines ++ tail) all;
        no_newline = All-append HasNoNewline lines tail none whole;
        short = omega (arith, total lines tail, ap (λ b. tail_length b tail) fits);
      }

  at_end : (before : List Entries) (n : ℕ) (lines : List Line) → AreBlank lines → AllByRecursion HasNoNewline lines → (a : Result (Option Entries) Refusal) → answer_behind rules beyond nb before [] ≡ a → Remains rules beyond before lines tail (out_of n (lines ++ tail) (end_of a)) (end_of a).items
  at_end before n lines blank_lines none (Err refusal) is = nothing before lines
  at_end before n lines blank_lines none (Ok next) is = all_blank before lines (never_beyond rules beyond nb before next is) blank_lines none

  module _ (before : List Entries) (n : ℕ) (lines : List Line) (p : Paragraph) (left : List Paragraph) (runs : AreRuns n lines (p ∷ left)) (none : AllByRecursion HasNoNewline lines) where
    abbrev blanks : List Line
    blanks = runs.0

    abbrev rest : List Line
    rest = runs.1

    abbrev behind : ℕ
    behind = n + length blanks + length p.lines

    parts : AllByRecursion HasNoNewline (blanks ++ (p.lines ++ rest))
    parts = subst (AllByRecursion HasNoNewline) runs.2 none

    own_parts : AllByRecursion HasNoNewline (p.lines ++ rest)
    own_parts = all_right HasNoNewline blanks (p.lines ++ rest) parts

    pub rest_parts : AllByRecursion HasNoNewline rest
    rest_parts = all_right HasNoNewline p.lines rest own_parts

    size : total_length lines ≡ total_length blanks + (total_length p.lines + total_length rest)
    size = ap total_length runs.2 ∙ total blanks (p.lines ++ rest) ∙ ap (λ k. total_length blanks + k) (total p.lines rest)

    -- the seams of the lines
    whole_is : lines ++ tail ≡ blanks ++ (p.lines ++ (rest ++ tail))
    whole_is = ap (λ ls. ls ++ tail) runs.2 ∙ append_assoc blanks (p.lines ++ rest) tail ∙ ap (λ ls. blanks ++ ls) (append_assoc p.lines rest tail)

    gap : p.first - n ≡ length blanks
    gap = omega (arith, runs.4)

    front_is : take (p.first - n) (lines ++ tail) ≡ blanks
    front_is = ap (λ k. take k (lines ++ tail)) gap ∙ ap (take (length blanks)) whole_is ∙ take-append_seam blanks (p.lines ++ (rest ++ tail))

    rest_is : drop (p.first - n + length p.lines) (lines ++ tail) ≡ rest ++ tail
    rest_is = ap (λ k. drop (k + length p.lines) (lines ++ tail)) gap ∙ ap (drop (length blanks + length p.lines)) whole_is ∙ drop-append-add blanks (p.lines ++ (rest ++ tail)) (length p.lines) ∙ drop-append_seam p.lines (rest ++ tail)

    pub parted : (kept : List Line) (items : List CheckedItem) (end : Option Refusal) → take (p.first - n) (lines ++ tail) ++ (kept ++ remaining_lines (p.first + length p.lines) (drop (p.first - n + length p.lines) (lines ++ tail)) items end) ≡ blanks ++ (kept ++ remaining_lines behind (rest ++ tail) items end)
    parted kept items end =
        ap (λ ls. ls ++ (kept ++ remaining_lines (p.first + length p.lines) (drop (p.first - n + length p.lines) (lines ++ tail)) items end)) front_is
        ∙ ap (λ ls. blanks ++ (kept ++ remaining_lines (p.first + length p.lines) ls items end)) rest_is
        ∙ ap (λ k. blanks ++ (kept ++ remaining_lines (k + length p.lines) (rest ++ tail) items end)) runs.4

    kept_run : (entries : Entries) (out : List Line) (items : List CheckedItem) → Passes rules beyond before p entries → Remains rules beyond (before ++ entries ∷ []) rest tail out items → Remains rules beyond before lines tail (blanks ++ (p.lines ++ out)) (item_of p (Ok entries) ∷ items)
    kept_run entries out items passes more =
        let own : AllByRecursion HasNoNewline p.lines = all_left HasNoNewline p.lines rest own_parts in
        let paragraphs = λ (m : ℕ). paragraphs_kept m blanks p.lines out runs.3 runs.5 runs.6 (more.begins runs.7) in
        record {
          passes = λ m. subst (λ ps. AllPass rules None before ps (entries ∷ passed_bodies items)) (sym (paragraphs m))
              (passes_moved rules beyond before p entries (m + length blanks) (record { some = runs.5; no_newline = own; not_blank = runs.6 }) passes, more.passes (m + length blanks + length p.lines));
          own = λ m. ap (map (λ q. q.lines)) (paragraphs m) ∙ ap (λ ls. p.lines ∷ ls) (more.own (m + length blanks + length p.lines));
          begins = begins_front blanks p.lines rest (p.lines ++ out) lines runs.2 runs.3 runs.5 runs.6;
          no_newline = All-append HasNoNewline blanks (p.lines ++ out) (all_left HasNoNewline blanks (p.lines ++ rest) parts) (All-append HasNoNewline p.lines out own more.no_newline);
          short = omega (arith, total blanks (p.lines ++ out), total p.lines out, more.short, size);
        }

    refused_run : (refusal : Refusal) (out : List Line) (items : List CheckedItem) → Remains rules beyond before rest tail out items → Remains rules beyond before lines tail (blanks ++ out) (item_of p (Err refusal) ∷ items)
    refused_run refusal out items more = record {
      passes = λ m. subst (λ ps. AllPass rules None before ps (passed_bodies items)) (sym (paragraphs_from-blanks m blanks out runs.3)) (more.passes (m + length blanks));
      own = λ m. ap (map (λ q. q.lines)) (paragraphs_from-blanks m blanks out runs.3) ∙ more.own (m + length blanks);
      begins = begins_front blanks p.lines rest out lines runs.2 runs.3 runs.5 runs.6;
      no_newline = All-append HasNoNewline blanks out (all_left HasNoNewline blanks (p.lines ++ rest) parts) more.no_newline;
      short = omega (arith, total blanks out, more.short, size);
    }

    -- by what is answered of the run, and what remains after it
    at_one : ((passed : List Entries) → Remains rules beyond passed rest tail (out_of behind (rest ++ tail) (stream passed left)) (stream passed left).items) → (a : Result (Option Entries) Refusal) → answer_behind rules beyond nb before (p ∷ left) ≡ a → Remains rules beyond before lines tail (out_of n (lines ++ tail) (with_answer (is_end_under paragraph_limit rules p) p before a (λ passed. stream passed left))) (with_answer (is_end_under paragraph_limit rules p) p before a (λ passed. stream passed left)).items
    at_one more (Ok None) is = absurd (never_past rules beyond nb before p left is)
    at_one more (Ok (Some entries)) is =
        let next = stream (before ++ entries ∷ []) left in
        subst (λ out. Remains rules beyond before lines tail out (item_of p (Ok entries) ∷ next.items)) (sym (parted p.lines next.items next.end))
        (kept_run entries (out_of behind (rest ++ tail) next) next.items (passes-from_answer rules beyond nb before p left entries is) (more (before ++ entries ∷ [])))
    at_one more (Err refusal) is = go (is_end_under paragraph_limit rules p refusal)
      where
        go : (t : Bool) → Remains rules beyond before lines tail (out_of n (lines ++ tail) (cond t (ended_by (Some refusal)) (with_item (item_of p (Err refusal)) (stream before left)))) (cond t (ended_by (Some refusal)) (with_item (item_of p (Err refusal)) (stream before left))).items
        go true = nothing before lines
        go false =
            let next = stream before left in
            subst (λ out. Remains rules beyond before lines tail out (item_of p (Err refusal) ∷ next.items)) (sym (parted [] next.items next.end))
            (refused_run refusal (out_of behind (rest ++ tail) next) next.items (more before))

    -- where nothing is refused, all of the run and of what comes after it remains
    all_of_one : ((passed : List Entries) → refusals_in (stream passed left).items (stream passed left).end ≡ [] → out_of behind (rest ++ tail) (stream passed left) ≡ rest ++ tail) → (a : Result (Option Entries) Refusal) → refusals_in (with_answer (is_end_under paragraph_limit rules p) p before a (λ passed. stream passed left)).items (with_answer (is_end_under paragraph_limit rules p) p before a (λ passed. stream passed left)).end ≡ [] → out_of n (lines ++ tail) (with_answer (is_end_under paragraph_limit rules p) p before a (λ passed. stream passed left)) ≡ lines ++ tail
    all_of_one more (Ok None) h = refl
    all_of_one more (Ok (Some entries)) h =
        let next = stream (before ++ entries ∷ []) left in
        parted p.lines next.items next.end ∙ ap (λ ls. blanks ++ (p.lines ++ ls)) (more (before ++ entries ∷ []) h) ∙ sym whole_is
    all_of_one more (Err refusal) h = go (is_end_under paragraph_limit rules p refusal) h
      where
        go : (t : Bool) → refusals_in (cond t (ended_by (Some refusal)) (with_item (item_of p (Err refusal)) (stream before left))).items (cond t (ended_by (Some refusal)) (with_item (item_of p (Err refusal)) (stream before left))).end ≡ [] → out_of n (lines ++ tail) (cond t (ended_by (Some refusal)) (with_item (item_of p (Err refusal)) (stream before left))) ≡ lines ++ tail
        go true e = absurd (cc)
        go false e = absurd (cc)

  pub remains : (before : List Entries) (n : ℕ) (lines : List Line) (left : List Paragraph) → AreRuns n lines left → AllByRecursion HasNoNewline lines → Remains rules beyond before lines tail (out_of n (lines ++ tail) (stream before left)) (stream before left).items
  remains before n lines [] runs none = at_end before n lines runs none (answer_behind rules beyond nb before []) refl
  remains before n lines (p ∷ left) runs none =
      at_one before n lines p left runs none (λ passed. remains passed (n + length runs.0 + length p.lines) runs.1 left runs.8 (rest_parts before n lines p left runs none)) (answer_behind rules beyond nb before (p ∷ left)) refl

  pub all_remain : (before : List Entries) (n : ℕ) (lines : List Line) (left : List Paragraph) → AreRuns n lines left → AllByRecursion HasNoNewline lines → refusals_in (stream before left).items (stream before left).end ≡ [] → out_of n (lines ++ tail) (stream before left) ≡ lines ++ tail
  all_remain before n lines [] runs none h = go (answer_behind rules beyond nb before []) h
    where
      go : (a : Result (Option Entries) Refusal) → refusals_in (end_of a).items (end_of a).end ≡ [] → out_of n (lines ++ tail) (end_of a) ≡ lines ++ tail
      go (Ok next) e = refl
      go (Err refusal) e = absurd (cc)
  all_remain before n lines (p ∷ left) runs none h =
      all_of_one before n lines p left runs none (λ passed. all_remain passed (n + length runs.0 + length p.lines) runs.1 left runs.8 (rest_parts before n lines p left runs none)) (answer_behind rules beyond nb before (p ∷ left)) h
