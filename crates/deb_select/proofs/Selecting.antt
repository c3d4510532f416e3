-- What was written of a file while its paragraphs came one after another.
use Rattle.std.proofs.Common.{◌≡◌, ℕ, zero, suc, ◌+◌, ◌≤◌, ◌&&◌, Bool, true, false, cond, List, [], ◌∷◌, ◌++◌, drop, take, length, length-append, map, slice_get, Option, None, Some, IfNone, Result, Ok, Err, refl, sym, ap, ◌∙◌, subst, arith}
use Rattle.std.proofs.lemmas.Bool.{le-leb}
use Rattle.std.specs.Io.KnownBytes.{Appends}
use Rattle.std.proofs.KnownBytes.{Appends-nil, Appends-trans}
use Rattle.deb_base.specs.Bodies.{file_limit, paragraph_limit}
use Rattle.deb_base.specs.Devices.{AppendsFront}
use Rattle.deb_base.specs.declared.code.Code.TheVariants.{FileTooLong, TooManyParagraphs}
use Rattle.deb_base.specs.declared.doc.Doc.{Doc}
use Rattle.deb_base.specs.declared.fault.Fault.{Fault}
use Rattle.deb_base.specs.declared.fault.Fault.TheVariants.{Refused, Memory, Read, Write}
use Rattle.deb_base.specs.declared.refusal.Refusal.{Refusal}
use Rattle.deb_base.proofs.Writes.{AppendsFront-then}
use Rattle.deb_syntax.specs.Answers.{Seen, answer_of_first, is_line, line_beyond, line_too_long, next_answer, paragraph_answer, paragraphs_within, seen_from, whole_lines}
use Rattle.deb_syntax.specs.Fields.{Field}
use Rattle.deb_syntax.specs.Judging.{judged}
use Rattle.deb_syntax.specs.Judged.{judged_behind, judged_by}
use Rattle.deb_syntax.specs.Lines.{Paragraph, paragraphs_of}
use Rattle.deb_syntax.specs.Meaning.{Entries}
use Rattle.deb_field.specs.Values.{SpellsValue, ValueMeaning}
use Rattle.deb_control.specs.Calls.{IfCutOff, IfWriteFailed}
use Rattle.deb_control.specs.CheckedStates.{checked_moment, checked_state, doc_read}
use Rattle.deb_control.specs.Checking.{CheckedMoment, ChecksOn, FitsChecked, passing_seen}
use Rattle.deb_control.specs.declared.checked.Checked.{Checked}
use Rattle.deb_base.specs.Devices.{Shown}
use Rattle.deb_control.proofs.RefusedLines.{without_error}
use Rattle.deb_control.specs.Documents.{Meaning, rules_of}
use Rattle.deb_control.specs.GivenParagraphs.{answered_seen, bodies_seen}
use Rattle.deb_control.specs.Pairs.{Pairwise}
use Rattle.deb_control.specs.Paragraphs.{AreValuesOf}
use Rattle.deb_control.specs.Refusals.{Answered, answer_behind, has_some, line_behind, next_given, passed_in}
use Rattle.deb_control.specs.Refused.{lines_given}
use Rattle.deb_control.specs.ValueFiles.{SpellsEntries, ValueEntries}
use Rattle.deb_control.proofs.FollowedParagraphs.{never_behind_all}
use Rattle.deb_control.proofs.GivenValues.{accepted-given, pairwise-length, pairwise-push, spelled-given}
use Rattle.deb_control.proofs.ShownSoFar.{ShownAll, ShownFront, ShownRefused, ShownSoFar, answered-length, goes}
use Rattle.deb_select.specs.Conditions.{SelectionMeaning, selected, selects}
use Rattle.deb_select.specs.FieldBodies.{fields_in, fields_or_none}
use Rattle.deb_select.specs.Selecting.{PutsSelected, Request, WritesFirst, WritesPart, WritesRefused, WritesSelected, count_after}
use Rattle.deb_select.specs.Selections.{HasConditions}
use Rattle.deb_select.specs.Forms.{FormMeaning, begins_if, begun_after, full_in, output, piece_if}
use Rattle.deb_select.specs.declared.selection.Selection.{Selection}
use Rattle.deb_select.specs.declared.writing.Put.{Put}
use Rattle.deb_select.proofs.Outputs.{begun-push, full-none, full-push, output-push}
use Rattle.deb_select.proofs.WrittenTexts.{within}

-- ---- the next paragraph of a file

pub at_front : {X : Type 0} (xs : List X) (k : ℕ) (x : X) (rest : List X) → drop k xs ≡ x ∷ rest → slice_get xs k ≡ Some x
at_front [] zero x rest is = absurd (cc)
at_front [] (suc k) x rest is = absurd (cc)
at_front (y ∷ xs) zero x rest is = let same : y ≡ x = cc in ap Some same
at_front (y ∷ xs) (suc k) x rest is = at_front xs k x rest is

record Follows (doc : Doc) (text : List ℕ) (answered : List Answered) : Type 0 where
  p : Paragraph
  at : slice_get (paragraphs_within text) (length answered) ≡ Some p
  may : ((rules_of doc).single && has_some (passed_in answered)) ≡ false

follows : (doc : Doc) (text : List ℕ) (answered : List Answered) (entries : Entries) → next_given (rules_of doc) text answered ≡ Ok (Some entries) → Follows doc text answered
follows doc text answered entries next = go (drop (length answered) (paragraphs_within text)) refl next
  where
    few : (t : Bool) (line : ℕ) (other : Result (Option Entries) Refusal) → cond t (Err (record { code = TooManyParagraphs; line = line })) other ≡ Ok (Some entries) → t ≡ false
    few true line other is = absurd (cc)
    few false line other is = refl

    go : (left : List Paragraph) → drop (length answered) (paragraphs_within text) ≡ left → answer_behind (rules_of doc) (line_beyond 1 file_limit text) (line_behind text) (passed_in answered) left ≡ Ok (Some entries) → Follows doc text answered
    go [] is answer = absurd (never_behind_all (rules_of doc) (line_beyond 1 file_limit text) (line_behind text) (passed_in answered) entries answer)
    go (p ∷ rest) is answer = record { p = p; at = at_front (paragraphs_within text) (length answered) p rest is; may = few ((rules_of doc).single && has_some (passed_in answered)) p.first _ answer }

-- the number of its first line, and its fields
abbrev SeenIn : Paragraph → Seen → Type 0
SeenIn p seen = (seen.first ≡ p.first) × (seen.fields ≡ fields_in p)

seen_in_lines : (p : Paragraph) (r : Result (List Field) Refusal) (seen : Seen) → fields_or_none r ≡ fields_in p → seen_from p.first r ≡ Ok (Some seen) → SeenIn p seen
seen_in_lines p (Ok fields) seen own is =
    let same : record { first = p.first; fields = fields } ≡ seen = cc in
    (sym (ap (λ s. s.first) same), sym (ap (λ s. s.fields) same) ∙ own)
seen_in_lines p (Err refusal) seen own is = absurd (cc)

seen_if_short : (t : Bool) (p : Paragraph) (line : ℕ) (r : Result (List Field) Refusal) (seen : Seen) → fields_or_none r ≡ fields_in p → cond t (Err (record { code = FileTooLong; line = line })) (seen_from p.first r) ≡ Ok (Some seen) → SeenIn p seen
seen_if_short true p line r seen own is = absurd (cc)
seen_if_short false p line r seen own is = seen_in_lines p r seen own is

seen_of_answer : (long beyond : Option ℕ) (p : Paragraph) (seen : Seen) → paragraph_answer long beyond p ≡ Ok (Some seen) → SeenIn p seen
seen_of_answer (Some line) beyond p seen is = absurd (cc)
seen_of_answer None beyond p seen is = seen_if_short (is_line (p.first + length p.lines) beyond) p (p.first + length p.lines) (judged p.first p.lines) seen refl is

seen_of_first : (beyond : Option ℕ) (p : Paragraph) (more : List Paragraph) (seen : Seen) → answer_of_first beyond (p ∷ more) ≡ Ok (Some seen) → SeenIn p seen
seen_of_first None p more seen is = seen_of_answer (line_too_long p.first paragraph_limit p.lines) None p seen is
seen_of_first (Some line) p more seen is = seen_of_answer (line_too_long p.first paragraph_limit p.lines) (Some line) p seen is

seen_answered : (text : List ℕ) (count : ℕ) (seen : Seen) → next_answer text count ≡ Ok (Some seen) → (p : Paragraph) → slice_get (paragraphs_within text) count ≡ Some p → SeenIn p seen
seen_answered text count seen answer p at = go (line_beyond 1 file_limit text) (drop count (paragraphs_within text)) refl answer
  where
    go : (beyond : Option ℕ) (left : List Paragraph) → drop count (paragraphs_within text) ≡ left → answer_of_first beyond left ≡ Ok (Some seen) → SeenIn p seen
    go None [] is answer = absurd (cc)
    go (Some line) [] is answer = absurd (cc)
    go beyond (q ∷ rest) is answer =
        let at_q = at_front (paragraphs_within text) count q rest is in
        let same : q ≡ p = cc in
        subst (λ x. SeenIn x seen) same (seen_of_first beyond q rest seen answer)

-- its lines are those that were judged
pub found_lines : (doc : Doc) (text : List ℕ) (answered : List Answered) (entries : Entries) (seen : Seen) (last : Option Paragraph) → next_given (rules_of doc) text answered ≡ Ok (Some entries) → next_answer text (length answered) ≡ Ok (Some seen) → last ≡ lines_given (rules_of doc) text answered
    → (p : Paragraph) × (slice_get (paragraphs_within text) (length answered) ≡ Some p) × (last ≡ Some p) × (seen.first ≡ p.first) × (seen.fields ≡ fields_in p)
found_lines doc text answered entries seen last next answer is =
    let found = follows doc text answered entries next in
    let shown = seen_answered text (length answered) seen answer found.p found.at in (
      found.p,
      found.at,
      is ∙ ap (λ t. cond t None (judged_behind text (length answered))) found.may
          ∙ ap (λ a. judged_by a (slice_get (paragraphs_within text) (length answered))) answer ∙ found.at,
      shown.0,
      shown.1,
    )

-- the same of the next paragraph that a reader gives
pub next_found : {doc : Doc} {source : Shown} {Holds : List Seen → Type 0} {checked : Checked} {now : Shown} {count : ℕ} (so_far : ShownSoFar doc source Holds checked now count) (given : Seen) {later : CheckedMoment}
    → ChecksOn (doc_read checked) (checked_moment checked now.bytes now.failures) (Ok (Some (passing_seen (doc_read checked) given))) later → (last : Option Paragraph)
    → IfNone (checked_state checked).fault ((text : List ℕ) (answered : List Answered) → FitsChecked (doc_read checked) text answered (checked_state checked) now.bytes → last ≡ lines_given (rules_of (doc_read checked)) text answered)
    → (text : List ℕ) → source.bytes ≡ Some text → (p : Paragraph) × (slice_get (paragraphs_within text) (length so_far.given) ≡ Some p) × (last ≡ Some p) × (given.first ≡ p.first) × (given.fields ≡ fields_in p)
next_found {doc} {checked = checked} {now = now} so_far given checks last lines text told =
    let has = so_far.files text told in
    let answered = answered_seen doc so_far.given in
    let gives = (goes so_far checks).answers text answered has.fits in
    let clause = subst (λ d. (text : List ℕ) (answered : List Answered) → FitsChecked d text answered (checked_state checked) now.bytes → last ≡ lines_given (rules_of d) text answered) so_far.reads
    (without_error (checked_state checked).fault _ so_far.sound lines) in
    let found = found_lines doc text answered gives.entries given last gives.answer gives.seen (clause text answered has.fits) in
    (found.0, subst (λ n. slice_get (paragraphs_within text) n ≡ Some found.0) (answered-length doc so_far.given) found.1, found.2, found.3, found.4)

-- a file that isn't too long has its paragraphs within the limit
pub short_within : (text : List ℕ) → length text ≤ file_limit → paragraphs_within text ≡ paragraphs_of text
short_within text short = ap (λ t. paragraphs_of (cond t text (whole_lines (take file_limit text)))) (le-leb (length text) file_limit short)

-- ---- what was written so far

pub record SelectedSo (selection : Selection) (form : FormMeaning) (begun : Bool) (source : Option (List ℕ)) (old now : Option (List ℕ)) (count : ℕ) (next full : Bool) (given : List Seen) : Type 0 where
  pub meaning : Meaning
  pub are : Pairwise (AreValuesOf selection.doc) given meaning
  pub few : count ≤ length given
  pub enough : (text : List ℕ) → source ≡ Some text → length meaning ≤ length (paragraphs_within text)
  pub counted : (asked : SelectionMeaning) (text : List ℕ) → HasConditions selection.doc asked selection → source ≡ Some text → count ≡ length (selected asked meaning)
  pub filled : (asked : SelectionMeaning) (text : List ℕ) → HasConditions selection.doc asked selection → source ≡ Some text → full ≡ full_in form asked meaning
  pub started : (asked : SelectionMeaning) (text : List ℕ) → HasConditions selection.doc asked selection → source ≡ Some text → next ≡ begun_after form begun asked meaning (paragraphs_within text)
  pub written : (asked : SelectionMeaning) (text : List ℕ) → HasConditions selection.doc asked selection → source ≡ Some text → Appends old now (output form begun asked meaning (paragraphs_within text))

pub none_selected : (selection : Selection) (form : FormMeaning) (begun : Bool) (source old : Option (List ℕ)) → SelectedSo selection form begun source old old 0 begun true []
none_selected selection form begun source old = record {
  meaning = [];
  are = tt;
  few = omega arith;
  enough = λ text told. omega arith;
  counted = λ asked text has told. refl;
  filled = λ asked text has told. full-none form asked;
  started = λ asked text has told. refl;
  written = λ asked text has told. Appends-nil old;
}

pub selected-push : (asked : SelectionMeaning) (meaning : Meaning) (values : ValueEntries ValueMeaning) (put : Bool) → put ≡ selects asked values → length (selected asked (meaning ++ values ∷ [])) ≡ count_after (length (selected asked meaning)) put
selected-push asked [] values put is = go (selects asked values) put is
  where
    go : (t put : Bool) → put ≡ t → length (cond t (values ∷ []) []) ≡ count_after 0 put
    go true true same = refl
    go true false same = absurd (cc)
    go false true same = absurd (cc)
    go false false same = refl
selected-push asked (first ∷ meaning) values put is = go (selects asked first) put (selected-push asked meaning values put is)
  where
    go : (t put : Bool) → length (selected asked (meaning ++ values ∷ [])) ≡ count_after (length (selected asked meaning)) put
        → length (cond t (first ∷ selected asked (meaning ++ values ∷ [])) (selected asked (meaning ++ values ∷ []))) ≡ count_after (length (cond t (first ∷ selected asked meaning) (selected asked meaning))) put
    go true true rest = omega (arith, rest)
    go true false rest = ap suc rest
    go false put rest = rest

more-few : (count n : ℕ) (put : Bool) → count ≤ n → count_after count put ≤ n + 1
more-few count n true few = omega arith
more-few count n false few = omega arith

module _ {selection : Selection} {form : FormMeaning} {begun : Bool} {source old now : Option (List ℕ)} {count : ℕ} {next full : Bool} {given : List Seen} (so_far : SelectedSo selection form begun source old now count next full given) where
  at-next : (text : List ℕ) (p : Paragraph) → slice_get (paragraphs_within text) (length given) ≡ Some p → slice_get (paragraphs_within text) (length so_far.meaning) ≡ Some p
  at-next text p at = ap (slice_get (paragraphs_within text)) (pairwise-length (AreValuesOf selection.doc) given so_far.meaning so_far.are) ∙ at

  -- the text after one more paragraph
  text-next : (asked : SelectionMeaning) (text : List ℕ) (values : ValueEntries ValueMeaning) (p : Paragraph) → HasConditions selection.doc asked selection → source ≡ Some text → slice_get (paragraphs_within text) (length given) ≡ Some p
      → output form begun asked (so_far.meaning ++ values ∷ []) (paragraphs_within text) ≡ output form begun asked so_far.meaning (paragraphs_within text) ++ piece_if form next asked values p
  text-next asked text values p has told at =
      output-push form begun asked so_far.meaning values (paragraphs_within text) p (at-next text p at)
      ∙ ap (λ t. output form begun asked so_far.meaning (paragraphs_within text) ++ piece_if form t asked values p) (sym (so_far.started asked text has told))

  module _ (seen : Seen) (values : ValueEntries ValueMeaning) (is : AreValuesOf selection.doc seen values) where
    -- a paragraph that is put, or isn't
    pub next_selected : (done : Put) (new : Option (List ℕ))
        → ((text : List ℕ) → source ≡ Some text → (p : Paragraph) × (slice_get (paragraphs_within text) (length given) ≡ Some p) × ((asked : SelectionMeaning) → HasConditions selection.doc asked selection → PutsSelected form next asked values p (Ok done) now new))
        → SelectedSo selection form begun source old new (count_after count done.selected) done.begun (full && done.full) (given ++ seen ∷ [])
    next_selected done new puts = record {
      meaning = so_far.meaning ++ values ∷ [];
      are = pairwise-push (AreValuesOf selection.doc) given so_far.meaning seen values so_far.are is;
      few = subst (λ n. count_after count done.selected ≤ n) (sym (length-append given (seen ∷ []))) (more-few count (length given) done.selected so_far.few);
      enough = λ text told.
          let found = puts text told in
          omega (arith, within (paragraphs_within text) (length given) found.0 found.1, length-append so_far.meaning (values ∷ []), pairwise-length (AreValuesOf selection.doc) given so_far.meaning so_far.are);
      counted = λ asked text has told.
          let found = puts text told in
          ap (λ n. count_after n done.selected) (so_far.counted asked text has told) ∙ sym (selected-push asked so_far.meaning values done.selected (found.2 asked has).0);
      filled = λ asked text has told.
          let found = puts text told in
          ap (λ t. t && done.full) (so_far.filled asked text has told)
          ∙ ap (λ t. full_in form asked so_far.meaning && t) (found.2 asked has).2
          ∙ sym (full-push form asked so_far.meaning values);
      started = λ asked text has told.
          let found = puts text told in
          (found.2 asked has).1
          ∙ ap (λ t. begins_if form t asked values found.0) (so_far.started asked text has told)
          ∙ sym (begun-push form begun asked so_far.meaning values (paragraphs_within text) found.0 (at-next text found.0 found.1));
      written = λ asked text has told.
          let found = puts text told in
          subst (Appends old new) (sym (text-next asked text values found.0 has told found.1))
          (Appends-trans old now new _ _ (so_far.written asked text has told) (found.2 asked has).3);
    }

    -- a write that failed
    pub part_selected : (asked : SelectionMeaning) (text : List ℕ) (new : Option (List ℕ)) (p : Paragraph) → HasConditions selection.doc asked selection → source ≡ Some text → slice_get (paragraphs_within text) (length given) ≡ Some p
        → ShownFront selection.doc text (given ++ seen ∷ []) → AppendsFront now new (piece_if form next asked values p)
        → WritesPart (record { kind = selection.doc; selection = asked; form = form; begun = begun }) text old new
    part_selected asked text new p has told at front appends = record {
      first = so_far.meaning ++ values ∷ [];
      are =
          record {
            bodies = map (bodies_seen selection.doc) (given ++ seen ∷ []);
            more = front.more;
            passed = front.passed;
            spelled = spelled-given selection.doc (given ++ seen ∷ []) (so_far.meaning ++ values ∷ []) (pairwise-push (AreValuesOf selection.doc) given so_far.meaning seen values so_far.are is);
          };
      written = subst (AppendsFront old new) (sym (text-next asked text values p has told at)) (AppendsFront-then old now new _ _ (so_far.written asked text has told) appends);
    }

  module _ (asked : SelectionMeaning) (text : List ℕ) (has : HasConditions selection.doc asked selection) (told : source ≡ Some text) where
    abbrev asks : Request
    asks = record { kind = selection.doc; selection = asked; form = form; begun = begun }

    -- all of them
    pub all_selected : ShownAll selection.doc text given → WritesSelected asks text (record { count = count; begun = next; full = full }) old now
    all_selected shown =
        let accepted = accepted-given selection.doc text given so_far.meaning shown so_far.are in
        record {
          meaning = so_far.meaning;
          accepted = accepted;
          counted = so_far.counted asked text has told;
          filled = so_far.filled asked text has told;
          started = so_far.started asked text has told ∙ ap (begun_after form begun asked so_far.meaning) (short_within text accepted.short);
          written = subst (λ ps. Appends old now (output form begun asked so_far.meaning ps)) (short_within text accepted.short) (so_far.written asked text has told);
        }

    -- the first ones
    pub first_selected : ShownFront selection.doc text given → WritesFirst asks text old now
    first_selected front = record {
      first = so_far.meaning;
      are =
          record {
            bodies = map (bodies_seen selection.doc) given;
            more = front.more;
            passed = front.passed;
            spelled = spelled-given selection.doc given so_far.meaning so_far.are;
          };
      written = so_far.written asked text has told;
    }

    -- those before one that is refused
    pub refused_selected : (refusal : Refusal) → ShownRefused selection.doc text given refusal → WritesRefused asks text refusal old now
    refused_selected refusal shown = record {
      refused = ap (λ o. o.refusal) shown.is;
      first = so_far.meaning;
      spelled = subst (λ bodies. SpellsEntries (SpellsValue selection.doc) bodies so_far.meaning) (ap (λ o. o.passed) (sym shown.is)) (spelled-given selection.doc given so_far.meaning so_far.are);
      written = so_far.written asked text has told;
    }

-- a fault while the next paragraph is put
pub cut_after : (T : Type 0) (fault : Fault) (form : FormMeaning) (begun : Bool) (selection : SelectionMeaning) (values : ValueEntries ValueMeaning) (p : Paragraph) (asked : Request) (text : List ℕ) (old now new : Option (List ℕ)) → PutsSelected form begun selection values p (Err fault) now new → WritesFirst asked text old now
    → IfCutOff {T = T} (Err fault) (WritesFirst asked text old new)
cut_after T (Refused refusal) form begun selection values p asked text old now new puts first = tt
cut_after T Memory form begun selection values p asked text old now new puts first = subst (WritesFirst asked text old) puts first
cut_after T Read form begun selection values p asked text old now new puts first = absurd puts
cut_after T Write form begun selection values p asked text old now new puts first = tt

pub failed_after : (T : Type 0) (fault : Fault) (form : FormMeaning) (begun : Bool) (selection : SelectionMeaning) (values : ValueEntries ValueMeaning) (p : Paragraph) (now new : Option (List ℕ)) (P : Type 0) → PutsSelected form begun selection values p (Err fault) now new → (AppendsFront now new (piece_if form begun selection values p) → P)
    → IfWriteFailed {T = T} (Err fault) P
failed_after T (Refused refusal) form begun selection values p now new P puts then = tt
failed_after T Memory form begun selection values p now new P puts then = tt
failed_after T Read form begun selection values p now new P puts then = tt
failed_after T Write form begun selection values p now new P puts then = then puts

-- what holds for the kind, the form and the start that a selection was asked with holds for a request that is the same
pub same_request : (P : Request → Type 0) (asked : Request) (doc : Doc) (form : FormMeaning) (begun : Bool) → doc ≡ asked.kind → asked.form ≡ form → asked.begun ≡ begun → P (record { kind = doc; selection = asked.selection; form = form; begun = begun }) → P asked
same_request P asked doc form begun kind shape start holds =
    subst (λ k. P (record { kind = k; selection = asked.selection; form = asked.form; begun = asked.begun })) kind
    (subst (λ f. P (record { kind = doc; selection = asked.selection; form = f; begun = asked.begun })) (sym shape)
    (subst (λ b. P (record { kind = doc; selection = asked.selection; form = form; begun = b })) (sym start) holds))

pub same_conditions : (asked : SelectionMeaning) (selection : Selection) (kind : Doc) → HasConditions kind asked selection → HasConditions selection.doc asked selection
same_conditions asked selection kind has = subst (λ k. HasConditions k asked selection) (sym has.of_kind) has
