-- What a walk over the paragraphs of a file has done after one more run of lines.
use Rattle.std.proofs.Common.{◌≡◌, ◌≤◌, ◌<◌, ℕ, ◌+◌, ◌-◌, ◌^◌, ◌&&◌, Bool, true, false, cond, List, [], ◌∷◌, ◌++◌, length, length-append, slice_get, IfSome, IsTrue, Option, None, Some, Result, Ok, Err, refl, sym, ap, ap₂, ◌∙◌, subst, append_assoc, append-nil, arith}
use Rattle.std.proofs.lemmas.List.{length-map, map-append}
use Rattle.std.proofs.lemmas.List.Concat.{flat_map-append}
use Rattle.std.proofs.KnownBytes.{Appends-nil, Appends-trans}
use Rattle.std.specs.Io.KnownBytes.{Appends}
use Rattle.deb_base.proofs.Writes.{AppendsFront-more, AppendsFront-then}
use Rattle.deb_base.specs.Bodies.{file_limit}
use Rattle.deb_base.specs.Devices.{AppendsFront}
use Rattle.deb_base.specs.Lines.{refusal_line}
use Rattle.deb_base.specs.Reading.{TakesNoMore}
use Rattle.deb_base.specs.declared.doc.Doc.{Doc}
use Rattle.deb_base.specs.declared.fault.Fault.{Fault}
use Rattle.deb_base.specs.declared.fault.Fault.TheVariants.{Refused}
use Rattle.deb_base.specs.declared.refusal.Refusal.{Refusal}
use Rattle.deb_syntax.specs.Answers.{Seen, paragraphs_within}
use Rattle.deb_syntax.specs.Lines.{Paragraph}
use Rattle.deb_syntax.specs.Meaning.{Entries}
use Rattle.deb_field.specs.Values.{SpellsValue, ValueMeaning}
use Rattle.deb_control.specs.AllRefusals.{file_lines, lines_of_refusals, passed_of, refusals_of, total_line}
use Rattle.deb_control.specs.Checking.{CheckedMoment, CheckedState, Checks, ChecksOn, FitsChecked, GivesEnd, GivesPassing, Passing, is_judged, passing_seen}
use Rattle.deb_control.specs.CheckedStates.{checked_state, doc_read, lines_checked}
use Rattle.deb_control.specs.Documents.{Meaning, rules_of}
use Rattle.deb_control.specs.GivenParagraphs.{bodies_built, bodies_seen}
use Rattle.deb_control.specs.Pairs.{Pairwise}
use Rattle.deb_control.specs.Paragraphs.{AreValuesOf}
use Rattle.deb_control.specs.Refused.{lines_given}
use Rattle.deb_control.specs.Refusals.{Answered, next_given, passed_in}
use Rattle.deb_control.specs.Resuming.{FitsRefused, resumes}
use Rattle.deb_control.specs.SeenRefusals.{refusals_seen}
use Rattle.deb_control.specs.Streams.{CheckedItem, CheckedStream, ended_by, item_of, refusals_in, stream_given, stream_of, with_item}
use Rattle.deb_control.specs.ValueFiles.{SpellsEntries, SpellsEntry, ValueEntries}
use Rattle.deb_control.specs.WrittenRefusals.{WritesAll}
use Rattle.deb_control.specs.declared.checked.Checked.{Checked}
use Rattle.deb_control.proofs.CheckedSoFar.{goes_on}
use Rattle.deb_control.proofs.FewRefusals.{few_seen}
use Rattle.deb_control.proofs.FollowedParagraphs.{passed-push, refused-push}
use Rattle.deb_control.proofs.GivenValues.{pairwise-length, pairwise-push, spelled-given}
use Rattle.deb_control.proofs.PassingParagraphs.{values-passing}
use Rattle.deb_control.proofs.SeenRefusals.{alone_are}
use Rattle.deb_control.proofs.StreamEnds.{ends_the_stream}
use Rattle.deb_control.proofs.StreamLaws.{end_next}
use Rattle.deb_select.specs.AcceptedWalks.{FitsWalk, Sinks, StepsOn, Walked, WalkedAll, WalkedFirst, WalkedPart, after_items, outcome_after, sinks}
use Rattle.deb_select.specs.Accepting.{Passed, WritesFirstAccepted, WritesPartAccepted, WritesPassed, bodies_in, paragraphs_in, passed_in_file, passed_items}
use Rattle.deb_select.specs.Conditions.{SelectionMeaning, selected, selects}
use Rattle.deb_select.specs.FieldBodies.{fields_in}
use Rattle.deb_select.specs.Forms.{FormMeaning, begins_if, begun_after, full_in, output, piece_if}
use Rattle.deb_select.specs.Selecting.{PutsSelected, Request, count_after}
use Rattle.deb_select.specs.declared.accepting.Walk.{Walk}
use Rattle.deb_select.specs.declared.writing.Outcome.{Outcome}
use Rattle.deb_select.specs.declared.writing.Put.{Put}
use Rattle.deb_select.proofs.AcceptedItems.{after-push, passed-counted, past_refused, passed_given, passed_items-append, refused_given, refusals_in-append}
use Rattle.deb_select.proofs.Outputs.{full-none, full-push, outputs_follow}
use Rattle.deb_select.proofs.Selecting.{found_lines, selected-push}

pub same_walk : (a b : Walk) → a.checked ≡ b.checked → a.summary ≡ b.summary → a.outcome ≡ b.outcome → a ≡ b
same_walk a b checked summary outcome =
    ap (λ c. record { checked = c; summary = a.summary; outcome = a.outcome }) checked
    ∙ ap₂ (λ s o. record { checked = b.checked; summary = s; outcome = o }) summary outcome

whole_front : (a b : Option (List ℕ)) (bs : List ℕ) → Appends a b bs → AppendsFront a b bs
whole_front a b bs appends = record { front = bs; rest = []; whole = sym (append-nil bs); appended = appends }

-- ---- what is written of paragraphs that pass

pub begun_follow : (form : FormMeaning) (begun : Bool) (asked : SelectionMeaning) (first second : Meaning) (ps others : List Paragraph) → length first ≡ length ps
    → begun_after form begun asked (first ++ second) (ps ++ others) ≡ begun_after form (begun_after form begun asked first ps) asked second others
begun_follow form begun asked [] second [] others same = refl
begun_follow form begun asked [] second (p ∷ ps) others same = absurd (omega (arith, same))
begun_follow form begun asked (values ∷ first) second [] others same = absurd (omega (arith, same))
begun_follow form begun asked (values ∷ first) second (p ∷ ps) others same = begun_follow form (begins_if form begun asked values p) asked first second ps others (omega (arith, same))

selected-few : (asked : SelectionMeaning) (meaning : Meaning) → length (selected asked meaning) ≤ length meaning
selected-few asked [] = omega arith
selected-few asked (values ∷ meaning) = go (selects asked values) (selected-few asked meaning)
  where
    go : (t : Bool) → length (selected asked meaning) ≤ length meaning → length (cond t (values ∷ selected asked meaning) (selected asked meaning)) ≤ length (values ∷ meaning)
    go true few = omega (arith, few)
    go false few = omega (arith, few)

module _ (asked : Request) (passed : List Passed) (done : Outcome) (old now : Option (List ℕ)) (so : WritesPassed asked passed done old now) where
  lengths : length so.meaning ≡ length (paragraphs_in passed)
  lengths =
      pairwise-length (Pairwise (SpellsEntry (SpellsValue asked.kind))) (bodies_in passed) so.meaning so.spelled
      ∙ length-map passed (λ one. one.1) ∙ sym (length-map passed (λ one. one.0))

  pub few_selected : done.count ≤ length passed
  few_selected = omega (arith, so.counted, selected-few asked.selection so.meaning, lengths, length-map passed (λ one. one.0))

  -- one more
  module _ (p : Paragraph) (entries : Entries) (values : ValueEntries ValueMeaning) (one : Pairwise (SpellsEntry (SpellsValue asked.kind)) entries values) where
    abbrev more : List Passed
    more = passed ++ (p, entries) ∷ []

    spelled_more : SpellsEntries (SpellsValue asked.kind) (bodies_in more) (so.meaning ++ values ∷ [])
    spelled_more =
        subst (λ b. SpellsEntries (SpellsValue asked.kind) b (so.meaning ++ values ∷ [])) (sym (map-append (λ one. one.1) passed ((p, entries) ∷ [])))
        (pairwise-push (Pairwise (SpellsEntry (SpellsValue asked.kind))) (bodies_in passed) so.meaning entries values so.spelled one)

    text_more : output asked.form asked.begun asked.selection (so.meaning ++ values ∷ []) (paragraphs_in more) ≡ output asked.form asked.begun asked.selection so.meaning (paragraphs_in passed) ++ piece_if asked.form done.begun asked.selection values p
    text_more =
        let before = output asked.form asked.begun asked.selection so.meaning (paragraphs_in passed) in
        let begun = begun_after asked.form asked.begun asked.selection so.meaning (paragraphs_in passed) in
        ap (output asked.form asked.begun asked.selection (so.meaning ++ values ∷ [])) (map-append (λ one. one.0) passed ((p, entries) ∷ []))
        ∙ outputs_follow asked.form asked.begun asked.selection so.meaning (values ∷ []) (paragraphs_in passed) (p ∷ []) lengths
        ∙ ap (λ l. before ++ l) (append-nil (piece_if asked.form begun asked.selection values p))
        ∙ ap (λ t. before ++ piece_if asked.form t asked.selection values p) (sym so.started)

    pub writes_more : (put : Put) (new : Option (List ℕ)) → PutsSelected asked.form done.begun asked.selection values p (Ok put) now new → WritesPassed asked more (outcome_after done put) old new
    writes_more put new puts = record {
      meaning = so.meaning ++ values ∷ [];
      spelled = spelled_more;
      counted = ap (λ n. count_after n put.selected) so.counted ∙ sym (selected-push asked.selection so.meaning values put.selected puts.0);
      filled = ap (λ t. t && put.full) so.filled ∙ ap (λ t. full_in asked.form asked.selection so.meaning && t) puts.2 ∙ sym (full-push asked.form asked.selection so.meaning values);
      started = puts.1 ∙ ap (λ t. begins_if asked.form t asked.selection values p) so.started
          ∙ sym (ap (begun_after asked.form asked.begun asked.selection (so.meaning ++ values ∷ [])) (map-append (λ one. one.0) passed ((p, entries) ∷ []))
          ∙ begun_follow asked.form asked.begun asked.selection so.meaning (values ∷ []) (paragraphs_in passed) (p ∷ []) lengths);
      written = subst (Appends old new) (sym text_more) (Appends-trans old now new _ _ so.written puts.3);
    }

    -- a part of it
    pub writes_part : (text : List ℕ) (others : List Passed) (new : Option (List ℕ)) → passed_in_file asked.kind text ≡ more ++ others → AppendsFront now new (piece_if asked.form done.begun asked.selection values p) → WritesPartAccepted asked text old new
    writes_part text others new all front = record {
      passed = more;
      more = others;
      all = all;
      meaning = so.meaning ++ values ∷ [];
      spelled = spelled_more;
      written = subst (AppendsFront old new) (sym text_more) (AppendsFront-then old now new _ _ so.written front);
    }

-- the canonical bodies of a paragraph that passes spell its values
pub spelled_one : (doc : Doc) (given : Passing) (entries : Entries) (values : ValueEntries ValueMeaning) → bodies_seen doc given.seen ≡ entries → AreValuesOf doc given.seen values → Pairwise (SpellsEntry (SpellsValue doc)) entries values
spelled_one doc given entries values is are = subst (λ e. Pairwise (SpellsEntry (SpellsValue doc)) e values) is (spelled-given doc (given.seen ∷ []) (values ∷ []) (are, tt)).0

-- ---- a walk

pub few_refusals : (doc : Doc) (text : List ℕ) → length (refusals_of doc text) ≤ file_limit + 1
few_refusals doc text = omega (arith, few_seen doc text, length-map (refusals_seen doc text) (λ seen. seen.refusal), ap length (alone_are doc text))

module _ {asked : Request} {text : List ℕ} {walk : Walk} {left : Option (List ℕ)} {old now : Sinks} (w : Walked asked text walk left old now) where
  abbrev rest : CheckedStream
  rest = stream_given (rules_of asked.kind) text w.answered

  abbrev first : List Refusal
  first = refusals_in w.items None

  all_passed : passed_in_file asked.kind text ≡ passed_items w.items ++ passed_items rest.items
  all_passed = ap (λ s. passed_items s.items) w.stream ∙ passed_items-append w.items rest.items

  all_refused : refusals_of asked.kind text ≡ first ++ refusals_in rest.items rest.end
  all_refused = ap (λ s. refusals_in s.items s.end) w.stream ∙ refusals_in-append w.items rest.items rest.end

  first_accepted : WritesFirstAccepted asked text old.writer now.writer
  first_accepted = record {
    passed = passed_items w.items;
    more = passed_items rest.items;
    all = all_passed;
    meaning = w.written.meaning;
    spelled = w.written.spelled;
    written = w.written.written;
  }

  part_accepted : WritesPartAccepted asked text old.writer now.writer
  part_accepted = record {
    passed = passed_items w.items;
    more = passed_items rest.items;
    all = all_passed;
    meaning = w.written.meaning;
    spelled = w.written.spelled;
    written = whole_front old.writer now.writer _ w.written.written;
  }

  -- an error comes
  pub walked_first : WalkedFirst asked text old now
  walked_first = record {
    written = first_accepted;
    reported = record { first = first; more = refusals_in rest.items rest.end; all = all_refused; written = w.reported };
  }

  lines_front : (new : Option (List ℕ)) → AppendsFront old.reports new (lines_of_refusals first) → AppendsFront old.reports new (file_lines asked.kind text)
  lines_front new front =
      let total = total_line (passed_of asked.kind text) (length (refusals_of asked.kind text)) in
      AppendsFront-more old.reports new (lines_of_refusals (refusals_of asked.kind text)) total
      (subst (AppendsFront old.reports new) (sym (ap lines_of_refusals all_refused ∙ flat_map-append refusal_line first (refusals_in rest.items rest.end)))
      (AppendsFront-more old.reports new (lines_of_refusals first) (lines_of_refusals (refusals_in rest.items rest.end)) front))

  -- a write of a paragraph fails
  module _ (given : Passing) (new : CheckedState) (after : Option (List ℕ)) (gives : GivesPassing asked.kind text w.answered given new after) (values : ValueEntries ValueMeaning) (are : AreValuesOf asked.kind given.seen values) (p : Paragraph) (at : slice_get (paragraphs_within text) (length w.answered) ≡ Some p) where
    abbrev then : CheckedStream
    then = stream_given (rules_of asked.kind) text (w.answered ++ Ok gives.entries ∷ [])

    abbrev item : CheckedItem
    item = item_of p (Ok gives.entries)

    next_is : rest ≡ with_item item then
    next_is = passed_given asked.kind text w.answered gives.entries p at gives.answer

    one_spelled : Pairwise (SpellsEntry (SpellsValue asked.kind)) gives.entries values
    one_spelled = spelled_one asked.kind given gives.entries values (ap bodies_built gives.built) are

    pub walked_part : (held : Option (List ℕ)) → AppendsFront now.writer held (piece_if asked.form walk.outcome.begun asked.selection values p) → WalkedPart asked text old (sinks held now.reports)
    walked_part held front = record {
      written =
          writes_part asked (passed_items w.items) walk.outcome old.writer now.writer w.written p gives.entries values one_spelled text (passed_items then.items) held
          (all_passed ∙ ap (λ s. passed_items w.items ++ passed_items s.items) next_is ∙ sym (append_assoc (passed_items w.items) ((p, gives.entries) ∷ []) (passed_items then.items))) front;
      reported = lines_front now.reports (whole_front old.reports now.reports (lines_of_refusals first) w.reported);
    }

    -- or all of it is written
    passing_literal : (later : Checked) (put : Put) (held : Option (List ℕ)) → new ≡ checked_state later → doc_read later ≡ asked.kind → PutsSelected asked.form walk.outcome.begun asked.selection values p (Ok put) now.writer held
        → Walked asked text (record { checked = later; summary = record walk.summary { passed = walk.summary.passed + 1 }; outcome = outcome_after walk.outcome put }) after old (sinks held now.reports)
    passing_literal later put held is same puts =
        let passed_push : passed_items (w.items ++ item ∷ []) ≡ passed_items w.items ++ (p, gives.entries) ∷ [] = passed_items-append w.items (item ∷ []) in
        let refused_same : refusals_in (w.items ++ item ∷ []) None ≡ first = refusals_in-append w.items (item ∷ []) None ∙ append-nil first in
        record {
          reads = same;
          answered = w.answered ++ Ok gives.entries ∷ [];
          fits = subst (λ s. FitsChecked asked.kind text (w.answered ++ Ok gives.entries ∷ []) s after) is gives.again;
          items = w.items ++ item ∷ [];
          stream = w.stream ∙ ap (after_items w.items) next_is ∙ after-push w.items item then;
          bodies =
              ap bodies_in passed_push ∙ map-append (λ one. one.1) (passed_items w.items) ((p, gives.entries) ∷ [])
              ∙ ap (λ l. l ++ gives.entries ∷ []) w.bodies ∙ sym (passed-push w.answered gives.entries);
          passed = omega (arith, w.passed, ap length passed_push, length-append (passed_items w.items) ((p, gives.entries) ∷ []));
          refused = w.refused ∙ ap length (sym refused_same);
          written = subst (λ l. WritesPassed asked l (outcome_after walk.outcome put) old.writer held) (sym passed_push) (writes_more asked (passed_items w.items) walk.outcome old.writer now.writer w.written p gives.entries values one_spelled put held puts);
          reported = subst (λ l. Appends old.reports now.reports (lines_of_refusals l)) (sym refused_same) w.reported;
        }

    pub walked_passing : (later : Checked) (put : Put) (held : Option (List ℕ)) (walk_now : Walk) → new ≡ checked_state later → doc_read later ≡ asked.kind → PutsSelected asked.form walk.outcome.begun asked.selection values p (Ok put) now.writer held
        → walk_now.checked ≡ later → walk_now.summary ≡ record walk.summary { passed = walk.summary.passed + 1 } → walk_now.outcome ≡ outcome_after walk.outcome put → Walked asked text walk_now after old (sinks held now.reports)
    walked_passing later put held walk_now is same puts checked summary outcome =
        subst (λ k. Walked asked text k after old (sinks held now.reports))
        (sym (same_walk walk_now (record { checked = later; summary = record walk.summary { passed = walk.summary.passed + 1 }; outcome = outcome_after walk.outcome put }) checked summary outcome))
        (passing_literal later put held is same puts)

  -- the counts are below their greatest value
  pub few_so_far : (n : ℕ) → n ≡ (checked_state walk.checked).count + 1 → n ≤ file_limit + 1 → (walk.summary.passed < 2 ^ 64 - 1) × (walk.outcome.count < 2 ^ 64 - 1)
  unfolding file_limit
  few_so_far n counted few =
      let bodies : length (passed_items w.items) ≡ (checked_state walk.checked).count = sym (length-map (passed_items w.items) (λ one. one.1)) ∙ ap length w.bodies ∙ sym w.fits.counted in (
        omega (arith, w.passed, bodies, counted, few),
        omega (arith, few_selected asked (passed_items w.items) walk.outcome old.writer now.writer w.written, bodies, counted, few),
      )

  -- none follows
  all_walked : (end : Option Refusal) (held : Option (List ℕ)) (walk_now : Walk) → rest ≡ ended_by end → walk_now.outcome ≡ walk.outcome → walk_now.summary.passed ≡ walk.summary.passed → walk_now.summary.refused ≡ length (first ++ refusals_in [] end) → Appends old.reports held (lines_of_refusals (first ++ refusals_in [] end)) → WalkedAll asked text walk_now old (sinks now.writer held)
  all_walked end held walk_now ends outcome passed refused lines =
      let refusals : refusals_of asked.kind text ≡ first ++ refusals_in [] end = all_refused ∙ ap (λ s. first ++ refusals_in s.items s.end) ends in
      let paragraphs : passed_in_file asked.kind text ≡ passed_items w.items = all_passed ∙ ap (λ s. passed_items w.items ++ passed_items s.items) ends ∙ append-nil (passed_items w.items) in
      record {
        written = subst (λ o. WritesPassed asked (passed_in_file asked.kind text) o old.writer now.writer) (sym outcome) (subst (λ l. WritesPassed asked l walk.outcome old.writer now.writer) (sym paragraphs) w.written);
        passed = passed ∙ w.passed ∙ ap length (sym paragraphs) ∙ sym (passed-counted (stream_of (rules_of asked.kind) text).items);
        refused = refused ∙ ap length (sym refusals);
        reported = subst (λ l. Appends old.reports held (lines_of_refusals l)) (sym refusals) lines;
      }

  pub walked_all : (new : CheckedState) (after : Option (List ℕ)) (walk_now : Walk) → GivesEnd asked.kind text w.answered new after → walk_now.outcome ≡ walk.outcome → walk_now.summary ≡ walk.summary → WalkedAll asked text walk_now old now
  walked_all new after walk_now end outcome summary =
      all_walked None now.reports walk_now (end_next (rules_of asked.kind) text (length w.answered) (passed_in w.answered) end.answer) outcome (ap (λ s. s.passed) summary)
      (ap (λ s. s.refused) summary ∙ w.refused ∙ ap length (sym (append-nil first)))
      (subst (λ l. Appends old.reports now.reports (lines_of_refusals l)) (sym (append-nil first)) w.reported)

  -- the next run is refused
  module _ (refusal : Refusal) (next : next_given (rules_of asked.kind) text w.answered ≡ Err refusal) where
    one_line : lines_of_refusals (first ++ refusal ∷ []) ≡ lines_of_refusals first ++ refusal_line refusal
    one_line = flat_map-append refusal_line first (refusal ∷ []) ∙ ap (λ l. lines_of_refusals first ++ l) (append-nil (refusal_line refusal))

    -- it goes on or ends there
    by_going : (goes : Bool) → resumes asked.kind (Some (Refused refusal)) (lines_given (rules_of asked.kind) text w.answered) ≡ goes → (more : List Refusal) × (refusals_of asked.kind text ≡ (first ++ refusal ∷ []) ++ more)
    by_going true goes =
        let on = refused_given asked.kind text w.answered refusal next goes in
        let then = stream_given (rules_of asked.kind) text (w.answered ++ Err refusal ∷ []) in
        (refusals_in then.items then.end, all_refused ∙ ap (λ s. first ++ refusals_in s.items s.end) on.1 ∙ sym (append_assoc first (refusal ∷ []) (refusals_in then.items then.end)))
    by_going false stays =
        let ends = ends_the_stream asked.kind text (length w.answered) (passed_in w.answered) refusal next stays in
        ([], all_refused ∙ ap (λ s. first ++ refusals_in s.items s.end) ends ∙ sym (append-nil (first ++ refusal ∷ [])))

    with_it : (more : List Refusal) × (refusals_of asked.kind text ≡ (first ++ refusal ∷ []) ++ more)
    with_it = by_going (resumes asked.kind (Some (Refused refusal)) (lines_given (rules_of asked.kind) text w.answered)) refl

    pub few_refused : walk.summary.refused ≤ file_limit
    few_refused = omega (arith, w.refused, few_refusals asked.kind text, ap length with_it.1, length-append (first ++ refusal ∷ []) with_it.0, length-append first (refusal ∷ []))

    -- its line isn't written
    pub walked_line : (held : Option (List ℕ)) → AppendsFront now.reports held (refusal_line refusal) → WalkedPart asked text old (sinks now.writer held)
    walked_line held front =
        let total = total_line (passed_of asked.kind text) (length (refusals_of asked.kind text)) in
        record {
          written = part_accepted;
          reported =
              AppendsFront-more old.reports held (lines_of_refusals (refusals_of asked.kind text)) total
              (subst (AppendsFront old.reports held) (sym (ap lines_of_refusals with_it.1 ∙ flat_map-append refusal_line (first ++ refusal ∷ []) with_it.0))
              (AppendsFront-more old.reports held (lines_of_refusals (first ++ refusal ∷ [])) (lines_of_refusals with_it.0)
              (subst (AppendsFront old.reports held) (sym one_line) (AppendsFront-then old.reports now.reports held _ _ w.reported front))));
        }

    -- it is
    module _ (held : Option (List ℕ)) (line : Appends now.reports held (refusal_line refusal)) where
      lines_now : Appends old.reports held (lines_of_refusals (first ++ refusal ∷ []))
      lines_now = subst (Appends old.reports held) (sym one_line) (Appends-trans old.reports now.reports held _ _ w.reported line)

      refused_literal : (later : Checked) (after : Option (List ℕ)) → resumes asked.kind (Some (Refused refusal)) (lines_given (rules_of asked.kind) text w.answered) ≡ true → doc_read later ≡ asked.kind → FitsChecked asked.kind text (w.answered ++ Err refusal ∷ []) (checked_state later) after
          → Walked asked text (record { checked = later; summary = record walk.summary { refused = walk.summary.refused + 1 }; outcome = walk.outcome }) after old (sinks now.writer held)
      refused_literal later after goes same fits =
          let on = refused_given asked.kind text w.answered refusal next goes in
          let item = item_of on.0 (Err refusal) in
          let passed_same : passed_items (w.items ++ item ∷ []) ≡ passed_items w.items = passed_items-append w.items (item ∷ []) ∙ append-nil (passed_items w.items) in
          let refused_push : refusals_in (w.items ++ item ∷ []) None ≡ first ++ refusal ∷ [] = refusals_in-append w.items (item ∷ []) None in
          record {
            reads = same;
            answered = w.answered ++ Err refusal ∷ [];
            fits = fits;
            items = w.items ++ item ∷ [];
            stream = w.stream ∙ ap (after_items w.items) on.1 ∙ after-push w.items item (stream_given (rules_of asked.kind) text (w.answered ++ Err refusal ∷ []));
            bodies = ap bodies_in passed_same ∙ w.bodies ∙ sym (refused-push w.answered refusal);
            passed = w.passed ∙ ap length (sym passed_same);
            refused = omega (arith, w.refused, ap length refused_push, length-append first (refusal ∷ []));
            written = subst (λ l. WritesPassed asked l walk.outcome old.writer now.writer) (sym passed_same) w.written;
            reported = subst (λ l. Appends old.reports held (lines_of_refusals l)) (sym refused_push) lines_now;
          }

      pub walked_refused : (walk_now : Walk) (after : Option (List ℕ)) → resumes asked.kind (Some (Refused refusal)) (lines_given (rules_of asked.kind) text w.answered) ≡ true → doc_read walk_now.checked ≡ asked.kind → FitsChecked asked.kind text (w.answered ++ Err refusal ∷ []) (checked_state walk_now.checked) after
          → walk_now.summary ≡ record walk.summary { refused = walk.summary.refused + 1 } → walk_now.outcome ≡ walk.outcome → Walked asked text walk_now after old (sinks now.writer held)
      walked_refused walk_now after goes same fits summary outcome =
          subst (λ k. Walked asked text k after old (sinks now.writer held))
          (sym (same_walk walk_now (record { checked = walk_now.checked; summary = record walk.summary { refused = walk.summary.refused + 1 }; outcome = walk.outcome }) refl summary outcome))
          (refused_literal walk_now.checked after goes same fits)

      -- and was the last one
      pub walked_last : (walk_now : Walk) → resumes asked.kind (Some (Refused refusal)) (lines_given (rules_of asked.kind) text w.answered) ≡ false → walk_now.outcome ≡ walk.outcome → walk_now.summary ≡ record walk.summary { refused = walk.summary.refused + 1 } → WalkedAll asked text walk_now old (sinks now.writer held)
      walked_last walk_now stays outcome summary =
          all_walked (Some refusal) held walk_now (ends_the_stream asked.kind text (length w.answered) (passed_in w.answered) refusal next stays) outcome (ap (λ s. s.passed) summary)
          (ap (λ s. s.refused) summary ∙ omega (arith, w.refused, length-append first (refusal ∷ []))) lines_now

-- nothing was walked over
pub walked_none : (asked : Request) (text : List ℕ) (walk : Walk) (left : Option (List ℕ)) (old : Sinks) (doc : Doc) (begun : Bool) → doc_read walk.checked ≡ doc → doc ≡ asked.kind → left ≡ Some text → FitsChecked doc text [] (checked_state walk.checked) (Some text) → walk.summary ≡ record { passed = 0; refused = 0 } → walk.outcome ≡ record { count = 0; begun = begun; full = true } → asked.begun ≡ begun → Walked asked text walk left old old
walked_none asked text walk left old doc begun reads kind told fits summary outcome same = record {
  reads = reads ∙ kind;
  answered = [];
  fits =
      subst (λ l. FitsChecked asked.kind text [] (checked_state walk.checked) l) (sym told)
      (subst (λ d. FitsChecked d text [] (checked_state walk.checked) (Some text)) kind fits);
  items = [];
  stream = refl;
  bodies = refl;
  passed = ap (λ s. s.passed) summary;
  refused = ap (λ s. s.refused) summary;
  written = record {
    meaning = [];
    spelled = tt;
    counted = ap (λ o. o.count) outcome;
    filled = ap (λ o. o.full) outcome ∙ full-none asked.form asked.selection;
    started = ap (λ o. o.begun) outcome ∙ sym same;
    written = Appends-nil old.writer;
  };
  reported = Appends-nil old.reports;
}

pub fits_none : (doc : Doc) (text : List ℕ) (walk : Walk) (left : Option (List ℕ)) → doc_read walk.checked ≡ doc → left ≡ Some text → FitsChecked doc text [] (checked_state walk.checked) (Some text) → FitsWalk text walk left
fits_none doc text walk left same told fits = record {
  answered = [];
  fits =
      subst (λ l. FitsChecked (doc_read walk.checked) text [] (checked_state walk.checked) l) (sym told)
      (subst (λ d. FitsChecked d text [] (checked_state walk.checked) (Some text)) (sym same) fits);
}

-- ---- the last line

module _ {asked : Request} {text : List ℕ} {walk : Walk} {old now : Sinks} (w : WalkedAll asked text walk old now) where
  pub all_lines : (held : Option (List ℕ)) → Appends now.reports held (total_line walk.summary.passed walk.summary.refused) → WritesAll asked.kind text walk.summary old.reports held
  all_lines held total = record {
    passed = w.passed;
    refused = w.refused;
    written = Appends-trans old.reports now.reports held (lines_of_refusals (refusals_of asked.kind text)) (total_line (passed_of asked.kind text) (length (refusals_of asked.kind text))) w.reported (rw (← w.passed, ← w.refused) total);
  }

  pub part_lines : (held : Option (List ℕ)) → AppendsFront now.reports held (total_line walk.summary.passed walk.summary.refused) → AppendsFront old.reports held (file_lines asked.kind text)
  part_lines held total = AppendsFront-then old.reports now.reports held (lines_of_refusals (refusals_of asked.kind text)) (total_line (passed_of asked.kind text) (length (refusals_of asked.kind text))) w.reported (rw (← w.passed, ← w.refused) total)

  pub part_of_all : WritesPartAccepted asked text old.writer now.writer
  part_of_all = record {
    passed = passed_in_file asked.kind text;
    more = [];
    all = sym (append-nil (passed_in_file asked.kind text));
    meaning = w.written.meaning;
    spelled = w.written.spelled;
    written = whole_front old.writer now.writer _ w.written.written;
  }

-- ---- the paragraph that was found

pub record FoundNext (doc : Doc) (text : List ℕ) (answered : List Answered) (given : Seen) (lines : Option Paragraph) (new : CheckedState) (after : Option (List ℕ)) : Type 0 where
  pub gives : GivesPassing doc text answered (passing_seen doc given) new after
  pub values : ValueEntries ValueMeaning
  pub are : AreValuesOf doc given values
  pub p : Paragraph
  pub at : slice_get (paragraphs_within text) (length answered) ≡ Some p
  pub lines_are : lines ≡ Some p
  pub first : given.first ≡ p.first
  pub fields : given.fields ≡ fields_in p

pub found_next : {doc : Doc} {before after : CheckedMoment} (text : List ℕ) (answered : List Answered) (given : Seen) (lines : Option Paragraph) → Checks doc before (Ok (Some (passing_seen doc given))) after → IsTrue (is_judged doc given) → FitsChecked doc text answered before.state before.source.bytes → lines ≡ lines_given (rules_of doc) text answered
    → FoundNext doc text answered given lines after.state after.source.bytes
found_next {doc} text answered given lines checks passes fits is =
    let gives = checks.answers text answered fits in
    let values = values-passing doc given passes in
    let found = found_lines doc text answered gives.entries given lines gives.answer gives.seen is in
    record { gives = gives; values = values.0; are = values.1; p = found.0; at = found.1; lines_are = found.2; first = found.3; fields = found.4 }

-- the walk's reader still fits the file
pub fits_again : {doc : Doc} {before after : CheckedMoment} (text : List ℕ) (answered : List Answered) (given : Seen) → Checks doc before (Ok (Some (passing_seen doc given))) after → FitsChecked doc text answered before.state before.source.bytes → (more : List Answered) × FitsChecked doc text more after.state after.source.bytes
fits_again text answered given checks fits =
    let gives = checks.answers text answered fits in
    (answered ++ Ok gives.entries ∷ [], gives.again)

pub fits_walk : (doc : Doc) (text : List ℕ) (walk : Walk) (checked : Checked) (left : Option (List ℕ)) (answered : List Answered) → doc_read checked ≡ doc → walk.checked ≡ checked → FitsChecked doc text answered (checked_state checked) left → FitsWalk text walk left
fits_walk doc text walk checked left answered same is fits = record {
  answered = answered;
  fits =
      subst (λ c. FitsChecked (doc_read c) text answered (checked_state c) left) (sym is)
      (subst (λ d. FitsChecked d text answered (checked_state checked) left) (sym same) fits);
}

-- ---- a run that is refused is left

module _ {asked : Request} {text : List ℕ} {walk : Walk} {left : Option (List ℕ)} {old now : Sinks} (w : Walked asked text walk left old now) (refusal : Refusal) (next : next_given (rules_of asked.kind) text w.answered ≡ Err refusal) (held : Option (List ℕ)) (line : Appends now.reports held (refusal_line refusal)) where
  pub by_leaving : (at : Checked) (walk_now : Walk) (after : Option (List ℕ)) (goes : Bool) → doc_read at ≡ asked.kind → lines_checked at ≡ lines_given (rules_of asked.kind) text w.answered → (checked_state at).fault ≡ Some (Refused refusal)
      → IfSome (lines_checked at) (λ _. FitsRefused asked.kind text w.answered (Refused refusal) (checked_state at) after)
      → doc_read walk_now.checked ≡ doc_read at → ((answered : List Answered) (left : Option (List ℕ)) → FitsChecked (doc_read at) text answered (checked_state at) left → FitsChecked (doc_read at) text answered (checked_state walk_now.checked) left)
      → goes ≡ resumes (doc_read at) (checked_state at).fault (lines_checked at) → walk_now.summary ≡ record walk.summary { refused = walk.summary.refused + 1 } → walk_now.outcome ≡ walk.outcome
      → StepsOn asked text (Ok goes) walk_now after old (sinks now.writer held)
  by_leaving at walk_now after goes same lines fault past doc fits is summary outcome = go goes (is ∙ resumes_is)
    where
      resumes_is : resumes (doc_read at) (checked_state at).fault (lines_checked at) ≡ resumes asked.kind (Some (Refused refusal)) (lines_given (rules_of asked.kind) text w.answered)
      resumes_is = ap (λ d. resumes d (checked_state at).fault (lines_checked at)) same ∙ ap (λ f. resumes asked.kind f (lines_checked at)) fault ∙ ap (resumes asked.kind (Some (Refused refusal))) lines

      there : resumes asked.kind (Some (Refused refusal)) (lines_given (rules_of asked.kind) text w.answered) ≡ true → FitsChecked asked.kind text (w.answered ++ Err refusal ∷ []) (checked_state walk_now.checked) after
      there on =
          subst (λ d. FitsChecked d text (w.answered ++ Err refusal ∷ []) (checked_state at) after → FitsChecked d text (w.answered ++ Err refusal ∷ []) (checked_state walk_now.checked) after) same (fits (w.answered ++ Err refusal ∷ []) after)
          (past_refused asked.kind text w.answered refusal (checked_state at) after (lines_checked at) (ap (resumes asked.kind (Some (Refused refusal))) lines ∙ on) past)

      go : (t : Bool) → t ≡ resumes asked.kind (Some (Refused refusal)) (lines_given (rules_of asked.kind) text w.answered) → StepsOn asked text (Ok t) walk_now after old (sinks now.writer held)
      go true on = walked_refused w refusal next held line walk_now after (sym on) (doc ∙ same) (there (sym on)) summary outcome
      go false on = walked_last w refusal next held line walk_now (sym on) outcome summary

pub fits_leaving : (doc : Doc) (text : List ℕ) (answered : List Answered) (refusal : Refusal) (at : Checked) (walk_now : Walk) (after : Option (List ℕ)) → doc_read at ≡ doc → (checked_state at).fault ≡ Some (Refused refusal) → IfSome (lines_checked at) (λ _. FitsRefused doc text answered (Refused refusal) (checked_state at) after)
    → doc_read walk_now.checked ≡ doc_read at → ((answered : List Answered) (left : Option (List ℕ)) → FitsChecked (doc_read at) text answered (checked_state at) left → FitsChecked (doc_read at) text answered (checked_state walk_now.checked) left)
    → resumes (doc_read at) (checked_state at).fault (lines_checked at) ≡ true → FitsWalk text walk_now after
fits_leaving doc text answered refusal at walk_now after same fault past kept fits goes =
    let on : resumes doc (Some (Refused refusal)) (lines_checked at) ≡ true = sym (ap (λ d. resumes d (checked_state at).fault (lines_checked at)) same ∙ ap (λ f. resumes doc f (lines_checked at)) fault) ∙ goes in
    let now = answered ++ Err refusal ∷ [] in
    record {
      answered = now;
      fits =
          subst (λ d. FitsChecked d text now (checked_state walk_now.checked) after) (sym kept)
          (fits now after (subst (λ d. FitsChecked d text now (checked_state at) after) (sym same) (past_refused doc text answered refusal (checked_state at) after (lines_checked at) on past)));
    }

pub taken_walk : {doc : Doc} {before after : CheckedMoment} {answer : Result (Option Passing) Fault} {text : List ℕ} (answered : List Answered) → before.state.fault ≡ None → ChecksOn doc before answer after → FitsChecked doc text answered before.state before.source.bytes → TakesNoMore text file_limit after.source.bytes
taken_walk {text} answered sound checks fits = (goes_on _ _ _ _ sound checks).taken text answered fits
