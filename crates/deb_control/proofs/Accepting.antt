-- A file is refused exactly where no meaning of it is accepted.
use Rattle.deb_control.proofs.Common.{◌≡◌, ℕ, ◌≤◌, ◌&&◌, not, Bool, true, false, List, [], ◌∷◌, ◌++◌, length, map, Option, None, IsTrue, refl, sym, ap, ◌∙◌, subst, arith, append-nil, false≢true, length-map, AllByRecursion, Paragraph, paragraphs_of, file_limit, paragraph_limit, IsShort, IsRun, Entries, entries_of, HaveMeanings, line_beyond, paragraphs_within, push-append, judged-complete, judged-sound, paragraphs_of-IsRun, CanonLaw, file_text, Pairwise, Rules, AreRulesOf, has_some, outcome_behind, outcome, line_behind, refusal_by, ValueEntries, SpellsEntry, SpellsEntries, MeansValues, body_under, bodies_of, values_text, has_values, IsAccepted, RefusedOrAccepted, AcceptedMeansOneThing, AcceptedIsWritten, CanonicalTextIsAccepted, CanonicalTextTellsAccepted, CanonicalTextIsItsOwn}
use Rattle.deb_control.proofs.FileText.{AreEntries-from_means}
use Rattle.deb_control.proofs.Limits.{line_too_long-none, total_length-within, line_beyond-none, length-within, part_within-whole, file_text-grows, paragraphs_at, paragraphs_of-file_text, HasShortText, short-from_texts, texts-from_short}
use Rattle.deb_control.proofs.FieldValues.{has_values-have_names, values-from_none, none-from_values, canonical-from_values}
use Rattle.deb_control.proofs.Passing.{AllPass, outcome-from_pass, pass-from_outcome, last-parts, last-from_parts}
use Rattle.deb_control.proofs.ValueBodies.{AreEntries-bodies_of}
use Rattle.deb_control.proofs.ValueFiles.{text_means_one_thing, canonical_text_means_the_same, canonical_text_tells_meanings}

-- the canonical text of all is within the limit where the last prefix is
file_within : (rules : Rules) (beyond : Option ℕ) (before : List Entries) (left : List Paragraph) (passed : List Entries) → AllPass rules beyond before left passed → length (file_text before) ≤ file_limit → length (file_text (before ++ passed)) ≤ file_limit
file_within rules beyond before [] passed all within = subst (λ m. length (file_text (before ++ m)) ≤ file_limit) (sym all) (subst (λ m. length (file_text m) ≤ file_limit) (sym (append-nil before)) within)
file_within rules beyond before (p ∷ left) [] all within = absurd all
file_within rules beyond before (p ∷ left) (entries ∷ passed) all within =
    subst (λ m. length (file_text m) ≤ file_limit) (push-append before entries passed) (file_within rules beyond (before ++ entries ∷ []) left passed all.1 all.0.short_file)

-- of a document of one paragraph, one passes
one_passes : (rules : Rules) (beyond : Option ℕ) (left : List Paragraph) (passed : List Entries) → rules.single ≡ true → (rules.single && not (has_some passed)) ≡ false → AllPass rules beyond [] left passed → length passed ≡ 1
one_passes rules beyond [] passed single some all = absurd (false≢true (sym (rw (all, single) at some)))
one_passes rules beyond (p ∷ left) [] single some all = absurd all
one_passes rules beyond (p ∷ []) (entries ∷ passed) single some all = ap (λ m. length (entries ∷ m)) all.1
one_passes rules beyond (p ∷ q ∷ left) (entries ∷ []) single some all = absurd all.1
one_passes rules beyond (p ∷ q ∷ left) (entries ∷ more ∷ passed) single some all = absurd (false≢true (sym (rw single at all.1.0.alone)))

-- a paragraph is alone where at most one is
alone_from : (single : Bool) (before : List Entries) (entries : Entries) (more : List Entries) → (single ≡ true → length (before ++ entries ∷ more) ≤ 1) → (single && has_some before) ≡ false
alone_from false before entries more h = refl
alone_from true [] entries more h = refl
alone_from true (first ∷ []) entries more h = absurd (omega (arith, h refl))
alone_from true (first ∷ next ∷ before) entries more h = absurd (omega (arith, h refl))

module _ (V : Type 0) (spells : List ℕ → List ℕ → V → Type 0) (text_of : V → List ℕ) (law : (name : List ℕ) → CanonLaw V (spells name) text_of) (rules : Rules) where
  pub accepted_means_one_thing : AcceptedMeansOneThing V spells text_of rules
  accepted_means_one_thing text meaning other accepted also = text_means_one_thing V spells text_of law text meaning other accepted.means also.means

  pub canonical_text_is_accepted : CanonicalTextIsAccepted V spells text_of rules
  canonical_text_is_accepted text meaning accepted = record {
    short = accepted.canonical_short;
    paragraphs_short = accepted.canonical_paragraphs_short;
    means = canonical_text_means_the_same V spells text_of law text meaning accepted.means;
    one = accepted.one;
    required = accepted.required;
    canonical_short = accepted.canonical_short;
    canonical_paragraphs_short = accepted.canonical_paragraphs_short;
  }

  pub canonical_text_tells_accepted : CanonicalTextTellsAccepted V spells text_of rules
  canonical_text_tells_accepted text other meaning other_meaning accepted also =
      canonical_text_tells_meanings V spells text_of law text other meaning other_meaning accepted.means also.means

module _ (V : Type 0) (spells : List ℕ → List ℕ → V → Type 0) (text_of : V → List ℕ) (law : (name : List ℕ) → CanonLaw V (spells name) text_of) (rules : Rules) (are : AreRulesOf V spells text_of rules) where
  -- what paragraphs mean, and that this is accepted paragraph by paragraph
  record Meant (left : List Paragraph) (passed : List Entries) : Type 0 where
    bodies : List Entries
    meaning : List (ValueEntries V)
    means : HaveMeanings left bodies
    spelled : SpellsEntries spells bodies meaning
    short : AllByRecursion IsShort left
    required : AllByRecursion (λ fields. IsTrue (has_values rules.required fields)) meaning
    texts : passed ≡ bodies_of text_of meaning
    short_texts : AllByRecursion HasShortText passed

  meant-from_pass : (beyond : Option ℕ) (before : List Entries) (left : List Paragraph) (passed : List Entries) → AllByRecursion (λ p. IsRun p.lines) left → AllPass rules beyond before left passed → Meant left passed
  meant-from_pass beyond before [] passed runs all = record { bodies = []; meaning = []; means = tt; spelled = tt; short = tt; required = tt; texts = all; short_texts = subst (AllByRecursion HasShortText) (sym all) tt }
  meant-from_pass beyond before (p ∷ left) [] runs all = absurd all
  meant-from_pass beyond before (p ∷ left) (entries ∷ passed) runs all =
      let rest = meant-from_pass beyond (before ++ entries ∷ []) left passed runs.1 all.1 in
      let short : IsShort p = total_length-within p.lines p.first paragraph_limit all.0.short in
      let spelt = judged-sound p.first p.lines all.0.fields runs.0 short all.0.seen in
      let found = values-from_none V spells text_of law rules are all.0.fields all.0.good in
      record {
        bodies = entries_of all.0.fields ∷ rest.bodies;
        meaning = found.0 ∷ rest.meaning;
        means = ((all.0.fields, spelt, refl), rest.means);
        spelled = (found.1, rest.spelled);
        short = (short, rest.short);
        required = (has_values-have_names spells all.0.fields found.0 spelt.distinct found.1 rules.required ∙ all.0.named, rest.required);
        texts = ap (λ e. e ∷ passed) (all.0.is ∙ found.2) ∙ ap (λ m. map (body_under text_of) found.0 ∷ m) rest.texts;
        short_texts = (subst HasShortText (sym all.0.is) all.0.short_text, rest.short_texts);
      }

  pass-from_meant : (before : List Entries) (left : List Paragraph) (bodies : List Entries) (meaning : List (ValueEntries V)) → AllByRecursion (λ p. IsRun p.lines) left → HaveMeanings left bodies → SpellsEntries spells bodies meaning → AllByRecursion IsShort left → AllByRecursion (λ fields. IsTrue (has_values rules.required fields)) meaning → AllByRecursion HasShortText (bodies_of text_of meaning) → (rules.single ≡ true → length (before ++ bodies_of text_of meaning) ≤ 1) → length (file_text (before ++ bodies_of text_of meaning)) ≤ file_limit → AllPass rules None before left (bodies_of text_of meaning)
  pass-from_meant before [] [] [] runs means spelled short required texts one within = refl
  pass-from_meant before [] [] (fields ∷ meaning) runs means spelled short required texts one within = absurd spelled
  pass-from_meant before [] (entries ∷ bodies) meaning runs means spelled short required texts one within = absurd means
  pass-from_meant before (p ∷ left) [] meaning runs means spelled short required texts one within = absurd means
  pass-from_meant before (p ∷ left) (entries ∷ bodies) [] runs means spelled short required texts one within = absurd spelled
  pass-from_meant before (p ∷ left) (entries ∷ bodies) (values ∷ meaning) runs means spelled short required texts one within =
      let fields = means.0.0 in
      let spelt = means.0.1 in
      let now = map (body_under text_of) values in
      let more = bodies_of text_of meaning in
      let has = subst (λ e. Pairwise (SpellsEntry spells) e values) means.0.2 spelled.0 in
      let canonical = canonical-from_values V spells text_of law rules are fields values spelt.distinct has in
      let again = push-append before now more in (
        record {
          alone = alone_from rules.single before now more one;
          short = line_too_long-none p.lines p.first paragraph_limit short.0;
          whole = refl;
          fields = fields;
          seen = judged-complete p.first p.lines fields runs.0.no_newline spelt;
          good = none-from_values V spells text_of law rules are fields values spelt.distinct has;
          named = sym (has_values-have_names spells fields values spelt.distinct has rules.required) ∙ required.0;
          short_text = subst HasShortText (sym canonical) texts.0;
          short_file = omega (arith, file_text-grows (before ++ now ∷ []) more, ap (λ m. length (file_text m)) again, within);
          is = sym canonical;
        },
        pass-from_meant (before ++ now ∷ []) left bodies meaning runs.1 means.1 spelled.1 short.1 required.1 texts.1
            (λ single. subst (λ m. length m ≤ 1) (sym again) (one single)) (subst (λ m. length (file_text m) ≤ file_limit) (sym again) within),
      )

  -- the canonical paragraphs of a meaning are as short as their texts
  canonical_paragraphs : (text : List ℕ) (meaning : List (ValueEntries V)) → MeansValues V spells text meaning → paragraphs_of (values_text text_of meaning) ≡ paragraphs_at 1 (bodies_of text_of meaning)
  canonical_paragraphs text meaning means =
      paragraphs_of-file_text 1 (bodies_of text_of meaning) (AreEntries-bodies_of V spells text_of law means.bodies meaning means.spelled (AreEntries-from_means text means.bodies means.means))

  pub accepted-from_none : (text : List ℕ) → refusal_by rules text ≡ None → (meaning : List (ValueEntries V)) × IsAccepted V spells text_of rules text meaning
  accepted-from_none text none =
      let beyond = line_beyond 1 file_limit text in
      let found = pass-from_outcome rules beyond (line_behind text) [] (paragraphs_within text) none in
      let last = last-parts rules beyond (line_behind text) found.0 found.2 in
      let short = length-within text last.0 in
      let all = subst (λ t. AllPass rules beyond [] (paragraphs_of t) found.0) (part_within-whole text short) found.1 in
      let meant = meant-from_pass beyond [] (paragraphs_of text) found.0 (paragraphs_of-IsRun text) all in
      let means : MeansValues V spells text meant.meaning = record { bodies = meant.bodies; means = meant.means; spelled = meant.spelled } in (
        meant.meaning,
        record {
          short = short;
          paragraphs_short = meant.short;
          means = means;
          one = λ single. sym (length-map meant.meaning (map (body_under text_of))) ∙ ap length (sym meant.texts) ∙ one_passes rules beyond (paragraphs_of text) found.0 single last.1 all;
          required = meant.required;
          canonical_short = subst (λ m. length (file_text m) ≤ file_limit) meant.texts (file_within rules beyond [] (paragraphs_of text) found.0 all (omega arith));
          canonical_paragraphs_short = subst (AllByRecursion IsShort) (sym (canonical_paragraphs text meant.meaning means)) (short-from_texts 1 (bodies_of text_of meant.meaning) (subst (AllByRecursion HasShortText) meant.texts meant.short_texts));
        },
      )

  some_from_one : (single : Bool) (meaning : List (ValueEntries V)) → (IsTrue single → length meaning ≡ 1) → (single && not (has_some (bodies_of text_of meaning))) ≡ false
  some_from_one false meaning one = refl
  some_from_one true [] one = absurd (omega (arith, one refl))
  some_from_one true (values ∷ meaning) one = refl

  -- what comes of a file that is accepted
  pub outcome-accepted : (text : List ℕ) (meaning : List (ValueEntries V)) → IsAccepted V spells text_of rules text meaning → outcome rules text ≡ record { passed = bodies_of text_of meaning; refusal = None }
  outcome-accepted text meaning accepted =
      let means = accepted.means in
      let none = line_beyond-none text accepted.short in
      let texts = texts-from_short 1 (bodies_of text_of meaning) (subst (AllByRecursion IsShort) (canonical_paragraphs text meaning means) accepted.canonical_paragraphs_short) in
      let all = pass-from_meant [] (paragraphs_of text) means.bodies meaning (paragraphs_of-IsRun text) means.means means.spelled accepted.paragraphs_short accepted.required texts
      (λ single. omega (arith, length-map meaning (map (body_under text_of)), accepted.one single)) accepted.canonical_short in
      ap (λ t. outcome_behind rules (line_beyond 1 file_limit text) (line_behind text) [] (paragraphs_of t)) (part_within-whole text accepted.short)
      ∙ ap (λ beyond. outcome_behind rules beyond (line_behind text) [] (paragraphs_of text)) none
      ∙ outcome-from_pass rules None (line_behind text) [] (paragraphs_of text) (bodies_of text_of meaning) all (last-from_parts rules (line_behind text) (bodies_of text_of meaning) (some_from_one rules.single meaning accepted.one))

  pub refused_or_accepted : RefusedOrAccepted V spells text_of rules
  refused_or_accepted text = (accepted-from_none text, λ accepted. ap (λ o. o.refusal) (outcome-accepted text accepted.0 accepted.1))

  pub accepted_is_written : AcceptedIsWritten V spells text_of rules
  accepted_is_written text meaning accepted = ap (λ o. file_text o.passed) (outcome-accepted text meaning accepted)

  pub canonical_text_is_its_own : CanonicalTextIsItsOwn V spells text_of rules
  canonical_text_is_its_own text meaning accepted =
      let again = outcome-accepted (values_text text_of meaning) meaning (canonical_text_is_accepted V spells text_of law rules text meaning accepted) in
      (ap (λ o. o.refusal) again, ap (λ o. file_text o.passed) again)
