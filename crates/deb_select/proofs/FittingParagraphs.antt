-- Paragraphs of an accepted file beside what they mean, wherever they are.
use Rattle.std.proofs.Common.{◌≡◌, ℕ, ◌+◌, ◌≤◌, Bool, true, false, cond, IsTrue, List, [], ◌∷◌, ◌++◌, length, map, refl, sym, ap, ◌∙◌, subst, append_assoc, arith, length-append}
use Rattle.std.specs.List.{AllByRecursion, filter}
use Rattle.deb_base.specs.Bodies.{HasNoNewline, Line, file_limit, newline, with_byte}
use Rattle.deb_base.specs.declared.doc.Doc.{Doc}
use Rattle.deb_syntax.specs.Fields.{Field, IsShort, SpellsParagraph}
use Rattle.deb_syntax.specs.Laws.{IsRun}
use Rattle.deb_syntax.specs.Lines.{Paragraph, begins_blank, lines_of, paragraphs_from, paragraphs_of, with_newlines}
use Rattle.deb_syntax.specs.Meaning.{Entries, HaveMeanings, entries_of}
use Rattle.deb_syntax.proofs.LinesLawsPlaces.{paragraphs_of-IsRun}
use Rattle.deb_syntax.proofs.NextParagraph.{next_paragraph}
use Rattle.deb_field.specs.ValueLaws.{value_law}
use Rattle.deb_field.specs.Values.{SpellsValue, ValueMeaning, value_text}
use Rattle.deb_control.specs.Acceptance.{has_values}
use Rattle.deb_control.specs.Documents.{Accepted, Meaning, canonical_text, rules_of}
use Rattle.deb_control.specs.Pairs.{Pairwise}
use Rattle.deb_control.specs.ValueFiles.{SpellsEntry, ValueEntries, bodies_of, body_under}
use Rattle.deb_control.proofs.Entries.{AreEntries}
use Rattle.deb_control.proofs.FileText.{AreEntries-from_means, behind_empty, is_blank-nil}
use Rattle.deb_control.proofs.Limits.{HasShortText, paragraphs_of-file_text, short-from_texts, texts-from_short}
use Rattle.deb_control.proofs.ValueBodies.{AreEntries-bodies_of}
use Rattle.deb_control.proofs.GivenValues.{pairwise-length}
use Rattle.deb_control.specs.Canonical.{file_text, paragraph_text}
use Rattle.deb_select.specs.Conditions.{SelectionMeaning, selected, selects}
use Rattle.deb_select.specs.Laws.{SelectedTextIsAccepted, SelectedTextIsItsOwn}
use Rattle.deb_select.specs.Written.{chosen, chosen_text, gap, one_if, written_after}
use Rattle.deb_select.proofs.MovedParagraphs.{moved_paragraph}

-- A paragraph can be one of an accepted file and has these values, and so has its canonical text.
pub record FitsValues (doc : Doc) (p : Paragraph) (values : ValueEntries ValueMeaning) : Type 0 where
  pub run : IsRun p.lines
  pub short : IsShort p
  pub bodies : Entries
  pub meant : (fields : List Field) × SpellsParagraph p fields × (bodies ≡ entries_of fields)
  pub spelled : Pairwise (SpellsEntry (SpellsValue doc)) bodies values
  pub required : IsTrue (has_values (rules_of doc).required values)
  pub entries : AreEntries (map (body_under value_text) values)
  pub canonical : HasShortText (map (body_under value_text) values)

fitting : (doc : Doc) (ps : List Paragraph) (bodies : List Entries) (meaning : Meaning) → AllByRecursion (λ p. IsRun p.lines) ps → AllByRecursion IsShort ps → HaveMeanings ps bodies
    → Pairwise (Pairwise (SpellsEntry (SpellsValue doc))) bodies meaning → AllByRecursion (λ fields. IsTrue (has_values (rules_of doc).required fields)) meaning
    → AllByRecursion AreEntries (bodies_of value_text meaning) → AllByRecursion HasShortText (bodies_of value_text meaning) → Pairwise (FitsValues doc) ps meaning
fitting doc [] [] [] runs short have spelled required entries texts = tt
fitting doc [] [] (v ∷ meaning) runs short have spelled required entries texts = absurd spelled
fitting doc [] (b ∷ bodies) meaning runs short have spelled required entries texts = absurd have
fitting doc (p ∷ ps) [] meaning runs short have spelled required entries texts = absurd have
fitting doc (p ∷ ps) (b ∷ bodies) [] runs short have spelled required entries texts = absurd spelled
fitting doc (p ∷ ps) (b ∷ bodies) (v ∷ meaning) runs short have spelled required entries texts = (
  record { run = runs.0; short = short.0; bodies = b; meant = have.0; spelled = spelled.0; required = required.0; entries = entries.0; canonical = texts.0 },
  fitting doc ps bodies meaning runs.1 short.1 have.1 spelled.1 required.1 entries.1 texts.1,
)

of_accepted : (doc : Doc) (text : List ℕ) (meaning : Meaning) → Accepted doc text meaning → Pairwise (FitsValues doc) (paragraphs_of text) meaning
of_accepted doc text meaning accepted =
    let bodies = accepted.means.bodies in
    let entries = AreEntries-bodies_of ValueMeaning (SpellsValue doc) value_text (value_law doc) bodies meaning accepted.means.spelled (AreEntries-from_means text bodies accepted.means.means) in
    fitting doc (paragraphs_of text) bodies meaning (paragraphs_of-IsRun text) accepted.paragraphs_short accepted.means.means accepted.means.spelled accepted.required entries
    (texts-from_short 1 (bodies_of value_text meaning) (subst (AllByRecursion IsShort) (paragraphs_of-file_text 1 (bodies_of value_text meaning) entries) accepted.canonical_paragraphs_short))

chosen-pairs : (R : Paragraph → ValueEntries ValueMeaning → Type 0) (selection : SelectionMeaning) (ps : List Paragraph) (meaning : Meaning) → Pairwise R ps meaning → Pairwise R (chosen selection meaning ps) (selected selection meaning)
chosen-pairs R selection [] [] are = tt
chosen-pairs R selection [] (v ∷ meaning) are = absurd are
chosen-pairs R selection (p ∷ ps) [] are = absurd are
chosen-pairs R selection (p ∷ ps) (v ∷ meaning) are = go (selects selection v) (chosen-pairs R selection ps meaning are.1)
  where
    go : (t : Bool) → Pairwise R (chosen selection meaning ps) (selected selection meaning) → Pairwise R (one_if t p ++ chosen selection meaning ps) (cond t (v ∷ selected selection meaning) (selected selection meaning))
    go true rest = (are.0, rest)
    go false rest = rest

-- lines without newlines, before others
line_before : (line : Line) (rest : List ℕ) → HasNoNewline line → lines_of (line ++ newline ∷ rest) ≡ line ∷ lines_of rest
line_before [] rest none = refl
line_before (b ∷ line) rest none =
    ap (λ t. cond t ([] ∷ lines_of (line ++ newline ∷ rest)) (with_byte b (lines_of (line ++ newline ∷ rest)))) none.0
    ∙ ap (with_byte b) (line_before line rest none.1)

lines_before : (lines : List Line) (rest : List ℕ) → AllByRecursion HasNoNewline lines → lines_of (with_newlines lines ++ rest) ≡ lines ++ lines_of rest
lines_before [] rest none = refl
lines_before (line ∷ lines) rest none =
    ap lines_of (append_assoc line (newline ∷ with_newlines lines) rest)
    ∙ line_before line (with_newlines lines ++ rest) none.0
    ∙ ap (λ l. line ∷ l) (lines_before lines rest none.1)

-- A text's paragraphs have the lines of others.
abbrev pub HaveTheLines : Paragraph → Paragraph → Type 0
HaveTheLines p q = p.lines ≡ q.lines

begins : (ps : List Paragraph) → begins_blank (lines_of (written_after true ps)) ≡ true
begins [] = refl
begins (p ∷ ps) = is_blank-nil

-- the first of those of what is written
one_written : (n : ℕ) (p : Paragraph) (ps : List Paragraph) → IsRun p.lines
    → paragraphs_from n (lines_of (with_newlines p.lines ++ written_after true ps)) ≡ record { first = n + 0; lines = p.lines } ∷ paragraphs_from (n + 0 + length p.lines) (lines_of (written_after true ps))
one_written n p ps run =
    ap (paragraphs_from n) (lines_before p.lines (written_after true ps) run.no_newline)
    ∙ next_paragraph n [] p.lines (lines_of (written_after true ps)) tt run.not_blank run.some (begins ps)

-- and all of them
more_written : (n : ℕ) (ps : List Paragraph) → AllByRecursion (λ p. IsRun p.lines) ps → Pairwise HaveTheLines ps (paragraphs_from n (lines_of (written_after true ps)))
more_written n [] runs = tt
more_written n (p ∷ ps) runs =
    subst (Pairwise HaveTheLines (p ∷ ps)) (sym (behind_empty n (with_newlines p.lines ++ written_after true ps) ∙ one_written (n + 1) p ps runs.0))
    (refl, more_written (n + 1 + 0 + length p.lines) ps runs.1)

pub paragraphs_written : (ps : List Paragraph) → AllByRecursion (λ p. IsRun p.lines) ps → Pairwise HaveTheLines ps (paragraphs_of (written_after false ps))
paragraphs_written [] runs = tt
paragraphs_written (p ∷ ps) runs = subst (Pairwise HaveTheLines (p ∷ ps)) (sym (one_written 1 p ps runs.0)) (refl, more_written (1 + 0 + length p.lines) ps runs.1)

moved_values : (doc : Doc) (p q : Paragraph) (values : ValueEntries ValueMeaning) → p.lines ≡ q.lines → FitsValues doc p values → FitsValues doc q values
moved_values doc p q values same fits = record {
  run = subst IsRun same fits.run;
  short = subst (λ lines. IsShort (record { first = 1; lines = lines })) same fits.short;
  bodies = fits.bodies;
  meant = moved_paragraph p q same fits.bodies fits.meant;
  spelled = fits.spelled;
  required = fits.required;
  entries = fits.entries;
  canonical = fits.canonical;
}

moved_all : (doc : Doc) (ps qs : List Paragraph) (meaning : Meaning) → Pairwise HaveTheLines ps qs → Pairwise (FitsValues doc) ps meaning → Pairwise (FitsValues doc) qs meaning
moved_all doc [] [] meaning same fit = fit
moved_all doc [] (q ∷ qs) meaning same fit = absurd same
moved_all doc (p ∷ ps) [] meaning same fit = absurd same
moved_all doc (p ∷ ps) (q ∷ qs) [] same fit = absurd fit
moved_all doc (p ∷ ps) (q ∷ qs) (v ∷ meaning) same fit = (moved_values doc p q v same.0 fit.0, moved_all doc ps qs meaning same.1 fit.1)

pub runs-from_fitting : (doc : Doc) (ps : List Paragraph) (meaning : Meaning) → Pairwise (FitsValues doc) ps meaning → AllByRecursion (λ p. IsRun p.lines) ps
runs-from_fitting doc [] meaning fit = tt
runs-from_fitting doc (p ∷ ps) [] fit = absurd fit
runs-from_fitting doc (p ∷ ps) (v ∷ meaning) fit = (fit.0.run, runs-from_fitting doc ps meaning fit.1)

-- what a list of paragraphs needs to be those of an accepted file
record Parts (doc : Doc) (ps : List Paragraph) (meaning : Meaning) : Type 0 where
  short : AllByRecursion IsShort ps
  bodies : List Entries
  have : HaveMeanings ps bodies
  spelled : Pairwise (Pairwise (SpellsEntry (SpellsValue doc))) bodies meaning
  required : AllByRecursion (λ fields. IsTrue (has_values (rules_of doc).required fields)) meaning
  entries : AllByRecursion AreEntries (bodies_of value_text meaning)
  texts : AllByRecursion HasShortText (bodies_of value_text meaning)

parts : (doc : Doc) (ps : List Paragraph) (meaning : Meaning) → Pairwise (FitsValues doc) ps meaning → Parts doc ps meaning
parts doc [] [] fit = record { short = tt; bodies = []; have = tt; spelled = tt; required = tt; entries = tt; texts = tt }
parts doc [] (v ∷ meaning) fit = absurd fit
parts doc (p ∷ ps) [] fit = absurd fit
parts doc (p ∷ ps) (v ∷ meaning) fit =
    let rest = parts doc ps meaning fit.1 in record {
      short = (fit.0.short, rest.short);
      bodies = fit.0.bodies ∷ rest.bodies;
      have = (fit.0.meant, rest.have);
      spelled = (fit.0.spelled, rest.spelled);
      required = (fit.0.required, rest.required);
      entries = (fit.0.entries, rest.entries);
      texts = (fit.0.canonical, rest.texts);
    }

-- fewer paragraphs have no longer canonical text
abbrev rest_length : List Entries → ℕ
rest_length [] = 0
rest_length (entries ∷ more) = 1 + length (file_text (entries ∷ more))

first_length : (entries : Entries) (more : List Entries) → length (file_text (entries ∷ more)) ≡ length (paragraph_text entries) + rest_length more
first_length entries [] = omega arith
first_length entries (next ∷ more) = length-append (paragraph_text entries) (newline ∷ file_text (next ∷ more)) ∙ omega arith

module _ {X : Type 0} (f : X → Entries) (p : X → Bool) where
  fewer_rest : (xs : List X) → rest_length (map f (filter p xs)) ≤ rest_length (map f xs)
  fewer_rest [] = omega arith
  fewer_rest (x ∷ xs) = go (p x) (fewer_rest xs)
    where
      go : (t : Bool) → rest_length (map f (filter p xs)) ≤ rest_length (map f xs) → rest_length (map f (cond t (x ∷ filter p xs) (filter p xs))) ≤ rest_length (map f (x ∷ xs))
      go true rest = omega (arith, rest, first_length (f x) (map f (filter p xs)), first_length (f x) (map f xs))
      go false rest = omega (arith, rest, first_length (f x) (map f xs))

  fewer_text : (xs : List X) → length (file_text (map f (filter p xs))) ≤ length (file_text (map f xs))
  fewer_text xs = go (map f (filter p xs)) (map f xs) (fewer_rest xs)
    where
      go : (few many : List Entries) → rest_length few ≤ rest_length many → length (file_text few) ≤ length (file_text many)
      go [] many less = omega arith
      go (e ∷ few) [] less = absurd (omega (arith, less))
      go (e ∷ few) (g ∷ many) less = omega (arith, less)

accepted_of : (doc : Doc) (text : List ℕ) (meaning : Meaning) → Pairwise (FitsValues doc) (paragraphs_of text) meaning → (IsTrue (rules_of doc).single → length meaning ≡ 1) → length text ≤ file_limit → length (canonical_text meaning) ≤ file_limit → Accepted doc text meaning
accepted_of doc text meaning fit single short canonical =
    let all = parts doc (paragraphs_of text) meaning fit in record {
      short = short;
      paragraphs_short = all.short;
      means = record { bodies = all.bodies; means = all.have; spelled = all.spelled };
      one = single;
      required = all.required;
      canonical_short = canonical;
      canonical_paragraphs_short = subst (AllByRecursion IsShort) (sym (paragraphs_of-file_text 1 (bodies_of value_text meaning) all.entries)) (short-from_texts 1 (bodies_of value_text meaning) all.texts);
    }

module _ (kind : Doc) (selection : SelectionMeaning) (text : List ℕ) (meaning : Meaning) (accepted : Accepted kind text meaning) where
  fit_chosen : Pairwise (FitsValues kind) (chosen selection meaning (paragraphs_of text)) (selected selection meaning)
  fit_chosen = chosen-pairs (FitsValues kind) selection (paragraphs_of text) meaning (of_accepted kind text meaning accepted)

  same_lines : Pairwise HaveTheLines (chosen selection meaning (paragraphs_of text)) (paragraphs_of (chosen_text false selection meaning (paragraphs_of text)))
  same_lines = paragraphs_written (chosen selection meaning (paragraphs_of text)) (runs-from_fitting kind (chosen selection meaning (paragraphs_of text)) (selected selection meaning) fit_chosen)

pub selected_text_is_accepted : SelectedTextIsAccepted
selected_text_is_accepted kind selection text meaning accepted single short =
    let ps = chosen selection meaning (paragraphs_of text) in
    accepted_of kind (written_after false ps) (selected selection meaning)
    (moved_all kind ps (paragraphs_of (written_after false ps)) (selected selection meaning) (same_lines kind selection text meaning accepted) (fit_chosen kind selection text meaning accepted))
    single short (le_trans_of (fewer_text (map (body_under value_text)) (selects selection) meaning) accepted.canonical_short)
  where
    le_trans_of : {a b c : ℕ} → a ≤ b → b ≤ c → a ≤ c
    le_trans_of first second = omega (arith, first, second)

-- ---- selecting again

all_chosen : (selection : SelectionMeaning) (meaning : Meaning) (ps : List Paragraph) → length ps ≡ length (selected selection meaning) → chosen selection (selected selection meaning) ps ≡ ps
all_chosen selection meaning ps same = go (selected selection meaning) ps same (all_pass meaning)
  where
    all_pass : (m : Meaning) → AllByRecursion (λ values. selects selection values ≡ true) (selected selection m)
    all_pass [] = tt
    all_pass (v ∷ m) = one (selects selection v) refl (all_pass m)
      where
        one : (t : Bool) → selects selection v ≡ t → AllByRecursion (λ values. selects selection values ≡ true) (selected selection m) → AllByRecursion (λ values. selects selection values ≡ true) (cond t (v ∷ selected selection m) (selected selection m))
        one true is rest = (is, rest)
        one false is rest = rest

    go : (m : Meaning) (ps : List Paragraph) → length ps ≡ length m → AllByRecursion (λ values. selects selection values ≡ true) m → chosen selection m ps ≡ ps
    go [] [] same all = refl
    go [] (p ∷ ps) same all = absurd (cc)
    go (v ∷ m) [] same all = refl
    go (v ∷ m) (p ∷ ps) same all = ap (λ t. one_if t p ++ chosen selection m ps) all.0 ∙ ap (λ l. p ∷ l) (go m ps (omega (arith, same)) all.1)

written-same : (begun : Bool) (ps qs : List Paragraph) → Pairwise HaveTheLines ps qs → written_after begun qs ≡ written_after begun ps
written-same begun [] [] same = refl
written-same begun [] (q ∷ qs) same = absurd same
written-same begun (p ∷ ps) [] same = absurd same
written-same begun (p ∷ ps) (q ∷ qs) same =
    ap (λ lines. gap begun ++ (with_newlines lines ++ written_after true qs)) (sym same.0)
    ∙ ap (λ text. gap begun ++ (with_newlines p.lines ++ text)) (written-same true ps qs same.1)

pub selected_text_is_its_own : SelectedTextIsItsOwn
selected_text_is_its_own kind selection text meaning accepted =
    let ps = chosen selection meaning (paragraphs_of text) in
    let qs = paragraphs_of (written_after false ps) in
    let same = same_lines kind selection text meaning accepted in
    let long : length qs ≡ length (selected selection meaning) =
    pairwise-length HaveTheLines ps qs same ∙ sym (pairwise-length (FitsValues kind) ps (selected selection meaning) (fit_chosen kind selection text meaning accepted)) in
    ap (written_after false) (all_chosen selection meaning qs long) ∙ written-same false ps qs same
