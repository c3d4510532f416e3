-- Paragraphs of accepted files beside what they mean, wherever they are.
use Rattle.std.proofs.Common.{◌≡◌, ℕ, ◌+◌, ◌≤◌, Bool, true, false, cond, eqb, IsTrue, List, [], ◌∷◌, ◌++◌, length, map, refl, sym, ap, ◌∙◌, subst, append_assoc}
use Rattle.std.proofs.lemmas.Bool.{false≢true}
use Rattle.std.specs.List.{AllByRecursion, list_any}
use Rattle.deb_base.specs.Bodies.{HasNoNewline, Line, file_limit, newline, with_byte}
use Rattle.deb_base.specs.declared.doc.Doc.{Doc}
use Rattle.deb_syntax.specs.Fields.{Field, IsShort, SpellsParagraph}
use Rattle.deb_syntax.specs.Laws.{IsRun}
use Rattle.deb_syntax.specs.Lines.{Paragraph, begins_blank, lines_of, paragraphs_from, paragraphs_of, with_newlines}
use Rattle.deb_syntax.specs.Meaning.{Entries, HaveMeanings, entries_of}
use Rattle.deb_syntax.proofs.LinesLawsPlaces.{paragraphs_of-IsRun}
use Rattle.deb_syntax.proofs.NextParagraph.{next_paragraph}
use Rattle.deb_field.specs.ValueLaws.{value_law}
use Rattle.deb_field.specs.Values.{SpellsValue, ValueMeaning, value_text}
use Rattle.deb_control.specs.Acceptance.{has_values}
use Rattle.deb_control.specs.Documents.{Accepted, Meaning, canonical_text, rules_of}
use Rattle.deb_control.specs.Pairs.{Pairwise}
use Rattle.deb_control.specs.ValueFiles.{SpellsEntry, ValueEntries, bodies_of, body_under}
use Rattle.deb_control.proofs.Entries.{AreEntries}
use Rattle.deb_control.proofs.FileText.{AreEntries-from_means, behind_empty, is_blank-nil}
use Rattle.deb_control.proofs.Limits.{HasShortText, paragraphs_of-file_text, short-from_texts, texts-from_short}
use Rattle.deb_control.proofs.ValueBodies.{AreEntries-bodies_of}
use Rattle.deb_latest.specs.Entries.{doc_of}
use Rattle.deb_latest.specs.FileLaws.{LatestTextIsAccepted}
use Rattle.deb_latest.specs.Files.{FilesMean, latest_in, paragraphs_in}
use Rattle.deb_latest.specs.Requests.{latest_of}
use Rattle.deb_latest.specs.Written.{chosen, chosen_from, written_after}
use Rattle.deb_latest.specs.declared.kind.Kind.{Kind}
use Rattle.deb_latest.specs.declared.kind.Kind.TheVariants.{Packages, Sources}
use Rattle.deb_latest.proofs.MovedParagraphs.{moved_paragraph}

-- A paragraph can be one of an accepted file and has these values, and so has its canonical text.
pub record FitsValues (doc : Doc) (p : Paragraph) (values : ValueEntries ValueMeaning) : Type 0 where
  pub run : IsRun p.lines
  pub short : IsShort p
  pub bodies : Entries
  pub meant : (fields : List Field) × SpellsParagraph p fields × (bodies ≡ entries_of fields)
  pub spelled : Pairwise (SpellsEntry (SpellsValue doc)) bodies values
  pub required : IsTrue (has_values (rules_of doc).required values)
  pub entries : AreEntries (map (body_under value_text) values)
  pub canonical : HasShortText (map (body_under value_text) values)

fitting : (doc : Doc) (ps : List Paragraph) (bodies : List Entries) (meaning : Meaning) → AllByRecursion (λ p. IsRun p.lines) ps → AllByRecursion IsShort ps → HaveMeanings ps bodies
    → Pairwise (Pairwise (SpellsEntry (SpellsValue doc))) bodies meaning → AllByRecursion (λ fields. IsTrue (has_values (rules_of doc).required fields)) meaning
    → AllByRecursion AreEntries (bodies_of value_text meaning) → AllByRecursion HasShortText (bodies_of value_text meaning) → Pairwise (FitsValues doc) ps meaning
fitting doc [] [] [] runs short have spelled required entries texts = tt
fitting doc [] [] (v ∷ meaning) runs short have spelled required entries texts = absurd spelled
fitting doc [] (b ∷ bodies) meaning runs short have spelled required entries texts = absurd have
fitting doc (p ∷ ps) [] meaning runs short have spelled required entries texts = absurd have
fitting doc (p ∷ ps) (b ∷ bodies) [] runs short have spelled required entries texts = absurd spelled
fitting doc (p ∷ ps) (b ∷ bodies) (v ∷ meaning) runs short have spelled required entries texts = (
  record { run = runs.0; short = short.0; bodies = b; meant = have.0; spelled = spelled.0; required = required.0; entries = entries.0; canonical = texts.0 },
  fitting doc ps bodies meaning runs.1 short.1 have.1 spelled.1 required.1 entries.1 texts.1,
)

of_accepted : (doc : Doc) (text : List ℕ) (meaning : Meaning) → Accepted doc text meaning → Pairwise (FitsValues doc) (paragraphs_of text) meaning
of_accepted doc text meaning accepted =
    let bodies = accepted.means.bodies in
    let entries = AreEntries-bodies_of ValueMeaning (SpellsValue doc) value_text (value_law doc) bodies meaning accepted.means.spelled (AreEntries-from_means text bodies accepted.means.means) in
    fitting doc (paragraphs_of text) bodies meaning (paragraphs_of-IsRun text) accepted.paragraphs_short accepted.means.means accepted.means.spelled accepted.required entries
    (texts-from_short 1 (bodies_of value_text meaning) (subst (AllByRecursion IsShort) (paragraphs_of-file_text 1 (bodies_of value_text meaning) entries) accepted.canonical_paragraphs_short))

pairs-append : {A B : Type 0} (R : A → B → Type 0) (xs more : List A) (ys others : List B) → Pairwise R xs ys → Pairwise R more others → Pairwise R (xs ++ more) (ys ++ others)
pairs-append R [] more [] others are rest = rest
pairs-append R [] more (y ∷ ys) others are rest = absurd are
pairs-append R (x ∷ xs) more [] others are rest = absurd are
pairs-append R (x ∷ xs) more (y ∷ ys) others are rest = (are.0, pairs-append R xs more ys others are.1 rest)

pub of_files : (kind : Kind) (texts : List (List ℕ)) (meaning : Meaning) → FilesMean kind texts meaning → Pairwise (FitsValues (doc_of kind)) (paragraphs_in texts) meaning
of_files kind [] meaning mean = subst (Pairwise (FitsValues (doc_of kind)) []) (sym mean) tt
of_files kind (text ∷ texts) meaning mean =
    subst (Pairwise (FitsValues (doc_of kind)) (paragraphs_in (text ∷ texts))) (sym mean.whole)
    (pairs-append (FitsValues (doc_of kind)) (paragraphs_of text) (paragraphs_in texts) mean.first mean.others (of_accepted (doc_of kind) text mean.first mean.accepted) (of_files kind texts mean.others mean.mean))

pub pairs-chosen : {A B : Type 0} (R : A → B → Type 0) (numbers : List ℕ) (n : ℕ) (xs : List A) (ys : List B) → Pairwise R xs ys → Pairwise R (chosen_from numbers n xs) (chosen_from numbers n ys)
pairs-chosen R numbers n [] [] are = tt
pairs-chosen R numbers n [] (y ∷ ys) are = absurd are
pairs-chosen R numbers n (x ∷ xs) [] are = absurd are
pairs-chosen R numbers n (x ∷ xs) (y ∷ ys) are = go (list_any (eqb (n + 1)) numbers) (pairs-chosen R numbers (n + 1) xs ys are.1)
  where
    go : (t : Bool) → Pairwise R (chosen_from numbers (n + 1) xs) (chosen_from numbers (n + 1) ys) → Pairwise R (cond t (x ∷ chosen_from numbers (n + 1) xs) (chosen_from numbers (n + 1) xs)) (cond t (y ∷ chosen_from numbers (n + 1) ys) (chosen_from numbers (n + 1) ys))
    go true rest = (are.0, rest)
    go false rest = rest

-- lines without newlines, before others
line_before : (line : Line) (rest : List ℕ) → HasNoNewline line → lines_of (line ++ newline ∷ rest) ≡ line ∷ lines_of rest
line_before [] rest none = refl
line_before (b ∷ line) rest none =
    ap (λ t. cond t ([] ∷ lines_of (line ++ newline ∷ rest)) (with_byte b (lines_of (line ++ newline ∷ rest)))) none.0
    ∙ ap (with_byte b) (line_before line rest none.1)

lines_before : (lines : List Line) (rest : List ℕ) → AllByRecursion HasNoNewline lines → lines_of (with_newlines lines ++ rest) ≡ lines ++ lines_of rest
lines_before [] rest none = refl
lines_before (line ∷ lines) rest none =
    ap lines_of (append_assoc line (newline ∷ with_newlines lines) rest)
    ∙ line_before line (with_newlines lines ++ rest) none.0
    ∙ ap (λ l. line ∷ l) (lines_before lines rest none.1)

-- A text's paragraphs have the lines of others.
abbrev pub HaveTheLines : Paragraph → Paragraph → Type 0
HaveTheLines p q = p.lines ≡ q.lines

begins : (ps : List Paragraph) → begins_blank (lines_of (written_after true ps)) ≡ true
begins [] = refl
begins (p ∷ ps) = is_blank-nil

-- the first of those of what is written
one_written : (n : ℕ) (p : Paragraph) (ps : List Paragraph) → IsRun p.lines
    → paragraphs_from n (lines_of (with_newlines p.lines ++ written_after true ps)) ≡ record { first = n + 0; lines = p.lines } ∷ paragraphs_from (n + 0 + length p.lines) (lines_of (written_after true ps))
one_written n p ps run =
    ap (paragraphs_from n) (lines_before p.lines (written_after true ps) run.no_newline)
    ∙ next_paragraph n [] p.lines (lines_of (written_after true ps)) tt run.not_blank run.some (begins ps)

-- and all of them
more_written : (n : ℕ) (ps : List Paragraph) → AllByRecursion (λ p. IsRun p.lines) ps → Pairwise HaveTheLines ps (paragraphs_from n (lines_of (written_after true ps)))
more_written n [] runs = tt
more_written n (p ∷ ps) runs =
    subst (Pairwise HaveTheLines (p ∷ ps)) (sym (behind_empty n (with_newlines p.lines ++ written_after true ps) ∙ one_written (n + 1) p ps runs.0))
    (refl, more_written (n + 1 + 0 + length p.lines) ps runs.1)

pub paragraphs_written : (ps : List Paragraph) → AllByRecursion (λ p. IsRun p.lines) ps → Pairwise HaveTheLines ps (paragraphs_of (written_after false ps))
paragraphs_written [] runs = tt
paragraphs_written (p ∷ ps) runs = subst (Pairwise HaveTheLines (p ∷ ps)) (sym (one_written 1 p ps runs.0)) (refl, more_written (1 + 0 + length p.lines) ps runs.1)

moved_values : (doc : Doc) (p q : Paragraph) (values : ValueEntries ValueMeaning) → p.lines ≡ q.lines → FitsValues doc p values → FitsValues doc q values
moved_values doc p q values same fits = record {
  run = subst IsRun same fits.run;
  short = subst (λ lines. IsShort (record { first = 1; lines = lines })) same fits.short;
  bodies = fits.bodies;
  meant = moved_paragraph p q same fits.bodies fits.meant;
  spelled = fits.spelled;
  required = fits.required;
  entries = fits.entries;
  canonical = fits.canonical;
}

moved_all : (doc : Doc) (ps qs : List Paragraph) (meaning : Meaning) → Pairwise HaveTheLines ps qs → Pairwise (FitsValues doc) ps meaning → Pairwise (FitsValues doc) qs meaning
moved_all doc [] [] meaning same fit = fit
moved_all doc [] (q ∷ qs) meaning same fit = absurd same
moved_all doc (p ∷ ps) [] meaning same fit = absurd same
moved_all doc (p ∷ ps) (q ∷ qs) [] same fit = absurd fit
moved_all doc (p ∷ ps) (q ∷ qs) (v ∷ meaning) same fit = (moved_values doc p q v same.0 fit.0, moved_all doc ps qs meaning same.1 fit.1)

pub runs-from_fitting : (doc : Doc) (ps : List Paragraph) (meaning : Meaning) → Pairwise (FitsValues doc) ps meaning → AllByRecursion (λ p. IsRun p.lines) ps
runs-from_fitting doc [] meaning fit = tt
runs-from_fitting doc (p ∷ ps) [] fit = absurd fit
runs-from_fitting doc (p ∷ ps) (v ∷ meaning) fit = (fit.0.run, runs-from_fitting doc ps meaning fit.1)

-- what a list of paragraphs needs to be those of an accepted file
record Parts (doc : Doc) (ps : List Paragraph) (meaning : Meaning) : Type 0 where
  short : AllByRecursion IsShort ps
  bodies : List Entries
  have : HaveMeanings ps bodies
  spelled : Pairwise (Pairwise (SpellsEntry (SpellsValue doc))) bodies meaning
  required : AllByRecursion (λ fields. IsTrue (has_values (rules_of doc).required fields)) meaning
  entries : AllByRecursion AreEntries (bodies_of value_text meaning)
  texts : AllByRecursion HasShortText (bodies_of value_text meaning)

parts : (doc : Doc) (ps : List Paragraph) (meaning : Meaning) → Pairwise (FitsValues doc) ps meaning → Parts doc ps meaning
parts doc [] [] fit = record { short = tt; bodies = []; have = tt; spelled = tt; required = tt; entries = tt; texts = tt }
parts doc [] (v ∷ meaning) fit = absurd fit
parts doc (p ∷ ps) [] fit = absurd fit
parts doc (p ∷ ps) (v ∷ meaning) fit =
    let rest = parts doc ps meaning fit.1 in record {
      short = (fit.0.short, rest.short);
      bodies = fit.0.bodies ∷ rest.bodies;
      have = (fit.0.meant, rest.have);
      spelled = (fit.0.spelled, rest.spelled);
      required = (fit.0.required, rest.required);
      entries = (fit.0.entries, rest.entries);
      texts = (fit.0.canonical, rest.texts);
    }

not_single : (kind : Kind) → (rules_of (doc_of kind)).single ≡ false
not_single Packages = refl
not_single Sources = refl

accepted_of : (kind : Kind) (text : List ℕ) (meaning : Meaning) → Pairwise (FitsValues (doc_of kind)) (paragraphs_of text) meaning → length text ≤ file_limit → length (canonical_text meaning) ≤ file_limit → Accepted (doc_of kind) text meaning
accepted_of kind text meaning fit short canonical =
    let all = parts (doc_of kind) (paragraphs_of text) meaning fit in record {
      short = short;
      paragraphs_short = all.short;
      means = record { bodies = all.bodies; means = all.have; spelled = all.spelled };
      one = λ single. absurd (false≢true (sym (not_single kind) ∙ single));
      required = all.required;
      canonical_short = canonical;
      canonical_paragraphs_short = subst (AllByRecursion IsShort) (sym (paragraphs_of-file_text 1 (bodies_of value_text meaning) all.entries)) (short-from_texts 1 (bodies_of value_text meaning) all.texts);
    }

pub latest_text_is_accepted : LatestTextIsAccepted
latest_text_is_accepted asked texts meaning mean short canonical =
    let doc = doc_of asked.kind in
    let numbers = latest_of asked meaning in
    let written = chosen numbers (paragraphs_in texts) in
    let fit = pairs-chosen (FitsValues doc) numbers 0 (paragraphs_in texts) meaning (of_files asked.kind texts meaning mean) in
    accepted_of asked.kind (written_after false written) (latest_in asked meaning)
    (moved_all doc written (paragraphs_of (written_after false written)) (latest_in asked meaning) (paragraphs_written written (runs-from_fitting doc written (latest_in asked meaning) fit)) fit)
    short canonical
