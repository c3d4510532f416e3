-- What is selected of several files, one after another.
use Rattle.std.proofs.Common.{◌≡◌, ℕ, suc, ◌&&◌, Bool, true, false, cond, List, [], ◌∷◌, ◌++◌, length, Option, refl, sym, ap, ◌∙◌, subst, append-nil, append_assoc, length-append, arith}
use Rattle.std.proofs.KnownBytes.{Appends-nil, Appends-trans}
use Rattle.std.proofs.lemmas.List.Concat.{flat_map-append}
use Rattle.std.specs.Io.KnownBytes.{Appends}
use Rattle.std.specs.List.{filter, flat_map, list_all}
use Rattle.deb_base.proofs.Writes.{AppendsFront-then}
use Rattle.deb_base.specs.Devices.{AppendsFront}
use Rattle.deb_base.specs.declared.doc.Doc.{Doc}
use Rattle.deb_syntax.specs.Answers.{paragraphs_within}
use Rattle.deb_syntax.specs.Lines.{Paragraph, paragraphs_of}
use Rattle.deb_syntax.specs.Meaning.{Entries, HaveMeanings}
use Rattle.deb_field.specs.ValueLaws.{value_law}
use Rattle.deb_field.specs.Values.{SpellsValue, ValueMeaning, value_text}
use Rattle.deb_control.specs.Documents.{Accepted, Meaning, rules_of}
use Rattle.deb_control.specs.Pairs.{Pairwise}
use Rattle.deb_control.specs.ValueFiles.{SpellsEntry, bodies_of}
use Rattle.deb_control.proofs.Accepting.{outcome-accepted}
use Rattle.deb_control.proofs.DocumentRules.{document_rules}
use Rattle.deb_control.proofs.GivenValues.{pairwise-length, pairwise-push}
use Rattle.deb_control.proofs.ValueBodies.{bodies_of-spelled}
use Rattle.deb_select.specs.Conditions.{SelectionMeaning, selected, selects}
use Rattle.deb_select.specs.Forms.{FormMeaning, JsonLines, NoOutput, TableOf, TheseFields, WholeParagraphs, begins_if, begun_after, full_in, output}
use Rattle.deb_select.specs.Selecting.{Request, WritesPart}
use Rattle.deb_select.specs.Tables.{has_fields}
use Rattle.deb_select.proofs.Outputs.{outputs_follow}
use Rattle.deb_select.proofs.Selecting.{short_within}
use Rattle.debctl_commands.specs.SelectJob.{SelectsFile, SelectsFiles, SelectsFront, SoFar, joined, no_file, request_after}

-- ---- lists

joined-push : (lists : List Meaning) (last : Meaning) → joined (lists ++ last ∷ []) ≡ joined lists ++ last
joined-push [] last = append-nil last
joined-push (first ∷ lists) last = ap (λ l. first ++ l) (joined-push lists last) ∙ sym (append_assoc first (joined lists) last)

paragraphs-push : (texts : List (List ℕ)) (text : List ℕ) → flat_map paragraphs_of (texts ++ text ∷ []) ≡ flat_map paragraphs_of texts ++ paragraphs_of text
paragraphs-push texts text = flat_map-append paragraphs_of texts (text ∷ []) ∙ ap (λ l. flat_map paragraphs_of texts ++ l) (append-nil (paragraphs_of text))

filter-append : {X : Type 0} (p : X → Bool) (xs ys : List X) → filter p (xs ++ ys) ≡ filter p xs ++ filter p ys
filter-append p [] ys = refl
filter-append p (x ∷ xs) ys = go (p x) (filter-append p xs ys)
  where
    go : (t : Bool) → filter p (xs ++ ys) ≡ filter p xs ++ filter p ys → cond t (x ∷ filter p (xs ++ ys)) (filter p (xs ++ ys)) ≡ cond t (x ∷ filter p xs) (filter p xs) ++ filter p ys
    go true rest = ap (λ l. x ∷ l) rest
    go false rest = rest

and-joined : (a b c : Bool) → (a && (b && c)) ≡ ((a && b) && c)
and-joined true b c = refl
and-joined false b c = refl

all-joined : {X : Type 0} (p : X → Bool) (xs ys : List X) → list_all p (xs ++ ys) ≡ (list_all p xs && list_all p ys)
all-joined p [] ys = refl
all-joined p (x ∷ xs) ys = ap (λ t. p x && t) (all-joined p xs ys) ∙ and-joined (p x) (list_all p xs) (list_all p ys)

-- ---- an accepted file has as many paragraphs as it means

meanings-length : (ps : List Paragraph) (bodies : List Entries) → HaveMeanings ps bodies → length ps ≡ length bodies
meanings-length [] [] have = refl
meanings-length [] (entries ∷ bodies) have = absurd have
meanings-length (p ∷ ps) [] have = absurd have
meanings-length (p ∷ ps) (entries ∷ bodies) have = ap suc (meanings-length ps bodies have.1)

accepted-length : (doc : Doc) (text : List ℕ) (meaning : Meaning) → Accepted doc text meaning → length meaning ≡ length (paragraphs_of text)
accepted-length doc text meaning accepted =
    pairwise-length (Pairwise (SpellsEntry (SpellsValue doc))) accepted.means.bodies meaning accepted.means.spelled
    ∙ sym (meanings-length (paragraphs_of text) accepted.means.bodies accepted.means.means)

files-length : (doc : Doc) (texts : List (List ℕ)) (meanings : List Meaning) → Pairwise (Accepted doc) texts meanings → length (joined meanings) ≡ length (flat_map paragraphs_of texts)
files-length doc [] [] accepted = refl
files-length doc [] (meaning ∷ meanings) accepted = absurd accepted
files-length doc (text ∷ texts) [] accepted = absurd accepted
files-length doc (text ∷ texts) (meaning ∷ meanings) accepted =
    length-append meaning (joined meanings)
    ∙ omega (arith, accepted-length doc text meaning accepted.0, files-length doc texts meanings accepted.1, length-append (paragraphs_of text) (flat_map paragraphs_of texts))

-- ---- what is selected of two lists of paragraphs

begun-joined : (form : FormMeaning) (begun : Bool) (asked : SelectionMeaning) (first second : Meaning) (ps others : List Paragraph) → length first ≡ length ps
    → begun_after form begun asked (first ++ second) (ps ++ others) ≡ begun_after form (begun_after form begun asked first ps) asked second others
begun-joined form begun asked [] second [] others same = refl
begun-joined form begun asked [] second (p ∷ ps) others same = absurd (omega (arith, same))
begun-joined form begun asked (values ∷ first) second [] others same = absurd (omega (arith, same))
begun-joined form begun asked (values ∷ first) second (p ∷ ps) others same = begun-joined form (begins_if form begun asked values p) asked first second ps others (omega (arith, same))

full-joined : (form : FormMeaning) (asked : SelectionMeaning) (first second : Meaning) → full_in form asked (first ++ second) ≡ (full_in form asked first && full_in form asked second)
full-joined WholeParagraphs asked first second = refl
full-joined (TheseFields names) asked first second = refl
full-joined (TableOf names) asked first second = ap (list_all (has_fields names)) (filter-append (selects asked) first second) ∙ all-joined (has_fields names) (selected asked first) (selected asked second)
full-joined JsonLines asked first second = refl
full-joined NoOutput asked first second = refl

full-none : (form : FormMeaning) (asked : SelectionMeaning) → true ≡ full_in form asked []
full-none WholeParagraphs asked = refl
full-none (TheseFields names) asked = refl
full-none (TableOf names) asked = refl
full-none JsonLines asked = refl
full-none NoOutput asked = refl

-- ---- files

-- of no file
pub no_file_selected : (asked : Request) (old : Option (List ℕ)) → SelectsFiles asked [] no_file old old
no_file_selected asked old = record {
  meanings = [];
  accepted = tt;
  counted = refl;
  full = full-none asked.form asked.selection;
  begun = refl;
  written = Appends-nil old;
}

-- of one more
pub file_selected : {W E : Type 0} (asked : Request) (held : W → Option (List ℕ)) (old : Option (List ℕ)) (texts : List (List ℕ)) (text : List ℕ) (before next : SoFar W E) → SelectsFiles asked texts before.tally old (held before.out) → SelectsFile asked held text before next
    → SelectsFiles asked (texts ++ text ∷ []) next.tally old (held next.out)
file_selected asked held old texts text before next files file =
    let ps = flat_map paragraphs_of texts in
    let all = joined files.meanings in
    let more = file.writes.meaning in
    let now = begun_after asked.form false asked.selection all ps in
    let same = files-length asked.kind texts files.meanings files.accepted in
    let push = joined-push files.meanings more in
    let listed = paragraphs-push texts text in
    record {
      meanings = files.meanings ++ more ∷ [];
      accepted = pairwise-push (Accepted asked.kind) texts files.meanings text more files.accepted file.writes.accepted;
      counted =
          file.tally.count
          ∙ omega (arith, files.counted, file.writes.counted, length-append (selected asked.selection all) (selected asked.selection more))
          ∙ ap length (sym (filter-append (selects asked.selection) all more))
          ∙ ap (λ m. length (selected asked.selection m)) (sym push);
      full =
          file.tally.full
          ∙ ap (λ t. t && file.done.full) files.full
          ∙ ap (λ t. full_in asked.form asked.selection all && t) file.writes.filled
          ∙ sym (full-joined asked.form asked.selection all more)
          ∙ ap (full_in asked.form asked.selection) (sym push);
      begun =
          file.tally.begun
          ∙ file.writes.started
          ∙ ap (λ t. begun_after asked.form t asked.selection more (paragraphs_of text)) files.begun
          ∙ sym (begun-joined asked.form false asked.selection all more ps (paragraphs_of text) same)
          ∙ ap (λ m. begun_after asked.form false asked.selection m (ps ++ paragraphs_of text)) (sym push)
          ∙ ap (begun_after asked.form false asked.selection (joined (files.meanings ++ more ∷ []))) (sym listed);
      written =
          subst (λ m. Appends old (held next.out) (output asked.form false asked.selection m (flat_map paragraphs_of (texts ++ text ∷ [])))) (sym push)
          (subst (λ l. Appends old (held next.out) (output asked.form false asked.selection (all ++ more) l)) (sym listed)
          (subst (Appends old (held next.out)) (sym (outputs_follow asked.form false asked.selection all more ps (paragraphs_of text) same))
          (Appends-trans old (held before.out) (held next.out) _ _ files.written
          (subst (λ t. Appends (held before.out) (held next.out) (output asked.form t asked.selection more (paragraphs_of text))) files.begun file.writes.written))));
    }

-- and a fault at one
pub file_begun : {W E : Type 0} (asked : Request) (held : W → Option (List ℕ)) (old new : Option (List ℕ)) (texts : List (List ℕ)) (text : List ℕ) (more : List (List ℕ)) (before : SoFar W E) → SelectsFiles asked texts before.tally old (held before.out)
    → WritesPart (request_after asked before.tally) text (held before.out) new → SelectsFront asked (texts ++ text ∷ more) old new
file_begun asked held old new texts text more before files part =
    let ps = flat_map paragraphs_of texts in
    let all = joined files.meanings in
    record {
      before = texts;
      text = text;
      after = more;
      are = refl;
      meanings = files.meanings;
      accepted = files.accepted;
      first = part.first;
      are_first = record { bodies = part.are.bodies; more = part.are.more; passed = part.are.passed; spelled = part.are.spelled };
      written =
          subst (AppendsFront old new) (sym (outputs_follow asked.form false asked.selection all part.first ps (paragraphs_within text) (files-length asked.kind texts files.meanings files.accepted)))
          (AppendsFront-then old (held before.out) new _ _ files.written
          (subst (λ t. AppendsFront (held before.out) new (output asked.form t asked.selection part.first (paragraphs_within text))) files.begun part.written));
    }

-- ---- one file

-- What was written of a whole file is a part of it, and so is nothing.
pub whole_is_part : (asked : Request) (text : List ℕ) (old new : Option (List ℕ)) (meaning : Meaning) → Accepted asked.kind text meaning → Appends old new (output asked.form asked.begun asked.selection meaning (paragraphs_of text)) → WritesPart asked text old new
whole_is_part asked text old new meaning accepted written =
    let bodies = bodies_of value_text meaning in
    let written_within = subst (λ ps. Appends old new (output asked.form asked.begun asked.selection meaning ps)) (sym (short_within text accepted.short)) written in
    record {
      first = meaning;
      are =
          record {
            bodies = bodies;
            more = [];
            passed = ap (λ o. o.passed) (outcome-accepted ValueMeaning (SpellsValue asked.kind) value_text (value_law asked.kind) (rules_of asked.kind) (document_rules asked.kind) text meaning accepted) ∙ sym (append-nil bodies);
            spelled = bodies_of-spelled ValueMeaning (SpellsValue asked.kind) value_text (value_law asked.kind) accepted.means.bodies meaning accepted.means.spelled;
          };
      written = record { front = output asked.form asked.begun asked.selection meaning (paragraphs_within text); rest = []; whole = sym (append-nil _); appended = written_within };
    }

pub nothing_is_part : (asked : Request) (text : List ℕ) (old : Option (List ℕ)) → WritesPart asked text old old
nothing_is_part asked text old = record {
  first = [];
  are = record { bodies = []; more = _; passed = refl; spelled = tt };
  written = record { front = []; rest = []; whole = refl; appended = Appends-nil old };
}
