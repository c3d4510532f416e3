-- The values and the text of a paragraph that passes, as they are kept.
use Rattle.std.proofs.Common.{◌≡◌, ℕ, suc, ◌==◌, arith, Bool, true, false, cond, List, [], ◌∷◌, ◌++◌, length, take, drop, Option, Result, Ok, Err, IfOk, IsTrue, ap, ◌∙◌, subst, is_ok, refl}
use Rattle.std.proofs.Math.Seq.{drop-append_seam, take-append_seam}
use Rattle.std.proofs.lemmas.Bool.Decides.{nat_tests}
use Rattle.std.proofs.lemmas.Slice.Eq.{bytes_eq-Decides}
use Rattle.std.specs.FinMap.{find}
use Rattle.std.specs.Option.{option_map}
use Rattle.deb_base.specs.Names.{canonical_name}
use Rattle.deb_base.specs.declared.doc.Doc.{Doc}
use Rattle.deb_base.specs.declared.refusal.Refusal.{Refusal}
use Rattle.deb_syntax.specs.Meaning.{Entries, byte_order, entries_of}
use Rattle.deb_field.specs.ValueLaws.{value_law}
use Rattle.deb_field.specs.ValueMeanings.{value_meaning}
use Rattle.deb_field.specs.Values.{ValueMeaning, value_text, SpellsValue}
use Rattle.deb_field.specs.declared.value.Value.{Value}
use Rattle.deb_control.specs.Checking.{is_text_of}
use Rattle.deb_control.specs.Canonical.{paragraph_text}
use Rattle.deb_control.specs.CheckedStates.{doc_of, passing_of}
use Rattle.deb_control.specs.Paragraphs.{AreValuesOf, text_of_values}
use Rattle.deb_control.specs.PassingValues.{HasValue}
use Rattle.deb_control.specs.ValueFiles.{ValueEntries}
use Rattle.deb_control.specs.declared.checked_text.CheckedText.{CheckedText}
use Rattle.deb_control.proofs.PassingParagraphs.{values-passing}
use Rattle.deb_control.proofs.ValueBodies.{one_paragraph}
use Rattle.deb_control.specs.FieldWords.{value_under}
use Rattle.deb_diff.specs.Items.{Item, whole}
use Rattle.deb_diff.specs.Kepts.{HasValues, IsKept, after_name, after_version, marked, unmarked, version_in}
use Rattle.std.specs.Str.{bytes_eq}
use Rattle.deb_diff.specs.declared.kept.Kept.{Kept}

-- the value that is found under a name is that of any list of the paragraph's values
pub value_found : {E : Type 0} (paragraph : CheckedText) (name : List ℕ) (found : Result (Option Value) E)
    → IfOk found (λ value. HasValue (doc_of paragraph) (passing_of paragraph).seen name (option_map value_meaning value))
    → (values : ValueEntries ValueMeaning) → HasValues paragraph values → IfOk found (λ value. option_map value_meaning value ≡ value_under name values)
value_found paragraph name (Ok value) has values are =
    let doc = doc_of paragraph in
    has.found ∙ ap (find byte_order (canonical_name name)) (one_paragraph ValueMeaning (SpellsValue doc) value_text (value_law doc) (entries_of (passing_of paragraph).seen.fields) has.values values has.are.spelled are.spelled)
value_found paragraph name (Err error) has values are = tt

text_is : (r : Result Entries Refusal) (entries : Entries) (text : List ℕ) → IsTrue (is_text_of r text) → r ≡ Ok entries → text ≡ paragraph_text entries
text_is (Ok others) entries text is same =
    let one : others ≡ entries = cc same in
    (bytes_eq-Decides text (paragraph_text others)).0 is ∙ ap paragraph_text one
text_is (Err refusal) entries text is same = cc same

-- its text is that of its values
pub text_kept : (paragraph : CheckedText) (values : ValueEntries ValueMeaning) → HasValues paragraph values → (passing_of paragraph).text ≡ text_of_values values
text_kept paragraph values are = text_is _ _ (passing_of paragraph).text paragraph.passes are.passes

judged-text : (r : Result Entries Refusal) (text : List ℕ) → IsTrue (is_text_of r text) → IsTrue (is_ok r)
judged-text (Ok entries) text is = refl
judged-text (Err refusal) text is = is

-- The paragraph that was given has values.
pub record GivenValues (paragraph : CheckedText) (doc : Doc) : Type 0 where
  pub values : ValueEntries ValueMeaning
  pub has : HasValues paragraph values
  pub are : AreValuesOf doc (passing_of paragraph).seen values

pub given_values : (paragraph : CheckedText) (doc : Doc) → doc_of paragraph ≡ doc → GivenValues paragraph doc
given_values paragraph doc same =
    let found = values-passing (doc_of paragraph) (passing_of paragraph).seen (judged-text _ (passing_of paragraph).text paragraph.passes) in
    record { values = found.0; has = found.1; are = subst (λ d. AreValuesOf d (passing_of paragraph).seen found.0) same found.1 }

some_length : (n : ℕ) → (suc n == 0) ≡ false
some_length n = grind (arith, nat_tests)

-- the spelled text is found after its mark
unmarked-marked : (version spelled : List ℕ) → unmarked version (marked version spelled) ≡ spelled
unmarked-marked version spelled = go (bytes_eq version spelled) refl
  where
    go : (b : Bool) → bytes_eq version spelled ≡ b → unmarked version (cond b [] (32 ∷ spelled)) ≡ spelled
    go true same = (bytes_eq-Decides version spelled).0 same
    go false other = ap (λ b. cond b version spelled) (some_length (length spelled))

-- words that follow one another are its name, its version, the mark of another spelling and its architecture
pub words_kept : (kept : Kept) (item : Item) (name version mark architecture : List ℕ) → kept.words.items ≡ name ++ (version ++ (mark ++ architecture)) → kept.name_len ≡ length name → kept.version_len ≡ length version → kept.spelled_len ≡ length mark
    → name ≡ item.name → version ≡ item.version → mark ≡ marked version item.spelled → architecture ≡ item.architecture → kept.number ≡ item.number → kept.text.items ≡ whole item → IsKept kept item
words_kept kept item name version mark architecture words name_len version_len spelled_len name_is version_is mark_is architecture_is number text =
    let rest : after_name kept ≡ version ++ (mark ++ architecture) = ap (drop kept.name_len) words ∙ ap (λ n. drop n (name ++ (version ++ (mark ++ architecture)))) name_len ∙ drop-append_seam name (version ++ (mark ++ architecture)) in
    let last : after_version kept ≡ mark ++ architecture = ap (drop kept.version_len) rest ∙ ap (λ n. drop n (version ++ (mark ++ architecture))) version_len ∙ drop-append_seam version (mark ++ architecture) in
    let own : version_in kept ≡ version = ap (take kept.version_len) rest ∙ ap (λ n. take n (version ++ (mark ++ architecture))) version_len ∙ take-append_seam version (mark ++ architecture) in
    let found : take kept.spelled_len (after_version kept) ≡ mark = ap (take kept.spelled_len) last ∙ ap (λ n. take n (mark ++ architecture)) spelled_len ∙ take-append_seam mark architecture in
    record {
      number = number;
      name = ap (take kept.name_len) words ∙ ap (λ n. take n (name ++ (version ++ (mark ++ architecture)))) name_len ∙ take-append_seam name (version ++ (mark ++ architecture)) ∙ name_is;
      version = own ∙ version_is;
      spelled = ap (λ v. unmarked v (take kept.spelled_len (after_version kept))) own ∙ ap (unmarked version) (found ∙ mark_is) ∙ unmarked-marked version item.spelled;
      architecture = ap (drop kept.spelled_len) last ∙ ap (λ n. drop n (mark ++ architecture)) spelled_len ∙ drop-append_seam mark architecture ∙ architecture_is;
      text = text;
    }
