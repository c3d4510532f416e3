-- No line comes exactly where the paragraphs are the same in some order.
use Rattle.std.proofs.Common.{◌≡◌, ℕ, ◌+◌, Bool, true, false, cond, is_some, List, [], ◌∷◌, ◌++◌, map, codes, refl, sym, ap, ◌∙◌, subst}
use Rattle.std.specs.Fmt.{decimal}
use Rattle.std.specs.List.{AllByRecursion, flat_map}
use Rattle.std.specs.List.Sorted.{IsPermutation}
use Rattle.std.specs.Ordering.{is_lt}
use Rattle.std.proofs.lemmas.Bool.{false≢true}
use Rattle.std.proofs.lemmas.List.Sorted.{IsPermutation-map, IsPermutation-sym}
use Rattle.deb_base.specs.declared.doc.Doc.{Doc}
use Rattle.deb_syntax.specs.Meaning.{Means}
use Rattle.deb_field.specs.ValueLaws.{value_law}
use Rattle.deb_field.specs.Values.{ValueMeaning, value_text, SpellsValue}
use Rattle.deb_control.specs.Canonical.{paragraph_text}
use Rattle.deb_control.specs.Documents.{Meaning, Means as MeansOf}
use Rattle.deb_control.specs.Pairs.{Pairwise}
use Rattle.deb_control.specs.Paragraphs.{text_of_values}
use Rattle.deb_control.specs.ValueFiles.{ValueEntries, SpellsEntry, SpellsEntries, body_under, bodies_of}
use Rattle.deb_syntax.proofs.LinesLawsPlaces.{means-unique}
use Rattle.deb_control.proofs.Entries.{AreEntries}
use Rattle.deb_control.proofs.FileText.{AreEntries-from_means, HaveMeanings-file_text}
use Rattle.deb_control.proofs.ValueBodies.{AreEntries-bodies_of, bodies_of-spelled, one_paragraph}
use Rattle.deb_diff.specs.Differences.{Fate, Changed, Removed, Upgraded, difference, fate_of, fates, place}
use Rattle.deb_diff.specs.Fields.{differing}
use Rattle.deb_diff.specs.Items.{Item, items_from, items_of, release, whole}
use Rattle.deb_diff.specs.Kinds.{doc_of}
use Rattle.deb_diff.specs.Laws.{NoLineIfPermuted}
use Rattle.deb_diff.specs.Lines.{added_text, difference_text, fate_text, if_values, is_nothing, line_of, printed}
use Rattle.deb_diff.specs.Pairing.{all_but, earliest, without, without_keys}
use Rattle.deb_diff.specs.Ranks.{versions_cmp}
use Rattle.deb_diff.specs.Values.{differing_lines}
use Rattle.deb_diff.specs.declared.form.Form.{Form}
use Rattle.deb_diff.specs.declared.kind.Kind.{Kind}
use Rattle.deb_diff.proofs.Pairs.{none_left, same_elements, same_keys, without-nil}

-- the texts of the paragraphs are those of their values
texts-from : (kind : Kind) (text : List ℕ) (n : ℕ) (meaning : Meaning) → map whole (items_from kind text n meaning) ≡ map text_of_values meaning
texts-from kind text n [] = refl
texts-from kind text n (values ∷ more) = ap (λ l. text_of_values values ∷ l) (texts-from kind text (n + 1) more)

-- the canonical bodies of values are entries, and spell the values
pub record AreSpelled (doc : Doc) (values : ValueEntries ValueMeaning) : Type 0 where
  pub entries : AreEntries (map (body_under value_text) values)
  pub spelled : Pairwise (SpellsEntry (SpellsValue doc)) (map (body_under value_text) values) values

each_spelled : (doc : Doc) (meaning : Meaning) → AllByRecursion AreEntries (bodies_of value_text meaning) → SpellsEntries (SpellsValue doc) (bodies_of value_text meaning) meaning → AllByRecursion (AreSpelled doc) meaning
each_spelled doc [] are spelled = tt
each_spelled doc (values ∷ meaning) are spelled = (record { entries = are.0; spelled = spelled.0 }, each_spelled doc meaning are.1 spelled.1)

pub all_spelled : (doc : Doc) (text : List ℕ) (meaning : Meaning) → MeansOf doc text meaning → AllByRecursion (AreSpelled doc) meaning
all_spelled doc text meaning m =
    each_spelled doc meaning
    (AreEntries-bodies_of ValueMeaning (SpellsValue doc) value_text (value_law doc) m.bodies meaning m.spelled (AreEntries-from_means text m.bodies m.means))
    (bodies_of-spelled ValueMeaning (SpellsValue doc) value_text (value_law doc) m.bodies meaning m.spelled)

-- paragraphs of one text have the same values
text_tells : (doc : Doc) (values other : ValueEntries ValueMeaning) → AreSpelled doc values → AreSpelled doc other → text_of_values values ≡ text_of_values other → values ≡ other
text_tells doc values other are also same =
    let entries = map (body_under value_text) values in
    let others = map (body_under value_text) other in
    let means : Means (paragraph_text entries) (entries ∷ []) = HaveMeanings-file_text 1 (entries ∷ []) (are.entries, tt) in
    let means_too : Means (paragraph_text others) (others ∷ []) = HaveMeanings-file_text 1 (others ∷ []) (also.entries, tt) in
    let lists : entries ∷ [] ≡ others ∷ [] = means-unique (paragraph_text entries) (entries ∷ []) (others ∷ []) means (subst (λ t. Means t (others ∷ [])) (sym same) means_too) in
    let one : entries ≡ others = cc in
    one_paragraph ValueMeaning (SpellsValue doc) value_text (value_law doc) entries values other are.spelled
    (subst (λ e. Pairwise (SpellsEntry (SpellsValue doc)) e other) (sym one) also.spelled)

-- each line has bytes
not_nothing : (bytes : List ℕ) → is_nothing bytes ≡ false → bytes ≡ [] → ⊥
not_nothing bytes some none = false≢true (sym some ∙ ap is_nothing none)

word_some : (b : Bool) (space line values rest more : List ℕ) → is_nothing (((((cond b (codes "downgraded") (codes "upgraded") ++ space) ++ line) ++ values) ++ rest) ++ more) ≡ false
word_some true space line values rest more = refl
word_some false space line values rest more = refl

fate_text-some : (form : Form) (fate : Item × Fate) (rest more : List ℕ) → is_nothing ((fate_text form fate ++ rest) ++ more) ≡ false
fate_text-some form (old, Removed) rest more = refl
fate_text-some form (old, Changed new) rest more = refl
fate_text-some form (old, Upgraded new) rest more =
    word_some (is_lt (versions_cmp new.version old.version)) (codes " ") (line_of (decimal new.number ∷ new.name ∷ printed form.versions old ∷ printed form.versions new ∷ new.architecture ∷ differing old.bodies new.bodies))
    (if_values form.detail (differing_lines old.bodies new.bodies)) rest more

some_fate : (form : Form) (fate : Item × Fate) (fates : List (Item × Fate)) (more : List ℕ) → flat_map (fate_text form) (fate ∷ fates) ++ more ≡ [] → ⊥
some_fate form fate fates more none = not_nothing ((fate_text form fate ++ flat_map (fate_text form) fates) ++ more) (fate_text-some form fate (flat_map (fate_text form) fates) more) none

-- where nothing is written, nothing is left of either list
pub left-nothing : (form : Form) (old new : List Item) → difference_text form (difference old new) ≡ [] → (without whole old new ≡ []) × (without whole new old ≡ [])
left-nothing form old new none = go (without whole old new) (without whole new old) none
  where
    go : (xs ys : List Item)
        → flat_map (fate_text form) (fates (place (without release xs ys)) (place (without release ys xs)) xs ys (without release ys xs)) ++ flat_map (added_text form) (without_keys (place (without release ys xs)) (without release ys xs) (map (place (without release xs ys)) (without release xs ys))) ≡ []
        → (xs ≡ []) × (ys ≡ [])
    go [] [] none = (refl, refl)
    go [] (y ∷ ys) none =
        absurd (not_nothing (flat_map (added_text form) (y ∷ ys)) refl (ap (λ l. flat_map (added_text form) (without_keys (place (y ∷ ys)) (y ∷ ys) (map (place l) l))) (sym (without-nil release (y ∷ ys))) ∙ none))
    go (x ∷ xs) ys none =
        let left = without release (x ∷ xs) ys in
        let left_new = without release ys (x ∷ xs) in
        absurd (some_fate form (x, fate_of (earliest release (release x) ys) (earliest (place left_new) (place left x) left_new))
        (fates (place left) (place left_new) xs (all_but release (release x) ys) (cond (is_some (earliest release (release x) ys)) left_new (all_but (place left_new) (place left x) left_new)))
        (flat_map (added_text form) (without_keys (place left_new) left_new (map (place left) left))) none)

pub nothing-left : (form : Form) (old new : List Item) → without whole old new ≡ [] → without whole new old ≡ [] → difference_text form (difference old new) ≡ []
nothing-left form old new e f = rw (e, f) refl

pub no_line_if_permuted : NoLineIfPermuted
no_line_if_permuted kind form text other old new accepted accepted_too = (
  λ none.
      let left = left-nothing form (items_of kind text old) (items_of kind other new) none in
      let keys = same_keys whole (items_of kind text old) (items_of kind other new) left.0 left.1 in
      same_elements text_of_values (AreSpelled doc) (text_tells doc) old new
      (all_spelled doc text old accepted.means) (all_spelled doc other new accepted_too.means)
      (subst (λ l. IsPermutation l (map text_of_values new)) (texts-from kind text 0 old) (subst (IsPermutation (map whole (items_of kind text old))) (texts-from kind other 0 new) keys)),
  λ same.
      let texts = IsPermutation-map text_of_values old new same in
      let keys : IsPermutation (map whole (items_of kind text old)) (map whole (items_of kind other new)) = subst (λ l. IsPermutation l (map whole (items_of kind other new))) (sym (texts-from kind text 0 old)) (subst (IsPermutation (map text_of_values old)) (sym (texts-from kind other 0 new)) texts) in
      nothing-left form (items_of kind text old) (items_of kind other new) (none_left whole (items_of kind text old) (items_of kind other new) keys) (none_left whole (items_of kind other new) (items_of kind text old) (IsPermutation-sym _ _ keys)),
)
  where
    doc : Doc
    doc = doc_of kind
