-- The text by which a file spells a version: of an accepted file, an equal version.
use Rattle.std.proofs.Common.{◌≡◌, ℕ, ◌+◌, ◌≤◌, inl, inr, codes, Bool, true, false, ◌&&◌, cond, is_some, IsTrue, List, [], ◌∷◌, length, drop, Option, None, Some, Result, Ok, refl, sym, ap, ◌∙◌, subst, arith}
use Rattle.std.proofs.lemmas.Bool.{false≢true}
use Rattle.std.specs.FinMap.{find}
use Rattle.std.specs.List.{AllByRecursion}
use Rattle.std.specs.Str.{bytes_eq}
use Rattle.deb_base.specs.Bodies.{paragraph_limit, file_limit}
use Rattle.deb_base.specs.Kinds.{kind_at, kind_of, known_row, required}
use Rattle.deb_base.specs.Names.{canonical_name, folded}
use Rattle.deb_base.specs.declared.kind.Kind.TheVariants.{Version}
use Rattle.deb_syntax.specs.Answers.{Seen, answer_of_first, next_answer, paragraph_answer, paragraphs_within, seen_from}
use Rattle.deb_syntax.specs.Fields.{AreDistinct, Field, IsShort}
use Rattle.deb_syntax.specs.Judging.{judged}
use Rattle.deb_syntax.specs.Laws.{IsRun, body_of}
use Rattle.deb_syntax.specs.Lines.{Paragraph, paragraphs_of}
use Rattle.deb_syntax.specs.Meaning.{Entries, HaveMeanings, byte_order, entries_of}
use Rattle.deb_syntax.specs.Raw.{field_named}
use Rattle.deb_syntax.proofs.JudgingLaws.{judged-complete}
use Rattle.deb_syntax.proofs.JudgingLawsMeaning.{body_at-entries_of}
use Rattle.deb_syntax.proofs.LeftAnswers.{line_too_long-none}
use Rattle.deb_syntax.proofs.LinesLawsPlaces.{paragraphs_of-IsRun}
use Rattle.deb_syntax.proofs.Parts.{line_beyond-none, part_within-all}
use Rattle.deb_version.specs.Canonical.{version_text}
use Rattle.deb_version.specs.Faults.{first_fault}
use Rattle.deb_version.specs.Grammar.{SpellsVersion}
use Rattle.deb_version.specs.Places.{version_in}
use Rattle.deb_version.proofs.FaultLemmas.{no_fault-from_spells}
use Rattle.deb_version.proofs.MeaningLemmas.{spelled_components}
use Rattle.deb_field.specs.CanonLaw.{Through}
use Rattle.deb_field.specs.ValueLaws.{value_law}
use Rattle.deb_field.specs.Values.{SpellsKind, SpellsValue, ValueMeaning, VersionMeans, value_text}
use Rattle.deb_control.specs.Acceptance.{has_values}
use Rattle.deb_control.specs.Documents.{Accepted, Meaning}
use Rattle.deb_control.specs.Pairs.{Pairwise}
use Rattle.deb_control.specs.ValueFiles.{SpellsEntries, SpellsEntry, ValueEntries}
use Rattle.deb_control.proofs.FieldValues.{is_some-find}
use Rattle.deb_control.proofs.FollowedParagraphs.{drop_one}
use Rattle.deb_control.proofs.ValueBodies.{value_at}
use Rattle.deb_control.specs.FieldWords.{word_in, word_of, word_under}
use Rattle.deb_diff.specs.Items.{item_of, items_from}
use Rattle.deb_diff.specs.Kinds.{doc_of}
use Rattle.deb_diff.specs.Laws.{HasNoVersion, SpelledVersionsAreEqual, SpellsAnyVersion, SpellsItsVersion}
use Rattle.deb_diff.specs.Spelled.{fields_after, fields_of_seen, spelled_in, text_in}
use Rattle.deb_diff.specs.declared.kind.Kind.{Kind}
use Rattle.deb_diff.specs.declared.kind.Kind.TheVariants.{Packages, Binary, Sources, Source, Status}

some_of : {A : Type 0} (o : Option A) → is_some o ≡ true → (a : A) × (o ≡ Some a)
some_of None there = absurd (false≢true there)
some_of (Some a) there = (a, refl)

none_of : {A : Type 0} (o : Option A) → is_some o ≡ false → o ≡ None
none_of None none = refl
none_of (Some a) none = absurd (false≢true (sym none))

-- a field of a name has the body of that name
text_of_body : (name : List ℕ) (fields : List Field) (body : List ℕ) → body_of name fields ≡ Some body → text_in (field_named name fields) ≡ body
text_of_body name [] body is = absurd (cc)
text_of_body name (field ∷ fields) body is = go (bytes_eq (folded field.name) (folded name)) is (text_of_body name fields body)
  where
    go : (t : Bool) → cond t (Some field.body) (body_of name fields) ≡ Some body → (body_of name fields ≡ Some body → text_in (field_named name fields) ≡ body) → text_in (cond t (Some field) (field_named name fields)) ≡ body
    go true e rest = let same : field.body ≡ body = cc in same
    go false e rest = rest e

-- without a body of the name there is no field of it
text_of_none : (name : List ℕ) (fields : List Field) → body_of name fields ≡ None → text_in (field_named name fields) ≡ []
text_of_none name [] none = refl
text_of_none name (field ∷ fields) none = go (bytes_eq (folded field.name) (folded name)) none (text_of_none name fields)
  where
    go : (t : Bool) → cond t (Some field.body) (body_of name fields) ≡ None → (body_of name fields ≡ None → text_in (field_named name fields) ≡ []) → text_in (cond t (Some field) (field_named name fields)) ≡ []
    go true e rest = absurd (cc)
    go false e rest = rest e

-- in each kind of file Version is a version
version_kind : (kind : Kind) → kind_of (doc_of kind) (codes "Version") ≡ Version
unfolding kind_of kind_at known_row
version_kind Packages = refl
version_kind Binary = refl
version_kind Sources = refl
version_kind Source = refl
version_kind Status = refl

second_of : (a b c : Bool) → (a && (b && c)) ≡ true → b ≡ true
second_of true true c h = refl
second_of true false c h = absurd (false≢true h)
second_of false b c h = absurd (false≢true h)

third_of : (a b c d : Bool) → (a && (b && (c && d))) ≡ true → c ≡ true
third_of true b c d h = second_of b c d h
third_of false b c d h = absurd (false≢true h)

abbrev has_value : List ℕ → ValueEntries ValueMeaning → Bool
has_value name values = is_some (find byte_order (canonical_name name) values)

-- the spelled text is a version, and its canonical text is the canonical version
spells_version : (kind : Kind) (n : ℕ) (fields : List Field) (values : ValueEntries ValueMeaning) → AreDistinct fields → Pairwise (SpellsEntry (SpellsValue (doc_of kind))) (entries_of fields) values → is_some (find byte_order (codes "Version") values) ≡ true → SpellsItsVersion (item_of kind n fields values)
spells_version kind n fields values distinct spelled there =
    let name = codes "Version" in
    let spells = SpellsValue (doc_of kind) in
    let entry = some_of (find byte_order name (entries_of fields)) (sym (is_some-find spells name (entries_of fields) values spelled) ∙ there) in
    let at = value_at ValueMeaning spells value_text (value_law (doc_of kind)) name entry.0 (entries_of fields) values spelled entry.1 in
    let through : Through VersionMeans SpellsVersion entry.0 at.0 = subst (λ k. SpellsKind k entry.0 at.0) (version_kind kind) at.1 in
    let text : spelled_in fields ≡ entry.0 = text_of_body name fields entry.0 (sym (body_at-entries_of fields distinct name) ∙ entry.1) in
    record {
      is_version = ap first_fault text ∙ no_fault-from_spells entry.0 through.0 through.2;
      canonical = sym (ap word_of at.2 ∙ ap word_in through.1 ∙ ap version_text ((spelled_components entry.0 through.0 through.2).1 ∙ ap version_in (sym text)));
    }

-- the texts of a paragraph without a version are empty
no_version : (kind : Kind) (n : ℕ) (fields : List Field) (values : ValueEntries ValueMeaning) → AreDistinct fields → Pairwise (SpellsEntry (SpellsValue (doc_of kind))) (entries_of fields) values → is_some (find byte_order (codes "Version") values) ≡ false → HasNoVersion (item_of kind n fields values)
no_version kind n fields values distinct spelled none =
    let name = codes "Version" in
    let entry : find byte_order name (entries_of fields) ≡ None = none_of (find byte_order name (entries_of fields)) (sym (is_some-find (SpellsValue (doc_of kind)) name (entries_of fields) values spelled) ∙ none) in
    record {
      spelled = text_of_none name fields (sym (body_at-entries_of fields distinct name) ∙ entry);
      canonical = ap word_of (none_of (find byte_order name values) none);
    }

spells_any : (kind : Kind) (n : ℕ) (fields : List Field) (values : ValueEntries ValueMeaning) → AreDistinct fields → Pairwise (SpellsEntry (SpellsValue (doc_of kind))) (entries_of fields) values → IsTrue (has_values (required (doc_of kind)) values) → SpellsAnyVersion kind (item_of kind n fields values)
spells_any Packages n fields values distinct spelled has = spells_version Packages n fields values distinct spelled (second_of (has_value (codes "Package") values) (has_value (codes "Version") values) (has_value (codes "Architecture") values && true) has)
spells_any Binary n fields values distinct spelled has = spells_version Binary n fields values distinct spelled (second_of (has_value (codes "Package") values) (has_value (codes "Version") values) (has_value (codes "Architecture") values && true) has)
spells_any Sources n fields values distinct spelled has = spells_version Sources n fields values distinct spelled (second_of (has_value (codes "Package") values) (has_value (codes "Version") values) true has)
spells_any Source n fields values distinct spelled has = spells_version Source n fields values distinct spelled (third_of (has_value (codes "Format") values) (has_value (codes "Source") values) (has_value (codes "Version") values) true has)
spells_any Status n fields values distinct spelled has = go (is_some (find byte_order (codes "Version") values)) refl
  where
    go : (t : Bool) → is_some (find byte_order (codes "Version") values) ≡ t → SpellsAnyVersion Status (item_of Status n fields values)
    go true there = inr (spells_version Status n fields values distinct spelled there)
    go false none = inl (no_version Status n fields values distinct spelled none)

module _ (kind : Kind) (text : List ℕ) (short : length text ≤ file_limit) where
  -- the next paragraph is the first of those that are left
  next_is : (n : ℕ) (p : Paragraph) (more : List Paragraph) (fields : List Field) → drop n (paragraphs_of text) ≡ p ∷ more → IsShort p → judged p.first p.lines ≡ Ok fields → next_answer text n ≡ Ok (Some (record { first = p.first; fields = fields }))
  next_is n p more fields left is_short is =
      ap (λ b. answer_of_first b (drop n (paragraphs_within text))) (line_beyond-none 1 file_limit text short)
      ∙ ap (λ t. answer_of_first None (drop n (paragraphs_of t))) (part_within-all file_limit text short)
      ∙ ap (answer_of_first None) left
      ∙ ap (λ long. paragraph_answer long None p) (line_too_long-none p.first paragraph_limit p.lines is_short)
      ∙ ap (seen_from p.first) is

  walk : (n : ℕ) (left : List Paragraph) (bodies : List Entries) (meaning : Meaning) → drop n (paragraphs_of text) ≡ left → AllByRecursion (λ p. IsRun p.lines) left → AllByRecursion IsShort left → HaveMeanings left bodies → SpellsEntries (SpellsValue (doc_of kind)) bodies meaning → AllByRecursion (λ values. IsTrue (has_values (required (doc_of kind)) values)) meaning → AllByRecursion (SpellsAnyVersion kind) (items_from kind text n meaning)
  walk n left bodies [] is runs shorts means spells has = tt
  walk n left [] (values ∷ more) is runs shorts means spells has = absurd spells
  walk n [] (entries ∷ bodies) (values ∷ more) is runs shorts means spells has = absurd means
  walk n (p ∷ left) (entries ∷ bodies) (values ∷ more) is runs shorts means spells has =
      let fields = means.0.0 in
      let next = next_is n p left fields is shorts.0 (judged-complete p.first p.lines fields runs.0.no_newline means.0.1) in
      let found : fields_after text n ≡ fields = ap fields_of_seen next in
      let one = spells_any kind (n + 1) fields values means.0.1.distinct (subst (λ e. Pairwise (SpellsEntry (SpellsValue (doc_of kind))) e values) means.0.2 spells.0) has.0 in
      (subst (λ f. SpellsAnyVersion kind (item_of kind (n + 1) f values)) (sym found) one, walk (n + 1) left bodies more (sym (drop_one n (paragraphs_of text)) ∙ ap (drop 1) is) runs.1 shorts.1 means.1 spells.1 has.1)

pub spelled_versions_are_equal : SpelledVersionsAreEqual
spelled_versions_are_equal kind text meaning accepted =
    walk kind text accepted.short 0 (paragraphs_of text) accepted.means.bodies meaning refl (paragraphs_of-IsRun text) accepted.paragraphs_short accepted.means.means accepted.means.spelled accepted.required
