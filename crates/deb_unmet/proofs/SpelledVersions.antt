-- The text by which a file spells a version: of an accepted file, an equal version.
use Rattle.std.proofs.Common.{◌≡◌, ℕ, suc, ◌+◌, ◌≤◌, codes, Bool, true, false, ◌&&◌, cond, is_some, IsTrue, List, [], ◌∷◌, ◌++◌, length, drop, map, Option, None, Some, Ok, refl, sym, ap, ◌∙◌, subst}
use Rattle.std.proofs.lemmas.Bool.{false≢true}
use Rattle.std.specs.FinMap.{find}
use Rattle.std.specs.List.{AllByRecursion}
use Rattle.std.specs.Str.{bytes_eq}
use Rattle.deb_base.specs.Bodies.{paragraph_limit, file_limit}
use Rattle.deb_base.specs.Kinds.{kind_at, kind_of, known_row, required}
use Rattle.deb_base.specs.Names.{canonical_name, folded}
use Rattle.deb_base.specs.declared.kind.Kind.TheVariants.{Version}
use Rattle.deb_base.specs.declared.version_text.VersionText.{VersionText}
use Rattle.deb_base.specs.declared.version_text.VersionText.TheVariants.{Canonical, Spelled}
use Rattle.deb_syntax.specs.Answers.{answer_of_first, next_answer, paragraph_answer, paragraphs_within, seen_from}
use Rattle.deb_syntax.specs.Fields.{AreDistinct, Field, IsShort}
use Rattle.deb_syntax.specs.Judging.{judged}
use Rattle.deb_syntax.specs.Laws.{IsRun, body_of}
use Rattle.deb_syntax.specs.Lines.{Paragraph, paragraphs_of}
use Rattle.deb_syntax.specs.Meaning.{Entries, HaveMeanings, byte_order, entries_of}
use Rattle.deb_syntax.specs.Raw.{field_named}
use Rattle.deb_syntax.proofs.JudgingLaws.{judged-complete}
use Rattle.deb_syntax.proofs.JudgingLawsMeaning.{body_at-entries_of}
use Rattle.deb_syntax.proofs.LeftAnswers.{line_too_long-none}
use Rattle.deb_syntax.proofs.LinesLawsPlaces.{paragraphs_of-IsRun}
use Rattle.deb_syntax.proofs.Parts.{line_beyond-none, part_within-all}
use Rattle.deb_version.specs.Canonical.{version_text}
use Rattle.deb_version.specs.Faults.{first_fault}
use Rattle.deb_version.specs.Grammar.{SpellsVersion}
use Rattle.deb_version.specs.Places.{version_in}
use Rattle.deb_version.proofs.FaultLemmas.{no_fault-from_spells}
use Rattle.deb_version.proofs.MeaningLemmas.{spelled_components}
use Rattle.deb_field.specs.CanonLaw.{Through}
use Rattle.deb_field.specs.ValueLaws.{value_law}
use Rattle.deb_field.specs.Values.{SpellsKind, SpellsValue, ValueMeaning, VersionMeans, value_text}
use Rattle.deb_control.specs.Acceptance.{has_values}
use Rattle.deb_control.specs.Documents.{Accepted, Meaning}
use Rattle.deb_control.specs.Pairs.{Pairwise}
use Rattle.deb_control.specs.ValueFiles.{SpellsEntries, SpellsEntry, ValueEntries}
use Rattle.deb_control.proofs.FieldValues.{is_some-find}
use Rattle.deb_control.proofs.FollowedParagraphs.{drop_one}
use Rattle.deb_control.proofs.ValueBodies.{value_at}
use Rattle.deb_unmet.specs.Asked.{doc_of}
use Rattle.deb_control.specs.FieldWords.{word_in, word_of, word_under}
use Rattle.deb_unmet.specs.Fields.{paragraph_lines}
use Rattle.deb_unmet.specs.Files.{Asks, lines_from, lines_of}
use Rattle.deb_index.specs.Listed.{Listed}
use Rattle.deb_index.specs.Members.{has_values as has_member_values}
use Rattle.deb_unmet.specs.Own.{OwnAsks, counted, other_line, part_lines, parts_from}
use Rattle.deb_unmet.specs.Laws.{SpelledVersionsAreEqual, SpellsVersions, lines_with}
use Rattle.deb_unmet.specs.Spelled.{fields_after, fields_of_seen, spelled_in, text_in, version_word}
use Rattle.deb_unmet.specs.declared.asked.Asked.{Asked}
use Rattle.deb_unmet.specs.declared.asked.Asked.TheVariants.{Packages, Binary, Sources, Source}

-- with canonical versions the lines don't depend on how the file spells them
pub canonical_lines : (asks : Asks) → asks.versions ≡ Canonical → (text other : List ℕ) (n : ℕ) (meaning : Meaning) → lines_from asks text n meaning ≡ lines_from asks other n meaning
canonical_lines asks is text other n [] = refl
canonical_lines asks is text other n (values ∷ more) =
    ap (λ v. asks.lines (n + 1) (version_word v (fields_after text n) values) values ++ lines_from asks text (n + 1) more) is
    ∙ ap (λ v. asks.lines (n + 1) (version_word v (fields_after other n) values) values ++ lines_from asks text (n + 1) more) (sym is)
    ∙ ap (λ l. lines_of asks (n + 1) (fields_after other n) values ++ l) (canonical_lines asks is text other (n + 1) more)

-- and neither do those of a file over its own packages
pub canonical_own : (own : OwnAsks) → own.versions ≡ Canonical → (packages : List Listed) (text other : List ℕ) (n k : ℕ) (meaning : Meaning) → parts_from own packages text n k meaning ≡ parts_from own packages other n k meaning
canonical_own own is packages text other n k [] = refl
canonical_own own is packages text other n k (values ∷ more) =
    let with : List ℕ → List ℕ = λ version. cond (has_member_values own.members values) (own.lines packages (k + 1) version values) (other_line (n + 1) (own.others values)) in
    ap (λ v. with (version_word v (fields_after text n) values) ++ parts_from own packages text (n + 1) (counted own.members k values) more) is
    ∙ ap (λ v. with (version_word v (fields_after other n) values) ++ parts_from own packages text (n + 1) (counted own.members k values) more) (sym is)
    ∙ ap (λ l. part_lines own packages (fields_after other n) n k values ++ l) (canonical_own own is packages text other (n + 1) (counted own.members k values) more)

some_of : {A : Type 0} (o : Option A) → is_some o ≡ true → (a : A) × (o ≡ Some a)
some_of None there = absurd (false≢true there)
some_of (Some a) there = (a, refl)

-- a field of a name has the body of that name
text_of_body : (name : List ℕ) (fields : List Field) (body : List ℕ) → body_of name fields ≡ Some body → text_in (field_named name fields) ≡ body
text_of_body name [] body is = absurd (cc)
text_of_body name (field ∷ fields) body is = go (bytes_eq (folded field.name) (folded name)) is (text_of_body name fields body)
  where
    go : (t : Bool) → cond t (Some field.body) (body_of name fields) ≡ Some body → (body_of name fields ≡ Some body → text_in (field_named name fields) ≡ body) → text_in (cond t (Some field) (field_named name fields)) ≡ body
    go true e rest = let same : field.body ≡ body = cc in same
    go false e rest = rest e

-- each kind of file that is asked has versions
version_kind : (asked : Asked) → kind_of (doc_of asked) (codes "Version") ≡ Version
unfolding kind_of kind_at known_row
version_kind (Packages strength) = refl
version_kind (Binary strength) = refl
version_kind (Sources which) = refl
version_kind (Source which) = refl

second_of : (a b c : Bool) → (a && (b && c)) ≡ true → b ≡ true
second_of true true c h = refl
second_of true false c h = absurd (false≢true h)
second_of false b c h = absurd (false≢true h)

third_of : (a b c d : Bool) → (a && (b && (c && d))) ≡ true → c ≡ true
third_of true b c d h = second_of b c d h
third_of false b c d h = absurd (false≢true h)

abbrev has_value : List ℕ → ValueEntries ValueMeaning → Bool
has_value name values = is_some (find byte_order (canonical_name name) values)

version_there : (asked : Asked) (values : ValueEntries ValueMeaning) → IsTrue (has_values (required (doc_of asked)) values) → is_some (find byte_order (codes "Version") values) ≡ true
version_there (Packages strength) values has = second_of (has_value (codes "Package") values) (has_value (codes "Version") values) (has_value (codes "Architecture") values && true) has
version_there (Binary strength) values has = second_of (has_value (codes "Package") values) (has_value (codes "Version") values) (has_value (codes "Architecture") values && true) has
version_there (Sources which) values has = second_of (has_value (codes "Package") values) (has_value (codes "Version") values) true has
version_there (Source which) values has = third_of (has_value (codes "Format") values) (has_value (codes "Source") values) (has_value (codes "Version") values) true has

-- The spelled text is a version, and its canonical text is the canonical word.
record IsSpelled (fields : List Field) (values : ValueEntries ValueMeaning) : Type 0 where
  pub is_version : first_fault (spelled_in fields) ≡ None
  pub word : word_under (codes "Version") values ≡ version_text (version_in (spelled_in fields))

is_spelled : (asked : Asked) (fields : List Field) (values : ValueEntries ValueMeaning) → AreDistinct fields → Pairwise (SpellsEntry (SpellsValue (doc_of asked))) (entries_of fields) values → IsTrue (has_values (required (doc_of asked)) values) → IsSpelled fields values
is_spelled asked fields values distinct spelled has =
    let name = codes "Version" in
    let spells = SpellsValue (doc_of asked) in
    let entry = some_of (find byte_order name (entries_of fields)) (sym (is_some-find spells name (entries_of fields) values spelled) ∙ version_there asked values has) in
    let at = value_at ValueMeaning spells value_text (value_law (doc_of asked)) name entry.0 (entries_of fields) values spelled entry.1 in
    let through : Through VersionMeans SpellsVersion entry.0 at.0 = subst (λ k. SpellsKind k entry.0 at.0) (version_kind asked) at.1 in
    let text : spelled_in fields ≡ entry.0 = text_of_body name fields entry.0 (sym (body_at-entries_of fields distinct name) ∙ entry.1) in
    record {
      is_version = ap first_fault text ∙ no_fault-from_spells entry.0 through.0 through.2;
      word = ap word_of at.2 ∙ ap word_in through.1 ∙ ap version_text ((spelled_components entry.0 through.0 through.2).1 ∙ ap version_in (sym text));
    }

-- The texts of the versions of paragraphs that come after so many.
record Spells (spelled canonical : Asks) (text : List ℕ) (n : ℕ) (meaning : Meaning) : Type 0 where
  pub words : List (List ℕ)
  pub each : length words ≡ length meaning
  pub are_versions : AllByRecursion (λ word. first_fault word ≡ None) words
  pub in_spelled : lines_from spelled text n meaning ≡ lines_with spelled n words meaning
  pub in_canonical : lines_from canonical text n meaning ≡ lines_with spelled n (map (λ word. version_text (version_in word)) words) meaning

-- what is asked of a kind of file that has versions, with these lines
abbrev pub asks_with : Asked → (ℕ → List ℕ → ValueEntries ValueMeaning → List ℕ) → VersionText → Asks
asks_with asked lines versions = record { doc = doc_of asked; versions = versions; lines = lines }

module _ (asked : Asked) (lines : ℕ → List ℕ → ValueEntries ValueMeaning → List ℕ) (text : List ℕ) (short : length text ≤ file_limit) where
  abbrev spelled : Asks
  spelled = asks_with asked lines Spelled

  abbrev canonical : Asks
  canonical = asks_with asked lines Canonical

  -- the next paragraph is the first of those that are left
  next_is : (n : ℕ) (p : Paragraph) (more : List Paragraph) (fields : List Field) → drop n (paragraphs_of text) ≡ p ∷ more → IsShort p → judged p.first p.lines ≡ Ok fields → next_answer text n ≡ Ok (Some (record { first = p.first; fields = fields }))
  next_is n p more fields left is_short is =
      ap (λ b. answer_of_first b (drop n (paragraphs_within text))) (line_beyond-none 1 file_limit text short)
      ∙ ap (λ t. answer_of_first None (drop n (paragraphs_of t))) (part_within-all file_limit text short)
      ∙ ap (answer_of_first None) left
      ∙ ap (λ long. paragraph_answer long None p) (line_too_long-none p.first paragraph_limit p.lines is_short)
      ∙ ap (seen_from p.first) is

  walk : (n : ℕ) (left : List Paragraph) (bodies : List Entries) (meaning : Meaning) → drop n (paragraphs_of text) ≡ left → AllByRecursion (λ p. IsRun p.lines) left → AllByRecursion IsShort left → HaveMeanings left bodies → SpellsEntries (SpellsValue (doc_of asked)) bodies meaning → AllByRecursion (λ values. IsTrue (has_values (required (doc_of asked)) values)) meaning → Spells spelled canonical text n meaning
  walk n left bodies [] is runs shorts means spells has = record { words = []; each = refl; are_versions = tt; in_spelled = refl; in_canonical = refl }
  walk n left [] (values ∷ more) is runs shorts means spells has = absurd spells
  walk n [] (entries ∷ bodies) (values ∷ more) is runs shorts means spells has = absurd means
  walk n (p ∷ left) (entries ∷ bodies) (values ∷ more) is runs shorts means spells has =
      let fields = means.0.0 in
      let next = next_is n p left fields is shorts.0 (judged-complete p.first p.lines fields runs.0.no_newline means.0.1) in
      let found : fields_after text n ≡ fields = ap fields_of_seen next in
      let one = is_spelled asked fields values means.0.1.distinct (subst (λ e. Pairwise (SpellsEntry (SpellsValue (doc_of asked))) e values) means.0.2 spells.0) has.0 in
      let rest = walk (n + 1) left bodies more (sym (drop_one n (paragraphs_of text)) ∙ ap (drop 1) is) runs.1 shorts.1 means.1 spells.1 has.1 in
      record {
        words = spelled_in fields ∷ rest.words;
        each = ap suc rest.each;
        are_versions = (one.is_version, rest.are_versions);
        in_spelled = ap (λ f. lines_of spelled (n + 1) f values ++ lines_from spelled text (n + 1) more) found ∙ ap (λ l. lines_of spelled (n + 1) fields values ++ l) rest.in_spelled;
        in_canonical = ap (λ w. lines (n + 1) w values ++ lines_from canonical text (n + 1) more) one.word ∙ ap (λ l. lines (n + 1) (version_text (version_in (spelled_in fields))) values ++ l) rest.in_canonical;
      }

-- Of an accepted file the spelled versions are equal to the canonical ones, whatever the lines are.
pub spelled_versions : (asked : Asked) (lines : ℕ → List ℕ → ValueEntries ValueMeaning → List ℕ) (text : List ℕ) (meaning : Meaning) → Accepted (doc_of asked) text meaning → SpellsVersions (asks_with asked lines) text meaning
spelled_versions asked lines text meaning accepted =
    let all = walk asked lines text accepted.short 0 (paragraphs_of text) accepted.means.bodies meaning refl (paragraphs_of-IsRun text) accepted.paragraphs_short accepted.means.means accepted.means.spelled accepted.required in
    record { words = all.words; each = all.each; are_versions = all.are_versions; spelled = all.in_spelled; canonical = all.in_canonical }

pub spelled_versions_are_equal : SpelledVersionsAreEqual
spelled_versions_are_equal asked environment scope text meaning accepted = spelled_versions asked (paragraph_lines asked environment scope) text meaning accepted
