-- The index of two files is that of the file in which the second follows the first after two newlines.
use Rattle.std.proofs.Common.{◌≡◌, ℕ, ◌+◌, ◌==◌, ◌||◌, Bool, true, false, cond, IsFalse, List, [], ◌∷◌, ◌++◌, length, map, append_assoc, refl, sym, ap, ◌∙◌, subst}
use Rattle.std.specs.BTreeMap.{insert_entry}
use Rattle.std.specs.List.{filter}
use Rattle.std.specs.Str.{bytes_eq}
use Rattle.deb_base.specs.Bodies.{Line, is_blank, newline, with_byte}
use Rattle.deb_base.specs.Names.{canonical_name, folded}
use Rattle.deb_base.specs.declared.doc.Doc.{Doc}
use Rattle.deb_base.specs.declared.doc.Doc.TheVariants.{Packages, Status}
use Rattle.deb_syntax.specs.Fields.{AreDistinct, Field, SpellsField, SpellsFields, SpellsParagraph, has_name}
use Rattle.deb_syntax.specs.Lines.{Paragraph, begins_blank, ends_blank, ends_line, lines_of, paragraphs_from, paragraphs_of, with_line}
use Rattle.deb_syntax.specs.Meaning.{Entries, HaveMeanings, Means, byte_order, entries_after, entries_of}
use Rattle.deb_syntax.proofs.Boundaries.{ends_line-append, lines_of-append}
use Rattle.deb_syntax.proofs.NextParagraph.{ends_blank-append, paragraphs_from-append}
use Rattle.deb_field.specs.ValueLaws.{value_law}
use Rattle.deb_field.specs.Values.{SpellsValue, ValueMeaning, value_text}
use Rattle.deb_control.specs.Documents.{Accepted, Meaning}
use Rattle.deb_control.specs.Pairs.{Pairwise}
use Rattle.deb_control.specs.ValueFiles.{SpellsEntry}
use Rattle.deb_control.proofs.FileText.{is_blank-nil}
use Rattle.deb_control.proofs.ValueFiles.{text_means_one_thing}
use Rattle.deb_index.specs.Installed.{is_member}
use Rattle.deb_index.specs.Laws.{FurtherFileJoins, two_newlines}
use Rattle.deb_index.specs.Listed.{Listed}
use Rattle.deb_index.specs.Listing.{Lists}
use Rattle.deb_index.specs.declared.members.Members.TheVariants.{All, Installed}
use Rattle.deb_index.proofs.ListedOnce.{all-same}

-- ---- lines

-- a newline at the end of a last line adds none
ended : (text : List ℕ) → ends_line text ≡ false → lines_of (text ++ newline ∷ []) ≡ lines_of text
ended [] more = absurd (cc)
ended (b ∷ []) more = rw more refl
ended (b ∷ c ∷ bs) more = ap (λ lines. cond (b == newline) ([] ∷ lines) (with_byte b lines)) (ended (c ∷ bs) more)

-- an empty line at the end, and so begins what is blank
blank_last : (lines : List Line) → begins_blank (lines ++ [] ∷ []) ≡ begins_blank lines
blank_last [] = is_blank-nil
blank_last (line ∷ lines) = refl

no_more : (n : ℕ) (lines : List Line) → paragraphs_from n (lines ++ [] ∷ []) ≡ paragraphs_from n lines
no_more n [] = rw is_blank-nil refl
no_more n (line ∷ lines) =
    ap (λ ps. cond (is_blank line) ps (with_line n line (begins_blank (lines ++ [] ∷ [])) ps)) (no_more (n + 1) lines)
    ∙ ap (λ b. cond (is_blank line) (paragraphs_from (n + 1) lines) (with_line n line b (paragraphs_from (n + 1) lines))) (blank_last lines)

-- two newlines close a text, and its paragraphs stay
module _ (text : List ℕ) where
  abbrev closed : List ℕ
  closed = text ++ two_newlines

  one_line : lines_of (text ++ newline ∷ []) ≡ lines_of text → lines_of closed ≡ lines_of text ++ [] ∷ []
  one_line is =
      ap lines_of (sym (append_assoc text (newline ∷ []) (newline ∷ [])))
      ∙ lines_of-append (text ++ newline ∷ []) (newline ∷ []) (ends_line-append text [])
      ∙ ap (λ lines. lines ++ [] ∷ []) is

  -- the lines with one empty line or two
  closed_lines : (lines : List Line) × (lines_of closed ≡ lines ++ [] ∷ []) × (paragraphs_from 1 lines ≡ paragraphs_of text)
  closed_lines = go (ends_line text) refl
    where
      go : (b : Bool) → ends_line text ≡ b → (lines : List Line) × (lines_of closed ≡ lines ++ [] ∷ []) × (paragraphs_from 1 lines ≡ paragraphs_of text)
      go true is = (
        lines_of text ++ [] ∷ [],
        lines_of-append text two_newlines is ∙ sym (append_assoc (lines_of text) ([] ∷ []) ([] ∷ [])),
        no_more 1 (lines_of text),
      )
      go false is = (lines_of text, one_line (ended text is), refl)

  closed_paragraphs : paragraphs_of closed ≡ paragraphs_of text
  closed_paragraphs = ap (paragraphs_from 1) closed_lines.1 ∙ no_more 1 closed_lines.0 ∙ closed_lines.2

  joined_paragraphs : (more : List ℕ) → paragraphs_of (closed ++ more) ≡ paragraphs_of text ++ paragraphs_from (1 + length (lines_of closed)) (lines_of more)
  joined_paragraphs more =
      let blank : ends_blank (lines_of closed) ≡ true = ap ends_blank closed_lines.1 ∙ ends_blank-append closed_lines.0 ([] ∷ []) (λ e. cc) is_blank-nil in
      ap (paragraphs_from 1) (lines_of-append closed more (ends_line-append text (newline ∷ [])))
      ∙ paragraphs_from-append 1 (lines_of closed) (lines_of more) blank
      ∙ ap (λ ps. ps ++ paragraphs_from (1 + length (lines_of closed)) (lines_of more)) closed_paragraphs

-- ---- numbers of lines

-- the same fields at other lines
abbrev SameFields : List Field → List Field → Type 0
SameFields [] [] = Unit {0}
SameFields [] (g ∷ gs) = ⊥
SameFields (f ∷ fs) [] = ⊥
SameFields (f ∷ fs) (g ∷ gs) = (f.name ≡ g.name) × (f.body ≡ g.body) × SameFields fs gs

same_names : (name : List ℕ) (fs gs : List Field) → SameFields fs gs → has_name name fs ≡ has_name name gs
same_names name [] [] same = refl
same_names name [] (g ∷ gs) same = absurd same
same_names name (f ∷ fs) [] same = absurd same
same_names name (f ∷ fs) (g ∷ gs) same =
    ap (λ n. bytes_eq (folded n) (folded name) || has_name name fs) same.0
    ∙ ap (λ t. bytes_eq (folded g.name) (folded name) || t) (same_names name fs gs same.2)

same_distinct : (fs gs : List Field) → SameFields fs gs → AreDistinct fs → AreDistinct gs
same_distinct [] [] same all = tt
same_distinct [] (g ∷ gs) same all = absurd same
same_distinct (f ∷ fs) [] same all = absurd same
same_distinct (f ∷ fs) (g ∷ gs) same all = (
  subst (λ t. IsFalse t) (ap (λ n. has_name n fs) same.0 ∙ same_names g.name fs gs same.2) all.0,
  same_distinct fs gs same.2 all.1,
)

same_entries : (entries : Entries) (fs gs : List Field) → SameFields fs gs → entries_after entries fs ≡ entries_after entries gs
same_entries entries [] [] same = refl
same_entries entries [] (g ∷ gs) same = absurd same
same_entries entries (f ∷ fs) [] same = absurd same
same_entries entries (f ∷ fs) (g ∷ gs) same =
    same_entries (insert_entry byte_order entries (canonical_name f.name) f.body) fs gs same.2
    ∙ ap (λ e. entries_after e gs) (ap (λ n. insert_entry byte_order entries (canonical_name n) f.body) same.0 ∙ ap (insert_entry byte_order entries (canonical_name g.name)) same.1)

moved : (a b : ℕ) (lines : List Line) (fields : List Field) → SpellsFields a lines fields → (others : List Field) × SpellsFields b lines others × SameFields fields others
moved a b lines [] spells = ([], spells, tt)
moved a b lines (field ∷ fields) spells =
    let own = spells.0 in
    let rest = moved (a + length own) (b + length own) spells.1 fields spells.5 in
    let one : SpellsField own field = spells.4 in (
      record { name = field.name; line = b; body = field.body } ∷ rest.0,
      (
        own,
        spells.1,
        spells.2,
        refl,
        record {
          before = one.before;
          after = one.after;
          spelt = one.spelt;
          before_blank = one.before_blank;
          after_blank = one.after_blank;
          name = one.name;
          body = one.body;
        },
        rest.1,
      ),
      (refl, refl, rest.2),
    )

-- paragraphs with the same lines have the same meanings
abbrev SameLines : List Paragraph → List Paragraph → Type 0
SameLines [] [] = Unit {0}
SameLines [] (q ∷ qs) = ⊥
SameLines (p ∷ ps) [] = ⊥
SameLines (p ∷ ps) (q ∷ qs) = (p.lines ≡ q.lines) × SameLines ps qs

same_with_line : (n m : ℕ) (line : Line) (b : Bool) (ps qs : List Paragraph) → SameLines ps qs → SameLines (with_line n line b ps) (with_line m line b qs)
same_with_line n m line true ps qs same = (refl, same)
same_with_line n m line false [] [] same = (refl, tt)
same_with_line n m line false [] (q ∷ qs) same = absurd same
same_with_line n m line false (p ∷ ps) [] same = absurd same
same_with_line n m line false (p ∷ ps) (q ∷ qs) same = (ap (λ lines. line ∷ lines) same.0, same.1)

same_lines : (n m : ℕ) (lines : List Line) → SameLines (paragraphs_from n lines) (paragraphs_from m lines)
same_lines n m [] = tt
same_lines n m (line ∷ lines) = go (is_blank line) (same_lines (n + 1) (m + 1) lines)
  where
    go : (t : Bool) → SameLines (paragraphs_from (n + 1) lines) (paragraphs_from (m + 1) lines) → SameLines (cond t (paragraphs_from (n + 1) lines) (with_line n line (begins_blank lines) (paragraphs_from (n + 1) lines))) (cond t (paragraphs_from (m + 1) lines) (with_line m line (begins_blank lines) (paragraphs_from (m + 1) lines)))
    go true same = same
    go false same = same_with_line n m line (begins_blank lines) _ _ same

moved_paragraph : (p q : Paragraph) → p.lines ≡ q.lines → (entries : Entries) → (fields : List Field) × SpellsParagraph p fields × (entries ≡ entries_of fields) → (fields : List Field) × SpellsParagraph q fields × (entries ≡ entries_of fields)
moved_paragraph p q same entries has =
    let spells : SpellsParagraph p has.0 = has.1 in
    let other = moved p.first q.first p.lines has.0 spells.spelt in (
      other.0,
      record {
        text = rw (sym same) spells.text;
        spelt = subst (λ lines. SpellsFields q.first lines other.0) same other.1;
        distinct = same_distinct has.0 other.0 other.2 spells.distinct;
      },
      has.2 ∙ same_entries [] has.0 other.0 other.2,
    )

moved_meanings : (ps qs : List Paragraph) (meaning : List Entries) → SameLines ps qs → HaveMeanings ps meaning → HaveMeanings qs meaning
moved_meanings [] [] meaning same have = have
moved_meanings [] (q ∷ qs) meaning same have = absurd same
moved_meanings (p ∷ ps) [] meaning same have = absurd same
moved_meanings (p ∷ ps) (q ∷ qs) [] same have = absurd have
moved_meanings (p ∷ ps) (q ∷ qs) (entries ∷ meaning) same have =
    (moved_paragraph p q same.0 entries have.0, moved_meanings ps qs meaning same.1 have.1)

-- ---- meanings

both_meanings : (ps qs : List Paragraph) (meaning other : List Entries) → HaveMeanings ps meaning → HaveMeanings qs other → HaveMeanings (ps ++ qs) (meaning ++ other)
both_meanings [] qs [] other have more = more
both_meanings [] qs (entries ∷ meaning) other have more = absurd have
both_meanings (p ∷ ps) qs [] other have more = absurd have
both_meanings (p ∷ ps) qs (entries ∷ meaning) other have more = (have.0, both_meanings ps qs meaning other have.1 more)

joined_means : (text more : List ℕ) (meaning other : List Entries) → Means text meaning → Means more other → Means ((text ++ two_newlines) ++ more) (meaning ++ other)
joined_means text more meaning other means follows =
    subst (λ ps. HaveMeanings ps (meaning ++ other)) (sym (joined_paragraphs text more))
    (both_meanings (paragraphs_of text) _ meaning other means (moved_meanings (paragraphs_of more) _ other (same_lines 1 (1 + length (lines_of (closed text))) (lines_of more)) follows))

both_pairs : {A B : Type 0} (R : A → B → Type 0) (xs more : List A) (ys others : List B) → Pairwise R xs ys → Pairwise R more others → Pairwise R (xs ++ more) (ys ++ others)
both_pairs R [] more [] others are rest = rest
both_pairs R [] more (y ∷ ys) others are rest = absurd are
both_pairs R (x ∷ xs) more [] others are rest = absurd are
both_pairs R (x ∷ xs) more (y ∷ ys) others are rest = (are.0, both_pairs R xs more ys others are.1 rest)

filter-both : {X : Type 0} (test : X → Bool) (xs ys : List X) → filter test (xs ++ ys) ≡ filter test xs ++ filter test ys
filter-both test [] ys = refl
filter-both test (x ∷ xs) ys = go (test x) (filter-both test xs ys)
  where
    go : (t : Bool) → filter test (xs ++ ys) ≡ filter test xs ++ filter test ys → cond t (x ∷ filter test (xs ++ ys)) (filter test (xs ++ ys)) ≡ cond t (x ∷ filter test xs) (filter test xs) ++ filter test ys
    go true is = ap (λ l. x ∷ l) is
    go false is = is

joined_meaning : (doc : Doc) (text more : List ℕ) (meaning other all : Meaning) → Accepted doc text meaning → Accepted doc more other → Accepted doc ((text ++ two_newlines) ++ more) all → all ≡ meaning ++ other
joined_meaning doc text more meaning other all first second joined =
    text_means_one_thing ValueMeaning (SpellsValue doc) value_text (value_law doc) ((text ++ two_newlines) ++ more) all (meaning ++ other) joined.means
    (record {
      bodies = first.means.bodies ++ second.means.bodies;
      means = joined_means text more first.means.bodies second.means.bodies first.means.means second.means.means;
      spelled = both_pairs (Pairwise (SpellsEntry (SpellsValue doc))) first.means.bodies second.means.bodies meaning other first.means.spelled second.means.spelled;
    })

pub a_further_file_joins : FurtherFileJoins
a_further_file_joins All text more packages others all first second joined =
    let same = joined_meaning Packages text more first.meaning second.meaning joined.meaning first.accepted second.accepted joined.accepted in
    all-same (first.meaning ++ second.meaning) all (packages ++ others) (subst (λ m. Pairwise Lists m all) same joined.listed)
    (both_pairs Lists first.meaning second.meaning packages others first.listed second.listed)
a_further_file_joins Installed text more packages others all first second joined =
    let same = joined_meaning Status text more first.meaning second.meaning joined.meaning first.accepted second.accepted joined.accepted in
    all-same (filter is_member first.meaning ++ filter is_member second.meaning) all (packages ++ others) (subst (λ m. Pairwise Lists m all) (ap (filter is_member) same ∙ filter-both is_member first.meaning second.meaning) joined.listed)
    (both_pairs Lists (filter is_member first.meaning) (filter is_member second.meaning) packages others first.listed second.listed)
