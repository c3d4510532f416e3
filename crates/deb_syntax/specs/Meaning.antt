-- What a file means whose values are all text, and the files that are accepted. Debian Policy 5.1.
use Rattle.std.specs.Prelude.{◌≡◌, ℕ, ◌≤◌, List, [], ◌∷◌, length}
use Rattle.std.specs.Ordering.{nat_cmp}
use Rattle.std.specs.Cmp.Lexicographic.{slice_cmp}
use Rattle.std.specs.declared.cmp.Ordering.{Ordering}
use Rattle.std.specs.BTreeMap.{insert_entry}
use Rattle.deb_base.specs.Bodies.{file_limit}
use Rattle.deb_base.specs.Names.{canonical_name}
use Rattle.deb_syntax.specs.Lines.{Paragraph, paragraphs_of}
use Rattle.std.specs.List.{AllByRecursion}
use Rattle.deb_syntax.specs.Fields.{Field, IsShort, SpellsParagraph}

-- the order of bytes: the first byte that differs decides, and a prefix comes first
abbrev pub byte_order : List ℕ → List ℕ → Ordering
byte_order = slice_cmp nat_cmp

-- What a paragraph means: the bodies of its fields under the canonical spellings of their names,
-- in ascending order of these. So two paragraphs mean the same exactly where these lists are equal.
abbrev pub Entries : Type 0
Entries = List (List ℕ × List ℕ)

-- with the entries of more fields
abbrev pub entries_after : Entries → List Field → Entries
entries_after entries [] = entries
entries_after entries (field ∷ fields) =
    entries_after (insert_entry byte_order entries (canonical_name field.name) field.body) fields

abbrev pub entries_of : List Field → Entries
entries_of fields = entries_after [] fields

-- The paragraphs have these meanings, in order.
abbrev pub HaveMeanings : List Paragraph → List Entries → Type 0
HaveMeanings [] [] = Unit {0}
HaveMeanings [] (entries ∷ meaning) = ⊥
HaveMeanings (paragraph ∷ paragraphs) [] = ⊥
HaveMeanings (paragraph ∷ paragraphs) (entries ∷ meaning) =
    ((fields : List Field) × SpellsParagraph paragraph fields × (entries ≡ entries_of fields))
    × HaveMeanings paragraphs meaning

-- The text means this, where all values are text.
abbrev pub Means : List ℕ → List Entries → Type 0
Means text meaning = HaveMeanings (paragraphs_of text) meaning

-- The file is accepted, where all values are text and any number of paragraphs may be: it and
-- its paragraphs are no longer than they may be, and it has this meaning.
pub record Accepted (text : List ℕ) (meaning : List Entries) : Type 0 where
  pub short : length text ≤ file_limit
  pub paragraphs_short : AllByRecursion IsShort (paragraphs_of text)
  pub means : Means text meaning
