-- Fields: names, bodies, and what spells them. Debian Policy 5.1; deb822(5), "Syntax".
use Rattle.std.specs.Prelude.{◌≡◌, ℕ, ◌+◌, ◌≤◌, ◌&&◌, Bool, true, false, not, IsTrue, IsFalse, List, [], ◌∷◌, ◌++◌, length, nat_le, IsUtf8, codes, refl}
use Rattle.std.specs.List.{list_any, list_all, AllByRecursion}
use Rattle.std.specs.Str.{bytes_eq, is_utf8, chars}
use lib.Utf8.{encode}
use Rattle.deb_base.specs.Names.{folded}
use Rattle.deb_base.specs.Bodies.{Line, is_all_blank, is_body, is_body_shape, joined, paragraph_limit}
use Rattle.deb_base.specs.FieldNames.{colon, is_name}
use Rattle.deb_syntax.specs.Lines.{Paragraph, total_length}

-- a field: its name as spelled, the number of its first line, and its body
pub record Field : Type 0 where
  pub name : List ℕ
  pub line : ℕ
  pub body : List ℕ

-- The lines spell the field: its name, a colon, and its body between runs of spaces and tabs.
pub record SpellsField (lines : List Line) (field : Field) : Type 0 where
  pub before : List ℕ
  pub after : List ℕ
  pub spelt : joined lines ≡ field.name ++ colon ∷ (before ++ (field.body ++ after))
  pub before_blank : IsTrue (is_all_blank before)
  pub after_blank : IsTrue (is_all_blank after)
  pub name : IsTrue (is_name field.name)
  pub body : IsTrue (is_body_shape field.body)

-- The lines, the first with number n, spell the fields one after another.
abbrev pub SpellsFields : ℕ → List Line → List Field → Type 0
SpellsFields n lines [] = lines ≡ []
SpellsFields n lines (field ∷ fields) =
    (own : List Line) × (rest : List Line) × (lines ≡ own ++ rest) × (field.line ≡ n)
    × SpellsField own field × SpellsFields (n + length own) rest fields

-- whether a field of the name is among the fields, without ASCII case
abbrev pub has_name : List ℕ → List Field → Bool
has_name name fields = list_any (λ field. bytes_eq (folded field.name) (folded name)) fields

-- no two fields have one name
abbrev pub AreDistinct : List Field → Type 0
AreDistinct [] = Unit {0}
AreDistinct (field ∷ fields) = IsFalse (has_name field.name fields) × AreDistinct fields

-- whether a field's name is one, and its body one
abbrev pub is_field : Field → Bool
is_field field = is_name field.name && is_body field.body

-- whether fields can be a paragraph's: each is one, and no two have one name
abbrev pub are_fields : List Field → Bool
are_fields [] = true
are_fields (field ∷ fields) =
    is_field field && not (has_name field.name fields) && are_fields fields

-- whether the first line of a paragraph, and those of its fields, are counted from 1
abbrev pub are_numbered : ℕ → List Field → Bool
are_numbered first fields = nat_le 1 first && list_all (λ field. nat_le 1 field.line) fields

-- The lengths of the paragraph's lines add up to no more than a paragraph may have.
abbrev pub IsShort : Paragraph → Type 0
IsShort paragraph = total_length paragraph.lines ≤ paragraph_limit

-- The paragraph has these fields: its lines are text and spell them, and no two have one name.
pub record SpellsParagraph (paragraph : Paragraph) (fields : List Field) : Type 0 where
  pub text : AllByRecursion IsUtf8 paragraph.lines
  pub spelt : SpellsFields paragraph.first paragraph.lines fields
  pub distinct : AreDistinct fields

-- spaces and tabs are cut at the ends of a body alone; its continuation markers and inner line ends
-- stay
description : SpellsField (codes "Description:  short  " ∷ codes " one\t" ∷ codes " ."
    ∷ codes "\ttwo  " ∷ []) (record {
      name = codes "Description";
      line = 2;
      body = codes "short  \n one\t\n .\n\ttwo";
    })
unfolding paragraph_limit
description =
    record {
      before = codes "  ";
      after = codes "  ";
      spelt = refl;
      before_blank = refl;
      after_blank = refl;
      name = refl;
      body = refl;
    }

-- a body that begins after a line's end
files : SpellsField (codes "Files:" ∷ codes " aa" ∷ [])
    (record { name = codes "Files"; line = 1; body = codes "\n aa" })
unfolding paragraph_limit
files =
    record {
      before = [];
      after = [];
      spelt = refl;
      before_blank = refl;
      after_blank = refl;
      name = refl;
      body = refl;
    }

name_twice : has_name (codes "pACKAGE") (record
    { name = codes "Package"; line = 1; body = codes "aa" } ∷ []) ≡ true
name_twice = refl

other_name : has_name (codes "Package-") (record
    { name = codes "Package"; line = 1; body = codes "aa" } ∷ []) ≡ false
other_name = refl

two_fields : are_fields (record { name = codes "A"; line = 1; body = codes "1" }
    ∷ record { name = codes "B"; line = 2; body = [] } ∷ []) ≡ true
unfolding is_utf8 chars encode
two_fields = refl

one_name_for_two : are_fields (record { name = codes "A"; line = 1; body = codes "1" }
    ∷ record { name = codes "a"; line = 2; body = [] } ∷ []) ≡ false
unfolding is_utf8 chars encode
one_name_for_two = refl

no_name_and_no_body : (is_field (record { name = codes "-A"; line = 1; body = [] }) ≡ false)
    × (is_field (record { name = codes "A"; line = 1; body = codes "1 " }) ≡ false)
unfolding is_utf8 chars encode
no_name_and_no_body = (refl, refl)

-- the first line of the paragraph, and that of each of its fields
lines_from_one : (are_numbered 1 [] ≡ true) × (are_numbered 0 [] ≡ false)
    × (are_numbered 1 (record { name = []; line = 1; body = [] } ∷ []) ≡ true)
    × (are_numbered 0 (record { name = []; line = 1; body = [] } ∷ []) ≡ false)
    × (are_numbered 1 (record { name = []; line = 1; body = [] }
    ∷ record { name = []; line = 0; body = [] } ∷ []) ≡ false)
lines_from_one = (refl, refl, refl, refl, refl)
