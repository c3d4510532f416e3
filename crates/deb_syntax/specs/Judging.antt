-- What is judged of a paragraph's lines, one after another: its fields, or the first refusal of a
-- line. Debian Policy 5.1; deb822(5), "Syntax". The order of the refusals is this project's own.
use Rattle.std.specs.Prelude.{◌≡◌, ℕ, ◌+◌, ◌==◌, ◌&&◌, Bool, true, false, cond, not, nat_lt, List, [], ◌∷◌, ◌++◌, length, take, slice_index, map, Result, Ok, Err, codes, refl}
use Rattle.std.specs.List.{list_any, starts_with, before_first, after_first, filter, range_with_len}
use Rattle.std.specs.Str.{is_utf8, chars}
use lib.Utf8.{encode}
use Rattle.deb_base.specs.declared.code.Code.TheVariants.{NotUtf8, Armour, Comment, StrayContinuation, BadFieldName, NoColon, DuplicateField}
use Rattle.deb_base.specs.declared.refusal.Refusal.{Refusal}
use Rattle.deb_base.specs.Bodies.{Line, newline, begins_with_blank}
use Rattle.deb_syntax.specs.Lines.{lines_of}
use Rattle.deb_syntax.specs.Fields.{Field, has_name}
use Rattle.deb_base.specs.FieldNames.{colon, is_name}
use Rattle.deb_base.specs.Trimming.{trimmed}

-- a field that may have more lines: instead of its body, all that is after its colon so
-- far
abbrev pub with_text : Field → List ℕ → Field
with_text field text = record field { body = text }

-- the field that has come to its end
abbrev pub ended : Field → Field
ended field = with_text field (trimmed field.body)

-- a continuation line goes to the last field
abbrev pub continued : List Field → Line → List Field
continued [] line = []
continued (field ∷ []) line = with_text field (field.body ++ newline ∷ line) ∷ []
continued (field ∷ next ∷ fields) line = field ∷ continued (next ∷ fields) line

-- the first line of an armoured message or signature
abbrev pub begins_armour : Line → Bool
begins_armour line = starts_with (λ a b. a == b) line (codes "-----BEGIN PGP")

-- the line's first byte is `#`
abbrev pub begins_comment : Line → Bool
begins_comment [] = false
begins_comment (b ∷ bs) = b == 35

abbrev pub has_colon : Line → Bool
has_colon line = list_any (λ b. b == colon) line

-- whether the first n bytes of a line are a name that a colon follows
abbrev pub is_named : Line → ℕ → Bool
is_named line n = nat_lt n (length line) && (slice_index line n == colon) && is_name (take n line)

-- the field that a line begins
abbrev pub begun : ℕ → Line → Field
begun n line =
    record {
      name = before_first (λ b. b == colon) line;
      line = n;
      body = after_first (λ b. b == colon) line;
    }

-- what line n, which is no continuation line, makes of the fields before it
abbrev pub field_line : ℕ → List Field → Line → Result (List Field) Refusal
field_line n fields line =
    cond (begins_armour line) (Err (record { code = Armour; line = n }))
    (cond (begins_comment line) (Err (record { code = Comment; line = n }))
    (cond (not (has_colon line)) (Err (record { code = NoColon; line = n }))
    (cond (not (is_name (begun n line).name)) (Err (record { code = BadFieldName; line = n }))
    (cond (has_name (begun n line).name fields) (Err (record { code = DuplicateField; line = n }))
    (Ok (fields ++ begun n line ∷ []))))))

-- what line n, which is a continuation line, makes of the fields before it
abbrev pub continuation_line : ℕ → List Field → Line → Result (List Field) Refusal
continuation_line n [] line = Err (record { code = StrayContinuation; line = n })
continuation_line n (field ∷ fields) line = Ok (continued (field ∷ fields) line)

-- what line n makes of the fields before it
abbrev pub line_judged : ℕ → List Field → Line → Result (List Field) Refusal
line_judged n fields line =
    cond (not (is_utf8 line)) (Err (record { code = NotUtf8; line = n }))
    (cond (begins_with_blank line) (continuation_line n fields line) (field_line n fields line))

-- what lines, the first with number n, make of the fields before them
abbrev pub lines_judged : ℕ → Result (List Field) Refusal → List Line → Result (List Field) Refusal
lines_judged n (Err refusal) lines = Err refusal
lines_judged n (Ok fields) [] = Ok (map ended fields)
lines_judged n (Ok fields) (line ∷ lines) = lines_judged (n + 1) (line_judged n fields line) lines

-- the fields of a paragraph's lines, or the first refusal of a line
abbrev pub judged : ℕ → List Line → Result (List Field) Refusal
judged n lines = lines_judged n (Ok []) lines

three_fields : judged 1 (lines_of (codes "vERSION: 01.0-0\npackage:hello\nArchitecture: amd64\n"))
    ≡ Ok (record { name = codes "vERSION"; line = 1; body = codes "01.0-0" }
    ∷ record { name = codes "package"; line = 2; body = codes "hello" }
    ∷ record { name = codes "Architecture"; line = 3; body = codes "amd64" } ∷ [])
unfolding is_utf8 chars encode
three_fields = refl

two_bodies : judged 1 (lines_of (codes "Package: aa\nDescription:  short  \n one\t\n .\n\ttwo  \n"))
    ≡ Ok (record { name = codes "Package"; line = 1; body = codes "aa" }
    ∷ record { name = codes "Description"; line = 2; body = codes "short  \n one\t\n .\n\ttwo" }
    ∷ [])
unfolding is_utf8 chars encode
two_bodies = refl

-- spaces and tabs go at the ends of a body alone, so a first line without bytes leaves its newline
empty_first_line : judged 1 (lines_of (codes "A: \t\n  b\nX:"))
    ≡ Ok (record { name = codes "A"; line = 1; body = codes "\n  b" }
    ∷ record { name = codes "X"; line = 3; body = [] } ∷ [])
unfolding is_utf8 chars encode
empty_first_line = refl

-- a mark of a comment or an armour after a space is a body's
marks_within : judged 1 (lines_of (codes "A: #\n # x\n -----BEGIN PGP"))
    ≡ Ok (record { name = codes "A"; line = 1; body = codes "#\n # x\n -----BEGIN PGP" } ∷ [])
unfolding is_utf8 chars encode
marks_within = refl

no_colon : judged 1 (codes "Package aa" ∷ []) ≡ Err (record { code = NoColon; line = 1 })
unfolding is_utf8 chars encode
no_colon = refl

-- a space, nothing, a hyphen and a byte that is not ASCII instead of a name
bad_name : judged 1 (codes "Package : aa" ∷ []) ≡ Err (record { code = BadFieldName; line = 1 })
unfolding is_utf8 chars encode
bad_name = refl

no_name : judged 1 (codes ": 1" ∷ []) ≡ Err (record { code = BadFieldName; line = 1 })
unfolding is_utf8 chars encode
no_name = refl

hyphen_first : judged 1 (codes "-a: 1" ∷ []) ≡ Err (record { code = BadFieldName; line = 1 })
unfolding is_utf8 chars encode
hyphen_first = refl

name_beyond_ascii : judged 1 ((99 ∷ 97 ∷ 102 ∷ 195 ∷ 169 ∷ 58 ∷ []) ∷ [])
    ≡ Err (record { code = BadFieldName; line = 1 })
unfolding is_utf8 chars encode
name_beyond_ascii = refl

duplicate : judged 1 (codes "Package: aa" ∷ codes " b" ∷ codes "package: bb" ∷ [])
    ≡ Err (record { code = DuplicateField; line = 3 })
unfolding is_utf8 chars encode
duplicate = refl

-- a comment has no colon, or no name before it
comment : judged 1 (codes "A: 1" ∷ codes "# x" ∷ []) ≡ Err (record { code = Comment; line = 2 })
unfolding is_utf8 chars encode
comment = refl

comment_with_colon : judged 1 (codes "#a: x" ∷ []) ≡ Err (record { code = Comment; line = 1 })
unfolding is_utf8 chars encode
comment_with_colon = refl

-- an armour has no colon, or no name before it; less than its mark is none
armour : judged 1 (codes "-----BEGIN PGP SIGNED MESSAGE-----" ∷ [])
    ≡ Err (record { code = Armour; line = 1 })
unfolding is_utf8 chars encode
armour = refl

armour_with_colon : judged 1 (codes "-----BEGIN PGP: x" ∷ [])
    ≡ Err (record { code = Armour; line = 1 })
unfolding is_utf8 chars encode
armour_with_colon = refl

no_armour : judged 1 (codes "-----BEGIN PGO: x" ∷ [])
    ≡ Err (record { code = BadFieldName; line = 1 })
unfolding is_utf8 chars encode
no_armour = refl

-- a continuation line has no colon, or no name before it
stray : judged 1 (codes " x" ∷ []) ≡ Err (record { code = StrayContinuation; line = 1 })
unfolding is_utf8 chars encode
stray = refl

stray_with_colon : judged 1 (codes "\tx: y" ∷ [])
    ≡ Err (record { code = StrayContinuation; line = 1 })
unfolding is_utf8 chars encode
stray_with_colon = refl

-- neither a colon nor a name
no_colon_and_bad_name : judged 1 (codes "-a b" ∷ []) ≡ Err (record { code = NoColon; line = 1 })
unfolding is_utf8 chars encode
no_colon_and_bad_name = refl

-- a line that is not UTF-8 is refused for this, whatever else it is
not_utf8 : judged 1 ((35 ∷ 255 ∷ []) ∷ []) ≡ Err (record { code = NotUtf8; line = 1 })
unfolding is_utf8 chars encode
not_utf8 = refl

armour_not_utf8 : judged 1 ((45 ∷ 45 ∷ 45 ∷ 45 ∷ 45 ∷ 66 ∷ 69 ∷ 71 ∷ 73 ∷ 78 ∷ 32 ∷ 80 ∷ 71 ∷ 80
    ∷ 255 ∷ []) ∷ []) ≡ Err (record { code = NotUtf8; line = 1 })
unfolding is_utf8 chars encode
armour_not_utf8 = refl

stray_not_utf8 : judged 1 ((32 ∷ 255 ∷ []) ∷ []) ≡ Err (record { code = NotUtf8; line = 1 })
unfolding is_utf8 chars encode
stray_not_utf8 = refl

no_colon_not_utf8 : judged 1 ((97 ∷ 255 ∷ []) ∷ []) ≡ Err (record { code = NotUtf8; line = 1 })
unfolding is_utf8 chars encode
no_colon_not_utf8 = refl

bad_name_not_utf8 : judged 1 ((255 ∷ 58 ∷ []) ∷ []) ≡ Err (record { code = NotUtf8; line = 1 })
unfolding is_utf8 chars encode
bad_name_not_utf8 = refl

duplicate_not_utf8 : judged 1 (codes "A: 1" ∷ (97 ∷ 58 ∷ 255 ∷ []) ∷ [])
    ≡ Err (record { code = NotUtf8; line = 2 })
unfolding is_utf8 chars encode
duplicate_not_utf8 = refl

-- `X: caf` and half of a character, in the second line
half_character : judged 1 (codes "A: 1" ∷ (88 ∷ 58 ∷ 32 ∷ 99 ∷ 97 ∷ 102 ∷ 195 ∷ []) ∷ [])
    ≡ Err (record { code = NotUtf8; line = 2 })
unfolding is_utf8 chars encode
half_character = refl

-- the first line that is refused is reported
first_line_wins : judged 1 (codes "A: 1" ∷ codes "B" ∷ codes "A: 2" ∷ (255 ∷ []) ∷ [])
    ≡ Err (record { code = NoColon; line = 2 })
unfolding is_utf8 chars encode
first_line_wins = refl

named_front : (is_named (codes "A: x") 1 ≡ true) × (is_named (codes "A: x") 0 ≡ false)
    × (is_named (codes "A") 1 ≡ false) × (is_named (codes ":x") 0 ≡ false)
    × (is_named (codes "-A:") 2 ≡ false)
named_front = (refl, refl, refl, refl, refl)

-- of all bytes the one that begins a comment
comment_bytes : filter (λ b. begins_comment (b ∷ [])) (range_with_len 0 256) ≡ codes "#"
comment_bytes = refl

-- the mark of an armour alone is one; its last line is none, nor is a mark in lower case, with
-- another number of hyphens, or after other bytes
armour_marks : (begins_armour (codes "-----BEGIN PGP") ≡ true)
    × (begins_armour (codes "-----BEGIN PG") ≡ false)
    × (begins_armour (codes "-----END PGP SIGNATURE-----") ≡ false)
    × (begins_armour (codes "-----begin pgp") ≡ false)
    × (begins_armour (codes "----BEGIN PGP") ≡ false)
    × (begins_armour (codes "------BEGIN PGP") ≡ false)
    × (begins_armour (codes "a-----BEGIN PGP") ≡ false)
armour_marks = (refl, refl, refl, refl, refl, refl, refl)

end_of_armour : (judged 1 (codes "-----END PGP SIGNATURE-----" ∷ [])
    ≡ Err (record { code = NoColon; line = 1 }))
    × (judged 1 (codes "-----END PGP: x" ∷ []) ≡ Err (record { code = BadFieldName; line = 1 }))
unfolding is_utf8 chars encode
end_of_armour = (refl, refl)

-- the first colon ends a name, and others are the body's
later_colons : judged 1 (codes "A:b:c:" ∷ [])
    ≡ Ok (record { name = codes "A"; line = 1; body = codes "b:c:" } ∷ [])
unfolding is_utf8 chars encode
later_colons = refl

-- a duplicate is reported after a bad name and a comment, at the line of the second field
duplicate_among_steps : (judged 1 (codes "A: 1" ∷ codes "A : 2" ∷ [])
    ≡ Err (record { code = BadFieldName; line = 2 }))
    × (judged 1 (codes "A: 1" ∷ codes "#A: 2" ∷ []) ≡ Err (record { code = Comment; line = 2 }))
    × (judged 7 (codes "A: 1" ∷ codes "B: 2" ∷ codes "b: 3" ∷ [])
    ≡ Err (record { code = DuplicateField; line = 9 }))
unfolding is_utf8 chars encode
duplicate_among_steps = (refl, refl, refl)
