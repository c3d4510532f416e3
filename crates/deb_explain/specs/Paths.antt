-- How a path is shown in a line: no byte of it ends the line or acts on a terminal, no character of
-- it hides or reorders text, and no two paths are shown alike. The rules are this project's own.
use Rattle.std.specs.Prelude.{◌≡◌, ℕ, ◌&&◌, not, Bool, true, false, cond, nat_le}
use Rattle.std.specs.Prelude.{List, [], ◌∷◌, ◌++◌, codes, refl}
use Rattle.std.specs.List.{flat_map, list_any}
use Rattle.std.specs.Str.{is_utf8, chars}
use lib.Utf8.{encode}
use Rattle.ucd_table.specs.Rows.{value_in}
use Rattle.ucd_category.specs.declared.GeneralCategory.{GeneralCategory}
use Rattle.ucd_category.specs.declared.GeneralCategory.TheVariants.{Control, Format}
use Rattle.ucd_category.specs.declared.GeneralCategory.TheVariants.{LineSeparator}
use Rattle.ucd_category.specs.declared.GeneralCategory.TheVariants.{ParagraphSeparator}
use Rattle.ucd_category.specs.GeneralCategory.{general_category}
use Rattle.ucd_category.specs.GeneralCategoryRows.{general_category_rows}
use Rattle.deb_explain.specs.Escapes.{escaped_byte, hex_digit}

-- the categories Cc, Cf, Zl and Zp of Unicode: control and format characters, and separators of
-- lines and paragraphs
unfoldable pub has_effect : GeneralCategory → Bool
has_effect Control = true
has_effect Format = true
has_effect LineSeparator = true
has_effect ParagraphSeparator = true
has_effect other = false

-- a character beyond ASCII that has an effect on the text around it
unfoldable pub is_hidden : ℕ → Bool
is_hidden c = nat_le 128 c && has_effect (general_category c)

-- text in UTF-8 that contains no such character
abbrev pub is_plain : List ℕ → Bool
is_plain path = is_utf8 path && not (list_any is_hidden (chars path))

-- a byte of a path: beyond ASCII it stays in a plain path, else it is escaped as one of a value
unfoldable pub path_byte : Bool → ℕ → List ℕ
path_byte plain b = cond (plain && nat_le 128 b) (b ∷ []) (escaped_byte b)

-- a path as it is shown
abbrev pub shown_path : List ℕ → List ℕ
shown_path path = flat_map (path_byte (is_plain path)) path

-- ASCII and letters beyond it stay
plain_paths : (shown_path (codes "./a b~") ≡ codes "./a b~")
    × (shown_path (195 ∷ 188 ∷ 47 ∷ 226 ∷ 130 ∷ 172 ∷ []) ≡ 195 ∷ 188 ∷ 47 ∷ 226 ∷ 130 ∷ 172 ∷ [])
    × (shown_path (194 ∷ 181 ∷ []) ≡ 194 ∷ 181 ∷ [])
unfolding is_utf8 chars encode is_hidden has_effect general_category value_in
    general_category_rows path_byte escaped_byte hex_digit
plain_paths = (refl, refl, refl)

-- control characters of ASCII and backslashes don't, beside letters that do
escaped_paths : (shown_path (codes "a\n\t\\") ≡ codes "a\\n\\t\\\\")
    × (shown_path (27 ∷ 127 ∷ 195 ∷ 188 ∷ []) ≡ codes "\\x1b\\x7f" ++ 195 ∷ 188 ∷ [])
unfolding is_utf8 chars encode is_hidden has_effect general_category value_in
    general_category_rows path_byte escaped_byte hex_digit
escaped_paths = (refl, refl)

-- a control character beyond ASCII, and a path that isn't UTF-8: each byte beyond ASCII is escaped
other_paths : (shown_path (97 ∷ 194 ∷ 155 ∷ 195 ∷ 188 ∷ []) ≡ codes "a\\xc2\\x9b\\xc3\\xbc")
    × (shown_path (195 ∷ 188 ∷ 255 ∷ []) ≡ codes "\\xc3\\xbc\\xff")
    × (shown_path (codes "\\xff") ≡ codes "\\\\xff")
unfolding is_utf8 chars encode is_hidden has_effect general_category value_in
    general_category_rows path_byte escaped_byte hex_digit
other_paths = (refl, refl, refl)

-- U+0080 and U+009F are control characters, U+00A0 isn't one
last_control : (shown_path (194 ∷ 128 ∷ []) ≡ codes "\\xc2\\x80")
    × (shown_path (194 ∷ 159 ∷ []) ≡ codes "\\xc2\\x9f")
    × (shown_path (194 ∷ 160 ∷ []) ≡ 194 ∷ 160 ∷ [])
unfolding is_utf8 chars encode is_hidden has_effect general_category value_in
    general_category_rows path_byte escaped_byte hex_digit
last_control = (refl, refl, refl)

-- U+00AD (soft hyphen), U+200B, U+202E (text from right to left), U+2066, U+2028 and U+2029 (ends
-- of a line and a paragraph), U+E0041 (a tag): each beside the character before or after it
hidden : (is_hidden 173 ≡ true) × (is_hidden 172 ≡ false) × (is_hidden 8203 ≡ true)
    × (is_hidden 8202 ≡ false) × (is_hidden 8238 ≡ true) × (is_hidden 8239 ≡ false)
    × (is_hidden 8294 ≡ true) × (is_hidden 8232 ≡ true) × (is_hidden 8233 ≡ true)
    × (is_hidden 917569 ≡ true) × (is_hidden 27 ≡ false) × (is_hidden 65 ≡ false)
unfolding is_hidden has_effect general_category value_in general_category_rows
hidden = (refl, refl, refl, refl, refl, refl, refl, refl, refl, refl, refl, refl)

-- `ü` and U+202E
reordered : shown_path (195 ∷ 188 ∷ 226 ∷ 128 ∷ 174 ∷ 97 ∷ []) ≡ codes "\\xc3\\xbc\\xe2\\x80\\xaea"
unfolding is_utf8 chars encode is_hidden has_effect general_category value_in
    general_category_rows path_byte escaped_byte hex_digit
reordered = refl
