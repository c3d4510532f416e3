-- The cells of a line that this library writes: what each may be, and where it ends. The form is
-- this project's own.
use Rattle.std.specs.Prelude.{◌≡◌, ℕ, ◌==◌, ◌&&◌, ◌||◌, Bool, true, false, not, cond, List, [], ◌∷◌, map, codes, refl}
use Rattle.std.specs.Char.{is_ascii_digit, is_ascii_lowercase}
use Rattle.deb_rows.specs.declared.cell.Class.{Class}
use Rattle.deb_rows.specs.declared.cell.Class.TheVariants.{Number, Word, Key, Alternative, Reason, Line, Group, Phrase, Place}

-- whether a text begins with a space
abbrev pub begins_with_space : List ℕ → Bool
begins_with_space [] = false
begins_with_space (b ∷ bs) = b == 32

-- whether a text begins with `@`
abbrev pub begins_with_at : List ℕ → Bool
begins_with_at [] = false
begins_with_at (b ∷ bs) = b == 64

-- whether a text begins with this one and a digit after it
abbrev pub begins_with_digit_after : List ℕ → List ℕ → Bool
begins_with_digit_after [] [] = false
begins_with_digit_after [] (b ∷ bs) = is_ascii_digit b
begins_with_digit_after (c ∷ cs) [] = false
begins_with_digit_after (c ∷ cs) (b ∷ bs) = (b == c) && begins_with_digit_after cs bs

-- Whether a text begins with `by`, a space and a digit. No group of relations contains that after
-- a space: a list has its names in the order of their bytes, so that none after `by` begins with a
-- digit.
abbrev pub begins_with_by : List ℕ → Bool
begins_with_by text = begins_with_digit_after (codes "by ") text

-- Whether a byte ends a cell of a class, before a text. No cell contains a newline.
abbrev pub stops : Class → ℕ → List ℕ → Bool
stops Number b after = not (is_ascii_digit b)
stops Word b after = (b == 32) || (b == 10)
stops Key b after = not (is_ascii_lowercase b)
stops Alternative b after = (b == 10) || ((b == 58) && begins_with_space after)
stops Reason b after = b == 10
stops Line b after = b == 10
stops Group b after = (b == 10) || ((b == 32) && begins_with_by after)
stops Phrase b after = (b == 10) || ((b == 32) && begins_with_at after)
stops Place b after = not (is_ascii_digit b)

-- the bytes at the start of a text, up to the first that ends the cell
abbrev pub cell_of : Class → List ℕ → List ℕ
cell_of class [] = []
cell_of class (b ∷ bs) = cond (stops class b bs) [] (b ∷ cell_of class bs)

-- whether no byte of a text ends the cell
abbrev pub is_unstopped : Class → List ℕ → Bool
is_unstopped class [] = true
is_unstopped class (b ∷ bs) = cond (stops class b bs) false (is_unstopped class bs)

abbrev pub has_bytes : List ℕ → Bool
has_bytes [] = false
has_bytes (b ∷ bs) = true

abbrev pub begins_with_zero : List ℕ → Bool
begins_with_zero [] = false
begins_with_zero (b ∷ bs) = b == 48

abbrev pub ends_with_colon : List ℕ → Bool
ends_with_colon [] = false
ends_with_colon (b ∷ []) = b == 58
ends_with_colon (b ∷ c ∷ cs) = ends_with_colon (c ∷ cs)

-- whether a text is more digits, after some if `some` is true, and a space after them
abbrev pub number_goes_on : Bool → List ℕ → Bool
number_goes_on some [] = false
number_goes_on some (b ∷ bs) =
    cond (is_ascii_digit b) (number_goes_on true bs) (cond some (b == 32) false)

abbrev pub begins_with_number : List ℕ → Bool
begins_with_number text = number_goes_on false text

-- What more a cell of a class is: a number and a key have a byte, a word doesn't end with a colon,
-- a reason doesn't begin with a number and a space, and a place is a number from 1 without leading
-- zeros.
abbrev pub fits : Class → List ℕ → Bool
fits Number cell = has_bytes cell
fits Word cell = not (ends_with_colon cell)
fits Key cell = has_bytes cell
fits Alternative cell = true
fits Reason cell = not (begins_with_number cell)
fits Line cell = true
fits Group cell = true
fits Phrase cell = true
fits Place cell = has_bytes cell && not (begins_with_zero cell)

-- whether a text is a cell of a class
abbrev pub is_cell : Class → List ℕ → Bool
is_cell class text = is_unstopped class text && fits class text

-- Worked cases: what is read at the start of a text, and what is a cell.

numbers : (cell_of Number (codes "12 a") ≡ codes "12") × (cell_of Number (codes "a") ≡ [])
    × (map (is_cell Number) (codes "0" ∷ codes "012" ∷ codes "" ∷ codes "1a" ∷ codes "-1" ∷ [])
    ≡ true ∷ true ∷ false ∷ false ∷ false ∷ [])
numbers = (refl, refl, refl)

words : (cell_of Word (codes "a:b c") ≡ codes "a:b") × (cell_of Word (codes "a\nb") ≡ codes "a")
    × (map (is_cell Word) (codes "a:b" ∷ codes "" ∷ codes "a:" ∷ codes ":" ∷ codes "a b" ∷ [])
    ≡ true ∷ true ∷ false ∷ false ∷ false ∷ [])
words = (refl, refl, refl)

keys : (cell_of Key (codes "at: 1") ≡ codes "at")
    × (map (is_cell Key) (codes "az" ∷ codes "" ∷ codes "Az" ∷ codes "a1" ∷ codes "a:" ∷ [])
    ≡ true ∷ false ∷ false ∷ false ∷ false ∷ [])
keys = (refl, refl)

-- a colon ends an alternative if a space is after it
alternatives : (cell_of Alternative (codes "a:any (>= 1:2): b: c") ≡ codes "a:any (>= 1:2)")
    × (map (is_cell Alternative) (codes "a:b c" ∷ codes "a:" ∷ codes "a: b" ∷ codes "a\n" ∷ [])
    ≡ true ∷ true ∷ false ∷ false ∷ [])
alternatives = (refl, refl)

reasons : (cell_of Reason (codes "1 a: b\nc") ≡ codes "1 a: b")
    × (map (is_cell Reason)
    (codes "a 1 b" ∷ codes "1a b" ∷ codes "12" ∷ codes "12 a" ∷ codes "1 " ∷ [])
    ≡ true ∷ true ∷ true ∷ false ∷ false ∷ [])
reasons = (refl, refl)

texts : (cell_of Line (codes "12 a: b\n") ≡ codes "12 a: b")
    × (map (is_cell Line) (codes "12 a: b" ∷ codes "" ∷ codes "a\n" ∷ [])
    ≡ true ∷ true ∷ false ∷ [])
texts = (refl, refl)

-- a group ends before `by` and a number
groups : map (cell_of Group)
    (codes "cc by 2 cc 2 all\n" ∷ codes "a (>= 1) [b by c] | by\nd by 1" ∷ codes "by by 1 by" ∷ [])
    ≡ codes "cc" ∷ codes "a (>= 1) [b by c] | by" ∷ codes "by" ∷ []
groups = refl

group_cells : map (is_cell Group)
    (codes "a | by" ∷ codes "" ∷ codes "a by x" ∷ codes "a by " ∷ codes "a by 1" ∷ codes "a\n" ∷ [])
    ≡ true ∷ true ∷ true ∷ true ∷ false ∷ false ∷ []
group_cells = refl

-- a phrase ends before ` @`
phrases : map (cell_of Phrase)
    (codes "is later @2\n" ∷ codes "a@b @\n" ∷ codes "a @b @2" ∷ codes "is later\n @" ∷ [])
    ≡ codes "is later" ∷ codes "a@b" ∷ codes "a" ∷ codes "is later" ∷ []
phrases = refl

phrase_cells : map (is_cell Phrase)
    (codes "is later" ∷ codes "" ∷ codes "@2" ∷ codes "a " ∷ codes "a @" ∷ codes "a\n" ∷ [])
    ≡ true ∷ true ∷ true ∷ true ∷ false ∷ false ∷ []
phrase_cells = refl

places : (cell_of Place (codes "12\n") ≡ codes "12")
    × (map (is_cell Place)
    (codes "1" ∷ codes "10" ∷ codes "0" ∷ codes "01" ∷ codes "" ∷ codes "1a" ∷ [])
    ≡ true ∷ true ∷ false ∷ false ∷ false ∷ false ∷ [])
places = (refl, refl)
