-- Why a file of versions is refused: a line that is no version (Debian Policy 5.6.12), or its
-- length. The numbers of the lines, and the limit, are this project's own.
use Rattle.std.specs.Prelude.{◌≡◌, ℕ, ◌+◌, Bool, List, [], ◌∷◌, length, map, take, nat_le, Option, Some, None, is_some, if◌then◌else◌, codes, refl}
use Rattle.deb_base.specs.Bodies.{Line, pieces_of, file_limit}
use Rattle.deb_base.specs.declared.code.Code.TheVariants.{BadVersion, FileTooLong}
use Rattle.deb_base.specs.declared.refusal.Refusal.{Refusal}
use Rattle.deb_syntax.specs.Lines.{lines_of}
use Rattle.deb_version.specs.Faults.{first_fault}

-- the line is no version
abbrev pub is_bad : Line → Bool
is_bad line = is_some (first_fault line)

-- the refusal of the first line that is no version, where the first of all has number n
abbrev pub first_refusal : ℕ → List Line → Option Refusal
first_refusal n [] = None
first_refusal n (line ∷ lines) =
    if is_bad line then Some (record { code = BadVersion; line = n })
    else first_refusal (n + 1) lines

-- the number of the line that contains the byte after the first n bytes of a text
abbrev pub line_behind : ℕ → List ℕ → ℕ
line_behind n text = length (pieces_of (take n text))

-- the refusal of a text of versions that may have so many bytes, if it has one: that it is too
-- long, or else that of its lines
abbrev pub refusal_under : ℕ → List ℕ → Option Refusal
refusal_under most text =
    if nat_le (length text) most then first_refusal 1 (lines_of text)
    else Some (record { code = FileTooLong; line = line_behind most text })

-- the same at the limit of a file
abbrev pub refusal_of : List ℕ → Option Refusal
refusal_of text = refusal_under file_limit text

-- the refusal of some text
abbrev pub IsRefusalOfText : Refusal → Type 0
IsRefusalOfText refusal = (text : List ℕ) × (refusal_of text ≡ Some refusal)

all_good : refusal_of (codes "1\n0-1\n") ≡ None
unfolding file_limit first_fault
all_good = refl

no_line : refusal_of [] ≡ None
unfolding file_limit first_fault
no_line = refl

-- an empty line, and a carriage return at the end of a line
empty_line : refusal_of (codes "1\n\n2") ≡ Some (record { code = BadVersion; line = 2 })
unfolding file_limit first_fault
empty_line = refl

carriage_return : refusal_of (codes "1\r\n") ≡ Some (record { code = BadVersion; line = 1 })
unfolding file_limit first_fault
carriage_return = refl

-- the first of two
first_of_two : refusal_of (codes "1\n-\n_") ≡ Some (record { code = BadVersion; line = 2 })
unfolding file_limit first_fault
first_of_two = refl

-- a newline belongs to the line that it ends
line_of_byte : (line_behind 1 (codes "a\nb") ≡ 1) × (line_behind 2 (codes "a\nb") ≡ 2)
line_of_byte = (refl, refl)

-- A text may have so many bytes: as many as it has, one less, and fewer. The refusal is at the line
-- of the first byte too many.
worked-too_long : map (λ most. refusal_under most (codes "1\n2\n3")) (5 ∷ 4 ∷ 3 ∷ 1 ∷ 0 ∷ [])
    ≡ None
    ∷ Some (record { code = FileTooLong; line = 3 })
    ∷ Some (record { code = FileTooLong; line = 2 })
    ∷ Some (record { code = FileTooLong; line = 1 })
    ∷ Some (record { code = FileTooLong; line = 1 }) ∷ []
unfolding first_fault
worked-too_long = refl

-- a newline that is the first byte too many, and no byte at all
worked-last_newline : (refusal_under 1 (codes "1\n")
    ≡ Some (record { code = FileTooLong; line = 1 }))
    × (refusal_under 2 (codes "1\n") ≡ None)
    × (refusal_under 0 [] ≡ None)
unfolding first_fault
worked-last_newline = (refl, refl, refl)

-- a text that is too long is refused for that, also if an earlier line is no version
worked-order : map (λ most. refusal_under most (codes "-\n2\n_")) (5 ∷ 4 ∷ [])
    ≡ Some (record { code = BadVersion; line = 1 })
    ∷ Some (record { code = FileTooLong; line = 3 }) ∷ []
unfolding first_fault
worked-order = refl

-- a file may have 4,294,967,295 bytes
worked-limit : refusal_of ≡ refusal_under 4294967295
unfolding file_limit
worked-limit = refl
