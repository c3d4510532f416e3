-- How a component that is its own canonical text is read, byte by byte: which state may come after
-- which, and in which it may end. deb-version(7), "Sorting algorithm".
use Rattle.std.specs.Prelude.{◌≡◌, ℕ, ◌==◌, ◌&&◌, Bool, true, false, not, List, ◌∷◌, [], map, codes, refl}
use Rattle.std.specs.Char.{is_ascii_alphabetic, is_ascii_digit}
use Rattle.std.specs.List.{filter, range_with_len}
use Rattle.deb_version.specs.Fronts.{is_text_byte}
use Rattle.deb_version.specs.declared.component.State.{State}
use Rattle.deb_version.specs.declared.component.State.TheVariants.{Letter, LetterZero, Number, Padded, Text, Zero}

-- A byte may lead from one state to the other. A number follows a text, and a zero isn't the first
-- of several digits.
abbrev pub leads : State → ℕ → State → Bool
leads from byte Padded = true
leads Padded byte to = false
leads from byte Text = is_text_byte byte && not (is_ascii_alphabetic byte)
leads from byte Letter = is_text_byte byte && is_ascii_alphabetic byte
leads Text byte Zero = byte == 48
leads Letter byte LetterZero = byte == 48
leads Text byte Number = is_ascii_digit byte && not (byte == 48)
leads Letter byte Number = is_ascii_digit byte && not (byte == 48)
leads Number byte Number = is_ascii_digit byte
leads from byte to = false

-- A component may end with a number, and with a letter, after which the number 0 is left out.
abbrev pub may_end : State → Bool
may_end Letter = true
may_end Zero = true
may_end Number = true
may_end state = false

-- the bytes that lead from a state to another
abbrev bytes_between : State → State → List ℕ
bytes_between from to = filter (λ byte. leads from byte to) (range_with_len 0 256)

worked-texts : map (λ from. bytes_between from Text)
    (Text ∷ Letter ∷ Zero ∷ LetterZero ∷ Number ∷ Padded ∷ []) ≡ codes "+.~" ∷ codes "+.~"
    ∷ codes "+.~" ∷ codes "+.~" ∷ codes "+.~" ∷ [] ∷ []
worked-texts = refl

worked-letters : (bytes_between Number Letter
    ≡ codes "ABCDEFGHIJKLMNOPQRSTUVWXYZabcdefghijklmnopqrstuvwxyz")
    × (bytes_between Padded Letter ≡ [])
worked-letters = (refl, refl)

worked-zeros : map (λ from. bytes_between from Zero)
    (Text ∷ Letter ∷ Zero ∷ LetterZero ∷ Number ∷ []) ≡ codes "0" ∷ [] ∷ [] ∷ [] ∷ [] ∷ []
worked-zeros = refl

worked-letter_zeros : map (λ from. bytes_between from LetterZero)
    (Text ∷ Letter ∷ Zero ∷ LetterZero ∷ Number ∷ []) ≡ [] ∷ codes "0" ∷ [] ∷ [] ∷ [] ∷ []
worked-letter_zeros = refl

worked-numbers : map (λ from. bytes_between from Number)
    (Text ∷ Letter ∷ Zero ∷ LetterZero ∷ Number ∷ Padded ∷ []) ≡ codes "123456789"
    ∷ codes "123456789" ∷ [] ∷ [] ∷ codes "0123456789" ∷ [] ∷ []
worked-numbers = refl

worked-ends : map may_end (Text ∷ Letter ∷ Zero ∷ LetterZero ∷ Number ∷ Padded ∷ []) ≡ false
    ∷ true ∷ true ∷ false ∷ true ∷ false ∷ []
worked-ends = refl
