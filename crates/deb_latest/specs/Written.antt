-- What is written of paragraphs that are chosen by their numbers: this project's own. The lines of
-- a paragraph are those of Debian Policy 5.1.
use Rattle.std.specs.Prelude.{◌≡◌, ℕ, ◌+◌, Bool, true, false, cond, List, [], ◌∷◌, ◌++◌, eqb, length, codes, refl}
use Rattle.std.specs.List.{list_any}
use Rattle.deb_base.specs.Bodies.{newline, paragraph_limit}
use Rattle.deb_syntax.specs.Lines.{Paragraph, paragraphs_of, with_newlines}

-- those of a list whose numbers are among these, where so many came before; and of a whole list,
-- counted from 1
abbrev pub chosen_from : {X : Type 0} → List ℕ → ℕ → List X → List X
chosen_from numbers n [] = []
chosen_from numbers n (x ∷ xs) =
    cond (list_any (eqb (n + 1)) numbers) (x ∷ chosen_from numbers (n + 1) xs)
    (chosen_from numbers (n + 1) xs)

abbrev pub chosen : {X : Type 0} → List ℕ → List X → List X
chosen numbers xs = chosen_from numbers 0 xs

-- what separates a paragraph from those before it, if there are any
abbrev pub gap : Bool → List ℕ
gap true = newline ∷ []
gap false = []

-- the lines of paragraphs as they are in the file, each ended by a newline, with an empty line
-- between two paragraphs, and before the first if one was written before
abbrev pub written_after : Bool → List Paragraph → List ℕ
written_after begun [] = []
written_after begun (p ∷ ps) = gap begun ++ (with_newlines p.lines ++ written_after true ps)

-- the text of the chosen ones of these paragraphs
abbrev pub chosen_text : List ℕ → List Paragraph → List ℕ
chosen_text numbers paragraphs = written_after false (chosen numbers paragraphs)

abbrev pub is_some : List Paragraph → Bool
is_some [] = false
is_some (p ∷ ps) = true

-- what that text has more if further paragraphs follow those before
abbrev pub text_after : List ℕ → List Paragraph → List Paragraph → List ℕ
text_after numbers before paragraphs =
    written_after (is_some (chosen numbers before))
    (chosen_from numbers (length before) paragraphs)

-- A text grows by what each file has.
abbrev pub TextGrows : Type 0
TextGrows =
    (numbers : List ℕ) (before paragraphs : List Paragraph)
    → chosen_text numbers (before ++ paragraphs)
    ≡ chosen_text numbers before ++ text_after numbers before paragraphs

-- three paragraphs, between two of which are two blank lines, and of which the last has no newline
abbrev pub three : List Paragraph
three = paragraphs_of (codes "a: 1 \n\n \nB:2\n c\n\nc: 3")

-- the bytes of the lines stay, spaces at their ends too; numbers in any order, and one that no
-- paragraph has
worked-text : (chosen_text (1 ∷ 3 ∷ []) three ≡ codes "a: 1 \n\nc: 3\n")
    × (chosen_text (7 ∷ 2 ∷ 0 ∷ []) three ≡ codes "B:2\n c\n")
    × (chosen_text (3 ∷ 2 ∷ 1 ∷ 2 ∷ []) three ≡ codes "a: 1 \n\nB:2\n c\n\nc: 3\n")
    × (chosen_text [] three ≡ [])
unfolding paragraph_limit
worked-text = (refl, refl, refl, refl)

-- the paragraphs of a later file have the numbers that follow, and an empty line before the first
-- if one was written of an earlier file
worked-after : (text_after (2 ∷ 4 ∷ []) three (paragraphs_of (codes "d:4\n\ne:5"))
    ≡ codes "\nd:4\n")
    × (text_after (5 ∷ []) three (paragraphs_of (codes "d:4\n\ne:5")) ≡ codes "e:5\n")
    × (text_after (2 ∷ []) three (paragraphs_of (codes "d:4\n\ne:5")) ≡ [])
unfolding paragraph_limit
worked-after = (refl, refl, refl)

worked-chosen : (chosen (4 ∷ 2 ∷ 2 ∷ []) (codes "abc") ≡ codes "b")
    × (chosen_from (4 ∷ 2 ∷ 2 ∷ []) 1 (codes "abc") ≡ codes "ac")
worked-chosen = (refl, refl)

worked-gap : (gap false ≡ []) × (gap true ≡ codes "\n")
worked-gap = (refl, refl)
