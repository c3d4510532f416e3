-- The line of a row says which kind it is: no two kinds of a form have a line in common.
use Rattle.std.proofs.Common.{◌≡◌, ℕ, Bool, true, false, cond, not, List, [], ◌∷◌, ◌++◌, length, drop, get_or, refl, sym, ap, ◌∙◌, inl, inr, append_assoc}
use Rattle.std.specs.Prelude.{◌==◌, ◌&&◌, ◌||◌, codes}
use Rattle.std.specs.Char.{is_ascii_digit}
use Rattle.std.proofs.lemmas.Bool.{cases_Bool, and_parts, or_parts, or_from, and_right, and_left, false≢true, eqb-true, not-true, false_from_ne_true}
use Rattle.std.proofs.lemmas.List.{drop_at}
use Rattle.deb_rows.specs.Cells.{begins_with_number, begins_with_space, cell_of, ends_with_colon, fits, is_cell, is_unstopped, number_goes_on, stops}
use Rattle.deb_rows.specs.Kinds.{Piece, any_text, file_last, form_of, front_of, group_and_candidates, package_and, package_before, package_last, phrase_and_file, phrase_last, pieces_of}
use Rattle.deb_rows.specs.Rows.{are_cells, cells_text}
use Rattle.deb_rows.specs.declared.cell.Class.{Class}
use Rattle.deb_rows.specs.declared.cell.Class.TheVariants.{Number, Word, Key, Alternative, Reason, Group, Phrase, Place}
use Rattle.deb_rows.specs.declared.form.Form.{Form}
use Rattle.deb_rows.specs.declared.form.Form.TheVariants as form
use Rattle.deb_rows.specs.declared.kind.RowKind.{RowKind}
use Rattle.deb_rows.specs.declared.kind.RowKind.TheVariants as kind
use Rattle.deb_rows.proofs.Ends.{Closes, cell_of-closed}
use Rattle.deb_rows.proofs.KindFacts.{alternative_colon, group_by, group_line, key_colon, number_comma, number_line, number_space, phrase_at, phrase_line, word_at, word_excludes, word_last, word_left_out, word_needs, word_space}

-- ---- the kind of the line that a text begins with

-- from the end of an alternative on
abbrev pub past : List ℕ → List ℕ
past [] = []
past (b ∷ bs) = cond (stops Alternative b bs) (b ∷ bs) (past bs)

abbrev pub rest_of : List ℕ → List ℕ
rest_of [] = []
rest_of (b ∷ bs) = bs

-- of what follows a cell, and of what follows the space after it
abbrev pub after_cell : Class → List ℕ → List ℕ
after_cell class text = drop (length (cell_of class text)) text

abbrev pub skip : Class → List ℕ → List ℕ
skip class text = drop 1 (after_cell class text)

-- of what a line of a package ends with, and that of a reason
abbrev pub package_tail_kind : List ℕ → RowKind
package_tail_kind text =
    cond (get_or (after_cell Word (skip Word (skip Word (skip Number text)))) 0 0 == 10)
    kind.Package kind.PackageOfFile

abbrev pub reason_tail_kind : List ℕ → RowKind
reason_tail_kind text =
    cond
    (get_or (after_cell Phrase (skip Word (skip Word (skip Word (skip Number text))))) 0 0 == 10)
    kind.PackageReason kind.PackageReasonOfFile

-- of a text, and of what follows an alternative or a package: a colon and a space, or a newline
abbrev pub past_kind : List ℕ → List ℕ → RowKind
past_kind text [] = kind.Package
past_kind text (b ∷ bs) =
    cond (b == 10) (package_tail_kind text)
    (cond (begins_with_number (rest_of bs)) (reason_tail_kind (rest_of bs)) kind.Reason)

abbrev pub report_kind : List ℕ → RowKind
report_kind [] = kind.Package
report_kind (b ∷ bs) = cond (b == 109) kind.Met (cond (b == 117) kind.Unmet (cond (b == 105) kind.Ignored (past_kind bs (past bs))))

abbrev pub unmet_kind : List ℕ → RowKind
unmet_kind text = cond (get_or text 2 0 == 109) kind.UnmetGroup kind.UnsureGroup

abbrev pub diff_kind : List ℕ → RowKind
diff_kind text =
    cond (get_or text 0 0 == 114) kind.Removed
    (cond (get_or text 0 0 == 99) kind.Changed
    (cond (get_or text 0 0 == 117) kind.Upgraded
    (cond (get_or text 0 0 == 100) kind.Downgraded
    (cond (get_or text 0 0 == 97) kind.Added (cond (get_or text 1 0 == 45) kind.OldLine kind.NewLine)))))

abbrev pub number_kind : List ℕ → RowKind
number_kind text = cond (get_or (drop (length (cell_of Number text)) text) 0 0 == 10) kind.Count kind.Summary

-- of a text, and of what follows a key
abbrev pub key_kind : List ℕ → List ℕ → RowKind
key_kind text tail =
    cond (get_or tail 0 0 == 58) kind.Key
    (cond (get_or tail 0 0 == 10) (cond (get_or text 0 0 == 10) kind.End kind.Valid) (number_kind (drop 1 tail)))

abbrev pub explanation_kind : List ℕ → RowKind
explanation_kind text = key_kind text (drop (length (cell_of Key text)) text)

abbrev pub unsure_kind : List ℕ → RowKind
unsure_kind text =
    cond (get_or (after_cell Group (skip Word (skip Word (skip Word (skip Word (skip Number text)))))) 0 0 == 10) kind.UnsureNeed kind.UnsureConflict

abbrev pub health_kind : List ℕ → RowKind
health_kind text =
    cond (get_or text 0 0 == 99) kind.Conflict
    (cond (get_or text 0 0 == 100) kind.Duplicate (cond (get_or text 0 0 == 115) kind.State (cond (get_or text 2 0 == 109) kind.UnmetNeed (unsure_kind (drop 7 text)))))

-- of what follows the package, and of its line after the first space
abbrev pub needs_kind : List ℕ → RowKind
needs_kind tail =
    cond (get_or tail 1 0 == 110) kind.Need
    (cond (get_or tail 1 0 == 101) kind.Exclusion kind.LeftOut)

abbrev pub fact_kind : List ℕ → RowKind
fact_kind text = needs_kind (after_cell Word (skip Word (skip Word (skip Number text))))

abbrev pub installable_kind : List ℕ → RowKind
installable_kind text =
    cond (get_or text 0 0 == 32) (fact_kind (drop 1 text))
    (cond (get_or text 2 0 == 105) kind.Uninstallable
    (cond (get_or text 2 0 == 115) kind.Unsure kind.Undecided))

abbrev pub text_kind : Form → List ℕ → RowKind
text_kind form.Report text = report_kind text
text_kind form.UnmetLines text = unmet_kind text
text_kind form.DiffLines text = diff_kind text
text_kind form.Explanation text = explanation_kind text
text_kind form.HealthLines text = health_kind text
text_kind form.InstallableLines text = installable_kind text

-- ---- cells, one by one

pub record Split (piece : Piece) (pieces : List Piece) (cells : List (List ℕ)) : Type 0 where
  pub first : List ℕ
  pub rest : List (List ℕ)
  pub same : cells ≡ first ∷ rest
  pub is : is_cell piece.0 first ≡ true
  pub are : are_cells pieces rest ≡ true

pub split : (piece : Piece) (pieces : List Piece) (cells : List (List ℕ)) → are_cells (piece ∷ pieces) cells ≡ true → Split piece pieces cells
split piece pieces [] e = absurd (false≢true e)
split piece pieces (cell ∷ cells) e =
    let parts = and_parts (is_cell piece.0 cell) (are_cells pieces cells) e in
    record { first = cell; rest = cells; same = refl; is = parts.0; are = parts.1 }

none_left : (cells : List (List ℕ)) → are_cells [] cells ≡ true → cells ≡ []
none_left [] e = refl
none_left (cell ∷ cells) e = absurd (false≢true e)

pub free : (class : Class) (cell : List ℕ) → is_cell class cell ≡ true → is_unstopped class cell ≡ true
free class cell e = (and_parts (is_unstopped class cell) (fits class cell) e).0

pub fitting : (class : Class) (cell : List ℕ) → is_cell class cell ≡ true → fits class cell ≡ true
fitting class cell e = (and_parts (is_unstopped class cell) (fits class cell) e).1

-- what follows a cell
past_cell : (class : Class) (cell next : List ℕ) → Closes class next → is_cell class cell ≡ true
    → drop (length (cell_of class (cell ++ next))) (cell ++ next) ≡ next
past_cell class cell next closes is =
    ap (λ c. drop (length c) (cell ++ next)) (cell_of-closed class cell next closes (free class cell is)) ∙ drop_at cell next (length cell) refl

-- ---- what is left after some cells

abbrev pub word : Piece
word = (Word, codes " ")

abbrev pub last_word : Piece
last_word = (Word, codes "\n")

skip_cell : (class : Class) (cell rest more : List ℕ) → Closes class (codes " " ++ (rest ++ more)) → is_cell class cell ≡ true
    → skip class ((cell ++ (codes " " ++ rest)) ++ more) ≡ rest ++ more
skip_cell class cell rest more closes is =
    ap (skip class) (append_assoc cell (codes " " ++ rest) more) ∙ ap (drop 1) (past_cell class cell (codes " " ++ (rest ++ more)) closes is)

skip_word : (pieces : List Piece) (cells : List (List ℕ)) (more : List ℕ) (are : are_cells (word ∷ pieces) cells ≡ true)
    → skip Word (cells_text (word ∷ pieces) cells ++ more) ≡ cells_text pieces (split word pieces cells are).rest ++ more
skip_word pieces cells more are =
    let one = split word pieces cells are in
    let rest = cells_text pieces one.rest in
    ap (λ l. skip Word (cells_text (word ∷ pieces) l ++ more)) one.same ∙ skip_cell Word one.first rest more (word_space (rest ++ more)) one.is

abbrev number : Piece
number = (Number, codes " ")

skip_number : (pieces : List Piece) (cells : List (List ℕ)) (more : List ℕ) (are : are_cells (number ∷ pieces) cells ≡ true)
    → skip Number (cells_text (number ∷ pieces) cells ++ more) ≡ cells_text pieces (split number pieces cells are).rest ++ more
skip_number pieces cells more are =
    let one = split number pieces cells are in
    let rest = cells_text pieces one.rest in
    ap (λ l. skip Number (cells_text (number ∷ pieces) l ++ more)) one.same ∙ skip_cell Number one.first rest more (number_space (rest ++ more)) one.is

-- what a line of a package goes on with, after the package, and after a field
record Skipped (pieces : List Piece) (text more : List ℕ) : Type 0 where
  rest : List (List ℕ)
  are : are_cells pieces rest ≡ true
  same : text ≡ cells_text pieces rest ++ more

skip_package : (pieces : List Piece) (cells : List (List ℕ)) (more : List ℕ) → are_cells (package_and pieces) cells ≡ true
    → Skipped pieces (skip Word (skip Word (skip Word (skip Number (cells_text (package_and pieces) cells ++ more))))) more
skip_package pieces cells more e =
    let p3 = word ∷ pieces in
    let p2 = word ∷ p3 in
    let p1 = word ∷ p2 in
    let one = split number p1 cells e in
    let two = split word p2 one.rest one.are in
    let three = split word p3 two.rest two.are in
    let four = split word pieces three.rest three.are in
    record {
      rest = four.rest;
      are = four.are;
      same =
          ap (λ t. skip Word (skip Word (skip Word t))) (skip_number p1 cells more e)
          ∙ ap (λ t. skip Word (skip Word t)) (skip_word p2 one.rest more one.are)
          ∙ ap (skip Word) (skip_word p3 two.rest more two.are)
          ∙ skip_word pieces three.rest more three.are;
    }

skip_field : (pieces : List Piece) (cells : List (List ℕ)) (more : List ℕ) → are_cells (package_and (word ∷ pieces)) cells ≡ true
    → Skipped pieces (skip Word (skip Word (skip Word (skip Word (skip Number (cells_text (package_and (word ∷ pieces)) cells ++ more)))))) more
skip_field pieces cells more e =
    let found = skip_package (word ∷ pieces) cells more e in
    let field = split word pieces found.rest found.are in
    record {
      rest = field.rest;
      are = field.are;
      same = ap (skip Word) found.same ∙ skip_word pieces found.rest more found.are;
    }

-- what is left after the architecture of a package
record Behind (after : List ℕ) (pieces : List Piece) (text more : List ℕ) : Type 0 where
  rest : List (List ℕ)
  same : after_cell Word (skip Word (skip Word (skip Number text)))
      ≡ after ++ (cells_text pieces rest ++ more)

behind_package : (after : List ℕ) (pieces : List Piece) (cells : List (List ℕ)) (more : List ℕ)
    → ((more : List ℕ) → Closes Word (after ++ more))
    → are_cells (package_before after pieces) cells ≡ true
    → Behind after pieces (cells_text (package_before after pieces) cells ++ more) more
behind_package after pieces cells more closes e =
    let last : Piece = (Word, after) in
    let p3 = last ∷ pieces in
    let p2 = word ∷ p3 in
    let p1 = word ∷ p2 in
    let one = split number p1 cells e in
    let two = split word p2 one.rest one.are in
    let three = split word p3 two.rest two.are in
    let four = split last pieces three.rest three.are in
    let line = cells_text pieces four.rest in
    record {
      rest = four.rest;
      same =
          ap (λ t. after_cell Word (skip Word (skip Word t))) (skip_number p1 cells more e)
          ∙ ap (λ t. after_cell Word (skip Word t)) (skip_word p2 one.rest more one.are)
          ∙ ap (after_cell Word) (skip_word p3 two.rest more two.are)
          ∙ ap (λ l. after_cell Word (cells_text p3 l ++ more)) four.same
          ∙ ap (after_cell Word)
          (append_assoc four.first (after ++ line) more
          ∙ ap (λ l. four.first ++ l) (append_assoc after line more))
          ∙ past_cell Word four.first (after ++ (line ++ more)) (closes (line ++ more)) four.is;
    }

-- ---- a package

past-drop : (text : List ℕ) → past text ≡ drop (length (cell_of Alternative text)) text
past-drop [] = refl
past-drop (b ∷ bs) = elim (cases_Bool (stops Alternative b bs)) [
  | inl e ↦ rw e refl
  | inr e ↦ rw e (past-drop bs)
]

-- a byte of a number or of a word isn't the end of an alternative
number_byte : (b : ℕ) → is_ascii_digit b ≡ true → ((b == 10) ≡ false) × ((b == 58) ≡ false)
number_byte b e = (
  false_from_ne_true (b == 10) (λ h. false≢true (ap is_ascii_digit (sym (eqb-true b 10 h)) ∙ e)),
  false_from_ne_true (b == 58) (λ h. false≢true (ap is_ascii_digit (sym (eqb-true b 58 h)) ∙ e)),
)

first_digit : (b : ℕ) (bs : List ℕ) → is_unstopped Number (b ∷ bs) ≡ true → (is_ascii_digit b ≡ true) × (is_unstopped Number bs ≡ true)
first_digit b bs e = elim (cases_Bool (is_ascii_digit b)) [
  | inl h ↦ (h, ap (λ t. cond (not t) false (is_unstopped Number bs)) (sym h) ∙ e)
  | inr h ↦ absurd (false≢true (ap (λ t. cond (not t) false (is_unstopped Number bs)) (sym h) ∙ e))
]

past_number : (number rest : List ℕ) → is_unstopped Number number ≡ true → past (number ++ rest) ≡ past rest
past_number [] rest e = refl
past_number (b ∷ bs) rest e =
    let first = first_digit b bs e in
    let other = number_byte b first.0 in
    ap (λ t. cond t (b ∷ (bs ++ rest)) (past (bs ++ rest)))
    (or_from (b == 10) (b == 58 && begins_with_space (bs ++ rest)) other.0 (and_left (b == 58) (begins_with_space (bs ++ rest)) other.1))
    ∙ past_number bs rest first.1

first_of_word : (b : ℕ) (bs : List ℕ) → is_unstopped Word (b ∷ bs) ≡ true
    → ((b == 32) ≡ false) × ((b == 10) ≡ false) × (is_unstopped Word bs ≡ true)
first_of_word b bs e = elim (cases_Bool ((b == 32) || (b == 10))) [
  | inl h ↦ absurd (false≢true (ap (λ t. cond t false (is_unstopped Word bs)) (sym h) ∙ e))
  | inr h ↦
      let parts = or_parts (b == 32) (b == 10) h in
      (parts.0, parts.1, ap (λ t. cond t false (is_unstopped Word bs)) (sym h) ∙ e)
]

past_word : (word rest : List ℕ) → is_unstopped Word word ≡ true → ends_with_colon word ≡ false → past (word ++ rest) ≡ past rest
past_word [] rest e colon = refl
past_word (b ∷ []) rest e colon =
    let first = first_of_word b [] e in
    ap (λ t. cond t (b ∷ rest) (past rest)) (or_from (b == 10) (b == 58 && begins_with_space rest) first.1 (and_left (b == 58) (begins_with_space rest) colon))
past_word (b ∷ c ∷ cs) rest e colon =
    let first = first_of_word b (c ∷ cs) e in
    let second = first_of_word c cs first.2 in
    ap (λ t. cond t (b ∷ c ∷ (cs ++ rest)) (past (c ∷ (cs ++ rest)))) (or_from (b == 10) (b == 58 && (c == 32)) first.1 (and_right (b == 58) (c == 32) second.0))
    ∙ past_word (c ∷ cs) rest first.2 colon

past_number_cell : (number rest more : List ℕ) → is_cell Number number ≡ true → past ((number ++ rest) ++ more) ≡ past (rest ++ more)
past_number_cell number rest more is = ap past (append_assoc number rest more) ∙ past_number number (rest ++ more) (free Number number is)

past_word_cell : (word rest more : List ℕ) → is_cell Word word ≡ true → past ((word ++ rest) ++ more) ≡ past (rest ++ more)
past_word_cell word rest more is =
    ap past (append_assoc word rest more) ∙ past_word word (rest ++ more) (free Word word is) (not-true (ends_with_colon word) (fitting Word word is))

-- what a package ends with
record PastPackage (after : List ℕ) (pieces : List Piece) (text more : List ℕ) : Type 0 where
  rest : List (List ℕ)
  are : are_cells pieces rest ≡ true
  same : past text ≡ past ((after ++ cells_text pieces rest) ++ more)

past_package : (after : List ℕ) (pieces : List Piece) (cells : List (List ℕ)) (more : List ℕ)
    → are_cells (package_before after pieces) cells ≡ true
    → PastPackage after pieces (cells_text (package_before after pieces) cells ++ more) more
past_package after pieces cells more e =
    let last : Piece = (Word, after) in
    let one = split number (word ∷ word ∷ last ∷ pieces) cells e in
    let two = split word (word ∷ last ∷ pieces) one.rest one.are in
    let three = split word (last ∷ pieces) two.rest two.are in
    let four = split last pieces three.rest three.are in
    let n = one.first in
    let a = two.first in
    let b = three.first in
    let c = four.first in
    let same : cells ≡ n ∷ a ∷ b ∷ c ∷ four.rest =
    one.same ∙ ap (λ l. n ∷ l) (two.same ∙ ap (λ l. a ∷ l) (three.same ∙ ap (λ l. b ∷ l) four.same)) in
    let line4 = after ++ cells_text pieces four.rest in
    let line3 = c ++ line4 in
    let line2 = b ++ (codes " " ++ line3) in
    let line1 = a ++ (codes " " ++ line2) in
    record {
      rest = four.rest;
      are = four.are;
      same =
          ap (λ l. past (cells_text (package_before after pieces) l ++ more)) same
          ∙ past_number_cell n (codes " " ++ line1) more one.is
          ∙ past_word_cell a (codes " " ++ line2) more two.is
          ∙ past_word_cell b (codes " " ++ line3) more three.is
          ∙ past_word_cell c line4 more four.is;
    }

package_kind : (cells : List (List ℕ)) (more : List ℕ) → are_cells package_last cells ≡ true
    → past_kind (cells_text package_last cells ++ more) (past (cells_text package_last cells ++ more)) ≡ kind.Package
package_kind cells more e =
    let text = cells_text package_last cells ++ more in
    ap (past_kind text) (past_package (codes "\n") [] cells more e).same
    ∙ ap (λ t. cond (get_or t 0 0 == 10) kind.Package kind.PackageOfFile)
    (behind_package (codes "\n") [] cells more word_last e).same

-- the place of a file is a number
place_free : (place : List ℕ) → is_unstopped Place place ≡ is_unstopped Number place
place_free [] = refl
place_free (b ∷ bs) = ap (λ t. cond (not (is_ascii_digit b)) false t) (place_free bs)

past_file : (cells : List (List ℕ)) (more : List ℕ) → are_cells file_last cells ≡ true
    → past ((codes " @" ++ cells_text file_last cells) ++ more) ≡ codes "\n" ++ more
past_file cells more e =
    let one = split (Place, codes "\n") [] cells e in
    let place = one.first in
    ap (λ l. past (cells_text file_last l ++ more)) one.same
    ∙ ap past (append_assoc place (codes "\n") more)
    ∙ past_number place (codes "\n" ++ more) (sym (place_free place) ∙ free Place place one.is)

package_of_file_kind : (cells : List (List ℕ)) (more : List ℕ) → are_cells (package_before (codes " @") file_last) cells ≡ true
    → past_kind (cells_text (package_before (codes " @") file_last) cells ++ more) (past (cells_text (package_before (codes " @") file_last) cells ++ more)) ≡ kind.PackageOfFile
package_of_file_kind cells more e =
    let text = cells_text (package_before (codes " @") file_last) cells ++ more in
    let ended = past_package (codes " @") file_last cells more e in
    ap (past_kind text) (ended.same ∙ past_file ended.rest more ended.are)
    ∙ ap (λ t. cond (get_or t 0 0 == 10) kind.Package kind.PackageOfFile)
    (behind_package (codes " @") file_last cells more word_at e).same

-- ---- a reason

past_alternative : (alternative rest more : List ℕ) → is_cell Alternative alternative ≡ true
    → past ((alternative ++ (codes ": " ++ rest)) ++ more) ≡ codes ": " ++ (rest ++ more)
past_alternative alternative rest more is =
    ap past (append_assoc alternative (codes ": " ++ rest) more) ∙ past-drop (alternative ++ (codes ": " ++ (rest ++ more)))
    ∙ past_cell Alternative alternative (codes ": " ++ (rest ++ more)) (alternative_colon (rest ++ more)) is

number_ends : (some : Bool) (text more : List ℕ) → number_goes_on some (text ++ (codes "\n" ++ more)) ≡ number_goes_on some text
number_ends true [] more = refl
number_ends false [] more = refl
number_ends some (b ∷ bs) more = ap (λ t. cond (is_ascii_digit b) t (cond some (b == 32) false)) (number_ends true bs more)

digits_end : (number more : List ℕ) → is_unstopped Number number ≡ true → number_goes_on true (number ++ (codes " " ++ more)) ≡ true
digits_end [] more e = refl
digits_end (b ∷ bs) more e =
    let first = first_digit b bs e in
    ap (λ t. cond t (number_goes_on true (bs ++ (codes " " ++ more))) (b == 32)) first.0 ∙ digits_end bs more first.1

number_begins : (number more : List ℕ) → is_cell Number number ≡ true → begins_with_number (number ++ (codes " " ++ more)) ≡ true
number_begins [] more is = absurd (false≢true is)
number_begins (b ∷ bs) more is =
    let first = first_digit b bs (free Number (b ∷ bs) is) in
    ap (λ t. cond t (number_goes_on true (bs ++ (codes " " ++ more))) false) first.0 ∙ digits_end bs more first.1

reason_kind : (cells : List (List ℕ)) (more : List ℕ) → are_cells (pieces_of kind.Reason) cells ≡ true
    → past_kind (cells_text (pieces_of kind.Reason) cells ++ more) (past (cells_text (pieces_of kind.Reason) cells ++ more)) ≡ kind.Reason
reason_kind cells more e =
    let alternative = split (Alternative, codes ": ") ((Reason, codes "\n") ∷ []) cells e in
    let reason = split (Reason, codes "\n") [] alternative.rest alternative.are in
    let a = alternative.first in
    let r = reason.first in
    let same : cells ≡ a ∷ r ∷ [] = alternative.same ∙ ap (λ l. a ∷ l) (reason.same ∙ ap (λ l. r ∷ l) (none_left reason.rest reason.are)) in
    let plain : begins_with_number ((r ++ codes "\n") ++ more) ≡ false =
    ap begins_with_number (append_assoc r (codes "\n") more) ∙ number_ends false r more ∙ not-true (begins_with_number r) (fitting Reason r reason.is) in
    let tail = (r ++ codes "\n") ++ more in
    ap (past_kind (cells_text (pieces_of kind.Reason) cells ++ more))
    (ap (λ l. past (cells_text (pieces_of kind.Reason) l ++ more)) same ∙ past_alternative a (r ++ codes "\n") more alternative.is)
    ∙ ap (λ t. cond t (reason_tail_kind tail) kind.Reason) plain

-- what a reason for a package goes on with, after the alternative
record PastReason (pieces : List Piece) (text more : List ℕ) : Type 0 where
  rest : List (List ℕ)
  are : are_cells (package_and pieces) rest ≡ true
  same : past_kind text (past text) ≡ reason_tail_kind (cells_text (package_and pieces) rest ++ more)

past_reason : (pieces : List Piece) (cells : List (List ℕ)) (more : List ℕ)
    → are_cells ((Alternative, codes ": ") ∷ package_and pieces) cells ≡ true
    → PastReason pieces (cells_text ((Alternative, codes ": ") ∷ package_and pieces) cells ++ more) more
past_reason pieces cells more e =
    let alternative = split (Alternative, codes ": ") (package_and pieces) cells e in
    let words = word ∷ word ∷ word ∷ pieces in
    let one = split number words alternative.rest alternative.are in
    let a = alternative.first in
    let n = one.first in
    let line = cells_text words one.rest in
    let rest = cells_text (package_and pieces) alternative.rest in
    let text = cells_text ((Alternative, codes ": ") ∷ package_and pieces) cells ++ more in
    let counted : begins_with_number (rest ++ more) ≡ true =
    ap (λ l. begins_with_number (cells_text (package_and pieces) l ++ more)) one.same
    ∙ ap begins_with_number (append_assoc n (codes " " ++ line) more) ∙ number_begins n (line ++ more) one.is in
    record {
      rest = alternative.rest;
      are = alternative.are;
      same =
          ap (past_kind text)
          (ap (λ l. past (cells_text ((Alternative, codes ": ") ∷ package_and pieces) l ++ more)) alternative.same
          ∙ past_alternative a rest more alternative.is)
          ∙ ap (λ t. cond t (reason_tail_kind (rest ++ more)) kind.Reason) counted;
    }

-- what is left after a reason
record Said (after : List ℕ) (text : List ℕ) : Type 0 where
  rest : List ℕ
  same : reason_tail_kind text ≡ cond (get_or (after ++ rest) 0 0 == 10) kind.PackageReason kind.PackageReasonOfFile

after_reason : (after : List ℕ) (pieces : List Piece) (cells : List (List ℕ)) (more : List ℕ)
    → ((more : List ℕ) → Closes Phrase (after ++ more))
    → are_cells (package_and ((Phrase, after) ∷ pieces)) cells ≡ true
    → Said after (cells_text (package_and ((Phrase, after) ∷ pieces)) cells ++ more)
after_reason after pieces cells more closes e =
    let last : Piece = (Phrase, after) in
    let skipped = skip_package (last ∷ pieces) cells more e in
    let reason = split last pieces skipped.rest skipped.are in
    let line = cells_text pieces reason.rest in
    record {
      rest = line ++ more;
      same =
          ap (λ t. cond (get_or (after_cell Phrase t) 0 0 == 10) kind.PackageReason kind.PackageReasonOfFile)
          (skipped.same ∙ ap (λ l. cells_text (last ∷ pieces) l ++ more) reason.same
          ∙ append_assoc reason.first (after ++ line) more
          ∙ ap (λ l. reason.first ++ l) (append_assoc after line more))
          ∙ ap (λ t. cond (get_or t 0 0 == 10) kind.PackageReason kind.PackageReasonOfFile)
          (past_cell Phrase reason.first (after ++ (line ++ more)) (closes (line ++ more)) reason.is);
    }

package_reason_kind : (cells : List (List ℕ)) (more : List ℕ) → are_cells (pieces_of kind.PackageReason) cells ≡ true
    → past_kind (cells_text (pieces_of kind.PackageReason) cells ++ more) (past (cells_text (pieces_of kind.PackageReason) cells ++ more)) ≡ kind.PackageReason
package_reason_kind cells more e =
    let ended = past_reason phrase_last cells more e in
    ended.same ∙ (after_reason (codes "\n") [] ended.rest more phrase_line ended.are).same

reason_of_file_kind : (cells : List (List ℕ)) (more : List ℕ) → are_cells (pieces_of kind.PackageReasonOfFile) cells ≡ true
    → past_kind (cells_text (pieces_of kind.PackageReasonOfFile) cells ++ more) (past (cells_text (pieces_of kind.PackageReasonOfFile) cells ++ more))
    ≡ kind.PackageReasonOfFile
reason_of_file_kind cells more e =
    let ended = past_reason phrase_and_file cells more e in
    ended.same ∙ (after_reason (codes " @") file_last ended.rest more phrase_at ended.are).same

-- ---- an explanation

key_line_kind : (cells : List (List ℕ)) (more : List ℕ) → are_cells (pieces_of kind.Key) cells ≡ true
    → explanation_kind (cells_text (pieces_of kind.Key) cells ++ more) ≡ kind.Key
key_line_kind cells more e =
    let key = split (Key, codes ": ") any_text cells e in
    let k = key.first in
    let line = cells_text any_text key.rest in
    let text = k ++ (codes ": " ++ (line ++ more)) in
    let tail : drop (length (cell_of Key text)) text ≡ codes ": " ++ (line ++ more) = past_cell Key k (codes ": " ++ (line ++ more)) (key_colon (line ++ more)) key.is in
    ap (λ l. explanation_kind (cells_text (pieces_of kind.Key) l ++ more)) key.same
    ∙ ap explanation_kind (append_assoc k (codes ": " ++ line) more)
    ∙ ap (key_kind text) tail

count_line_kind : (cells : List (List ℕ)) (more : List ℕ) → are_cells (pieces_of kind.Count) cells ≡ true
    → number_kind (cells_text (pieces_of kind.Count) cells ++ more) ≡ kind.Count
count_line_kind cells more e =
    let number = split (Number, codes "\n") [] cells e in
    let n = number.first in
    let line = cells_text [] number.rest in
    let tail = past_cell Number n (codes "\n" ++ more) (number_line more) number.is in
    ap (λ l. number_kind (cells_text (pieces_of kind.Count) l ++ more)) number.same
    ∙ ap number_kind (append_assoc n (codes "\n") more)
    ∙ ap (λ t. cond (get_or t 0 0 == 10) kind.Count kind.Summary) tail

summary_line_kind : (cells : List (List ℕ)) (more : List ℕ) → are_cells (pieces_of kind.Summary) cells ≡ true
    → number_kind (cells_text (pieces_of kind.Summary) cells ++ more) ≡ kind.Summary
summary_line_kind cells more e =
    let last = (Number, codes " refused\n") ∷ [] in
    let number = split (Number, codes ", ") last cells e in
    let n = number.first in
    let line = cells_text last number.rest in
    let tail = past_cell Number n (codes ", " ++ (line ++ more)) (number_comma (line ++ more)) number.is in
    ap (λ l. number_kind (cells_text (pieces_of kind.Summary) l ++ more)) number.same
    ∙ ap number_kind (append_assoc n (codes ", " ++ line) more)
    ∙ ap (λ t. cond (get_or t 0 0 == 10) kind.Count kind.Summary) tail

-- ---- a set of packages

unsure_need_kind : (cells : List (List ℕ)) (more : List ℕ) → are_cells (pieces_of kind.UnsureNeed) cells ≡ true
    → unsure_kind (cells_text (pieces_of kind.UnsureNeed) cells ++ more) ≡ kind.UnsureNeed
unsure_need_kind cells more e =
    let pieces = (Group, codes "\n") ∷ [] in
    let skipped = skip_field pieces cells more e in
    let group = split (Group, codes "\n") [] skipped.rest skipped.are in
    let g = group.first in
    let line = cells_text [] group.rest in
    ap (λ t. cond (get_or (after_cell Group t) 0 0 == 10) kind.UnsureNeed kind.UnsureConflict)
    (skipped.same ∙ ap (λ l. cells_text pieces l ++ more) group.same ∙ append_assoc g (codes "\n") more)
    ∙ ap (λ t. cond (get_or t 0 0 == 10) kind.UnsureNeed kind.UnsureConflict) (past_cell Group g (codes "\n" ++ more) (group_line more) group.is)

unsure_conflict_kind : (cells : List (List ℕ)) (more : List ℕ) → are_cells (pieces_of kind.UnsureConflict) cells ≡ true
    → unsure_kind (cells_text (pieces_of kind.UnsureConflict) cells ++ more) ≡ kind.UnsureConflict
unsure_conflict_kind cells more e =
    let skipped = skip_field ((Group, codes " by ") ∷ package_last) cells more e in
    let group = split (Group, codes " by ") package_last skipped.rest skipped.are in
    let g = group.first in
    let line = cells_text package_last group.rest in
    ap (λ t. cond (get_or (after_cell Group t) 0 0 == 10) kind.UnsureNeed kind.UnsureConflict)
    (skipped.same ∙ ap (λ l. cells_text ((Group, codes " by ") ∷ package_last) l ++ more) group.same ∙ append_assoc g (codes " by " ++ line) more)
    ∙ ap (λ t. cond (get_or t 0 0 == 10) kind.UnsureNeed kind.UnsureConflict)
    (past_cell Group g (codes " by " ++ (line ++ more)) (group_by (word ∷ word ∷ last_word ∷ []) group.rest more group.are) group.is)

-- ---- why a package can't be installed

need_kind : (cells : List (List ℕ)) (more : List ℕ)
    → are_cells (pieces_of kind.Need) cells ≡ true
    → fact_kind (cells_text (pieces_of kind.Need) cells ++ more) ≡ kind.Need
need_kind cells more e =
    ap needs_kind
    (behind_package (codes " needs ") group_and_candidates cells more word_needs e).same

exclusion_kind : (cells : List (List ℕ)) (more : List ℕ)
    → are_cells (pieces_of kind.Exclusion) cells ≡ true
    → fact_kind (cells_text (pieces_of kind.Exclusion) cells ++ more) ≡ kind.Exclusion
exclusion_kind cells more e =
    ap needs_kind (behind_package (codes " excludes ") package_last cells more word_excludes e).same

left_out_kind : (cells : List (List ℕ)) (more : List ℕ)
    → are_cells (pieces_of kind.LeftOut) cells ≡ true
    → fact_kind (cells_text (pieces_of kind.LeftOut) cells ++ more) ≡ kind.LeftOut
left_out_kind cells more e =
    ap needs_kind (behind_package (codes " is left out\n") [] cells more word_left_out e).same

-- ---- every kind

pub line_kind : (of : RowKind) (cells : List (List ℕ)) (more : List ℕ) → are_cells (pieces_of of) cells ≡ true
    → text_kind (form_of of) ((front_of of ++ cells_text (pieces_of of) cells) ++ more) ≡ of
line_kind kind.Met cells more e = refl
line_kind kind.Unmet cells more e = refl
line_kind kind.Ignored cells more e = refl
line_kind kind.Package cells more e = package_kind cells more e
line_kind kind.Reason cells more e = reason_kind cells more e
line_kind kind.PackageReason cells more e = package_reason_kind cells more e
line_kind kind.UnmetGroup cells more e = refl
line_kind kind.UnsureGroup cells more e = refl
line_kind kind.Removed cells more e = refl
line_kind kind.Changed cells more e = refl
line_kind kind.Upgraded cells more e = refl
line_kind kind.Added cells more e = refl
line_kind kind.OldLine cells more e = refl
line_kind kind.NewLine cells more e = refl
line_kind kind.Key cells more e = key_line_kind cells more e
line_kind kind.End cells more e = refl
line_kind kind.Count cells more e = count_line_kind cells more e
line_kind kind.Summary cells more e = summary_line_kind cells more e
line_kind kind.Valid cells more e = refl
line_kind kind.Downgraded cells more e = refl
line_kind kind.UnmetNeed cells more e = refl
line_kind kind.UnsureNeed cells more e = unsure_need_kind cells more e
line_kind kind.Conflict cells more e = refl
line_kind kind.UnsureConflict cells more e = unsure_conflict_kind cells more e
line_kind kind.Duplicate cells more e = refl
line_kind kind.State cells more e = refl
line_kind kind.Uninstallable cells more e = refl
line_kind kind.Unsure cells more e = refl
line_kind kind.Undecided cells more e = refl
line_kind kind.Need cells more e = need_kind cells more e
line_kind kind.Exclusion cells more e = exclusion_kind cells more e
line_kind kind.LeftOut cells more e = left_out_kind cells more e
line_kind kind.PackageOfFile cells more e = package_of_file_kind cells more e
line_kind kind.PackageReasonOfFile cells more e = reason_of_file_kind cells more e
