-- The cells of each kind end before the text after them, and each kind is among those of its form.
use Rattle.std.proofs.Common.{◌≡◌, ◌⊎◌, ◌∙◌, ℕ, true, false, cond, not, List, [], ◌∷◌, ◌++◌, refl, sym, ap, inl, inr}
use Rattle.std.specs.Prelude.{◌==◌, ◌&&◌, ◌||◌, codes}
use Rattle.std.specs.Char.{is_ascii_digit}
use Rattle.std.proofs.lemmas.Bool.{cases_Bool, and_parts, false≢true}
use Rattle.deb_rows.specs.Cells.{begins_with_by, cell_of, is_cell, is_unstopped, stops}
use Rattle.deb_rows.specs.Kinds.{Piece, any_text, field_and_excluded, field_and_group, file_last, form_of, group_and_candidates, kinds_of, package_and, package_before, package_last, package_twice, phrase_and_file, phrase_last, pieces_of, word_and_text}
use Rattle.deb_rows.specs.Rows.{are_cells, cells_text}
use Rattle.deb_rows.specs.declared.cell.Class.{Class}
use Rattle.deb_rows.specs.declared.cell.Class.TheVariants.{Number, Word, Key, Alternative, Reason, Line, Group, Phrase, Place}
use Rattle.deb_rows.specs.declared.form.Form.{Form}
use Rattle.deb_rows.specs.declared.form.Form.TheVariants as form
use Rattle.deb_rows.specs.declared.kind.RowKind.{RowKind}
use Rattle.deb_rows.specs.declared.kind.RowKind.TheVariants as kind
use Rattle.deb_rows.proofs.Ends.{Closes}
use Rattle.deb_rows.proofs.Found.{Close}

pub number_space : (more : List ℕ) → Closes Number (codes " " ++ more)
number_space more = record { empty = refl; same = λ b bs. refl }

pub number_line : (more : List ℕ) → Closes Number (codes "\n" ++ more)
number_line more = record { empty = refl; same = λ b bs. refl }

pub number_comma : (more : List ℕ) → Closes Number (codes ", " ++ more)
number_comma more = record { empty = refl; same = λ b bs. refl }

number_refused : (more : List ℕ) → Closes Number (codes " refused\n" ++ more)
number_refused more = record { empty = refl; same = λ b bs. refl }

pub word_space : (more : List ℕ) → Closes Word (codes " " ++ more)
word_space more = record { empty = refl; same = λ b bs. refl }

pub word_last : (more : List ℕ) → Closes Word (codes "\n" ++ more)
word_last more = record { empty = refl; same = λ b bs. refl }

pub word_needs : (more : List ℕ) → Closes Word (codes " needs " ++ more)
word_needs more = record { empty = refl; same = λ b bs. refl }

pub word_excludes : (more : List ℕ) → Closes Word (codes " excludes " ++ more)
word_excludes more = record { empty = refl; same = λ b bs. refl }

pub word_left_out : (more : List ℕ) → Closes Word (codes " is left out\n" ++ more)
word_left_out more = record { empty = refl; same = λ b bs. refl }

pub word_at : (more : List ℕ) → Closes Word (codes " @" ++ more)
word_at more = record { empty = refl; same = λ b bs. refl }

place_line : (more : List ℕ) → Closes Place (codes "\n" ++ more)
place_line more = record { empty = refl; same = λ b bs. refl }

phrase_same_line : (more : List ℕ) (b : ℕ) (bs : List ℕ) → stops Phrase b (bs ++ (codes "\n" ++ more)) ≡ stops Phrase b bs
phrase_same_line more b [] = refl
phrase_same_line more b (c ∷ cs) = refl

pub phrase_line : (more : List ℕ) → Closes Phrase (codes "\n" ++ more)
phrase_line more = record { empty = refl; same = phrase_same_line more }

phrase_same_at : (more : List ℕ) (b : ℕ) (bs : List ℕ) → stops Phrase b (bs ++ (codes " @" ++ more)) ≡ stops Phrase b bs
phrase_same_at more b [] = refl
phrase_same_at more b (c ∷ cs) = refl

pub phrase_at : (more : List ℕ) → Closes Phrase (codes " @" ++ more)
phrase_at more = record { empty = refl; same = phrase_same_at more }

word_with : (more : List ℕ) → Closes Word (codes " with " ++ more)
word_with more = record { empty = refl; same = λ b bs. refl }

pub key_colon : (more : List ℕ) → Closes Key (codes ": " ++ more)
key_colon more = record { empty = refl; same = λ b bs. refl }

alternative_same : (more : List ℕ) (b : ℕ) (bs : List ℕ) → stops Alternative b (bs ++ (codes ": " ++ more)) ≡ stops Alternative b bs
alternative_same more b [] = refl
alternative_same more b (c ∷ cs) = refl

pub alternative_colon : (more : List ℕ) → Closes Alternative (codes ": " ++ more)
alternative_colon more = record { empty = refl; same = alternative_same more }

reason_line : (more : List ℕ) → Closes Reason (codes "\n" ++ more)
reason_line more = record { empty = refl; same = λ b bs. refl }

text_line : (more : List ℕ) → Closes Line (codes "\n" ++ more)
text_line more = record { empty = refl; same = λ b bs. refl }

-- `by` goes on no further than it does where these follow
by_before_line : (bs more : List ℕ) → begins_with_by (bs ++ (codes "\n" ++ more)) ≡ begins_with_by bs
by_before_line [] more = refl
by_before_line (a ∷ []) more = refl
by_before_line (a ∷ b ∷ []) more = refl
by_before_line (a ∷ b ∷ c ∷ []) more = refl
by_before_line (a ∷ b ∷ c ∷ d ∷ ds) more = refl

by_before_by : (bs more : List ℕ) → begins_with_by (bs ++ (codes " by " ++ more)) ≡ begins_with_by bs
by_before_by [] more = refl
by_before_by (a ∷ []) more = refl
by_before_by (a ∷ b ∷ []) more = refl
by_before_by (a ∷ b ∷ c ∷ []) more = refl
by_before_by (a ∷ b ∷ c ∷ d ∷ ds) more = refl

pub group_line : (more : List ℕ) → Closes Group (codes "\n" ++ more)
group_line more = record {
  empty = refl;
  same = λ b bs. ap (λ t. b == 10 || b == 32 && t) (by_before_line bs more);
}

first_digit : (d : ℕ) (ds : List ℕ) (pieces : List Piece) (cells : List (List ℕ))
    → are_cells ((Number, codes " ") ∷ pieces) ((d ∷ ds) ∷ cells) ≡ true → is_ascii_digit d ≡ true
first_digit d ds pieces cells are = elim (cases_Bool (is_ascii_digit d)) [
  | inl e ↦ e
  | inr e ↦
      let free = (and_parts (is_unstopped Number (d ∷ ds)) true (and_parts (is_cell Number (d ∷ ds)) (are_cells pieces cells) are).0).0 in
      absurd (false≢true (ap (λ t. cond (not t) false (is_unstopped Number ds)) (sym e) ∙ free))
]

-- a group ends before `by` and a number
pub group_by : (pieces : List Piece) (cells : List (List ℕ)) (more : List ℕ)
    → are_cells ((Number, codes " ") ∷ pieces) cells ≡ true
    → Closes Group (codes " by " ++ (cells_text ((Number, codes " ") ∷ pieces) cells ++ more))
group_by pieces [] more are = absurd (false≢true are)
group_by pieces ([] ∷ cells) more are = absurd (false≢true are)
group_by pieces ((d ∷ ds) ∷ cells) more are =
    let rest = (ds ++ (codes " " ++ cells_text pieces cells)) ++ more in
    let digit : is_ascii_digit d ≡ true = first_digit d ds pieces cells are in
    record {
      empty = ap (λ t. cond t [] (32 ∷ cell_of Group (codes "by " ++ (d ∷ rest)))) digit;
      same = λ b bs. ap (λ t. b == 10 || b == 32 && t) (by_before_by bs (d ∷ rest));
    }

-- whatever cells follow
always : (class : Class) (after : List ℕ) (pieces : List Piece) → ((more : List ℕ) → Closes class (after ++ more)) → (cells : List (List ℕ)) (more : List ℕ)
    → are_cells pieces cells ≡ true → Closes class (after ++ (cells_text pieces cells ++ more))
always class after pieces closes cells more are = closes (cells_text pieces cells ++ more)

number_first : (pieces : List Piece) → Close pieces → Close ((Number, codes " ") ∷ pieces)
number_first pieces close = (always Number (codes " ") pieces number_space, close)

pub word_first : (pieces : List Piece) → Close pieces → Close ((Word, codes " ") ∷ pieces)
word_first pieces close = (always Word (codes " ") pieces word_space, close)

text_closes : Close any_text
text_closes = (always Line (codes "\n") [] text_line, tt)

last_closes : Close ((Word, codes "\n") ∷ [])
last_closes = (always Word (codes "\n") [] word_last, tt)

package_closes : Close package_last
package_closes =
    number_first ((Word, codes " ") ∷ (Word, codes " ") ∷ (Word, codes "\n") ∷ [])
    (word_first ((Word, codes " ") ∷ (Word, codes "\n") ∷ []) (word_first ((Word, codes "\n") ∷ []) last_closes))

package_and_closes : (pieces : List Piece) → Close pieces → Close (package_and pieces)
package_and_closes pieces close =
    number_first ((Word, codes " ") ∷ (Word, codes " ") ∷ (Word, codes " ") ∷ pieces)
    (word_first ((Word, codes " ") ∷ (Word, codes " ") ∷ pieces) (word_first ((Word, codes " ") ∷ pieces) (word_first pieces close)))

word_and_text_closes : Close word_and_text
word_and_text_closes = word_first any_text text_closes

group_closes : Close field_and_group
group_closes = word_first ((Group, codes "\n") ∷ []) (always Group (codes "\n") [] group_line, tt)

excluded_closes : Close field_and_excluded
excluded_closes =
    word_first ((Group, codes " by ") ∷ package_last)
    (group_by ((Word, codes " ") ∷ (Word, codes " ") ∷ (Word, codes "\n") ∷ []), package_closes)

twice_closes : Close package_twice
twice_closes =
    let last : List Piece = (Word, codes " ") ∷ (Word, codes "\n") ∷ [] in
    let rest : List Piece = (Number, codes " ") ∷ last in
    let with : Piece = (Word, codes " with ") in
    number_first ((Word, codes " ") ∷ (Word, codes " ") ∷ with ∷ rest)
    (word_first ((Word, codes " ") ∷ with ∷ rest)
    (word_first (with ∷ rest)
    (always Word (codes " with ") rest word_with, number_first last (word_first ((Word, codes "\n") ∷ []) last_closes))))

before_closes : (after : List ℕ) (pieces : List Piece)
    → ((more : List ℕ) → Closes Word (after ++ more)) → Close pieces
    → Close (package_before after pieces)
before_closes after pieces closes close =
    let last : Piece = (Word, after) in
    number_first ((Word, codes " ") ∷ (Word, codes " ") ∷ last ∷ pieces)
    (word_first ((Word, codes " ") ∷ last ∷ pieces)
    (word_first (last ∷ pieces) (always Word after pieces closes, close)))

phrase_closes : Close phrase_last
phrase_closes = (always Phrase (codes "\n") [] phrase_line, tt)

file_closes : Close file_last
file_closes = (always Place (codes "\n") [] place_line, tt)

phrase_and_file_close : Close phrase_and_file
phrase_and_file_close = (always Phrase (codes " @") file_last phrase_at, file_closes)

candidates_close : Close group_and_candidates
candidates_close = (always Alternative (codes ": ") any_text alternative_colon, text_closes)

pub cells_close : (kind : RowKind) → Close (pieces_of kind)
cells_close kind.Met = text_closes
cells_close kind.Unmet = text_closes
cells_close kind.Ignored = text_closes
cells_close kind.Package = package_closes
cells_close kind.Reason =
    (always Alternative (codes ": ") ((Reason, codes "\n") ∷ []) alternative_colon, (always Reason (codes "\n") [] reason_line, tt))
cells_close kind.PackageReason = (always Alternative (codes ": ") (package_and phrase_last) alternative_colon, package_and_closes phrase_last phrase_closes)
cells_close kind.UnmetGroup = package_and_closes word_and_text word_and_text_closes
cells_close kind.UnsureGroup = package_and_closes word_and_text word_and_text_closes
cells_close kind.Removed = package_closes
cells_close kind.Changed = package_and_closes any_text text_closes
cells_close kind.Upgraded = package_and_closes word_and_text word_and_text_closes
cells_close kind.Added = package_closes
cells_close kind.OldLine = text_closes
cells_close kind.NewLine = text_closes
cells_close kind.Key = (always Key (codes ": ") any_text key_colon, text_closes)
cells_close kind.End = tt
cells_close kind.Count = (always Number (codes "\n") [] number_line, tt)
cells_close kind.Summary =
    (always Number (codes ", ") ((Number, codes " refused\n") ∷ []) number_comma, (always Number (codes " refused\n") [] number_refused, tt))
cells_close kind.Valid = tt
cells_close kind.Downgraded = package_and_closes word_and_text word_and_text_closes
cells_close kind.UnmetNeed = package_and_closes field_and_group group_closes
cells_close kind.UnsureNeed = package_and_closes field_and_group group_closes
cells_close kind.Conflict = package_and_closes field_and_excluded excluded_closes
cells_close kind.UnsureConflict = package_and_closes field_and_excluded excluded_closes
cells_close kind.Duplicate = twice_closes
cells_close kind.State = package_and_closes any_text text_closes
cells_close kind.Uninstallable = package_closes
cells_close kind.Unsure = package_closes
cells_close kind.Undecided = package_closes
cells_close kind.Need =
    before_closes (codes " needs ") group_and_candidates word_needs candidates_close
cells_close kind.Exclusion =
    before_closes (codes " excludes ") package_last word_excludes package_closes
cells_close kind.LeftOut = before_closes (codes " is left out\n") [] word_left_out tt
cells_close kind.PackageOfFile = before_closes (codes " @") file_last word_at file_closes
cells_close kind.PackageReasonOfFile =
    (always Alternative (codes ": ") (package_and phrase_and_file) alternative_colon, package_and_closes phrase_and_file phrase_and_file_close)

-- a kind is one of these
abbrev pub IsAmong : RowKind → List RowKind → Type 0
IsAmong kind [] = ⊥
IsAmong kind (one ∷ more) = (kind ≡ one) ⊎ IsAmong kind more

pub is_among : (kind : RowKind) → IsAmong kind (kinds_of (form_of kind))
is_among kind.Met = inl refl
is_among kind.Unmet = inr (inl refl)
is_among kind.Ignored = inr (inr (inl refl))
is_among kind.Package = inr (inr (inr (inl refl)))
is_among kind.Reason = inr (inr (inr (inr (inl refl))))
is_among kind.PackageReason = inr (inr (inr (inr (inr (inl refl)))))
is_among kind.UnmetGroup = inl refl
is_among kind.UnsureGroup = inr (inl refl)
is_among kind.Removed = inl refl
is_among kind.Changed = inr (inl refl)
is_among kind.Upgraded = inr (inr (inl refl))
is_among kind.Added = inr (inr (inr (inl refl)))
is_among kind.OldLine = inr (inr (inr (inr (inl refl))))
is_among kind.NewLine = inr (inr (inr (inr (inr (inl refl)))))
is_among kind.Key = inl refl
is_among kind.End = inr (inl refl)
is_among kind.Count = inr (inr (inl refl))
is_among kind.Summary = inr (inr (inr (inl refl)))
is_among kind.Valid = inr (inr (inr (inr (inl refl))))
is_among kind.Downgraded = inr (inr (inr (inr (inr (inr (inl refl))))))
is_among kind.UnmetNeed = inl refl
is_among kind.UnsureNeed = inr (inl refl)
is_among kind.Conflict = inr (inr (inl refl))
is_among kind.UnsureConflict = inr (inr (inr (inl refl)))
is_among kind.Duplicate = inr (inr (inr (inr (inl refl))))
is_among kind.State = inr (inr (inr (inr (inr (inl refl)))))
is_among kind.Uninstallable = inl refl
is_among kind.Unsure = inr (inl refl)
is_among kind.Undecided = inr (inr (inl refl))
is_among kind.Need = inr (inr (inr (inl refl)))
is_among kind.Exclusion = inr (inr (inr (inr (inl refl))))
is_among kind.LeftOut = inr (inr (inr (inr (inr (inl refl)))))
is_among kind.PackageOfFile = inr (inr (inr (inr (inr (inr (inl refl))))))
is_among kind.PackageReasonOfFile = inr (inr (inr (inr (inr (inr (inr (inl refl)))))))

-- these kinds are of a form
abbrev pub AreOf : Form → List RowKind → Type 0
AreOf form [] = Unit {0}
AreOf form (kind ∷ kinds) = (form_of kind ≡ form) × AreOf form kinds

pub are_of_form : (form : Form) → AreOf form (kinds_of form)
are_of_form form.Report = (refl, (refl, (refl, (refl, (refl, (refl, (refl, (refl, tt))))))))
are_of_form form.UnmetLines = (refl, (refl, tt))
are_of_form form.DiffLines = (refl, (refl, (refl, (refl, (refl, (refl, (refl, tt)))))))
are_of_form form.Explanation = (refl, (refl, (refl, (refl, (refl, tt)))))
are_of_form form.HealthLines = (refl, (refl, (refl, (refl, (refl, (refl, tt))))))
are_of_form form.InstallableLines = (refl, (refl, (refl, (refl, (refl, (refl, tt))))))
