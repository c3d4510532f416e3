-- The words of a paragraph after one more of its fields.
use Rattle.std.proofs.Common.{◌≡◌, ℕ, ◌<◌, ◌==◌, Bool, true, false, cond, List, [], ◌∷◌, ◌++◌, Option, Some, codes, refl, sym, ap, ◌∙◌, arith}
use Rattle.std.proofs.lemmas.List.Sums.{fold-append}
use Rattle.std.specs.Str.{bytes_eq}
use Rattle.deb_base.specs.Kinds.{known_row, row_count}
use Rattle.deb_base.specs.Names.{folded}
use Rattle.deb_base.proofs.FieldLookups.{same_rows}
use Rattle.deb_field.specs.Values.{ValueMeaning}
use Rattle.deb_control.specs.ShownValues.{none_shown, shown_of, shown_with}
use Rattle.deb_control.specs.Visiting.{Visit}

pub known : (known_row (codes "Package") < row_count) × (known_row (codes "Architecture") < row_count) × (known_row (codes "Version") < row_count)
unfolding known_row
known = (omega arith, omega arith, omega arith)

-- what is kept of the value under a name, after one more field in a row
pub word-next : (word : Option ValueMeaning → List ℕ) (name : List ℕ) → known_row name < row_count → (visited : List Visit) (visit : Visit) (row : ℕ) (before now : List ℕ) → row ≡ known_row visit.0.name → before ≡ word (shown_of visited name) → now ≡ cond (row == known_row name) (word (Some visit.1)) before → now ≡ word (shown_of (visited ++ visit ∷ []) name)
word-next word name within visited visit row before now is kept next =
    next
    ∙ ap (λ t. cond t (word (Some visit.1)) before) test
    ∙ go (bytes_eq (folded visit.0.name) (folded name))
    ∙ ap (λ shown. word (shown name)) (sym (fold-append (λ shown v. shown_with v.0.name v.1 shown) none_shown visited (visit ∷ [])))
  where
    test : (row == known_row name) ≡ bytes_eq (folded visit.0.name) (folded name)
    test = ap (λ r. r == known_row name) is ∙ sym (same_rows visit.0.name name within)

    go : (t : Bool) → cond t (word (Some visit.1)) before ≡ word (cond t (Some visit.1) (shown_of visited name))
    go true = refl
    go false = kept
