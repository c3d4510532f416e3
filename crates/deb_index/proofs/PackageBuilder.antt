-- The word of Multi-Arch among the values that were visited.
use Rattle.std.proofs.Common.{◌≡◌, ℕ, ◌<◌, ◌==◌, Bool, true, false, cond, List, [], ◌∷◌, ◌++◌, Option, Some, codes, refl, sym, ap, ◌∙◌, arith}
use Rattle.std.proofs.lemmas.List.Sums.{fold-append}
use Rattle.std.specs.Str.{bytes_eq}
use Rattle.deb_base.specs.Kinds.{known_row, row_count}
use Rattle.deb_base.specs.Names.{folded}
use Rattle.deb_base.proofs.FieldLookups.{same_rows}
use Rattle.deb_field.specs.declared.flag.MultiArch.{MultiArch}
use Rattle.deb_control.specs.ShownValues.{none_shown, shown_of, shown_with}
use Rattle.deb_control.specs.Visiting.{Visit}
use Rattle.deb_index.specs.PackageBuilder.{multi_arch_in, multi_arch_of}

multi_arch_known : known_row (codes "Multi-Arch") < row_count
unfolding known_row
multi_arch_known = omega arith

-- after one more field, in a row
pub word-next : (visited : List Visit) (visit : Visit) (row : ℕ) (before : Option MultiArch) → row ≡ known_row visit.0.name → before ≡ multi_arch_of (shown_of visited (codes "Multi-Arch")) → cond (row == known_row (codes "Multi-Arch")) (multi_arch_in visit.1) before ≡ multi_arch_of (shown_of (visited ++ visit ∷ []) (codes "Multi-Arch"))
word-next visited visit row before is kept =
    ap (λ t. cond t (multi_arch_in visit.1) before) test
    ∙ go (bytes_eq (folded visit.0.name) (folded (codes "Multi-Arch")))
    ∙ ap (λ shown. multi_arch_of (shown (codes "Multi-Arch"))) (sym (fold-append (λ shown v. shown_with v.0.name v.1 shown) none_shown visited (visit ∷ [])))
  where
    test : (row == known_row (codes "Multi-Arch")) ≡ bytes_eq (folded visit.0.name) (folded (codes "Multi-Arch"))
    test = ap (λ r. r == known_row (codes "Multi-Arch")) is ∙ sym (same_rows visit.0.name (codes "Multi-Arch") multi_arch_known)

    go : (t : Bool) → cond t (multi_arch_in visit.1) before ≡ multi_arch_of (cond t (Some visit.1) (shown_of visited (codes "Multi-Arch")))
    go true = refl
    go false = kept
