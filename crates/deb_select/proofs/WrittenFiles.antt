-- What is written of two files, one after the other.
use Rattle.std.proofs.Common.{◌≡◌, List, [], ◌∷◌, ◌++◌, length, refl, sym, ap, ◌∙◌, append_assoc, arith}
use Rattle.deb_syntax.specs.Lines.{Paragraph}
use Rattle.deb_control.specs.Documents.{Meaning}
use Rattle.deb_select.specs.Conditions.{SelectionMeaning, selects}
use Rattle.deb_select.specs.Laws.{FilesFollow}
use Rattle.deb_select.specs.Written.{chosen, one_if, written_after}
use Rattle.deb_select.proofs.WrittenTexts.{written_after-append}

chosen-append : (selection : SelectionMeaning) (first second : Meaning) (ps qs : List Paragraph) → length first ≡ length ps → chosen selection (first ++ second) (ps ++ qs) ≡ chosen selection first ps ++ chosen selection second qs
chosen-append selection [] second [] qs same = refl
chosen-append selection [] second (p ∷ ps) qs same = absurd (cc)
chosen-append selection (values ∷ first) second [] qs same = absurd (cc)
chosen-append selection (values ∷ first) second (p ∷ ps) qs same =
    ap (λ l. one_if (selects selection values) p ++ l) (chosen-append selection first second ps qs (omega (arith, same)))
    ∙ sym (append_assoc (one_if (selects selection values) p) (chosen selection first ps) (chosen selection second qs))

pub files_follow : FilesFollow
files_follow selection begun first second ps qs same =
    ap (written_after begun) (chosen-append selection first second ps qs same) ∙ written_after-append begun (chosen selection first ps) (chosen selection second qs)
