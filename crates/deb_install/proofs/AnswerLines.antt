-- The lines of answers, package by package, and that answers by verdicts are true.
use Rattle.std.proofs.Common.{◌≡◌, ℕ, zero, suc, ◌+◌, ◌-◌, ◌<◌, ◌≤◌, if◌then◌else◌, List, [], ◌∷◌, ◌++◌, length, drop, get_or, None, Some, slice_get, append_assoc, append-nil, drop_of_length-le, refl, sym, ap, ◌∙◌, arith}
use Rattle.std.specs.List.{slice_index_or}
use Rattle.std.specs.Option.{option_map_or}
use Rattle.std.proofs.lemmas.List.{drop_more}
use Rattle.std.proofs.lemmas.Option.{slice_get-get_or}
use Rattle.deb_control.specs.Documents.{Meaning}
use Rattle.deb_health.specs.Lines.{line_at, listed}
use Rattle.deb_index.specs.Reports.{Numbered}
use Rattle.deb_index.specs.Listed.{Listed}
use Rattle.deb_index.specs.Named.{package_at}
use Rattle.deb_index.proofs.Numbered.{from-one}
use Rattle.deb_relation.specs.Applying.{Environment}
use Rattle.deb_solve.specs.declared.verdict.Verdict.{Verdict}
use Rattle.deb_solve.specs.declared.verdict.Verdict.TheVariants as solved
use Rattle.deb_install.specs.Terms.{Terms}
use Rattle.deb_install.specs.Answers.{AreAnswers, AreVerdictsIn, Says, answer_at, answer_by, lines_from}
use Rattle.deb_install.specs.declared.readings.Readings.TheVariants.{Every, One}

abbrev pub any : Listed
any = listed [] [] []

pub place : (packages : List Listed) (i : ℕ) → i < length packages → package_at (i + 1) packages ≡ Some (get_or packages i any)
place packages i within =
    ap (λ b. if b then None else slice_get packages ((i + 1) - 1)) (from-one (i + 1) (omega arith))
    ∙ ap (slice_get packages) (omega arith)
    ∙ slice_get-get_or packages i any within

-- the line of one package more
pub lines-next : (line : Numbered → List ℕ) (packages : List Listed) (i : ℕ) (out now all : List ℕ) → i < length packages → now ≡ out ++ line_at line packages (i + 1) → out ++ lines_from line (i + 1) (drop i packages) ≡ all → now ++ lines_from line ((i + 1) + 1) (drop (i + 1) packages) ≡ all
lines-next line packages i out now all within one before =
    let p = get_or packages i any in
    let rest = lines_from line ((i + 1) + 1) (drop (i + 1) packages) in
    ap (λ n. n ++ rest) (one ∙ ap (λ o. out ++ option_map_or (λ q. line (i + 1, q)) o []) (place packages i within))
    ∙ append_assoc out (line (i + 1, p)) rest
    ∙ ap (λ l. out ++ lines_from line (i + 1) l) (sym (drop_more packages i any within))
    ∙ before

-- the lines of all packages are written, after the last
pub lines-end : (line : Numbered → List ℕ) (packages : List Listed) (i : ℕ) (out all : List ℕ) → length packages ≤ i → out ++ lines_from line (i + 1) (drop i packages) ≡ all → out ≡ all
lines-end line packages i out all past before =
    sym (append-nil out)
    ∙ ap (λ left. out ++ lines_from line (i + 1) left) (sym (drop_of_length-le packages past))
    ∙ before

-- a verdict that is known is in the list
pub known-at : (verdicts : List Verdict) (n : ℕ) (v : Verdict) → (solved.Undecided ≡ v → ⊥) → slice_index_or verdicts n solved.Undecided ≡ v → slice_get verdicts n ≡ Some v
known-at [] n v known is = absurd (known is)
known-at (w ∷ verdicts) zero v known is = ap Some is
known-at (w ∷ verdicts) (suc n) v known is = known-at verdicts n v known is

module _ (t : Terms) (environment : Environment) (packages : List Listed) (meaning : Meaning) (every one : List Verdict) (in_every : AreVerdictsIn Every t environment packages meaning every) (in_one : AreVerdictsIn One t environment packages meaning one) where
  say : (number : ℕ) → 1 ≤ number → number ≤ length packages → (v w : Verdict) → slice_index_or every number solved.Undecided ≡ v → slice_index_or one number solved.Undecided ≡ w → Says (answer_by v w) t environment packages meaning number
  say number some most solved.Installable w is is_one = in_every.yes number some most (known-at every number solved.Installable (λ e. cc) is)
  say number some most solved.Undecided w is is_one = tt
  say number some most solved.Uninstallable solved.Installable is is_one =
      (in_one.yes number some most (known-at one number solved.Installable (λ e. cc) is_one), in_every.no number some most (known-at every number solved.Uninstallable (λ e. cc) is))
  say number some most solved.Uninstallable solved.Uninstallable is is_one = in_one.no number some most (known-at one number solved.Uninstallable (λ e. cc) is_one)
  say number some most solved.Uninstallable solved.Undecided is is_one = tt

  pub answers-true : AreAnswers t environment packages meaning (answer_at every one)
  answers-true number some most = say number some most (slice_index_or every number solved.Undecided) (slice_index_or one number solved.Undecided) refl refl
