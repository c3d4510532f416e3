-- The lines of a set as marks, and as a list of numbers.
use Rattle.std.proofs.Common.{◌≡◌, ℕ, ◌+◌, ◌<◌, Bool, cond, List, [], ◌∷◌, ◌++◌, length, refl, ap, ap₂, arith}
use Rattle.deb_index.specs.Listed.{Listed}
use Rattle.deb_index.specs.ReportText.{canonical_version, package_line}
use Rattle.deb_solve.specs.Health.{is_among}
use Rattle.deb_solve.specs.Marks.{AreMarks, marked}
use Rattle.deb_install.specs.Answers.{lines_from}
use Rattle.deb_install.specs.Witnesses.{member_line, set_lines}

same-from : (set other : ℕ → Bool) (n : ℕ) (packages : List Listed) → ((p : ℕ) → p < n + length packages → set p ≡ other p) → lines_from (member_line set) n packages ≡ lines_from (member_line other) n packages
same-from set other n [] same = refl
same-from set other n (p ∷ packages) same =
    ap₂ (λ line rest. line ++ rest)
    (ap (λ b. cond b (package_line canonical_version (n, p)) []) (same n (omega arith)))
    (same-from set other (n + 1) packages (λ q below. same q (omega (arith, below))))

pub same-lines : (packages : List Listed) (marks : List Bool) (members : List ℕ) (count : ℕ) → count ≡ length packages → AreMarks marks members (count + 1) → set_lines (marked marks) packages ≡ set_lines (is_among members) packages
same-lines packages marks members count long are =
    same-from (marked marks) (is_among members) 1 packages (λ p below. are.same p (omega (arith, below, long)))
