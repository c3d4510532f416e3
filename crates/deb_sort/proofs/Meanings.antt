-- Runs of lines are sorted by the versions in their texts.
use Rattle.std.proofs.Common.{Bool, true, false, List, ℕ}
use Rattle.std.specs.Cmp.{IsStrictWeakOrder}
use Rattle.std.specs.List.Sorted.{IsPermutation, IsSortedBy, IsStableBy}
use Rattle.std.proofs.lemmas.List.Sorted.{IsStrictWeakOrder-flip, ranks_by}
use Rattle.deb_base.specs.Bodies.{Line}
use Rattle.deb_sort.proofs.Joined.{flat-permutation}
use Rattle.deb_sort.proofs.Repeated.{sorted-repeated, stable-repeated}
use Rattle.deb_sort.specs.Sorting.{is_earlier, stands_before, Sorts}
use Rattle.deb_sort.specs.VersionLines.{lines_of_runs, run_lines}
use Rattle.deb_sort.specs.declared.equal_lines.EqualLines.{EqualLines}
use Rattle.deb_version.specs.OrderLemmas.{version_total}
use Rattle.deb_version.specs.Kept.{text_of}
use Rattle.deb_version.specs.Places.{version_in}

-- the text of each line of a run, and how many they are
abbrev text : EqualLines → Line
text run = text_of run.line

abbrev count : EqualLines → ℕ
count run = run.count

-- the order of runs by their versions, and its reverse
abbrev pub by_version : Bool → EqualLines → EqualLines → Bool
by_version reverse a b = stands_before reverse (text a) (text b)

pub by_version_is_weak : (reverse : Bool) → IsStrictWeakOrder (by_version reverse)
by_version_is_weak false = ranks_by version_total (λ run. version_in (text run))
by_version_is_weak true = IsStrictWeakOrder-flip (by_version false) (ranks_by version_total (λ run. version_in (text run)))

stands_before_is_weak : (reverse : Bool) → IsStrictWeakOrder (stands_before reverse)
stands_before_is_weak false = ranks_by version_total version_in
stands_before_is_weak true = IsStrictWeakOrder-flip is_earlier (ranks_by version_total version_in)

-- the lines of runs that are sorted by their versions are sorted
pub sorts : (reverse : Bool) (runs sorted : List EqualLines) → IsPermutation runs sorted → IsSortedBy (by_version reverse) sorted → IsStableBy (by_version reverse) runs sorted
    → Sorts reverse (lines_of_runs runs) (lines_of_runs sorted)
sorts reverse runs sorted moved ordered stable = record {
  same_lines = flat-permutation run_lines runs sorted moved;
  in_order = sorted-repeated (stands_before_is_weak reverse) text count (by_version_is_weak reverse) sorted ordered;
  stable = stable-repeated (stands_before_is_weak reverse) text count runs sorted stable;
}
