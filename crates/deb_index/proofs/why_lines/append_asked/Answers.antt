-- Each number is that of a package, and the packages of all numbers are those with the name.
use Rattle.std.proofs.Common.{◌≡◌, ◌≤◌, ◌==◌, ◌++◌, ℕ, List, length, ap, sym, subst, ◌∙◌}
use Rattle.std.specs.List.{All, flat_map}
use Rattle.std.proofs.lemmas.List.{take_all}
use Rattle.deb_relation.specs.Environments.{environment_of}
use Rattle.deb_relation.specs.Views.{alternative_of}
use Rattle.deb_index.specs.Indexes.{packages_of}
use Rattle.deb_index.specs.Listed.{Listed}
use Rattle.deb_index.specs.Named.{numbers_of}
use Rattle.deb_index.specs.Reports.{picked}
use Rattle.deb_index.specs.ShownVersions.{shown_by}
use Rattle.deb_index.specs.Why.{has_or_provides, package_reason}
use Rattle.deb_index.proofs.Picked.{numbers-listed}
use Rattle.deb_index.proofs.Reasoned.{lines-named, lines-nameless}
use Rattle.deb_index.proofs.why_lines.append_asked.Goals as goal

listed : (name : List ℕ) (packages : List Listed) (numbers : List ℕ) → numbers ≡ numbers_of (has_or_provides name) packages → All (λ k. (1 ≤ k) × (k ≤ length packages)) numbers
listed name packages numbers are = subst (All (λ k. (1 ≤ k) × (k ≤ length packages))) (sym are) (numbers-listed (has_or_provides name) packages)

pub numbered-package-requires-clause-from_one : goal.numbered-package-requires-clause-from_one
numbered-package-requires-clause-from_one c =
    (listed (alternative_of c.args.alternative.now).name (packages_of c.args.versions.index.now) c.deref-number-items.result.now c.loop-number.invariant.all c.loop-number.number-index 0 c.loop-number-test.true).0

pub numbered-package-requires-clause-within : goal.numbered-package-requires-clause-within
numbered-package-requires-clause-within c =
    (listed (alternative_of c.args.alternative.now).name (packages_of c.args.versions.index.now) c.deref-number-items.result.now c.loop-number.invariant.all c.loop-number.number-index 0 c.loop-number-test.true).1

pub returns-then-is_empty : goal.returns-then-is_empty
returns-then-is_empty c =
    let a = alternative_of c.args.alternative.now in
    rw (lines-nameless (shown_by c.args.versions) (environment_of c.args.environment.now) a (packages_of c.args.versions.index.now) c.in_ok-numbers.numbers.items (rw c.name.ensures at c.in_ok-numbers.ensures) (ap (λ n. n == 0) (sym c.in_ok-numbers.numbers.ok.0) ∙ sym c.is_empty.ensures ∙ c.if-is_empty.true))
    (rw (c.deref.ensures.value, c.in_ok-text.ensures) at c.append_nameless.ensures)

pub returns : goal.returns
returns c =
    let packages = packages_of c.args.versions.index.now in
    let environment = environment_of c.args.environment.now in
    let a = alternative_of c.args.alternative.now in
    let shown = shown_by c.args.versions in
    let write : List ℕ → List ℕ = λ numbers. c.args.out.now.items ++ flat_map (package_reason shown environment a) (flat_map (picked packages) numbers) in
    c.loop-number.invariant.so_far
    ∙ ap write (take_all c.loop-number.number-index c.deref-number-items.result.now c.loop-number-test.false)
    ∙ ap write c.deref-number-items.ensures.value
    ∙ ap (λ l. c.args.out.now.items ++ l) (sym (lines-named shown environment a packages c.in_ok-numbers.numbers.items (rw c.name.ensures at c.in_ok-numbers.ensures) (ap (λ n. n == 0) (sym c.in_ok-numbers.numbers.ok.0) ∙ sym c.is_empty.ensures ∙ c.if-is_empty.false)))
