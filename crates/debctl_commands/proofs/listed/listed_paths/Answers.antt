-- The parts are those of `split`, and the last one goes where it is empty.
use Rattle.std.proofs.Common.{rules, tests, ◌≡◌, ℕ, List, Bor, length, map, sym, ap, ◌∙◌, arith}
use Rattle.std.specs.Prelude.{◌==◌}
use Rattle.std.specs.List.{slice_split}
use Rattle.std.proofs.lemmas.Iterator.Consumers.{map_from_collect}
use Rattle.std.proofs.lemmas.Iterator.Splits.{YieldsList-from_slice_split}
use Rattle.std.proofs.lemmas.Result.{IfOk-at_ok}
use Rattle.deb_sort.proofs.LastPieces.{cut_last, kept_last, kept_none, without_empty_last}
use Rattle.debctl_commands.specs.ListedPaths.{paths_of}
use Rattle.debctl_commands.proofs.LastPaths.{paths_from_pieces}
use Rattle.debctl_commands.proofs.listed.listed_paths.Goals as goal
use Rattle.debctl_commands.proofs.listed.listed_paths.Goals.{then-count-gt0+then-is_empty, else-count-gt0, else-count-gt0-via-then-count-gt0+else-is_empty, else-count-gt0-via-else-count-gt0}

pub returns : goal.returns
returns c =
    let items = c.in_ok-paths.paths.items in
    let n = c.len-count.result in
    let list = c.args.list.now in
    let parts : map (λ (l : Bor (List ℕ)). l.now) items ≡ slice_split (λ b. b == 0) list =
    IfOk-at_ok _ c.in_ok-paths.was (map_from_collect _ c.collect.ensures.ran (YieldsList-from_slice_split _ _ list c.split.ensures.rest c.split.ensures.done c.split.ensures.closure (λ x r q k. search (rules, tests)))) in
    let count : n ≡ length items = omega (arith, c.len-count.ensures, c.in_ok-paths.paths.ok.0) in
    let of_pieces : without_empty_last (map (λ (l : Bor (List ℕ)). l.now) items) ≡ paths_of list =
    ap without_empty_last parts ∙ paths_from_pieces list in
    elim c.if-count-gt0.branch [
      | then-count-gt0+then-is_empty w ↦
          ap (λ v. map (λ (l : Bor (List ℕ)). l.now) v.items) w.paths-is ∙ ap (map (λ (l : Bor (List ℕ)). l.now)) w.truncate.ensures.items
          ∙ cut_last items n w.index.result.now count w.if-count-gt0.true (ap (λ l. length l.now == 0) (sym w.index.ensures) ∙ sym w.is_empty.ensures ∙ w.if-is_empty.true)
          ∙ of_pieces
      | else-count-gt0 w ↦ ap (λ v. map (λ (l : Bor (List ℕ)). l.now) v.items) w.paths-is ∙ elim w.else-count-gt0.branch [
        | else-count-gt0-via-then-count-gt0+else-is_empty w' ↦
            kept_last items n w'.index.result.now count w'.if-count-gt0.true (ap (λ l. length l.now == 0) (sym w'.index.ensures) ∙ sym w'.is_empty.ensures ∙ w'.if-is_empty.false)
            ∙ of_pieces
        | else-count-gt0-via-else-count-gt0 w' ↦ kept_none items n count w'.if-count-gt0.false ∙ of_pieces
      ]
    ]
