-- The number is under the names so far.
use Rattle.std.proofs.Common.{◌≡◌, ℕ, List, cond, map, take}
use Rattle.std.specs.List.{list_any}
use Rattle.std.specs.Str.{bytes_eq}
use Rattle.deb_index.specs.Entries.{provision_at}
use Rattle.deb_index.specs.Maps.{EndInLast, numbers_under, put_last}
use Rattle.deb_index.proofs.names.Names.put_provided.Given as goal

abbrev pub invariant-loop-entry : goal.invariant-loop-entry
invariant-loop-entry l = record {
  lists : EndInLast l.self;
  numbers : (name : List ℕ) → numbers_under l.self name
      ≡ cond (list_any (λ p. bytes_eq p.name name) (map (provision_at l.text) (take l.entry-index l.entries))) (put_last l.number (numbers_under l.initial.self name)) (numbers_under l.initial.self name);
}
