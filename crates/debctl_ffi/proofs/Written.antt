-- What is written to an empty sink is what it holds.
use Rattle.std.proofs.Common.{◌≡◌, ℕ, List, [], Some, subst}
use Rattle.std.specs.Prelude.{Option}
use Rattle.std.specs.Io.KnownBytes.{Appends}

pub written_whole : (old new : Option (List ℕ)) (bytes items : List ℕ) → old ≡ Some [] → new ≡ Some items
    → Appends old new bytes → items ≡ bytes
written_whole old new bytes items empty held appends =
    subst (λ after. Appends (Some []) after bytes) held (subst (λ before. Appends before new bytes) empty appends)
