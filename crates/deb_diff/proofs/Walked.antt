-- What became of the first old paragraphs.
use Rattle.std.proofs.Common.{◌≡◌, ℕ, List, ◌++◌, map, Option}
use Rattle.deb_diff.specs.Items.{Item}
use Rattle.deb_diff.specs.Pools.{IsPoolOf, left_in}
use Rattle.deb_diff.specs.Walks.{all_of, left_after_all}
use Rattle.deb_diff.specs.declared.became.Became.{Became}
use Rattle.deb_diff.specs.declared.pool.Pool.{Pool}

-- So far these became of the first ones, and the others are to come.
pub record SoFar (items : List Item) (key : Item → List ℕ) (partners : List (Option ℕ)) (keys : List (List ℕ)) (old : Pool) (made : List Became) (rest : List (Option ℕ)) (rest_keys : List (List ℕ)) (now : Pool) : Type 0 where
  pub became : made ++ all_of key rest rest_keys (left_in items now) ≡ all_of key partners keys (left_in items old)
  pub left : left_after_all key rest rest_keys (left_in items now) ≡ left_after_all key partners keys (left_in items old)
  pub is_pool : IsPoolOf (map key items) now
