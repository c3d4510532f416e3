-- The partners of old paragraphs by their releases.
use Rattle.std.specs.Prelude.{◌≡◌, ℕ, Bool, true, List, length, map, Option}
use Rattle.std.specs.List.{list_all}
use Rattle.std.specs.Option.{is_none}
use Rattle.deb_diff.specs.Differences.{place}
use Rattle.deb_diff.specs.Items.{Item, release}
use Rattle.deb_diff.specs.Partners.{after_keys, partners_of}
use Rattle.deb_diff.specs.Pools.{pick, waiting_in}
use Rattle.deb_diff.specs.Walks.{all_of, left_after_all}
use Rattle.deb_diff.specs.declared.pairing.Outcome.{Outcome}
use Rattle.deb_diff.specs.declared.pairing.Partners.{Partners}

-- At first all new ones wait.
pub record PairsByRelease (items others : List Item) (partners : Partners) : Type 0 where
  pub flags : List Bool
  pub length_is : length flags ≡ length others
  pub all : list_all (λ wait. wait) flags ≡ true
  pub found : partners.found.items ≡ partners_of release (map release items) (pick 0 others flags)
  pub left : pick 0 others partners.waits.items
      ≡ after_keys release (map release items) (pick 0 others flags)

-- Then those that have no partner take new ones that wait, by their places among these.
pub record PairsByPlace (items others : List Item) (found : List (Option ℕ)) (waits : List Bool)
    (outcome : Outcome) : Type 0 where
  pub became : outcome.became.items
      ≡ all_of (place (waiting_in others waits)) found
      (map (place (waiting_in items (map is_none found))) items) (pick 0 others waits)
  pub left : pick 0 others outcome.waits.items
      ≡ left_after_all (place (waiting_in others waits)) found
      (map (place (waiting_in items (map is_none found))) items) (pick 0 others waits)
