-- What became of paragraphs that are kept.
use Rattle.std.specs.Prelude.{◌≡◌, ℕ, List, [], ◌∷◌, Some}
use Rattle.std.specs.List.{slice_get}
use Rattle.deb_diff.specs.Cuts.{AreCut}
use Rattle.deb_diff.specs.Differences.{Changed, Fate, Removed, Upgraded}
use Rattle.deb_diff.specs.Items.{Item}
use Rattle.deb_diff.specs.Kepts.{IsKept}
use Rattle.deb_diff.specs.declared.became.Became.{Became}
use Rattle.deb_diff.specs.declared.became.Became.TheVariants as became
use Rattle.deb_diff.specs.declared.kept.Kept.{Kept}

-- The paragraph is kept, and its text can be cut into its fields.
pub record IsWhole (kept : Kept) (item : Item) : Type 0 where
  pub is_kept : IsKept kept item
  pub cut : AreCut item.bodies

-- The paragraph of this number is kept.
pub record IsAt (new : List Kept) (number : ℕ) (item : Item) : Type 0 where
  pub kept : Kept
  pub found : slice_get new number ≡ Some kept
  pub whole : IsWhole kept item

abbrev pub IsFated : Kept → Became → List Kept → Item × Fate → Type 0
IsFated kept became.Nothing new (item, Removed) = IsWhole kept item
IsFated kept became.Nothing new (item, Changed other) = ⊥
IsFated kept became.Nothing new (item, Upgraded other) = ⊥
IsFated kept (became.Changed number) new (item, Removed) = ⊥
IsFated kept (became.Changed number) new (item, Changed other) =
    IsWhole kept item × IsAt new number other
IsFated kept (became.Changed number) new (item, Upgraded other) = ⊥
IsFated kept (became.Upgraded number) new (item, Removed) = ⊥
IsFated kept (became.Upgraded number) new (item, Changed other) = ⊥
IsFated kept (became.Upgraded number) new (item, Upgraded other) =
    IsWhole kept item × IsAt new number other

abbrev pub AreFated : List Kept → List Became → List Kept → List (Item × Fate) → Type 0
AreFated [] became new [] = Unit {0}
AreFated [] became new (fate ∷ fates) = ⊥
AreFated (kept ∷ old) [] new fates = ⊥
AreFated (kept ∷ old) (one ∷ became) new [] = ⊥
AreFated (kept ∷ old) (one ∷ became) new (fate ∷ fates) =
    IsFated kept one new fate × AreFated old became new fates
