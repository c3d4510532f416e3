-- Why a group has a line, by its alternatives one after another.
use Rattle.std.proofs.Common.{◌≡◌, Bool, true, false, cond, not, ◌&&◌, ◌||◌, List, [], ◌∷◌, ◌++◌, ℕ, Option, None, Some, is_none, refl, sym, ap, ◌∙◌}
use Rattle.std.specs.List.{list_any}
use Rattle.deb_version.proofs.CutLemmas.{list_any-at}
use Rattle.deb_relation.specs.Applying.{Environment}
use Rattle.deb_relation.specs.Meaning.{Alternative, Group}
use Rattle.deb_relation.specs.Texts.{group_text}
use Rattle.deb_index.proofs.Joined.{any-one}
use Rattle.deb_index.specs.Listed.{Listed}
use Rattle.deb_unmet.specs.Readings.{applies_by, may, surely}
use Rattle.deb_unmet.specs.Scopes.{plain}
use Rattle.deb_unmet.specs.SoFar.{trouble_by, unless_met}
use Rattle.deb_unmet.specs.Files.{is_nothing}
use Rattle.deb_unmet.specs.Troubles.{can_be_otherwise, group_lines, is_met, trouble, trouble_line}
use Rattle.deb_unmet.specs.declared.trouble.Trouble.{Trouble}
use Rattle.deb_unmet.specs.declared.applying.Applies.{Applies}
use Rattle.deb_unmet.specs.declared.applying.Applies.TheVariants.{Surely, Maybe, Never}
use Rattle.deb_unmet.specs.declared.group.Readings.{Readings as SoFar}
use Rattle.deb_unmet.specs.declared.trouble.Trouble.TheVariants.{Unmet, Unsure}

abbrev with_one : Applies → Bool → SoFar → SoFar
with_one x m so_far = record { unmet = so_far.unmet || (may x && not m); met = so_far.met || (may x && m); applies = so_far.applies || surely x }

some-same : (a b : SoFar) → Some a ≡ Some b → a ≡ b
some-same a b e = cc

never-none : (a : SoFar) → None ≡ Some a → false ≡ true
never-none a e = absurd cc

-- one that doesn't decide, and one that does
goes-on : (x : Applies) (m : Bool) (so_far now : SoFar) → unless_met x m so_far ≡ Some now → ((surely x && m) ≡ false) × (now ≡ with_one x m so_far)
goes-on Surely true so_far now e = (sym (never-none now e), absurd cc)
goes-on Surely false so_far now e = (refl, sym (some-same _ _ e))
goes-on Maybe true so_far now e = (refl, sym (some-same _ _ e))
goes-on Maybe false so_far now e = (refl, sym (some-same _ _ e))
goes-on Never m so_far now e = (refl, sym (some-same _ _ e))

decides : (x : Applies) (m : Bool) (so_far : SoFar) → unless_met x m so_far ≡ None → (surely x && m) ≡ true
decides Surely true so_far e = refl
decides Surely false so_far e = absurd cc
decides Maybe m so_far e = absurd cc
decides Never m so_far e = absurd cc

module _ (environment : Environment) (packages : List Listed) where
  abbrev surely_met : Alternative → Bool
  surely_met a = surely (applies_by environment a) && is_met environment packages a

  abbrev unmet_may : Alternative → Bool
  unmet_may a = may (applies_by environment a) && not (is_met environment packages a)

  abbrev met_may : Alternative → Bool
  met_may a = may (applies_by environment a) && is_met environment packages a

  -- What is known of the first alternatives: none that surely applies is met.
  pub record Tried (so_far : SoFar) (group : Group) : Type 0 where
    pub none : list_any surely_met group ≡ false
    pub unmet : so_far.unmet ≡ list_any unmet_may group
    pub met : so_far.met ≡ list_any met_may group
    pub applies : so_far.applies ≡ list_any (λ a. surely (applies_by environment a)) group

  pub tried-more : (done : Group) (a : Alternative) (so_far now : SoFar) → unless_met (applies_by environment a) (is_met environment packages a) so_far ≡ Some now → Tried so_far done → Tried now (done ++ a ∷ [])
  tried-more done a so_far now e tried =
      let on = goes-on (applies_by environment a) (is_met environment packages a) so_far now e in
      record {
        none = any-one surely_met done a ∙ ap (λ b. b || surely_met a) tried.none ∙ on.0;
        unmet = ap (λ s. s.unmet) on.1 ∙ ap (λ b. b || unmet_may a) tried.unmet ∙ sym (any-one unmet_may done a);
        met = ap (λ s. s.met) on.1 ∙ ap (λ b. b || met_may a) tried.met ∙ sym (any-one met_may done a);
        applies = ap (λ s. s.applies) on.1 ∙ ap (λ b. b || surely (applies_by environment a)) tried.applies ∙ sym (any-one (λ b. surely (applies_by environment b)) done a);
      }

  -- one that surely applies and is met decides
  pub no-trouble : (group done more : Group) (a : Alternative) (so_far : SoFar) → unless_met (applies_by environment a) (is_met environment packages a) so_far ≡ None → group ≡ done ++ a ∷ more → None ≡ trouble environment packages group
  no-trouble group done more a so_far e all =
      sym (ap (λ n. cond (not n && list_any unmet_may group) (cond (can_be_otherwise environment packages group) (Some Unsure) (Some Unmet)) None)
      (ap (list_any surely_met) all ∙ list_any-at surely_met done a more (decides (applies_by environment a) (is_met environment packages a) so_far e)))

  -- else all of them do
  pub tried-all : (group : Group) (so_far : SoFar) → Tried so_far group → trouble_by so_far ≡ trouble environment packages group
  tried-all group so_far tried =
      ap (λ u. cond u (cond (so_far.met || not so_far.applies) (Some Unsure) (Some Unmet)) None) tried.unmet
      ∙ ap (λ m. cond (list_any unmet_may group) (cond (m || not so_far.applies) (Some Unsure) (Some Unmet)) None) tried.met
      ∙ ap (λ s. cond (list_any unmet_may group) (cond (list_any met_may group || not s) (Some Unsure) (Some Unmet)) None) tried.applies
      ∙ ap (λ n. cond (not n && list_any unmet_may group) (cond (can_be_otherwise environment packages group) (Some Unsure) (Some Unmet)) None) (sym tried.none)

nothing-line : (why : Option Trouble) (heading field text : List ℕ) → is_nothing (trouble_line why heading field text) ≡ is_none why
nothing-line None heading field text = refl
nothing-line (Some Unmet) heading field text = refl
nothing-line (Some Unsure) heading field text = refl

-- a group has no line exactly if there is no reason for one
pub nothing-group : (environment : Environment) (packages : List Listed) (heading field : List ℕ) (group : Group) → is_nothing (group_lines environment (plain packages) Surely heading field group) ≡ is_none (trouble environment packages group)
nothing-group environment packages heading field group = nothing-line (trouble environment packages group) heading field (group_text group)
