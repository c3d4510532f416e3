-- What readings a group has by some of its alternatives, as they are tried one after another.
use Rattle.std.specs.Prelude.{◌≡◌, Bool, true, false, not, cond, ◌&&◌, ◌||◌, [], ◌∷◌, map, Option, Some, None, refl}
use Rattle.deb_unmet.specs.Readings.{may, surely}
use Rattle.deb_unmet.specs.declared.applying.Applies.{Applies}
use Rattle.deb_unmet.specs.declared.applying.Applies.TheVariants.{Surely, Maybe, Never}
use Rattle.deb_unmet.specs.declared.group.Readings.{Readings as SoFar}
use Rattle.deb_unmet.specs.declared.trouble.Trouble.{Trouble}
use Rattle.deb_unmet.specs.declared.trouble.Trouble.TheVariants.{Unmet, Unsure}

-- an alternative more, which applies so and may be met or not
abbrev pub with_alternative : Applies → Bool → SoFar → SoFar
with_alternative applies met so_far =
    record {
      unmet = so_far.unmet || (may applies && not met);
      met = so_far.met || met;
      applies = so_far.applies || surely applies;
    }

-- an alternative more, unless it surely applies and is met
abbrev pub unless_met : Applies → Bool → SoFar → Option SoFar
unless_met applies met so_far =
    cond (surely applies && met) None (Some (with_alternative applies (may applies && met) so_far))

-- why a group has a line, where no alternative that surely applies is met
abbrev pub trouble_by : SoFar → Option Trouble
trouble_by so_far =
    cond so_far.unmet (cond (so_far.met || not so_far.applies) (Some Unsure) (Some Unmet)) None

abbrev so_far : Bool → Bool → Bool → SoFar
so_far unmet met applies = record { unmet = unmet; met = met; applies = applies }

abbrev nothing : SoFar
nothing = so_far false false false

-- one that surely applies, may or never does, unmet; and one that may, met
worked-with : (map (λ applies. with_alternative applies false nothing)
    (Surely ∷ Maybe ∷ Never ∷ [])
    ≡ so_far true false true ∷ so_far true false false ∷ nothing ∷ [])
    × (with_alternative Maybe true nothing ≡ so_far false true false)
    × (with_alternative Never false (so_far true true true) ≡ so_far true true true)
worked-with = (refl, refl, refl)

worked-unless : (map (λ applies. unless_met applies true nothing) (Surely ∷ Maybe ∷ Never ∷ [])
    ≡ None ∷ Some (so_far false true false) ∷ Some nothing ∷ [])
    × (unless_met Surely false nothing ≡ Some (so_far true false true))
worked-unless = (refl, refl)

worked-trouble : map trouble_by
    (nothing ∷ so_far false true true ∷ so_far true false true ∷ so_far true true true
    ∷ so_far true false false ∷ [])
    ≡ None ∷ None ∷ Some Unmet ∷ Some Unsure ∷ Some Unsure ∷ []
worked-trouble = refl
