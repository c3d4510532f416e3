-- The packages of the versions that meet an alternative by name and bound, by its qualifier too.
use Rattle.std.proofs.Common.{◌≡◌, ℕ, Bool, true, false, ◌&&◌, ◌||◌, eqb, List, map, Option, OnOk, Ok, Err, Result, refl, ap, ◌∙◌}
use Rattle.std.specs.List.{list_any}
use Rattle.std.specs.Option.{option_map_or}
use Rattle.deb_relation.specs.Applying.{Environment}
use Rattle.deb_relation.specs.Meaning.{Alternative}
use Rattle.deb_relation.proofs.Mapped.{any-map}
use Rattle.deb_index.specs.Crowds.{AreMeeting, is_of}
use Rattle.deb_index.specs.Listed.{Listed}
use Rattle.deb_index.specs.Meeting.{meets, meets_by_name, meets_qualifier}
use Rattle.deb_index.specs.Named.{among, numbers_of}
use Rattle.deb_index.proofs.Numbered.{located, numbered-among, numbered-same, unnumbered}

pub on_ok : {T E A B : Type 0} → (A → B) → (result : Result T E) → OnOk result A → OnOk result B
on_ok f (Ok x) h = f h
on_ok f (Err e) h = h

module _ (environment : Environment) (a : Alternative) (packages : List Listed) (number : ℕ → ℕ) (offers : List ℕ) (meeting : AreMeeting a packages (map number offers)) (q : Option (List ℕ)) (is : q ≡ a.qualifier) where
  abbrev of_package : Option Listed → Bool
  of_package o = option_map_or (meets_qualifier environment q) o false

  turned : (b c : Bool) → (b && c) ≡ (c && b)
  turned true true = refl
  turned true false = refl
  turned false true = refl
  turned false false = refl

  moved : (q e n : Bool) → ((e && q) && n) ≡ (e && (n && q))
  moved q true n = turned q n
  moved q false n = refl

  asked-qualifier : (p : Listed) → (meets_by_name a p && meets_qualifier environment q p) ≡ meets environment a p
  asked-qualifier p = ap (λ o. meets_by_name a p && meets_qualifier environment o p) is

  pub some-offered : list_any (λ o. is_of environment q packages (number o)) offers ≡ list_any (meets environment a) packages
  some-offered =
      any-map number (is_of environment q packages) offers
      ∙ meeting (is_of environment q packages)
      ∙ located (λ n o p. of_package o && meets_by_name a p) packages
      ∙ numbered-same (λ n p. meets_qualifier environment q p && meets_by_name a p) (λ n p. meets environment a p) (λ n p. turned (meets_qualifier environment q p) (meets_by_name a p) ∙ asked-qualifier p) 1 packages
      ∙ unnumbered (meets environment a) 1 packages

  pub offered-among : (old new : List ℕ) (k : ℕ) → among k new ≡ (among k old || list_any (λ o. eqb k (number o) && is_of environment q packages (number o)) offers) → among k new ≡ (among k old || among k (numbers_of (meets environment a) packages))
  offered-among old new k is =
      is ∙ ap (λ b. among k old || b)
      (any-map number (λ n. eqb k n && is_of environment q packages n) offers
      ∙ meeting (λ n. eqb k n && is_of environment q packages n)
      ∙ located (λ n o p. (eqb k n && of_package o) && meets_by_name a p) packages
      ∙ numbered-same (λ n p. (eqb k n && meets_qualifier environment q p) && meets_by_name a p) (λ n p. eqb k n && meets environment a p)
      (λ n p. moved (meets_qualifier environment q p) (eqb k n) (meets_by_name a p) ∙ ap (λ b. eqb k n && b) (asked-qualifier p)) 1 packages
      ∙ numbered-among k (meets environment a) 1 packages)
