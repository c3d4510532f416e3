-- A package that meets an alternative has or provides its name.
use Rattle.std.proofs.Common.{◌≡◌, Bool, true, false, ◌&&◌, ◌||◌, List, [], ◌∷◌}
use Rattle.std.proofs.Common.{refl, ap}
use Rattle.std.specs.List.{list_any}
use Rattle.std.specs.Str.{bytes_eq}
use Rattle.std.proofs.lemmas.Bool.{false≢true}
use Rattle.deb_relation.specs.Applying.{Environment}
use Rattle.deb_relation.specs.Meaning.{Alternative}
use Rattle.deb_index.specs.Listed.{Listed}
use Rattle.deb_index.specs.Meeting.{meets, meets_bound, meets_by_name, meets_qualifier, provided_meets_bound, provision_meets}
use Rattle.deb_index.specs.Named.{has_name, provides}

pub and-first : (a b : Bool) → (a && b) ≡ true → a ≡ true
and-first true b h = refl
and-first false b h = absurd (false≢true h)

or-wider : (a b c d : Bool) → (a ≡ true → c ≡ true) → (b ≡ true → d ≡ true) → (a || b) ≡ true → (c || d) ≡ true
or-wider true b c d h k e = ap (λ v. v || d) (h refl)
or-wider false b true d h k e = refl
or-wider false b false d h k e = k e

any-wider : {X : Type 0} (f g : X → Bool) → ((x : X) → f x ≡ true → g x ≡ true) → (xs : List X) → list_any f xs ≡ true → list_any g xs ≡ true
any-wider f g wider [] e = absurd (false≢true e)
any-wider f g wider (x ∷ xs) e = or-wider (f x) (list_any f xs) (g x) (list_any g xs) (wider x) (any-wider f g wider xs) e

pub named_or_provided : (a : Alternative) (p : Listed) → meets_by_name a p ≡ true → (has_name a.name p || provides a.name p) ≡ true
named_or_provided a p =
    or-wider (bytes_eq p.name a.name && meets_bound a.bound p.version) (list_any (provision_meets a) p.provisions) (has_name a.name p) (provides a.name p)
    (and-first (bytes_eq p.name a.name) (meets_bound a.bound p.version))
    (any-wider (provision_meets a) (λ q. bytes_eq q.name a.name) (λ q. and-first (bytes_eq q.name a.name) (provided_meets_bound a.bound q.version)) p.provisions)

pub has_or_provides : (environment : Environment) (a : Alternative) (p : Listed) → meets environment a p ≡ true → (has_name a.name p || provides a.name p) ≡ true
has_or_provides environment a p met = named_or_provided a p (and-first (meets_by_name a p) (meets_qualifier environment a.qualifier p) met)
