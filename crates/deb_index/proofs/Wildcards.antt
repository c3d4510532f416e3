-- Whether an architecture list contains a wildcard, by alternatives one after another.
use Rattle.std.proofs.Common.{◌≡◌, Bool, true, false, ◌||◌, List, [], ◌∷◌, ◌++◌, refl, sym, ap, ◌∙◌}
use Rattle.std.specs.List.{list_any}
use Rattle.deb_version.proofs.CutLemmas.{list_any-at}
use Rattle.deb_relation.specs.Meaning.{Alternative, Relation}
use Rattle.deb_relation.specs.Tests.{has_wildcard, some_wildcard}
use Rattle.deb_index.proofs.Joined.{any-one}

pub none_more : {X : Type 0} (f : X → Bool) (done : List X) (x : X) (v : Bool) → v ≡ f x → v ≡ false → list_any f done ≡ false → list_any f (done ++ x ∷ []) ≡ false
none_more f done x v is lacks so_far = any-one f done x ∙ ap (λ b. b || f x) so_far ∙ sym is ∙ lacks

pub some_found : {X : Type 0} (f : X → Bool) (all done more : List X) (x : X) (v : Bool) → all ≡ done ++ x ∷ more → v ≡ f x → v ≡ true → true ≡ list_any f all
some_found f all done more x v is at has = sym (ap (list_any f) is ∙ list_any-at f done x more (sym at ∙ has))

-- the wildcard of a relation of one alternative
pub alone_has : (m : Relation) (a : Alternative) (v : Bool) → m ≡ (a ∷ []) ∷ [] → v ≡ some_wildcard m → v ≡ has_wildcard a
alone_has m a v is told = told ∙ ap some_wildcard is ∙ alone (has_wildcard a)
  where
    alone : (b : Bool) → ((b || false) || false) ≡ b
    alone true = refl
    alone false = refl
