-- Why a group has a line, where an old index may meet it.
use Rattle.std.proofs.Common.{◌≡◌, Bool, true, false, cond, not, List, Option, None, Some, is_none, is_some, refl, sym, ap, ◌∙◌}
use Rattle.std.proofs.lemmas.Bool.{false≢true}
use Rattle.deb_relation.specs.Applying.{Environment}
use Rattle.deb_relation.specs.Meaning.{Group}
use Rattle.deb_index.specs.Listed.{Listed}
use Rattle.deb_unmet.specs.Scopes.{Scope}
use Rattle.deb_unmet.specs.Troubles.{can_be_otherwise, can_be_unmet, trouble, trouble_for, trouble_in, was_met}
use Rattle.deb_unmet.specs.declared.applying.Applies.{Applies}
use Rattle.deb_unmet.specs.declared.applying.Applies.TheVariants.{Surely, Maybe, Never}
use Rattle.deb_unmet.specs.declared.trouble.Trouble.{Trouble}
use Rattle.deb_unmet.specs.declared.trouble.Trouble.TheVariants.{Unmet, Unsure}

pub none-said : {T : Type 0} (o : Option T) (said : Bool) → is_some o ≡ not said → said ≡ is_none o
none-said None true is = refl
none-said None false is = absurd (false≢true is)
none-said (Some x) true is = absurd (false≢true (sym is))
none-said (Some x) false is = refl

pub none-is : {T : Type 0} (o : Option T) (said : Bool) → is_some o ≡ not said → said ≡ true → o ≡ None
none-is None said is e = refl
none-is (Some x) said is e = absurd (false≢true (sym (none-said (Some x) said is) ∙ e))

abbrev choice : Bool → Bool → Option Trouble
choice unmet other = cond unmet (cond other (Some Unsure) (Some Unmet)) None

no-choice : (unmet other : Bool) → is_none (choice unmet other) ≡ not unmet
no-choice true true = refl
no-choice true false = refl
no-choice false other = refl

-- an index meets a group exactly if there is no reason for a line over it
pub met-exactly : (environment : Environment) (old : List Listed) (group : Group) → is_none (trouble environment old group) ≡ was_met (Some old) environment group
met-exactly environment old group = no-choice (can_be_unmet environment old group) (can_be_otherwise environment old group)

abbrev if_met : Bool → Option Trouble → Option Trouble
if_met met why = cond met why None

same-none : (met : Bool) → None ≡ if_met met None
same-none true = refl
same-none false = refl

module _ (scope : Scope) (environment : Environment) (group : Group) where
  -- what is met now has no line
  pub none-in : (why : Option Trouble) → why ≡ trouble environment scope.packages group → why ≡ None → None ≡ trouble_in scope environment group
  none-in why is none = same-none (was_met scope.unless environment group) ∙ ap (if_met (was_met scope.unless environment group)) (sym none ∙ is)

  -- what was met keeps its reason, and what wasn't has none
  pub some-in : (met : Bool) (why : Option Trouble) → why ≡ trouble environment scope.packages group → met ≡ was_met scope.unless environment group → cond met why None ≡ trouble_in scope environment group
  some-in met why is was = ap (λ m. if_met m why) was ∙ ap (if_met (was_met scope.unless environment group)) is

pub none-for : (tried : Applies) → trouble_for tried None ≡ None
none-for Surely = refl
none-for Maybe = refl
none-for Never = refl
