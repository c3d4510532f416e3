-- What is asked of a relation: alternatives, wildcards, operators. Debian Policy 7.1 and 11.1.
use Rattle.std.specs.Prelude.{◌≡◌, ℕ, Bool, true, false, nat_le, List, [], ◌∷◌, length, map, Option, Some, None, codes, refl}
use Rattle.std.specs.List.{list_all, list_any}
use Rattle.deb_base.specs.PackageNames.{is_wildcard}
use Rattle.deb_relation.specs.declared.operator.Op.{Op}
use Rattle.deb_relation.specs.declared.operator.Op.TheVariants.{Earlier, EarlierEqual, Equal, LaterEqual, Later}
use Rattle.deb_version.specs.Grammar.{components_with, meaning_of_components}
use Rattle.deb_version.specs.Parts.{Meaning as Version}
use Rattle.deb_relation.specs.Meaning.{Alternative, Group, Relation}
use Rattle.deb_relation.specs.Reading.{alternative_with}

-- some group has two or more alternatives
abbrev pub has_two : Group → Bool
has_two group = nat_le 2 (length group)

abbrev pub has_alternatives : Relation → Bool
has_alternatives groups = list_any has_two groups

-- an architecture list holds a wildcard
abbrev pub list_has_wildcard : Option (Bool × List (List ℕ)) → Bool
list_has_wildcard None = false
list_has_wildcard (Some list) = list_any is_wildcard list.1

abbrev pub has_wildcard : Alternative → Bool
has_wildcard a = list_has_wildcard a.architectures

abbrev pub some_wildcard : Relation → Bool
some_wildcard groups = list_any (λ group. list_any has_wildcard group) groups

-- no bound has an operator other than `=`
abbrev pub is_equal : Op → Bool
is_equal Earlier = false
is_equal EarlierEqual = false
is_equal Equal = true
is_equal LaterEqual = false
is_equal Later = false

abbrev pub bound_is_equal : Option (Op × Version) → Bool
bound_is_equal None = true
bound_is_equal (Some bound) = is_equal bound.0

abbrev pub has_equal_bound : Alternative → Bool
has_equal_bound a = bound_is_equal a.bound

abbrev pub only_equals : Relation → Bool
only_equals groups = list_all (λ group. list_all has_equal_bound group) groups

-- a name alone, with a qualifier, with an architecture list, with a bound
abbrev bare : Alternative
bare = alternative_with (codes "aa") None None None []

abbrev qualified : List ℕ → Alternative
qualified qualifier = alternative_with (codes "aa") (Some qualifier) None None []

abbrev listed : List (List ℕ) → Alternative
listed names = alternative_with (codes "aa") None None (Some (false, names)) []

abbrev bounded : Op → Alternative
bounded operator =
    alternative_with (codes "aa") None
    (Some (operator, meaning_of_components (components_with None (codes "1") None))) None []

-- two alternatives in one group, not two groups
worked-alternatives : map has_alternatives
    ([] ∷ ((bare ∷ []) ∷ (bare ∷ []) ∷ []) ∷ ((bare ∷ []) ∷ (bare ∷ bare ∷ []) ∷ []) ∷ [])
    ≡ false ∷ false ∷ true ∷ []
worked-alternatives = refl

-- `linux-any` and `any` in a list, also as a list's last name and in the last alternative
worked-wildcard : map (λ a. some_wildcard ((bare ∷ a ∷ []) ∷ []))
    (listed (codes "linux-any" ∷ []) ∷ listed (codes "any" ∷ [])
    ∷ listed (codes "amd64" ∷ codes "linux-any" ∷ []) ∷ []) ≡ true ∷ true ∷ true ∷ []
worked-wildcard = refl

-- `any` as a qualifier, `all` and a name that only begins with `any` are none
worked-no_wildcard : map (λ a. some_wildcard ((a ∷ []) ∷ []))
    (qualified (codes "any") ∷ listed (codes "all" ∷ []) ∷ listed (codes "anything" ∷ []) ∷ bare
    ∷ []) ≡ false ∷ false ∷ false ∷ false ∷ []
worked-no_wildcard = refl

-- one operator after the other; what has no bound has no other operator
worked-equals : map (λ a. only_equals ((bare ∷ []) ∷ (bare ∷ a ∷ []) ∷ []))
    (bounded Equal ∷ bare ∷ bounded Earlier ∷ bounded EarlierEqual ∷ bounded LaterEqual
    ∷ bounded Later ∷ []) ≡ true ∷ true ∷ false ∷ false ∷ false ∷ false ∷ []
worked-equals = refl

-- a wildcard after `!` is one too, whichever of the names it is
worked-negated_wildcard : map (λ names. some_wildcard
    ((alternative_with (codes "aa") None None (Some (true, names)) [] ∷ []) ∷ []))
    ((codes "linux-any" ∷ []) ∷ (codes "amd64" ∷ codes "any" ∷ [])
    ∷ (codes "any-i386" ∷ codes "hurd" ∷ []) ∷ (codes "amd64" ∷ []) ∷ [])
    ≡ true ∷ true ∷ true ∷ false ∷ []
worked-negated_wildcard = refl
