-- A group and the rows of its candidates.
use Rattle.std.proofs.Common.{◌≡◌, ℕ, Bool, true, false, cond, not, ◌&&◌, ◌||◌, is_none, List, [], ◌∷◌, map, None, Some, refl, sym, ap, ◌∙◌}
use Rattle.std.specs.List.{filter, flat_map, list_all, list_any}
use Rattle.std.proofs.lemmas.Bool.{false≢true}
use Rattle.std.proofs.lemmas.List.Folds.{list_all-map}
use Rattle.deb_relation.specs.Applying.{Environment}
use Rattle.deb_relation.specs.Meaning.{Alternative, Group}
use Rattle.deb_index.specs.Listed.{Listed}
use Rattle.deb_index.specs.Meeting.{meets}
use Rattle.deb_unmet.specs.Readings.{applies_by, may, surely}
use Rattle.deb_unmet.specs.Troubles.{can_be_otherwise, can_be_unmet, is_met, trouble}
use Rattle.deb_unmet.specs.declared.applying.Applies.{Applies}
use Rattle.deb_unmet.specs.declared.applying.Applies.TheVariants.{Surely, Maybe, Never}
use Rattle.deb_install.specs.Members.{members_of}
use Rattle.deb_install.specs.Rows.{candidates, group_rows, may_be_applying, some_surely_applies, surely_applying}
use Rattle.deb_install.specs.declared.readings.Readings.TheVariants.{Every, One}
use Rattle.deb_install.proofs.Sets.{any-members}
use Rattle.deb_install.proofs.Tests.{all-filter, any-filter, any-flat}

-- one alternative: whether it applies, and whether a package meets it
none-head : (x : Applies) (m rest met : Bool) → (surely x || rest) ≡ false → (rest ≡ false → met ≡ false) → ((surely x && m) || met) ≡ false
none-head Surely m rest met is more = absurd (false≢true (sym is))
none-head Maybe m rest met is more = more is
none-head Never m rest met is more = more is

pub other-head : (x : Applies) (m rest met other : Bool) → (surely x || rest) ≡ true → ((surely x && m) || met) ≡ false → (rest ≡ true → met ≡ false → other ≡ true) → ((may x && not m) || other) ≡ true
other-head Surely true rest met other is none more = absurd (false≢true (sym none))
other-head Surely false rest met other is none more = refl
other-head Maybe true rest met other is none more = more is none
other-head Maybe false rest met other is none more = refl
other-head Never m rest met other is none more = more is none

none-if : {X : Type 0} (a b : X) (unmet other : Bool) → is_none (cond unmet (cond other (Some a) (Some b)) None) ≡ not unmet
none-if a b true true = refl
none-if a b true false = refl
none-if a b false other = refl

decided : (x y : Bool) → (x ≡ false → y ≡ true) → not (not x && y) ≡ (x && true)
decided true y more = refl
decided false y more = ap not (more refl)

or-false : (x : Bool) → (x || false) ≡ (x && true)
or-false true = refl
or-false false = refl

or-true : (x : Bool) → (x || true) ≡ true
or-true true = refl
or-true false = refl

module _ (set : ℕ → Bool) (packages : List Listed) (environment : Environment) where
  abbrev members : List Listed
  members = members_of set packages

  abbrev sure : Alternative → Bool
  sure a = surely (applies_by environment a)

  abbrev perhaps : Alternative → Bool
  perhaps a = may (applies_by environment a)

  -- a member meets an alternative exactly if a candidate is in the set
  met : (a : Alternative) → list_any set (candidates environment packages a) ≡ is_met environment members a
  met a = sym (any-members set (meets environment a) 1 packages)

  joined : (f : Alternative → Bool) (group : Group) → list_any set (flat_map (candidates environment packages) (filter f group)) ≡ list_any (λ a. f a && is_met environment members a) group
  joined f group =
      any-flat set (candidates environment packages) (filter f group)
      ∙ any-filter (λ a. list_any set (candidates environment packages a)) f group
      ∙ (λ i. list_any (λ a. f a && met a i) group)

  apiece : (f : Alternative → Bool) (group : Group) → list_all (list_any set) (map (candidates environment packages) (filter f group)) ≡ not (list_any (λ a. f a && not (is_met environment members a)) group)
  apiece f group =
      list_all-map (list_any set) (candidates environment packages) (filter f group)
      ∙ all-filter (λ a. list_any set (candidates environment packages a)) f group
      ∙ (λ i. not (list_any (λ a. f a && not (met a i)) group))

  none-sure : (group : Group) → list_any sure group ≡ false → list_any (λ a. sure a && is_met environment members a) group ≡ false
  none-sure [] is = refl
  none-sure (a ∷ group) is = none-head (applies_by environment a) (is_met environment members a) (list_any sure group) (list_any (λ a. sure a && is_met environment members a) group) is (none-sure group)

  -- where one surely applies and none that does is met, that one may apply and isn't met
  other-may : (group : Group) → list_any sure group ≡ true → list_any (λ a. sure a && is_met environment members a) group ≡ false → list_any (λ a. perhaps a && not (is_met environment members a)) group ≡ true
  other-may [] is none = absurd (false≢true is)
  other-may (a ∷ group) is none = other-head (applies_by environment a) (is_met environment members a) (list_any sure group) (list_any (λ a. sure a && is_met environment members a) group) (list_any (λ a. perhaps a && not (is_met environment members a)) group) is none (other-may group)

  pub every-group : (group : Group) → is_none (trouble environment members group) ≡ list_all (list_any set) (group_rows Every environment packages group)
  every-group group = none-if _ _ (can_be_unmet environment members group) (can_be_otherwise environment members group) ∙ go (some_surely_applies environment group) refl
    where
      go : (some : Bool) → some_surely_applies environment group ≡ some → not (can_be_unmet environment members group) ≡ list_all (list_any set) (cond some (flat_map (candidates environment packages) (surely_applying environment group) ∷ []) (map (candidates environment packages) (may_be_applying environment group)))
      go true is =
          decided (list_any (λ a. sure a && is_met environment members a) group) (list_any (λ a. perhaps a && not (is_met environment members a)) group) (other-may group is)
          ∙ ap (λ b. b && true) (sym (joined sure group))
      go false is =
          ap (λ b. not (not b && list_any (λ a. perhaps a && not (is_met environment members a)) group)) (none-sure group is)
          ∙ sym (apiece perhaps group)

  pub one-group : (group : Group) → can_be_otherwise environment members group ≡ list_all (list_any set) (group_rows One environment packages group)
  one-group group = go (some_surely_applies environment group) refl
    where
      go : (some : Bool) → some_surely_applies environment group ≡ some → can_be_otherwise environment members group ≡ list_all (list_any set) (cond some (flat_map (candidates environment packages) (may_be_applying environment group) ∷ []) [])
      go true is =
          ap (λ b. list_any (λ a. perhaps a && is_met environment members a) group || not b) is
          ∙ or-false (list_any (λ a. perhaps a && is_met environment members a) group)
          ∙ ap (λ b. b && true) (sym (joined perhaps group))
      go false is =
          ap (λ b. list_any (λ a. perhaps a && is_met environment members a) group || not b) is
          ∙ or-true (list_any (λ a. perhaps a && is_met environment members a) group)
