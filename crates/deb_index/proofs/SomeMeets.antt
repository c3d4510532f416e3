-- Whether some package meets a group, asked of candidates alone.
use Rattle.std.proofs.Common.{◌≡◌, ℕ, ◌+◌, Bool, true, false, cond, ◌&&◌, ◌||◌, List, [], ◌∷◌, refl, sym, ap, ◌∙◌}
use Rattle.std.specs.List.{filter, list_any}
use Rattle.std.proofs.lemmas.Bool.{false≢true}
use Rattle.deb_relation.specs.Applying.{Environment, applies}
use Rattle.deb_relation.specs.Meaning.{Alternative, Group}
use Rattle.deb_index.specs.Listed.{Listed}
use Rattle.deb_index.specs.Meeting.{meets}
use Rattle.deb_index.specs.Named.{has_name, numbers_from, numbers_of, passes_at, provides}
use Rattle.deb_index.specs.Reports.{meets_group, met_unless_none, passing_from, some_applies, verdict_of}
use Rattle.deb_index.specs.declared.verdict.Verdict.{Verdict}
use Rattle.deb_index.specs.declared.verdict.Verdict.TheVariants.{Met, Unmet}
use Rattle.deb_index.proofs.Meetings.{has_or_provides}
use Rattle.deb_index.proofs.Picked.{filtered}

abbrev some : {X : Type 0} → List X → Bool
some [] = false
some (x ∷ xs) = true

some-cond : {X : Type 0} (v : Bool) (x : X) (xs : List X) → some (cond v (x ∷ xs) xs) ≡ (v || some xs)
some-cond true x xs = refl
some-cond false x xs = refl

some-filter : {X : Type 0} (f : X → Bool) (xs : List X) → some (filter f xs) ≡ list_any f xs
some-filter f [] = refl
some-filter f (x ∷ xs) = some-cond (f x) x (filter f xs) ∙ ap (λ b. f x || b) (some-filter f xs)

some-numbers : (n : ℕ) (test : Listed → Bool) (packages : List Listed) → some (numbers_from n test packages) ≡ list_any test packages
some-numbers n test [] = refl
some-numbers n test (p ∷ packages) = some-cond (test p) n (numbers_from (n + 1) test packages) ∙ ap (λ b. test p || b) (some-numbers (n + 1) test packages)

-- among the numbers of the packages that are asked
some-asked : (asked test : Listed → Bool) (packages : List Listed) → list_any (passes_at test packages) (numbers_of asked packages) ≡ list_any (λ p. asked p && test p) packages
some-asked asked test packages =
    sym (some-filter (passes_at test packages) (numbers_of asked packages)) ∙ ap some (filtered asked test packages) ∙ some-numbers 1 (λ p. asked p && test p) packages

pub four : (a b c d : Bool) → ((a || b) || (c || d)) ≡ ((a || c) || (b || d))
four true b c d = refl
four false true true d = refl
four false true false d = refl
four false false c d = refl

either-asked : (f g test : Bool) → (test ≡ true → (f || g) ≡ true) → ((f && test) || (g && test)) ≡ test
either-asked true true true h = refl
either-asked true true false h = refl
either-asked true false true h = refl
either-asked true false false h = refl
either-asked false true test h = refl
either-asked false false true h = absurd (false≢true (h refl))
either-asked false false false h = refl

module _ (f g test : Listed → Bool) (wider : (p : Listed) → test p ≡ true → (f p || g p) ≡ true) where
  either-some : (packages : List Listed) → (list_any (λ p. f p && test p) packages || list_any (λ p. g p && test p) packages) ≡ list_any test packages
  either-some [] = refl
  either-some (p ∷ packages) =
      four (f p && test p) (list_any (λ p. f p && test p) packages) (g p && test p) (list_any (λ p. g p && test p) packages)
      ∙ ap (λ b. b || (list_any (λ p. f p && test p) packages || list_any (λ p. g p && test p) packages)) (either-asked (f p) (g p) (test p) (wider p))
      ∙ ap (λ b. test p || b) (either-some packages)

  -- some package that is asked by either name
  pub some-either : (packages : List Listed) → (list_any (passes_at test packages) (numbers_of f packages) || list_any (passes_at test packages) (numbers_of g packages)) ≡ list_any test packages
  some-either packages =
      ap (λ b. b || list_any (passes_at test packages) (numbers_of g packages)) (some-asked f test packages)
      ∙ ap (λ b. list_any (λ p. f p && test p) packages || b) (some-asked g test packages)
      ∙ either-some packages

never : {X : Type 0} (xs : List X) → list_any (λ x. false) xs ≡ false
never [] = refl
never (x ∷ xs) = never xs

or-any : {X : Type 0} (f g : X → Bool) (xs : List X) → list_any (λ x. f x || g x) xs ≡ (list_any f xs || list_any g xs)
or-any f g [] = refl
or-any f g (x ∷ xs) = ap (λ b. (f x || g x) || b) (or-any f g xs) ∙ four (f x) (g x) (list_any f xs) (list_any g xs)

and-any : {X : Type 0} (v : Bool) (f : X → Bool) (xs : List X) → list_any (λ x. v && f x) xs ≡ (v && list_any f xs)
and-any true f xs = refl
and-any false f xs = never xs

-- some package meets the group exactly if it meets some alternative that applies
some-group : (environment : Environment) (packages : List Listed) (group : Group) → list_any (meets_group environment group) packages ≡ list_any (λ a. applies a environment && list_any (meets environment a) packages) group
some-group environment packages [] = never packages
some-group environment packages (a ∷ group) =
    or-any (λ p. applies a environment && meets environment a p) (meets_group environment group) packages
    ∙ ap (λ b. b || list_any (meets_group environment group) packages) (and-any (applies a environment) (meets environment a) packages)
    ∙ ap (λ b. (applies a environment && list_any (meets environment a) packages) || b) (some-group environment packages group)

met-cond : (n : ℕ) (v : Bool) (p : Listed) (test : Listed → Bool) (packages : List Listed) → met_unless_none (passing_from (n + 1) test packages) ≡ cond (list_any test packages) Met Unmet
    → met_unless_none (cond v ((n, p) ∷ passing_from (n + 1) test packages) (passing_from (n + 1) test packages)) ≡ cond (v || list_any test packages) Met Unmet
met-cond n true p test packages h = refl
met-cond n false p test packages h = h

met-some : (n : ℕ) (test : Listed → Bool) (packages : List Listed) → met_unless_none (passing_from n test packages) ≡ cond (list_any test packages) Met Unmet
met-some n test [] = refl
met-some n test (p ∷ packages) = met-cond n (test p) p test packages (met-some (n + 1) test packages)

-- the verdict on a group of which some alternative applies
pub met_if : (environment : Environment) (packages : List Listed) (group : Group) → met_unless_none (passing_from 1 (meets_group environment group) packages) ≡ cond (list_any (λ a. applies a environment && list_any (meets environment a) packages) group) Met Unmet
met_if environment packages group = met-some 1 (meets_group environment group) packages ∙ ap (λ b. cond b Met Unmet) (some-group environment packages group)

-- the verdict on a group of which some alternative applies, by whether some package meets one
pub verdict_met : (environment : Environment) (packages : List Listed) (group : Group) (verdict : Verdict) (asked is : Bool) → asked ≡ some_applies environment group → asked ≡ true → is ≡ list_any (λ a. applies a environment && list_any (meets environment a) packages) group → verdict ≡ cond is Met Unmet
    → verdict ≡ verdict_of (some_applies environment group) (passing_from 1 (meets_group environment group) packages)
verdict_met environment packages group verdict asked is asked_is some is_is told =
    told ∙ ap (λ b. cond b Met Unmet) is_is ∙ sym (met_if environment packages group)
    ∙ ap (λ a. verdict_of a (passing_from 1 (meets_group environment group) packages)) (sym some ∙ asked_is)

-- some package meets an alternative exactly if one that has or provides its name does
pub meets_found : (environment : Environment) (packages : List Listed) (a : Alternative) (name own given : List ℕ) → name ≡ a.name → own ≡ numbers_of (has_name name) packages → given ≡ numbers_of (provides name) packages
    → (list_any (passes_at (meets environment a) packages) own || list_any (passes_at (meets environment a) packages) given) ≡ list_any (meets environment a) packages
meets_found environment packages a name own given is own_is given_is =
    rw (own_is, given_is, is) (some-either (has_name a.name) (provides a.name) (meets environment a) (has_or_provides environment a) packages)
