-- The numbers of the packages that pass a test, found under two names.
use Rattle.std.proofs.Common.{◌≡◌, ℕ, ◌+◌, Bool, true, false, cond, ◌&&◌, ◌||◌, eqb, List, [], ◌∷◌, ◌++◌, refl, sym, ap, ◌∙◌}
use Rattle.std.specs.List.{filter, list_any}
use Rattle.std.proofs.lemmas.Bool.{false≢true}
use Rattle.std.proofs.lemmas.List.Folds.{list_any-append}
use Rattle.deb_relation.specs.Applying.{Environment, applies}
use Rattle.deb_relation.specs.Meaning.{Alternative, Group}
use Rattle.deb_index.specs.Listed.{Listed}
use Rattle.deb_index.specs.Meeting.{meets}
use Rattle.deb_index.specs.Named.{AppendsMeeting, among, has_name, numbers_from, numbers_of, passes_at, provides}
use Rattle.deb_index.specs.Reports.{meets_group, some_applies}
use Rattle.deb_index.proofs.Meetings.{has_or_provides}
use Rattle.deb_index.proofs.Merged.{among-either, none-numbered}
use Rattle.deb_index.proofs.Picked.{filtered}

pub numbers-same : (n : ℕ) (f g : Listed → Bool) → ((p : Listed) → f p ≡ g p) → (packages : List Listed) → numbers_from n f packages ≡ numbers_from n g packages
numbers-same n f g same [] = refl
numbers-same n f g same (p ∷ packages) =
    ap (λ l. cond (f p) (n ∷ l) l) (numbers-same (n + 1) f g same packages)
    ∙ ap (λ v. cond v (n ∷ numbers_from (n + 1) g packages) (numbers_from (n + 1) g packages)) (same p)

either-asked : (f g test : Bool) → (test ≡ true → (f || g) ≡ true) → ((f && test) || (g && test)) ≡ test
either-asked true true true h = refl
either-asked true true false h = refl
either-asked true false true h = refl
either-asked true false false h = refl
either-asked false true test h = refl
either-asked false false true h = absurd (false≢true (h refl))
either-asked false false false h = refl

-- Where each package that passes a test has one of two names, the numbers among those under the names whose packages pass it are those of all that pass it.
pub among-asked : (f g test : Listed → Bool) → ((p : Listed) → test p ≡ true → (f p || g p) ≡ true) → (packages : List Listed) (k : ℕ)
    → (among k (filter (passes_at test packages) (numbers_of f packages)) || among k (filter (passes_at test packages) (numbers_of g packages))) ≡ among k (numbers_of test packages)
among-asked f g test wider packages k =
    ap (λ l. among k l || among k (filter (passes_at test packages) (numbers_of g packages))) (filtered f test packages)
    ∙ ap (λ l. among k (numbers_of (λ p. f p && test p) packages) || among k l) (filtered g test packages)
    ∙ sym (among-either k 1 (λ p. f p && test p) (λ p. g p && test p) packages)
    ∙ ap (among k) (numbers-same 1 (λ p. (f p && test p) || (g p && test p)) test (λ p. either-asked (f p) (g p) (test p) (wider p)) packages)

-- one element more
pub any-one : {X : Type 0} (f : X → Bool) (xs : List X) (x : X) → list_any f (xs ++ x ∷ []) ≡ (list_any f xs || f x)
any-one f xs x = list_any-append f xs (x ∷ []) ∙ ap (λ b. list_any f xs || b) (alone (f x))
  where
    alone : (b : Bool) → (b || false) ≡ b
    alone true = refl
    alone false = refl

module _ (environment : Environment) (packages : List Listed) (k : ℕ) where
  among-if : (v : Bool) (a : Alternative) → among k (numbers_of (λ p. v && meets environment a p) packages) ≡ cond v (among k (numbers_of (meets environment a) packages)) false
  among-if true a = refl
  among-if false a = ap (among k) (none-numbered 1 packages)

  pub joined-none : (numbers : List ℕ) → numbers ≡ [] → among k numbers ≡ among k (numbers_of (meets_group environment []) packages)
  joined-none numbers none = ap (among k) (none ∙ sym (none-numbered 1 packages))

  -- the numbers that are joined for one alternative more
  pub joined-step : (done : Group) (a : Alternative) (v : Bool) (old new : List ℕ) → v ≡ applies a environment
      → among k old ≡ among k (numbers_of (meets_group environment done) packages)
      → among k new ≡ cond v (among k old || among k (numbers_of (meets environment a) packages)) (among k old)
      → among k new ≡ among k (numbers_of (meets_group environment (done ++ a ∷ [])) packages)
  joined-step done a v old new asks was told =
      let some : Listed → Alternative → Bool = λ p b. applies b environment && meets environment b p in
      told ∙ go v (among k (numbers_of (meets environment a) packages))
      ∙ ap (λ b. among k old || b) (sym (among-if v a))
      ∙ ap (λ b. b || among k (numbers_of (λ p. v && meets environment a p) packages)) was
      ∙ sym (among-either k 1 (meets_group environment done) (λ p. v && meets environment a p) packages)
      ∙ ap (among k) (numbers-same 1 (λ p. meets_group environment done p || (v && meets environment a p)) (meets_group environment (done ++ a ∷ []))
      (λ p. ap (λ w. meets_group environment done p || (w && meets environment a p)) asks ∙ sym (any-one (some p) done a)) packages)
    where
      go : (v b : Bool) → cond v (among k old || b) (among k old) ≡ (among k old || cond v b false)
      go true b = refl
      go false b = none (among k old)
        where
          none : (a : Bool) → a ≡ (a || false)
          none true = refl
          none false = refl

  -- the numbers found under the name of an alternative
  pub asked-among : (a : Alternative) (name : List ℕ) (old middle new named provided : List ℕ) → name ≡ a.name → named ≡ numbers_of (has_name name) packages → provided ≡ numbers_of (provides name) packages
      → middle ≡ old ++ filter (passes_at (meets environment a) packages) named → new ≡ middle ++ filter (passes_at (meets environment a) packages) provided
      → among k new ≡ (among k old || among k (numbers_of (meets environment a) packages))
  asked-among a name old middle new named provided is own others first second =
      let test = passes_at (meets environment a) packages in
      ap (among k) (second ∙ ap (λ l. l ++ filter test provided) first)
      ∙ list_any-append (eqb k) (old ++ filter test named) (filter test provided)
      ∙ ap (λ b. b || among k (filter test provided)) (list_any-append (eqb k) old (filter test named))
      ∙ regroup (among k old) (among k (filter test named)) (among k (filter test provided))
      ∙ ap (λ l. among k old || (among k (filter test l) || among k (filter test provided))) (own ∙ ap (λ n. numbers_of (has_name n) packages) is)
      ∙ ap (λ l. among k old || (among k (filter test (numbers_of (has_name a.name) packages)) || among k (filter test l))) (others ∙ ap (λ n. numbers_of (provides n) packages) is)
      ∙ ap (λ b. among k old || b) (among-asked (has_name a.name) (provides a.name) (meets environment a) (has_or_provides environment a) packages k)
    where
      regroup : (a b c : Bool) → ((a || b) || c) ≡ (a || (b || c))
      regroup true b c = refl
      regroup false b c = refl

-- Whether some alternative so far applies, and the numbers that were found for those so far.
pub record FoundBy (environment : Environment) (packages : List Listed) (applies : Bool) (numbers : List ℕ) (done : Group) : Type 0 where
  pub some : applies ≡ some_applies environment done
  pub each : (k : ℕ) → among k numbers ≡ among k (numbers_of (meets_group environment done) packages)

pub found_none : (environment : Environment) (packages : List Listed) (numbers : List ℕ) → numbers ≡ [] → FoundBy environment packages false numbers []
found_none environment packages numbers none = record { some = refl; each = λ k. joined-none environment packages k numbers none }

pub found_more : (environment : Environment) (packages : List Listed) (a : Alternative) (done : Group) (before asked now : Bool) (old new : List ℕ) → now ≡ cond asked true before → AppendsMeeting environment packages a old new asked
    → FoundBy environment packages before old done → FoundBy environment packages now new (done ++ a ∷ [])
found_more environment packages a done before asked now old new is appends so_far = record {
  some = is ∙ either asked before ∙ ap (λ b. b || asked) so_far.some ∙ ap (λ b. some_applies environment done || b) appends.is ∙ sym (any-one (λ b. applies b environment) done a);
  each = λ k. joined-step environment packages k done a asked old new appends.is (so_far.each k) (appends.appended k);
}
  where
    either : (v old : Bool) → cond v true old ≡ (old || v)
    either true true = refl
    either true false = refl
    either false true = refl
    either false false = refl
