-- Steps, and other steps that are views of them.
use Rattle.std.proofs.Common.{◌≡◌, ℕ, zero, suc, ◌<◌, List, [], length, Some, None, Ok, Err, refl, sym, ap, ◌∙◌, arith}
use Rattle.deb_relation.specs.Reading.{Next, and_next, mapped, gathered, gather}
use Rattle.deb_relation.proofs.Gathering.{IsStep}
use Rattle.deb_relation.proofs.ReadLists.{none_some, some_same}

-- the second step is a view of the first
abbrev pub mapped_next : {A B : Type 0} → (A → B) → Next A → Next B
mapped_next f (Ok None) = Ok None
mapped_next f (Ok (Some p)) = Ok (Some (f p.0, p.1))
mapped_next f (Err stopped) = Err stopped

module _ {A B S T : Type 0} (step : List ℕ → Next A) (step' : List ℕ → Next B) (view : A → B) (steps : (rest : List ℕ) → step' rest ≡ mapped_next view (step rest)) (put : A → S → S) (put' : B → T → T) (f : S → T) (same : (a : A) (all : S) → f (put a all) ≡ put' (view a) (f all)) where
  gathered-viewed : (n : ℕ) (all : S) (rest : List ℕ) → gathered step' put' n (f all) rest ≡ mapped f (gathered step put n all rest)
  gathered-viewed zero all rest = refl
  gathered-viewed (suc n) all rest =
      ap (λ next. and_next next (Ok (f all, rest)) (λ b behind. gathered step' put' n (put' b (f all)) behind)) (steps rest) ∙ more (gathered-viewed n) (step rest)
    where
      more : ((all' : S) (rest' : List ℕ) → gathered step' put' n (f all') rest' ≡ mapped f (gathered step put n all' rest')) → (next : Next A) → and_next (mapped_next view next) (Ok (f all, rest)) (λ b behind. gathered step' put' n (put' b (f all)) behind) ≡ mapped f (and_next next (Ok (all, rest)) (λ a behind. gathered step put n (put a all) behind))
      more so (Err stopped) = refl
      more so (Ok None) = refl
      more so (Ok (Some q)) = ap (λ t. gathered step' put' n t q.1) (sym (same q.0 all)) ∙ so (put q.0 all) q.1

  pub gather-viewed : (all : S) (rest : List ℕ) → gather step' put' (f all) rest ≡ mapped f (gather step put all rest)
  unfolding gather
  gather-viewed all rest = gathered-viewed (length rest) all rest

-- a step that is a view of another takes what the other takes
module _ {A B : Type 0} (step : List ℕ → Next A) (step' : List ℕ → Next B) (view : A → B) (steps : (rest : List ℕ) → step' rest ≡ mapped_next view (step rest)) (is : IsStep step) where
  pub step-viewed : IsStep step'
  step-viewed = record {
    ends = steps [] ∙ ap (mapped_next view) is.ends;
    shrinks = λ rest b behind e. from rest b behind (step rest) refl (sym (steps rest) ∙ e);
  }
    where
      from : (rest : List ℕ) (b : B) (behind : List ℕ) (next : Next A) → step rest ≡ next → mapped_next view next ≡ Ok (Some (b, behind)) → length behind < length rest
      from rest b behind (Err stopped) was e = absurd cc
      from rest b behind (Ok None) was e = absurd (none_some (b, behind) e)
      from rest b behind (Ok (Some p)) was e =
          let same = ap (λ q. length q.1) (some_same (view p.0, p.1) (b, behind) e) in
          let less = is.shrinks rest p.0 p.1 was in
          omega (arith, same, less)
