-- A step again and again: what one step more gives.
use Rattle.std.proofs.Common.{◌≡◌, ℕ, zero, suc, ◌<◌, ◌≤◌, List, [], ◌∷◌, length, Option, Some, None, Ok, Err, Result, sym, ap, ◌∙◌, subst, arith, refl}
use Rattle.deb_relation.specs.Reading.{Stopped, Next, and_next, gathered, gather}
use Rattle.deb_relation.specs.Stops.{Gives}
use Rattle.deb_relation.specs.declared.fault.Stop.{Stop}
use Rattle.deb_relation.specs.declared.fault.Stop.TheVariants.{Bad, Memory}

-- at the end of the text there is no further one, and each takes a byte at least
pub record IsStep {A : Type 0} (step : List ℕ → Next A) : Type 0 where
  pub ends : step [] ≡ Ok None
  pub shrinks : (rest : List ℕ) (a : A) (behind : List ℕ) → step rest ≡ Ok (Some (a, behind)) → length behind < length rest

module _ {A S : Type 0} (step : List ℕ → Next A) (put : A → S → S) (is : IsStep step) where
  -- more times than there are bytes left change nothing
  enough : (n m : ℕ) (all : S) (rest : List ℕ) → length rest ≤ n → length rest ≤ m → gathered step put n all rest ≡ gathered step put m all rest
  enough zero zero all rest p q = refl
  enough zero (suc m) all [] p q = sym (ap (λ s. and_next s (Ok (all, [])) (λ a behind. gathered step put m (put a all) behind)) is.ends)
  enough zero (suc m) all (b ∷ bs) p q = absurd (omega arith)
  enough (suc n) zero all [] p q = ap (λ s. and_next s (Ok (all, [])) (λ a behind. gathered step put n (put a all) behind)) is.ends
  enough (suc n) zero all (b ∷ bs) p q = absurd (omega arith)
  enough (suc n) (suc m) all rest p q = more (enough n m) (step rest) refl
    where
      more : ((all' : S) (rest' : List ℕ) → length rest' ≤ n → length rest' ≤ m → gathered step put n all' rest' ≡ gathered step put m all' rest') → (next : Next A) → step rest ≡ next → and_next next (Ok (all, rest)) (λ a behind. gathered step put n (put a all) behind) ≡ and_next next (Ok (all, rest)) (λ a behind. gathered step put m (put a all) behind)
      more same (Err stopped) e = refl
      more same (Ok None) e = refl
      more same (Ok (Some x)) e = let less : length x.1 < length rest = is.shrinks rest x.0 x.1 e in same (put x.0 all) x.1 (omega arith) (omega arith)

  unfold_once : (all : S) (rest : List ℕ) → gather step put all rest ≡ and_next (step rest) (Ok (all, rest)) (λ a behind. gathered step put (length rest) (put a all) behind)
  unfolding gather
  unfold_once all rest = enough (length rest) (suc (length rest)) all rest (omega arith) (omega arith)

  pub gather-none : (all : S) (rest : List ℕ) → step rest ≡ Ok None → gather step put all rest ≡ Ok (all, rest)
  gather-none all rest e = unfold_once all rest ∙ ap (λ s. and_next s (Ok (all, rest)) (λ a behind. gathered step put (length rest) (put a all) behind)) e

  pub gather-err : (all : S) (rest : List ℕ) (stopped : Stopped) → step rest ≡ Err stopped → gather step put all rest ≡ Err stopped
  gather-err all rest stopped e = unfold_once all rest ∙ ap (λ s. and_next s (Ok (all, rest)) (λ a behind. gathered step put (length rest) (put a all) behind)) e

  pub gather-some : (all : S) (rest : List ℕ) (a : A) (behind : List ℕ) → step rest ≡ Ok (Some (a, behind)) → gather step put all rest ≡ gather step put (put a all) behind
  unfolding gather
  gather-some all rest a behind e =
      let less : length behind < length rest = is.shrinks rest a behind e in
      unfold_once all rest ∙ ap (λ s. and_next s (Ok (all, rest)) (λ a behind. gathered step put (length rest) (put a all) behind)) e ∙ enough (length rest) (length behind) (put a all) behind (omega arith) (omega arith)

-- A loop that takes a step at a time: what is gathered from the start is what is gathered from here.
abbrev pub IsRead : {A S : Type 0} → (List ℕ → Next A) → (A → S → S) → S → List ℕ → S → List ℕ → Type 0
IsRead step put none text all rest = gather step put none text ≡ gather step put all rest

module _ {A S : Type 0} (step : List ℕ → Next A) (put : A → S → S) (is : IsStep step) (none : S) (text : List ℕ) (all : S) (rest : List ℕ) (read : IsRead step put none text all rest) where
  pub read-more : (a : A) (more : S) (behind : List ℕ) → step rest ≡ Ok (Some (a, behind)) → more ≡ put a all → IsRead step put none text more behind
  read-more a more behind e is_more = read ∙ gather-some step put is all rest a behind e ∙ ap (λ s. gather step put s behind) (sym is_more)

  pub read-last : step rest ≡ Ok None → gather step put none text ≡ Ok (all, rest)
  read-last e = read ∙ gather-none step put is all rest e

  -- a step that stops stops the whole
  pub read-stop : {R T : Type 0} (stop : Stop) (view : R → Option (A × List ℕ)) → Gives (Err stop) view (step rest) → (view' : T → S × List ℕ) → Gives (Err stop) view' (gather step put none text)
  read-stop (Bad reason left) view e view' = read ∙ gather-err step put is all rest (reason, left) e
  read-stop Memory view e view' = tt

pub gives-err : {T B : Type 0} (answer : Result T Stop) (stop : Stop) (view : T → B) (r : Result B Stopped) → answer ≡ Err stop → Gives (Err stop) view r → Gives answer view r
gives-err answer stop view r is g = subst (λ a. Gives a view r) (sym is) g

-- the same, of the answer that a `?` makes of the stop of a step
pub loop-stop : {A S R T : Type 0} (step : List ℕ → Next A) (put : A → S → S) (is : IsStep step) (none : S) (text : List ℕ) (all : S) (rest : List ℕ) → IsRead step put none text all rest → (view : R → Option (A × List ℕ)) (view' : T → S × List ℕ) (answer : Result T Stop) (stop stop' : Stop) → answer ≡ Err stop → stop ≡ stop' → Gives (Err stop') view (step rest) → Gives answer view' (gather step put none text)
loop-stop step put is none text all rest read view view' answer stop stop' is_answer is_stop g =
    gives-err answer stop view' (gather step put none text) is_answer (read-stop step put is none text all rest read stop view (subst (λ s. Gives (Err s) view (step rest)) (sym is_stop) g) view')
