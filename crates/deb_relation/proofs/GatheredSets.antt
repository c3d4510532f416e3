-- What is gathered in its order, and what is gathered into a set.
use Rattle.std.proofs.Common.{◌≡◌, ℕ, zero, suc, List, [], length, Option, Some, None, Result, Ok, Err, refl, sym, ap, ◌∙◌, subst}
use Rattle.deb_relation.specs.Grammar.{set_of}
use Rattle.deb_relation.specs.Groups.{append_piece}
use Rattle.deb_relation.specs.Meaning.{Group, Relation}
use Rattle.deb_relation.specs.Reading.{Next, and_next, append, mapped, gathered, gather, put_piece}
use Rattle.deb_relation.specs.Sets.{insert_by}
use Rattle.deb_relation.specs.Stops.{Gives}
use Rattle.deb_relation.specs.Texts.{group_text}
use Rattle.deb_relation.specs.declared.fault.Stop.{Stop}
use Rattle.deb_relation.specs.declared.fault.Stop.TheVariants.{Bad, Memory}
use Rattle.deb_relation.proofs.Gathering.{gives-err}
use Rattle.deb_relation.proofs.Inserting.{set_with-append}

-- One gathers what the other does, seen in another way.
module _ {A S T : Type 0} (step : List ℕ → Next A) (put : A → S → S) (put' : A → T → T) (f : S → T) (same : (a : A) (all : S) → f (put a all) ≡ put' a (f all)) where
  gathered-mapped : (n : ℕ) (all : S) (rest : List ℕ) → gathered step put' n (f all) rest ≡ mapped f (gathered step put n all rest)
  gathered-mapped zero all rest = refl
  gathered-mapped (suc n) all rest = more (gathered-mapped n) (step rest)
    where
      more : ((all' : S) (rest' : List ℕ) → gathered step put' n (f all') rest' ≡ mapped f (gathered step put n all' rest')) → (next : Next A) → and_next next (Ok (f all, rest)) (λ a behind. gathered step put' n (put' a (f all)) behind) ≡ mapped f (and_next next (Ok (all, rest)) (λ a behind. gathered step put n (put a all) behind))
      more so (Err stopped) = refl
      more so (Ok None) = refl
      more so (Ok (Some q)) = ap (λ t. gathered step put' n t q.1) (sym (same q.0 all)) ∙ so (put q.0 all) q.1

  pub gather-mapped : (all : S) (rest : List ℕ) → gather step put' (f all) rest ≡ mapped f (gather step put all rest)
  unfolding gather
  gather-mapped all rest = gathered-mapped (length rest) all rest

  pub mapped-ok : (all : S) (text : List ℕ) (last : S) (set : T) (rest : List ℕ) → gather step put all text ≡ Ok (last, rest) → set ≡ f last → gather step put' (f all) text ≡ Ok (set, rest)
  mapped-ok all text last set rest is is_set = gather-mapped all text ∙ ap (mapped f) is ∙ ap (λ t. Ok (t, rest)) (sym is_set)

  mapped-err : {R R' : Type 0} (all : S) (text : List ℕ) (stop : Stop) (view : R → S × List ℕ) (view' : R' → T × List ℕ) → Gives (Err stop) view (gather step put all text) → Gives (Err stop) view' (gather step put' (f all) text)
  mapped-err all text (Bad reason left) view view' is = gather-mapped all text ∙ ap (mapped f) is
  mapped-err all text Memory view view' is = tt

  -- the same, of the answer that a `?` makes of the stop
  pub mapped-stop : {R R' : Type 0} (all : S) (text : List ℕ) (view : R → S × List ℕ) (view' : R' → T × List ℕ) (answer : Result R' Stop) (stop stop' : Stop) → answer ≡ Err stop → stop ≡ stop' → Gives (Err stop') view (gather step put all text) → Gives answer view' (gather step put' (f all) text)
  mapped-stop all text view view' answer stop stop' is_answer is_stop is =
      gives-err answer stop view' (gather step put' (f all) text) is_answer (mapped-err all text stop view view' (subst (λ s. Gives (Err s) view (gather step put all text)) (sym is_stop) is))

pub put_member : {A : Type 0} (text : A → List ℕ) (a : A) (all : List A) → set_of text (append a all) ≡ insert_by text a (set_of text all)
put_member text a all = set_with-append text a all []

pub put_group : (piece : Option Group) (all : Relation) → set_of group_text (append_piece piece all) ≡ put_piece piece (set_of group_text all)
put_group None all = refl
put_group (Some group) all = put_member group_text group all
