-- Several writes, one after the other.
use Rattle.std.proofs.Common.{◌≡◌, ℕ, ◌+◌, ◌-◌, ◌<◌, List, [], ◌∷◌, ◌++◌, Option, Result, Ok, Err, sym, ap, ◌∙◌, append_assoc, append-nil, length, get_or, take, drop, subst, take-append-drop}
use Rattle.std.proofs.Math.Seq.{take-add}
use Rattle.std.proofs.lemmas.List.{take_rest, take_more}
use Rattle.std.proofs.lemmas.List.Concat.{flat_map-append}
use Rattle.std.specs.List.{flat_map}
use Rattle.std.proofs.KnownBytes.{Appends-trans}
use Rattle.std.specs.Io.KnownBytes.{Appends}
use Rattle.std.specs.Prelude.{IsErr}
use Rattle.deb_base.specs.Devices.{AppendsFront, Puts}

-- a write goes on where the one before it stopped
pub Appends-take : (a b c : Option (List ℕ)) (bytes : List ℕ) (n m : ℕ) → Appends a b (take n bytes) → Appends b c (take m (take (length bytes - n) (drop n bytes))) → Appends a c (take (n + m) bytes)
Appends-take a b c bytes n m p q =
    let next = rw (take_rest bytes n) at q in
    subst (Appends a c) (sym (take-add n m bytes)) (Appends-trans a b c (take n bytes) (take m (drop n bytes)) p next)

-- what a loop of writes has written when one of them fails
pub AppendsFront-take : (a b : Option (List ℕ)) (bytes : List ℕ) (n : ℕ) → Appends a b (take n bytes) → AppendsFront a b bytes
AppendsFront-take a b bytes n p = record { front = take n bytes; rest = drop n bytes; whole = sym (take-append-drop n bytes); appended = p }

-- all of bs, and then a prefix of cs
pub AppendsFront-then : (a b c : Option (List ℕ)) (bs cs : List ℕ) → Appends a b bs → AppendsFront b c cs → AppendsFront a c (bs ++ cs)
AppendsFront-then a b c bs cs p q = record {
  front = bs ++ q.front;
  rest = q.rest;
  whole = ap (λ l. bs ++ l) q.whole ∙ sym (append_assoc bs q.front q.rest);
  appended = Appends-trans a b c bs q.front p q.appended;
}

-- a prefix of bs, and nothing after it
pub AppendsFront-more : (a b : Option (List ℕ)) (bs cs : List ℕ) → AppendsFront a b bs → AppendsFront a b (bs ++ cs)
AppendsFront-more a b bs cs p = record {
  front = p.front;
  rest = p.rest ++ cs;
  whole = ap (λ l. l ++ cs) p.whole ∙ append_assoc p.front p.rest cs;
  appended = p.appended;
}

-- all of bs, and then a call that puts cs
pub Puts-then : {T E : Type 0} (a b c : Option (List ℕ)) (bs cs : List ℕ) (r : Result T E) → Appends a b bs → Puts b c r cs → Puts a c r (bs ++ cs)
Puts-then a b c bs cs (Ok x) p q = Appends-trans a b c bs cs p q
Puts-then a b c bs cs (Err e) p q = AppendsFront-then a b c bs cs p q

-- a call that puts bs failed, and cs are not put after it
pub Puts-stopped : {T E : Type 0} (a b : Option (List ℕ)) (bs cs : List ℕ) (r : Result T E) → IsErr r → AppendsFront a b bs → Puts a b r (bs ++ cs)
Puts-stopped a b bs cs (Ok x) is p = cc
Puts-stopped a b bs cs (Err e) is p = AppendsFront-more a b bs cs p

-- for a function that calls one that puts, and then another: name it there in `#[tactic(auto, using(..))]`
pub ruleset puts = (Puts-then, Puts-stopped)

-- the pieces before the one at i, that one, and those after it
pub flat_map-split : {X A : Type 0} (f : X → List A) (xs : List X) (i : ℕ) (d : X) → i < length xs → flat_map f xs ≡ (flat_map f (take i xs) ++ f (get_or xs i d)) ++ flat_map f (drop (i + 1) xs)
flat_map-split f xs i d below =
    ap (flat_map f) (sym (take-append-drop (i + 1) xs)) ∙ flat_map-append f (take (i + 1) xs) (drop (i + 1) xs)
    ∙ ap (λ l. l ++ flat_map f (drop (i + 1) xs)) (ap (flat_map f) (take_more xs i d below) ∙ flat_map-append f (take i xs) (get_or xs i d ∷ []) ∙ ap (λ l. flat_map f (take i xs) ++ l) (append-nil (f (get_or xs i d))))

-- the pieces before the one at i, and then a prefix of that one
pub AppendsFront-pieces : {X : Type 0} (f : X → List ℕ) (xs : List X) (i : ℕ) (d : X) (a b c : Option (List ℕ)) → i < length xs → Appends a b (flat_map f (take i xs)) → AppendsFront b c (f (get_or xs i d)) → AppendsFront a c (flat_map f xs)
AppendsFront-pieces f xs i d a b c below p q =
    rw (flat_map-split f xs i d below) (AppendsFront-more a c _ (flat_map f (drop (i + 1) xs)) (AppendsFront-then a b c (flat_map f (take i xs)) (f (get_or xs i d)) p q))
