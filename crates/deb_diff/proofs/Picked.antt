-- Elements of a list that wait, when one more comes and when one is taken.
use Rattle.std.proofs.Common.{◌≡◌, ℕ, suc, ◌+◌, ◌<◌, Bool, true, false, cond, List, [], ◌∷◌, ◌++◌, length, map, take, get_or, slice_set, subst, Bor, Some, refl, sym, ap, ◌∙◌, arith, append-nil}
use Rattle.std.specs.List.{filter}
use Rattle.std.proofs.lemmas.List.{length-map, length-take-le, map-append, take_more}
use Rattle.std.specs.Option.{option_map}
use Rattle.std.specs.Str.{bytes_eq}
use Rattle.std.proofs.lemmas.Slice.Eq.{bytes_eq-Decides}
use Rattle.deb_diff.specs.Pairing.{all_but, earliest}
use Rattle.deb_diff.specs.Pools.{numbers_of, pick}
use Rattle.deb_diff.specs.Waiting.{first_of, rest_of}

-- elements under a key, and their images
module _ {X Y : Type 0} (f : X → Y) (key : Y → List ℕ) where
  pub earliest-map : (wanted : List ℕ) (xs : List X) → earliest key wanted (map f xs) ≡ option_map f (earliest (λ x. key (f x)) wanted xs)
  earliest-map wanted [] = refl
  earliest-map wanted (x ∷ xs) = go (bytes_eq (key (f x)) wanted) (earliest-map wanted xs)
    where
      go : (b : Bool) → earliest key wanted (map f xs) ≡ option_map f (earliest (λ x. key (f x)) wanted xs) → cond b (Some (f x)) (earliest key wanted (map f xs)) ≡ option_map f (cond b (Some x) (earliest (λ x. key (f x)) wanted xs))
      go true h = refl
      go false h = h

  pub all_but-map : (wanted : List ℕ) (xs : List X) → all_but key wanted (map f xs) ≡ map f (all_but (λ x. key (f x)) wanted xs)
  all_but-map wanted [] = refl
  all_but-map wanted (x ∷ xs) = go (bytes_eq (key (f x)) wanted) (all_but-map wanted xs)
    where
      go : (b : Bool) → all_but key wanted (map f xs) ≡ map f (all_but (λ x. key (f x)) wanted xs) → cond b (map f xs) (f x ∷ all_but key wanted (map f xs)) ≡ map f (cond b xs (x ∷ all_but (λ x. key (f x)) wanted xs))
      go true h = refl
      go false h = ap (λ l. f x ∷ l) h

-- picked elements, and their images
pub pick-map : {X Y : Type 0} (f : X → Y) (n : ℕ) (xs : List X) (flags : List Bool) → pick n (map f xs) flags ≡ map (λ e. (e.0, f e.1)) (pick n xs flags)
pick-map f n [] flags = refl
pick-map f n (x ∷ xs) [] = refl
pick-map f n (x ∷ xs) (true ∷ flags) = ap (λ l. (n, f x) ∷ l) (pick-map f (n + 1) xs flags)
pick-map f n (x ∷ xs) (false ∷ flags) = pick-map f (n + 1) xs flags

-- one element more
pub pick-push : {X : Type 0} (n : ℕ) (xs : List X) (x : X) (flags : List Bool) → length xs < length flags → pick n (xs ++ x ∷ []) flags ≡ pick n xs flags ++ cond (get_or flags (length xs) false) ((n + length xs, x) ∷ []) []
pick-push n [] x [] less = absurd (omega (arith, less))
pick-push n [] x (true ∷ flags) less = ap (λ k. (k, x) ∷ []) (omega arith)
pick-push n [] x (false ∷ flags) less = refl
pick-push n (y ∷ xs) x [] less = absurd (omega (arith, less))
pick-push n (y ∷ xs) x (true ∷ flags) less =
    ap (λ l. (n, y) ∷ l) (pick-push (n + 1) xs x flags (omega (arith, less)) ∙ ap (λ k. pick (n + 1) xs flags ++ cond (get_or flags (length xs) false) ((k, x) ∷ []) []) (omega arith))
pick-push n (y ∷ xs) x (false ∷ flags) less =
    pick-push (n + 1) xs x flags (omega (arith, less)) ∙ ap (λ k. pick (n + 1) xs flags ++ cond (get_or flags (length xs) false) ((k, x) ∷ []) []) (omega arith)

-- the numbers of a key, with one element more
pub numbers-push : (key : List ℕ) (left : List (ℕ × List ℕ)) (number : ℕ) (other : List ℕ) → numbers_of key (left ++ (number, other) ∷ []) ≡ cond (bytes_eq other key) (numbers_of key left ++ number ∷ []) (numbers_of key left)
numbers-push key [] number other = go (bytes_eq other key)
  where
    go : (b : Bool) → map (λ (e : ℕ × List ℕ). e.0) (cond b ((number, other) ∷ []) []) ≡ cond b (number ∷ []) []
    go true = refl
    go false = refl
numbers-push key (e ∷ left) number other = go (bytes_eq e.1 key) (bytes_eq other key) (numbers-push key left number other)
  where
    go : (b c : Bool) → numbers_of key (left ++ (number, other) ∷ []) ≡ cond c (numbers_of key left ++ number ∷ []) (numbers_of key left)
        → map (λ e. e.0) (cond b (e ∷ filter (λ e. bytes_eq e.1 key) (left ++ (number, other) ∷ [])) (filter (λ e. bytes_eq e.1 key) (left ++ (number, other) ∷ [])))
        ≡ cond c (map (λ e. e.0) (cond b (e ∷ filter (λ e. bytes_eq e.1 key) left) (filter (λ e. bytes_eq e.1 key) left)) ++ number ∷ []) (map (λ e. e.0) (cond b (e ∷ filter (λ e. bytes_eq e.1 key) left) (filter (λ e. bytes_eq e.1 key) left)))
    go true true h = ap (λ l. e.0 ∷ l) h
    go true false h = ap (λ l. e.0 ∷ l) h
    go false true h = h
    go false false h = h

-- the first number of a key is that of the earliest
pub numbers-first : (key : List ℕ) (left : List (ℕ × List ℕ)) → first_of (numbers_of key left) ≡ option_map (λ e. e.0) (earliest (λ e. e.1) key left)
numbers-first key [] = refl
numbers-first key (e ∷ left) = go (bytes_eq e.1 key) (numbers-first key left)
  where
    go : (b : Bool) → first_of (numbers_of key left) ≡ option_map (λ e. e.0) (earliest (λ e. e.1) key left)
        → first_of (map (λ e. e.0) (cond b (e ∷ filter (λ e. bytes_eq e.1 key) left) (filter (λ e. bytes_eq e.1 key) left))) ≡ option_map (λ e. e.0) (cond b (Some e) (earliest (λ e. e.1) key left))
    go true h = refl
    go false h = h

-- and without it the others are left
pub numbers-rest : (key other : List ℕ) (left : List (ℕ × List ℕ)) → numbers_of other (all_but (λ e. e.1) key left) ≡ cond (bytes_eq key other) (rest_of (numbers_of other left)) (numbers_of other left)
numbers-rest key other [] = go (bytes_eq key other)
  where
    go : (b : Bool) → [] ≡ cond b (rest_of {X = ℕ} []) []
    go true = refl
    go false = refl
numbers-rest key other (e ∷ left) =
    go (bytes_eq e.1 key) refl (bytes_eq e.1 other) refl (bytes_eq key other) refl (numbers-rest key other left)
  where
    same : List (ℕ × List ℕ)
    same = filter (λ e. bytes_eq e.1 other) left

    go : (a : Bool) → bytes_eq e.1 key ≡ a → (b : Bool) → bytes_eq e.1 other ≡ b → (c : Bool) → bytes_eq key other ≡ c → numbers_of other (all_but (λ e. e.1) key left) ≡ cond c (rest_of (map (λ e. e.0) same)) (map (λ e. e.0) same)
        → numbers_of other (cond a left (e ∷ all_but (λ e. e.1) key left)) ≡ cond c (rest_of (map (λ e. e.0) (cond b (e ∷ same) same))) (map (λ e. e.0) (cond b (e ∷ same) same))
    go true x true y true z h = refl
    go true x true y false z h = cc (sym z, (bytes_eq-Decides key other).1 (sym ((bytes_eq-Decides e.1 key).0 x) ∙ (bytes_eq-Decides e.1 other).0 y))
    go true x false y true z h = cc (sym y, (bytes_eq-Decides e.1 other).1 ((bytes_eq-Decides e.1 key).0 x ∙ (bytes_eq-Decides key other).0 z))
    go true x false y false z h = refl
    go false x true y true z h = cc (sym x, (bytes_eq-Decides e.1 key).1 ((bytes_eq-Decides e.1 other).0 y ∙ sym ((bytes_eq-Decides key other).0 z)))
    go false x true y false z h = rw y (ap (λ l. e.0 ∷ l) h)
    go false x false y true z h = rw y h
    go false x false y false z h = rw y h

-- what is taken waits no longer
pub record IsTaken {X : Type 0} (key : X → List ℕ) (n : ℕ) (xs : List X) (flags : List Bool) (wanted : List ℕ) (e : ℕ × X) : Type 0 where
  pub at : ℕ
  pub number : e.0 ≡ n + at
  pub below : at < length flags
  pub below_too : at < length xs
  pub element : get_or xs at e.1 ≡ e.1
  pub left : pick n xs (slice_set flags at false) ≡ all_but (λ e. key e.1) wanted (pick n xs flags)

pub pick-taken : {X : Type 0} (key : X → List ℕ) (n : ℕ) (xs : List X) (flags : List Bool) (wanted : List ℕ) (e : ℕ × X) → earliest (λ e. key e.1) wanted (pick n xs flags) ≡ Some e → IsTaken key n xs flags wanted e
pick-taken key n [] flags wanted e is = cc is
pick-taken key n (x ∷ xs) [] wanted e is = cc is
pick-taken key n (x ∷ xs) (true ∷ flags) wanted e is = go (bytes_eq (key x) wanted) refl is (pick-taken key (n + 1) xs flags wanted e)
  where
    go : (b : Bool) → bytes_eq (key x) wanted ≡ b → cond b (Some (n, x)) (earliest (λ e. key e.1) wanted (pick (n + 1) xs flags)) ≡ Some e → (earliest (λ e. key e.1) wanted (pick (n + 1) xs flags) ≡ Some e → IsTaken key (n + 1) xs flags wanted e) → IsTaken key n (x ∷ xs) (true ∷ flags) wanted e
    go true same is h =
        let one : (n, x) ≡ e = cc is in
        subst (IsTaken key n (x ∷ xs) (true ∷ flags) wanted) one
        (record { at = 0; number = omega arith; below = omega arith; below_too = omega arith; element = refl; left = rw same refl })
    go false apart is h =
        let rest = h is in
        record { at = suc rest.at; number = omega (arith, rest.number); below = omega (arith, rest.below); below_too = omega (arith, rest.below_too); element = rest.element; left = rw apart (ap (λ l. (n, x) ∷ l) rest.left) }
pick-taken key n (x ∷ xs) (false ∷ flags) wanted e is =
    let rest = pick-taken key (n + 1) xs flags wanted e is in
    record { at = suc rest.at; number = omega (arith, rest.number); below = omega (arith, rest.below); below_too = omega (arith, rest.below_too); element = rest.element; left = rest.left }

-- the numbers under a key, with those of the next element
pub numbers-more : (keys : List (Bor (List ℕ))) (flags : List Bool) (number : ℕ) (d : Bor (List ℕ)) → number < length keys → length flags ≡ length keys → (b : Bool) → get_or flags number false ≡ b
    → (old new key : List ℕ) → old ≡ numbers_of key (pick 0 (map (λ k. k.now) (take number keys)) flags) → new ≡ cond b (cond (bytes_eq (get_or keys number d).now key) (old ++ number ∷ []) old) old
    → new ≡ numbers_of key (pick 0 (map (λ k. k.now) (take (number + 1) keys)) flags)
numbers-more keys flags number d below same b waits old new key before is =
    let element = (get_or keys number d).now in
    let front = map (λ (k : Bor (List ℕ)). k.now) (take number keys) in
    let long : length front ≡ number = length-map (take number keys) (λ k. k.now) ∙ length-take-le number keys (omega (arith, below)) in
    let more : map (λ (k : Bor (List ℕ)). k.now) (take (number + 1) keys) ≡ front ++ element ∷ [] = ap (map (λ k. k.now)) (take_more keys number d below) ∙ map-append (λ k. k.now) (take number keys) (get_or keys number d ∷ []) in
    let picked : pick 0 (map (λ (k : Bor (List ℕ)). k.now) (take (number + 1) keys)) flags ≡ pick 0 front flags ++ cond b ((number, element) ∷ []) [] =
    ap (λ l. pick 0 l flags) more ∙ pick-push 0 front element flags (omega (arith, below, same, long)) ∙ ap (λ i. pick 0 front flags ++ cond (get_or flags i false) ((0 + i, element) ∷ []) []) long
    ∙ ap (λ w. pick 0 front flags ++ cond w ((0 + number, element) ∷ []) []) waits ∙ ap (λ i. pick 0 front flags ++ cond b ((i, element) ∷ []) []) (omega arith) in
    is ∙ ap (λ l. cond b (cond (bytes_eq element key) (l ++ number ∷ []) l) l) before ∙ last b front ∙ ap (numbers_of key) (sym picked)
  where
    last : (b : Bool) (front : List (List ℕ)) → cond b (cond (bytes_eq (get_or keys number d).now key) (numbers_of key (pick 0 front flags) ++ number ∷ []) (numbers_of key (pick 0 front flags))) (numbers_of key (pick 0 front flags)) ≡ numbers_of key (pick 0 front flags ++ cond b ((number, (get_or keys number d).now) ∷ []) [])
    last true front = sym (numbers-push key (pick 0 front flags) number (get_or keys number d).now)
    last false front = ap (numbers_of key) (sym (append-nil (pick 0 front flags)))

-- the elements that wait, with the next one
pub picked-more : {X : Type 0} (xs : List X) (flags : List Bool) (number : ℕ) (d : X) → number < length xs → length flags ≡ length xs → (b : Bool) → get_or flags number false ≡ b
    → (old new : List X) → old ≡ map (λ e. e.1) (pick 0 (take number xs) flags) → new ≡ cond b (old ++ get_or xs number d ∷ []) old → new ≡ map (λ e. e.1) (pick 0 (take (number + 1) xs) flags)
picked-more {X = X} xs flags number d below same b waits old new before is =
    let x = get_or xs number d in
    let front = take number xs in
    let long : length front ≡ number = length-take-le number xs (omega (arith, below)) in
    let picked : pick 0 (take (number + 1) xs) flags ≡ pick 0 front flags ++ cond (get_or flags (length front) false) ((0 + length front, x) ∷ []) [] =
    ap (λ l. pick 0 l flags) (take_more xs number d below) ∙ pick-push 0 front x flags (omega (arith, below, same, long)) in
    let flag : get_or flags (length front) false ≡ b = ap (λ i. get_or flags i false) long ∙ waits in
    is ∙ ap (λ l. cond b (l ++ x ∷ []) l) before ∙ last b (0 + length front) (pick 0 front flags) x
    ∙ ap (λ w. map (λ e. e.1) (pick 0 front flags ++ cond w ((0 + length front, x) ∷ []) [])) (sym flag) ∙ ap (map (λ e. e.1)) (sym picked)
  where
    last : (b : Bool) (n : ℕ) (front : List (ℕ × X)) (x : X) → cond b (map (λ e. e.1) front ++ x ∷ []) (map (λ e. e.1) front) ≡ map (λ e. e.1) (front ++ cond b ((n, x) ∷ []) [])
    last true n front x = sym (map-append (λ e. e.1) front ((n, x) ∷ []))
    last false n front x = ap (map (λ e. e.1)) (sym (append-nil front))

-- and without it
pub picked-same : {X : Type 0} (xs : List X) (flags : List Bool) (number : ℕ) → number < length xs → length flags ≡ length xs → get_or flags number false ≡ false
    → (old new : List X) → old ≡ map (λ e. e.1) (pick 0 (take number xs) flags) → new ≡ old → new ≡ map (λ e. e.1) (pick 0 (take (number + 1) xs) flags)
picked-same [] flags number below same waits old new before is = absurd (omega (arith, below))
picked-same (x ∷ xs) flags number below same waits old new before is = picked-more (x ∷ xs) flags number x below same false waits old new before is
