-- Names that are collected one after another.
use Rattle.std.proofs.Common.{◌≡◌, ℕ, ◌+◌, ◌<◌, List, [], ◌∷◌, ◌++◌, get_or, length, map, take, sym, ap, ◌∙◌, append_assoc, append-nil}
use Rattle.std.proofs.lemmas.List.{map-append, take_more}
use Rattle.deb_relation.specs.Meaning.{Group, Relation}
use Rattle.deb_select.specs.Conditions.{alternatives_in, names_asked}

pub one_more_taken : {Y : Type 0} (ys : List Y) (i : ℕ) (y : Y) → i < length ys → y ≡ get_or ys i y → take (i + 1) ys ≡ take i ys ++ y ∷ []
one_more_taken ys i y below is = take_more ys i y below ∙ ap (λ z. take i ys ++ z ∷ []) (sym is)

pub one_collected : {X Y W Z : Type 0} (f : X → Z) (g : W → Z) (h : Y → W) (start old new : List X) (x : X) (ys : List Y) (i : ℕ) (y : Y) → new ≡ old ++ x ∷ [] → f x ≡ g (h y) → i < length ys → y ≡ get_or ys i y
    → map f old ≡ map f start ++ map g (map h (take i ys)) → map f new ≡ map f start ++ map g (map h (take (i + 1) ys))
one_collected f g h start old new x ys i y is same below item so_far =
    ap (map f) is ∙ map-append f old (x ∷ []) ∙ ap (λ l. l ++ f x ∷ []) so_far
    ∙ append_assoc (map f start) (map g (map h (take i ys))) (f x ∷ [])
    ∙ ap (λ l. map f start ++ l)
    (ap (λ z. map g (map h (take i ys)) ++ z ∷ []) same ∙ sym (map-append g (map h (take i ys)) (h y ∷ []))
    ∙ ap (map g) (sym (map-append h (take i ys) (y ∷ [])) ∙ ap (map h) (sym (one_more_taken ys i y below item))))

alternatives_in-push : (groups : Relation) (group : Group) → alternatives_in (groups ++ group ∷ []) ≡ alternatives_in groups ++ group
alternatives_in-push [] group = append-nil group
alternatives_in-push (first ∷ groups) group = ap (λ l. first ++ l) (alternatives_in-push groups group) ∙ sym (append_assoc first (alternatives_in groups) group)

pub group_collected : {X Y : Type 0} (f : X → List ℕ) (h : Y → Group) (old new : List X) (ys : List Y) (i : ℕ) (y : Y) → map f new ≡ map f old ++ map (λ alternative. alternative.name) (h y) → i < length ys → y ≡ get_or ys i y
    → map f old ≡ names_asked (map h (take i ys)) → map f new ≡ names_asked (map h (take (i + 1) ys))
group_collected f h old new ys i y is below item so_far =
    is ∙ ap (λ l. l ++ map (λ a. a.name) (h y)) so_far
    ∙ sym (map-append (λ a. a.name) (alternatives_in (map h (take i ys))) (h y))
    ∙ ap (map (λ a. a.name)) (sym (alternatives_in-push (map h (take i ys)) (h y)) ∙ ap alternatives_in (sym (map-append h (take i ys) (y ∷ [])) ∙ ap (map h) (sym (one_more_taken ys i y below item))))
