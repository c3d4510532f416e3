-- Sets as lists: ascending by the texts of their members, each once.
use Rattle.std.specs.Prelude.{◌≡◌, ℕ, Bool, true, false, not, List, [], ◌∷◌, codes, refl}
use Rattle.std.specs.Cmp.Lexicographic.{slice_cmp}
use Rattle.std.specs.Ordering.{nat_cmp}
use Rattle.std.specs.declared.cmp.Ordering.{Ordering}
use Rattle.std.specs.declared.cmp.Ordering.TheVariants.{Less, Equal, Greater}

-- byte order: the first byte that differs decides, and a text that begins another comes first
abbrev pub byte_cmp : List ℕ → List ℕ → Ordering
byte_cmp a b = slice_cmp nat_cmp a b

-- what comes of an order: one of three
abbrev pub by_order : {A : Type 0} → Ordering → A → A → A → A
by_order Less less equal greater = less
by_order Equal less equal greater = equal
by_order Greater less equal greater = greater

-- a member put into a set: in its order, or nowhere if a member of its text is there
abbrev pub insert_by : {A : Type 0} → (A → List ℕ) → A → List A → List A
insert_by text x [] = x ∷ []
insert_by text x (y ∷ ys) =
    by_order (byte_cmp (text x) (text y)) (x ∷ y ∷ ys) (y ∷ ys) (y ∷ insert_by text x ys)

-- the set's own texts
abbrev pub itself : List ℕ → List ℕ
itself text = text

-- whether two tests answer alike
abbrev pub same_bool : Bool → Bool → Bool
same_bool true b = b
same_bool false b = not b

worked-less : insert_by itself (codes "a") (codes "ab" ∷ codes "b" ∷ []) ≡ codes "a" ∷ codes "ab"
    ∷ codes "b" ∷ []
worked-less = refl

worked-between : insert_by itself (codes "ab") (codes "a" ∷ codes "b" ∷ []) ≡ codes "a" ∷ codes "ab"
    ∷ codes "b" ∷ []
worked-between = refl

worked-last : insert_by itself (codes "c") (codes "a" ∷ codes "b" ∷ []) ≡ codes "a" ∷ codes "b"
    ∷ codes "c" ∷ []
worked-last = refl

worked-again : insert_by itself (codes "b") (codes "a" ∷ codes "b" ∷ []) ≡ codes "a" ∷ codes "b"
    ∷ []
worked-again = refl
