-- The first of some texts, which are read one after another.
use Rattle.std.proofs.Common.{◌≡◌, ◌<◌, ◌≤◌, ◌+◌, ℕ, List, [], ◌∷◌, ◌++◌, get_or, length, take, ap, arith, refl, suc, zero}
use Rattle.std.specs.Borrow.{Bor}
use Rattle.std.proofs.lemmas.List.{map_more}
use Rattle.deb_relation.specs.Views.{names_of}

-- the bytes of the first of some texts
abbrev pub first_texts : ℕ → List (Bor (List ℕ)) → List (List ℕ)
first_texts n texts = names_of (take n texts)

pub one_more : (texts : List (Bor (List ℕ))) (n : ℕ) (d : Bor (List ℕ)) → n < length texts
    → first_texts (n + 1) texts ≡ first_texts n texts ++ (get_or texts n d).now ∷ []
one_more texts n d less = map_more (λ t. t.now) texts n d less

take_long : {X : Type 0} (xs : List X) (n : ℕ) → length xs ≤ n → take n xs ≡ xs
take_long [] zero long = refl
take_long [] (suc n) long = refl
take_long (x ∷ xs) zero long = absurd (omega (arith, long))
take_long (x ∷ xs) (suc n) long = ap (λ l. x ∷ l) (take_long xs n (omega (arith, long)))

pub all_texts : (texts : List (Bor (List ℕ))) (n : ℕ) → length texts ≤ n → first_texts n texts ≡ names_of texts
all_texts texts n long = ap names_of (take_long texts n long)
