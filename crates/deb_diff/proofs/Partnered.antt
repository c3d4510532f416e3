-- The partners of one key more.
use Rattle.std.proofs.Common.{◌≡◌, ℕ, List, [], ◌∷◌, ◌++◌, map, take, get_or, ◌+◌, ◌<◌, length, Bor, Option, refl, sym, ap, ◌∙◌}
use Rattle.std.proofs.lemmas.List.{map-append, take_more}
use Rattle.std.specs.Option.{option_map}
use Rattle.deb_diff.specs.Items.{Item}
use Rattle.deb_diff.specs.Pairing.{all_but, earliest}
use Rattle.deb_diff.specs.Partners.{Pairs, after_keys, partners_of}
use Rattle.deb_diff.specs.Pools.{Takes, left_in}
use Rattle.deb_diff.specs.declared.pool.Pool.{Pool}

partners-push : (key : Item → List ℕ) (keys : List (List ℕ)) (wanted : List ℕ) (left : List (ℕ × Item)) → partners_of key (keys ++ wanted ∷ []) left ≡ partners_of key keys left ++ option_map (λ e. e.0) (earliest (λ e. key e.1) wanted (after_keys key keys left)) ∷ []
partners-push key [] wanted left = refl
partners-push key (k ∷ keys) wanted left = ap (λ l. option_map (λ e. e.0) (earliest (λ e. key e.1) k left) ∷ l) (partners-push key keys wanted (all_but (λ e. key e.1) k left))

after-push : (key : Item → List ℕ) (keys : List (List ℕ)) (wanted : List ℕ) (left : List (ℕ × Item)) → after_keys key (keys ++ wanted ∷ []) left ≡ all_but (λ e. key e.1) wanted (after_keys key keys left)
after-push key [] wanted left = refl
after-push key (k ∷ keys) wanted left = after-push key keys wanted (all_but (λ e. key e.1) k left)

pub pairs-push : (items : List Item) (key : Item → List ℕ) (keys more : List (List ℕ)) (wanted : List ℕ) (old now new : Pool) (found found_now : List (Option ℕ)) (number : Option ℕ)
    → more ≡ keys ++ wanted ∷ [] → found_now ≡ found ++ number ∷ [] → Pairs items key keys old found now → Takes items key wanted now number new → Pairs items key more old found_now new
pairs-push items key keys more wanted old now new found found_now number more_is now_is pairs takes = record {
  partners = now_is ∙ ap (λ l. l ++ number ∷ []) pairs.partners ∙ ap (λ n. partners_of key keys (left_in items old) ++ n ∷ []) (takes.found ∙ ap (λ l. option_map (λ e. e.0) (earliest (λ e. key e.1) wanted l)) pairs.left) ∙ sym (partners-push key keys wanted (left_in items old)) ∙ ap (λ l. partners_of key l (left_in items old)) (sym more_is);
  left = takes.left ∙ ap (all_but (λ e. key e.1) wanted) pairs.left ∙ sym (after-push key keys wanted (left_in items old)) ∙ ap (λ l. after_keys key l (left_in items old)) (sym more_is);
  is_pool = takes.is_pool;
}

pub keys-more : (keys : List (Bor (List ℕ))) (i : ℕ) (d : Bor (List ℕ)) → i < length keys → map (λ k. k.now) (take (i + 1) keys) ≡ map (λ k. k.now) (take i keys) ++ (get_or keys i d).now ∷ []
keys-more keys i d below = ap (map (λ k. k.now)) (take_more keys i d below) ∙ map-append (λ k. k.now) (take i keys) (get_or keys i d ∷ [])
