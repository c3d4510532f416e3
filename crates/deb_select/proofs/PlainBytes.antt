-- The bytes of a cell that are written as they are.
use Rattle.std.proofs.Common.{rules, tests, ◌≡◌, ℕ, suc, ◌+◌, ◌-◌, Bool, true, false, cond, List, [], ◌∷◌, ◌++◌, get_or, length, take, drop, refl, sym, ap, ◌∙◌, subst, arith, append_assoc, append-nil, ◌<◌}
use Rattle.std.proofs.lemmas.List.{drop_all, drop_more, take_rest}
use Rattle.std.proofs.lemmas.Bool.{and_parts}
use Rattle.std.specs.List.{flat_map, list_all, prefix_len}
use Rattle.deb_select.specs.Tables.{cell_byte, is_plain}

plain_byte : (b : ℕ) → is_plain b ≡ true → cell_byte b ≡ b ∷ []
plain_byte b plain = search (rules, tests)

pub plain_text : (text : List ℕ) → list_all is_plain text ≡ true → flat_map cell_byte text ≡ text
plain_text [] all = refl
plain_text (b ∷ bs) all =
    let both = and_parts (is_plain b) (list_all is_plain bs) all in
    ap (λ l. l ++ flat_map cell_byte bs) (plain_byte b both.0) ∙ ap (λ l. b ∷ l) (plain_text bs both.1)

-- the plain bytes with which a text begins, and the others
pub plain_front : (text : List ℕ) → flat_map cell_byte text ≡ take (prefix_len is_plain text) text ++ flat_map cell_byte (drop (prefix_len is_plain text) text)
plain_front [] = refl
plain_front (b ∷ bs) = front (is_plain b) refl (plain_front bs)
  where
    front : (v : Bool) → is_plain b ≡ v → flat_map cell_byte bs ≡ take (prefix_len is_plain bs) bs ++ flat_map cell_byte (drop (prefix_len is_plain bs) bs)
        → flat_map cell_byte (b ∷ bs) ≡ take (prefix_len is_plain (b ∷ bs)) (b ∷ bs) ++ flat_map cell_byte (drop (prefix_len is_plain (b ∷ bs)) (b ∷ bs))
    front true plain later =
        let counted : prefix_len is_plain (b ∷ bs) ≡ suc (prefix_len is_plain bs) = ap (λ v. cond v (1 + prefix_len is_plain bs) 0) plain ∙ omega arith in
        subst (λ n. flat_map cell_byte (b ∷ bs) ≡ take n (b ∷ bs) ++ flat_map cell_byte (drop n (b ∷ bs))) (sym counted)
        (ap (λ l. l ++ flat_map cell_byte bs) (plain_byte b plain) ∙ ap (λ l. b ∷ l) later)
    front false plain later =
        subst (λ n. flat_map cell_byte (b ∷ bs) ≡ take n (b ∷ bs) ++ flat_map cell_byte (drop n (b ∷ bs))) (sym (ap (λ v. cond v (1 + prefix_len is_plain bs) 0) plain)) refl

module _ (start out : List ℕ) (text rest : List ℕ) (n : ℕ) (more : List ℕ) (so_far : start ++ flat_map cell_byte text ≡ out ++ flat_map cell_byte rest) (plain : n ≡ prefix_len is_plain rest) (added : more ≡ out ++ take n rest) where
  parted : flat_map cell_byte rest ≡ take n rest ++ flat_map cell_byte (drop n rest)
  parted = subst (λ k. flat_map cell_byte rest ≡ take k rest ++ flat_map cell_byte (drop k rest)) (sym plain) (plain_front rest)

  onward : start ++ flat_map cell_byte text ≡ more ++ flat_map cell_byte (drop n rest)
  onward = so_far ∙ ap (λ l. out ++ l) parted ∙ sym (append_assoc out (take n rest) (flat_map cell_byte (drop n rest))) ∙ ap (λ l. l ++ flat_map cell_byte (drop n rest)) (sym added)

  pub all_plain : n ≡ length rest → more ≡ start ++ flat_map cell_byte text
  all_plain whole =
      sym (onward ∙ ap (λ l. more ++ flat_map cell_byte l) (drop_all n rest (omega arith)) ∙ append-nil more)

  pub one_escaped : (new : List ℕ) → n < length rest → new ≡ more ++ cell_byte (get_or rest n 0) → start ++ flat_map cell_byte text ≡ new ++ flat_map cell_byte (take (length rest - (n + 1)) (drop (n + 1) rest))
  one_escaped new below escaped =
      onward ∙ ap (λ l. more ++ flat_map cell_byte l) (drop_more rest n 0 below)
      ∙ sym (append_assoc more (cell_byte (get_or rest n 0)) (flat_map cell_byte (drop (n + 1) rest)))
      ∙ ap (λ l. l ++ flat_map cell_byte (drop (n + 1) rest)) (sym escaped)
      ∙ ap (λ l. new ++ flat_map cell_byte l) (sym (take_rest rest (n + 1)))
