-- A number that is put under a name, where the last number and the lists of several are kept apart.
use Rattle.std.proofs.Common.{◌≡◌, ◌≢◌, ℕ, ◌-◌, ◌==◌, Bool, true, false, cond, ◌&&◌, nat_lt, List, [], ◌∷◌, ◌++◌, length, Option, None, Some, Result, Ok, Err, OnOk, Vec, refl, sym, ap, ◌∙◌, subst, inl, inr}
use Rattle.std.specs.Global.{Global}
use Rattle.std.specs.Option.{unwrap_or}
use Rattle.indexmap.specs.IndexMap.{UpdatesBy, get_by}
use Rattle.std.specs.List.{slice_index}
use Rattle.std.specs.Str.{bytes_eq}
use Rattle.std.proofs.lemmas.Bool.{and_parts, cases_Bool, eqb-true, false≢true}
use Rattle.std.proofs.lemmas.Slice.Eq.{bytes_eq-Decides}
use Rattle.deb_index.specs.Maps.{EndInLast, PutsLast, ends_in_last, is_last, last_under, list_under, numbers_under, numbers_with, put_last}
use Rattle.deb_index.specs.declared.names.Names.{Names}
use Rattle.deb_index.proofs.Counted.{appended_last}
use Rattle.deb_index.proofs.Lookups.{updated}
use Rattle.deb_index.proofs.Merged.{eqb-itself}

-- the list after a number was put
abbrev pub list_after : ℕ → ℕ → Option (List ℕ) → Option (List ℕ)
list_after before n list = cond (before == n) list (Some (numbers_with list (Some before) ++ n ∷ []))

abbrev PutsIn : ℕ → Option (List ℕ) → Option ℕ → Option (List ℕ) → Type 0
PutsIn n list last after = (ends_in_last after (Some n) ≡ true) × (numbers_with after (Some n) ≡ put_last n (numbers_with list last))

put_known : (n : ℕ) (xs : List ℕ) → is_last n xs ≡ true → put_last n xs ≡ xs
put_known n xs e = ap (λ v. cond v xs (xs ++ n ∷ [])) e

put_new : (n : ℕ) (xs : List ℕ) → is_last n xs ≡ false → put_last n xs ≡ xs ++ n ∷ []
put_new n xs e = ap (λ v. cond v xs (xs ++ n ∷ [])) e

other_last : (m n : ℕ) (xs : List ℕ) → is_last m xs ≡ true → (m == n) ≡ false → is_last n xs ≡ false
other_last m n xs ends apart =
    let parts = and_parts (nat_lt 0 (length xs)) (slice_index xs (length xs - 1) == m) ends in
    let last : slice_index xs (length xs - 1) ≡ m = eqb-true (slice_index xs (length xs - 1)) m parts.1 in
    ap (λ v. v && (slice_index xs (length xs - 1) == n)) parts.0 ∙ ap (λ k. k == n) last ∙ apart

puts_in : (n before : ℕ) (list : Option (List ℕ)) (last : Option ℕ) → ends_in_last list last ≡ true → before ≡ unwrap_or last n → PutsIn n list last (list_after before n list)
puts_in n before None None ends is = subst (λ b. PutsIn n None None (list_after b n None)) (sym is) (subst (λ v. PutsIn n None None (cond v None (Some (n ∷ n ∷ [])))) (sym (eqb-itself n)) (refl, refl))
puts_in n before None (Some m) ends is = subst (λ b. PutsIn n None (Some m) (list_after b n None)) (sym is) (go (m == n) refl)
  where
    go : (v : Bool) → (m == n) ≡ v → PutsIn n None (Some m) (cond v None (Some (m ∷ n ∷ [])))
    go true e = (refl, ap (λ k. k ∷ []) (sym (eqb-true m n e)) ∙ sym (put_known n (m ∷ []) e))
    go false e = (appended_last n (m ∷ []), sym (put_new n (m ∷ []) e))
puts_in n before (Some xs) None ends is = absurd (false≢true ends)
puts_in n before (Some xs) (Some m) ends is = subst (λ b. PutsIn n (Some xs) (Some m) (list_after b n (Some xs))) (sym is) (go (m == n) refl)
  where
    go : (v : Bool) → (m == n) ≡ v → PutsIn n (Some xs) (Some m) (cond v (Some xs) (Some (xs ++ n ∷ [])))
    go true e =
        let ends_now : is_last n xs ≡ true = subst (λ k. is_last k xs ≡ true) (eqb-true m n e) ends in
        (ends_now, sym (put_known n xs ends_now))
    go false e = (appended_last n xs, sym (put_new n xs (other_last m n xs ends e)))

-- A number was put, if the last number under the name is the number, and the list under it has it
-- where the one before was another.
puts_last : (name : List ℕ) (n before : ℕ) (old new : Names) → EndInLast old → before ≡ unwrap_or (last_under old name) n
    → ((other : List ℕ) → last_under new other ≡ cond (bytes_eq name other) (Some n) (last_under old other))
    → ((other : List ℕ) → list_under new.lists other ≡ cond (bytes_eq name other) (list_after before n (list_under old.lists name)) (list_under old.lists other))
    → PutsLast name n old new
puts_last name n before old new ends is lasts lists =
    record {
      lists = λ other. subst (λ o. ends_in_last o (last_under new other) ≡ true) (sym (lists other)) (subst (λ o. ends_in_last (cond (bytes_eq name other) list (list_under old.lists other)) o ≡ true) (sym (lasts other)) (each_ends other (bytes_eq name other)));
      numbers = λ other. ap (λ o. numbers_with o (last_under new other)) (lists other) ∙ ap (numbers_with (cond (bytes_eq name other) list (list_under old.lists other))) (lasts other) ∙ each_put other (bytes_eq name other) refl;
    }
  where
    list : Option (List ℕ)
    list = list_after before n (list_under old.lists name)

    put : PutsIn n (list_under old.lists name) (last_under old name) list
    put = puts_in n before (list_under old.lists name) (last_under old name) (ends name) is

    each_ends : (other : List ℕ) (e : Bool) → ends_in_last (cond e list (list_under old.lists other)) (cond e (Some n) (last_under old other)) ≡ true
    each_ends other true = put.0
    each_ends other false = ends other

    each_put : (other : List ℕ) (e : Bool) → bytes_eq name other ≡ e → numbers_with (cond e list (list_under old.lists other)) (cond e (Some n) (last_under old other)) ≡ cond e (put_last n (numbers_under old other)) (numbers_under old other)
    each_put other true same = put.1 ∙ ap (λ l. put_last n (numbers_under old l)) ((bytes_eq-Decides name other).0 same)
    each_put other false same = refl

same_list : (name other : List ℕ) (n before : ℕ) (old : Names) (e : Bool) → bytes_eq name other ≡ e → before ≡ n → list_under old.lists other ≡ cond e (list_after before n (list_under old.lists name)) (list_under old.lists other)
same_list name other n before old true same is =
    ap (list_under old.lists) (sym ((bytes_eq-Decides name other).0 same))
    ∙ sym (ap (λ b. list_after b n (list_under old.lists name)) is ∙ ap (λ v. cond v (list_under old.lists name) (Some (numbers_with (list_under old.lists name) (Some n) ++ n ∷ []))) (eqb-itself n))
same_list name other n before old false same is = refl

apart_list : (n before : ℕ) (list : Option (List ℕ)) → before ≢ n → Some (numbers_with list (Some before) ++ n ∷ []) ≡ list_after before n list
apart_list n before list apart =
    elim (cases_Bool (before == n)) [
      | inl same ↦ absurd (apart (eqb-true before n same))
      | inr other ↦ ap (λ v. cond v list (Some (numbers_with list (Some before) ++ n ∷ []))) (sym other)
    ]

-- the same from the clauses of an insert and of an append to a list
module _ (key : Vec ℕ Global) (name : List ℕ) (n before : ℕ) (old new : Names) (ends : EndInLast old) (key_is : key.items ≡ name)
    (updates : UpdatesBy (λ x y. bytes_eq x.items y.items) (λ k. bytes_eq key.items k.items) old.last new.last (Some n))
    (is : before ≡ unwrap_or (get_by (λ k. bytes_eq key.items k.items) old.last) n) where
  lasts : (other : List ℕ) → last_under new other ≡ cond (bytes_eq name other) (Some n) (last_under old other)
  lasts other = updated key.items old.last new.last n updates other ∙ ap (λ l. cond (bytes_eq l other) (Some n) (last_under old other)) key_is

  before_is : before ≡ unwrap_or (last_under old name) n
  before_is = is ∙ ap (λ l. unwrap_or (last_under old l) n) key_is

  pub puts_again : new.lists ≡ old.lists → before ≡ n → PutsLast name n old new
  puts_again stay same =
      puts_last name n before old new ends before_is lasts
      (λ other. ap (λ lists. list_under lists other) stay ∙ same_list name other n before old (bytes_eq name other) refl same)

  pub puts_more : {T E : Type 0} (result : Result T E) → before ≢ n
      → OnOk result ((other : List ℕ) → list_under new.lists other ≡ cond (bytes_eq name other) (Some (numbers_with (list_under old.lists name) (Some before) ++ n ∷ [])) (list_under old.lists other))
      → OnOk result (PutsLast name n old new)
  puts_more (Err e) apart put = put
  puts_more (Ok x) apart put =
      puts_last name n before old new ends before_is lasts
      (λ other. put other ∙ ap (λ l. cond (bytes_eq name other) l (list_under old.lists other)) (apart_list n before (list_under old.lists name) apart))
