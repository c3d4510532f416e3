-- Alternatives that were found, and those that are left.
use Rattle.std.proofs.Common.{◌≡◌, ℕ, zero, suc, ◌-◌, ◌<◌, ◌≤◌, Bool, true, false, if◌then◌else◌, List, [], ◌∷◌, ◌++◌, length, None, Some, ap, sym, subst, ◌∙◌, arith, refl}
use Rattle.std.specs.Option.{IfSome}
use Rattle.std.proofs.lemmas.List.{append-nil, append_assoc}
use Rattle.deb_relation.specs.Reading.{begins, behind_run, is_at_end}
use Rattle.deb_spelled.specs.declared.alternative.AlternativeSpans.{AlternativeSpans}
use Rattle.deb_spelled.specs.Alternatives.{alternatives_from, alternatives_in, cut_alternative, is_gap, next_alternative, with_more}

-- the number of a group grows by one at most
choice : (n : ℕ) (ends bar : Bool) (x y : AlternativeSpans × List ℕ) → x.0.group ≤ n → y.0.group ≤ n → IfSome (if ends then None else if bar then Some x else Some y) (λ p. p.0.group ≤ n)
choice n true bar x y p q = tt
choice n false true x y p q = p
choice n false false x y p q = q

next_group : (total group : ℕ) (text : List ℕ) → IfSome (next_alternative total group text) (λ p. p.0.group ≤ suc group)
unfolding next_alternative cut_alternative
next_group total group text = choice (suc group) (is_at_end (behind_run is_gap text)) (begins 124 (behind_run is_gap text)) _ _ (omega arith) (omega arith)

step : (n total group : ℕ) (text rest : List ℕ) (a : AlternativeSpans) → next_alternative total group text ≡ Some (a, rest) → alternatives_from (suc n) total group text ≡ a ∷ alternatives_from n total a.group rest
step n total group text rest a e = ap (λ o. with_more o (λ a rest. alternatives_from n total a.group rest)) e

end : (n total group : ℕ) (text : List ℕ) → next_alternative total group text ≡ None → alternatives_from n total group text ≡ []
end zero total group text e = refl
end (suc n) total group text e = ap (λ o. with_more o (λ a rest. alternatives_from n total a.group rest)) e

-- after so many steps these are found, and the rest is in this text after one of this group
pub record IsSoFar (text : List ℕ) (found : List AlternativeSpans) (group : ℕ) (rest : List ℕ) (count : ℕ) : Type 0 where
  pub few : group ≤ count
  pub all : alternatives_in text ≡ found ++ alternatives_from (length text - count) (length text) group rest

pub none_yet : (text : List ℕ) (found : List AlternativeSpans) → found ≡ [] → IsSoFar text found 0 text 0
unfolding alternatives_in
none_yet text found e = record { few = omega arith; all = rw e (let n : length text - 0 ≡ length text = omega arith in sym (ap (λ n. alternatives_from n (length text) 0 text) n)) }

pub one_more : (text : List ℕ) (found more : List AlternativeSpans) (group : ℕ) (rest behind : List ℕ) (count : ℕ) (a : AlternativeSpans) → IsSoFar text found group rest count → count < length text → next_alternative (length text) group rest ≡ Some (a, behind) → more ≡ found ++ a ∷ [] → IsSoFar text more a.group behind (suc count)
one_more text found more group rest behind count a so_far less e is_more =
    let n : length text - count ≡ suc (length text - suc count) = omega arith in
    let grown : a.group ≤ suc group = subst (λ o. IfSome o (λ p. p.0.group ≤ suc group)) e (next_group (length text) group rest) in
    let few = so_far.few in
    record {
      few = omega arith;
      all = so_far.all ∙ ap (λ n. found ++ alternatives_from n (length text) group rest) n ∙ ap (λ s. found ++ s) (step (length text - suc count) (length text) group rest behind a e) ∙ sym (append_assoc found (a ∷ []) (alternatives_from (length text - suc count) (length text) a.group behind)) ∙ ap (λ s. s ++ alternatives_from (length text - suc count) (length text) a.group behind) (sym is_more);
    }

pub no_more : (text : List ℕ) (found : List AlternativeSpans) (group : ℕ) (rest : List ℕ) (count : ℕ) → IsSoFar text found group rest count → next_alternative (length text) group rest ≡ None → found ≡ alternatives_in text
no_more text found group rest count so_far e = sym (so_far.all ∙ ap (λ s. found ++ s) (end (length text - count) (length text) group rest e) ∙ append-nil found)

pub no_byte : (text : List ℕ) (found : List AlternativeSpans) (group : ℕ) (rest : List ℕ) (count : ℕ) → IsSoFar text found group rest count → length text ≤ count → found ≡ alternatives_in text
no_byte text found group rest count so_far le =
    let n : length text - count ≡ 0 = omega arith in
    sym (so_far.all ∙ ap (λ n. found ++ alternatives_from n (length text) group rest) n ∙ append-nil found)
