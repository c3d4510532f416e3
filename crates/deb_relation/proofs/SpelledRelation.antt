-- An alternative, a group and a relation that are spelled are read. So a text spells at most one relation.
use Rattle.std.proofs.Common.{◌≡◌, ℕ, Bool, true, false, not, List, [], ◌∷◌, ◌++◌, IsTrue, Option, Some, None, Ok, refl, sym, ap, ◌∙◌, subst, append_assoc, codes, ◌||◌, ◌==◌}
use Rattle.deb_relation.specs.Grammar.{IsWhite, SpellsBound, SpellsArchitectures, SpellsQualifier, SpellInTurn, SpellsRestrictions, SpellsAlternative}
use Rattle.deb_relation.specs.Meaning.{Restrictions, Alternative}
use Rattle.deb_relation.specs.declared.operator.Op.{Op}
use Rattle.deb_version.specs.Parts.{Meaning as Version}
use Rattle.deb_relation.specs.Reading.{begins, behind_white, is_in_name, is_white, read_alternative, alternative_with}
use Rattle.deb_relation.proofs.Bytes.{other, package_bytes, package_some, signed_stops}
use Rattle.deb_relation.proofs.Runs.{Stops, white-past}
use Rattle.deb_relation.proofs.SpelledLists.{architectures_read, formula_read}
use Rattle.deb_relation.proofs.SpelledParts.{name_read, qualifier_read, bound_read}

-- the text ends, or goes on with such a byte
abbrev pub Starts : (ℕ → Bool) → List ℕ → Type 0
Starts test [] = Unit {0}
Starts test (b ∷ bs) = IsTrue (test b)

-- what may be after an alternative and white space; after that and a formula; and so on
abbrev pub is_end : ℕ → Bool
is_end b = (b == 44) || (b == 124)

abbrev is_formula : ℕ → Bool
is_formula b = (b == 60) || is_end b

abbrev is_list : ℕ → Bool
is_list b = (b == 91) || is_formula b

abbrev is_after : ℕ → Bool
is_after b = is_white b || ((b == 40) || is_list b)

or_right : (a b : Bool) → b ≡ true → (a || b) ≡ true
or_right true b e = refl
or_right false b e = e

end_list : (b : ℕ) → IsTrue (is_end b) → IsTrue (is_list b)
end_list b e = or_right (b == 91) (is_formula b) (or_right (b == 60) (is_end b) e)

list_after : (b : ℕ) → IsTrue (is_list b) → IsTrue (is_after b)
list_after b e = or_right (is_white b) ((b == 40) || is_list b) (or_right (b == 40) (is_list b) e)

starts-weaker : (p q : ℕ → Bool) → ((b : ℕ) → IsTrue (p b) → IsTrue (q b)) → (text : List ℕ) → Starts p text → Starts q text
starts-weaker p q f [] s = tt
starts-weaker p q f (b ∷ bs) s = f b s

begins-not : (test : ℕ → Bool) (n : ℕ) → test n ≡ false → (text : List ℕ) → Starts test text → begins n text ≡ false
begins-not test n fails [] s = refl
begins-not test n fails (b ∷ bs) s = other test n fails b s

starts-stops : (p q : ℕ → Bool) → ((b : ℕ) → IsTrue (p b) → q b ≡ false) → (text : List ℕ) → Starts p text → Stops q text
starts-stops p q f [] s = tt
starts-stops p q f (b ∷ bs) s = f b s

end_white : (b : ℕ) → IsTrue (is_end b) → is_white b ≡ false
end_white b p = let is = other is_end in rw (is 32 refl b p, is 9 refl b p, is 10 refl b p) refl

white_after : (white rest : List ℕ) → IsWhite white → Starts is_after rest → Starts is_after (white ++ rest)
white_after [] rest w s = s
white_after (b ∷ bs) rest w s = ap (λ v. v || ((b == 40) || is_list b)) w.0

-- none of those bytes belongs to a name
after_name : (b : ℕ) → IsTrue (is_after b) → is_in_name b ≡ false
after_name b p = by_sides (is_white b) (b == 40) (b == 91) (b == 60) (b == 44) (b == 124) p
  where
    by_sides : (w p l r c v : Bool) → (w || (p || (l || (r || (c || v))))) ≡ true → not (w || c || v || p || (b == 41) || l || (b == 93) || r || (b == 62) || (b == 58)) ≡ false
    by_sides true p l r c v e = refl
    by_sides false p l r true v e = refl
    by_sides false p l r false true e = refl
    by_sides false true l r false false e = refl
    by_sides false false l r false false e = last (b == 41) (b == 93) (b == 62) (b == 58) l r e
      where
        last : (x y z u l r : Bool) → (false || (l || (r || false))) ≡ true → not (x || l || y || r || z || u) ≡ false
        last true y z u l r e = refl
        last false y z u true r e = refl
        last false true z u false r e = refl
        last false false z u false true e = refl
        last false false z u false false e = cc

-- what follows an alternative's name, from its end to its beginning
module _ (behind rest : List ℕ) (w : IsWhite behind) (end : Starts is_end rest) where
  behind_read : behind_white (behind ++ rest) ≡ rest
  behind_read = white-past behind rest w (starts-stops is_end is_white end_white rest end)

  behind_after : Starts is_after (behind ++ rest)
  behind_after = white_after behind rest w (starts-weaker is_end is_after (λ b e. list_after b (end_list b e)) rest end)

  module _ (formula : List ℕ) (lists : List Restrictions) (spell_lists : SpellInTurn SpellsRestrictions formula lists) where
    formula_first : Starts is_formula (behind_white (formula ++ (behind ++ rest)))
    formula_first = by_lists lists spell_lists
      where
        by_lists : (lists : List Restrictions) → SpellInTurn SpellsRestrictions formula lists → Starts is_formula (behind_white (formula ++ (behind ++ rest)))
        by_lists [] is = subst (Starts is_formula) (sym (ap (λ t. behind_white (t ++ (behind ++ rest))) is ∙ behind_read)) (starts-weaker is_end is_formula (λ b e. or_right (b == 60) (is_end b) e) rest end)
        by_lists (list ∷ lists) is =
            let more = (is.3.inner ++ codes ">") ++ (is.1 ++ (behind ++ rest)) in
            let spelt : formula ++ (behind ++ rest) ≡ is.3.before ++ 60 ∷ more = ap (λ t. t ++ (behind ++ rest)) (is.2 ∙ ap (λ t. t ++ is.1) is.3.spelt) ∙ simp append_assoc refl in
            subst (Starts is_formula) (sym (ap behind_white spelt ∙ white-past is.3.before (60 ∷ more) is.3.before_white refl)) refl

    formula_after : Starts is_after (formula ++ (behind ++ rest))
    formula_after = by_lists lists spell_lists
      where
        by_lists : (lists : List Restrictions) → SpellInTurn SpellsRestrictions formula lists → Starts is_after (formula ++ (behind ++ rest))
        by_lists [] is = subst (λ t. Starts is_after (t ++ (behind ++ rest))) (sym is) behind_after
        by_lists (list ∷ lists) is =
            let more = (is.3.inner ++ codes ">") ++ (is.1 ++ (behind ++ rest)) in
            let spelt : formula ++ (behind ++ rest) ≡ is.3.before ++ 60 ∷ more = ap (λ t. t ++ (behind ++ rest)) (is.2 ∙ ap (λ t. t ++ is.1) is.3.spelt) ∙ simp append_assoc refl in
            subst (Starts is_after) (sym spelt) (white_after is.3.before (60 ∷ more) is.3.before_white refl)

    module _ (architectures : List ℕ) (list : Option (Bool × List (List ℕ))) (spells_list : SpellsArchitectures architectures list) where
      list_first : Starts is_list (behind_white (architectures ++ (formula ++ (behind ++ rest))))
      list_first = by_list list spells_list
        where
          by_list : (list : Option (Bool × List (List ℕ))) → SpellsArchitectures architectures list → Starts is_list (behind_white (architectures ++ (formula ++ (behind ++ rest))))
          by_list None is = subst (λ t. Starts is_list (behind_white (t ++ (formula ++ (behind ++ rest))))) (sym is) (starts-weaker is_formula is_list (λ b e. or_right (b == 91) (is_formula b) e) (behind_white (formula ++ (behind ++ rest))) formula_first)
          by_list (Some list) is =
              let more = (is.inner ++ codes "]") ++ (formula ++ (behind ++ rest)) in
              let spelt : architectures ++ (formula ++ (behind ++ rest)) ≡ is.before ++ 91 ∷ more = ap (λ t. t ++ (formula ++ (behind ++ rest))) is.spelt ∙ simp append_assoc refl in
              subst (Starts is_list) (sym (ap behind_white spelt ∙ white-past is.before (91 ∷ more) is.before_white refl)) refl

      list_stands_after : Starts is_after (architectures ++ (formula ++ (behind ++ rest)))
      list_stands_after = by_list list spells_list
        where
          by_list : (list : Option (Bool × List (List ℕ))) → SpellsArchitectures architectures list → Starts is_after (architectures ++ (formula ++ (behind ++ rest)))
          by_list None is = subst (λ t. Starts is_after (t ++ (formula ++ (behind ++ rest)))) (sym is) formula_after
          by_list (Some list) is =
              let more = (is.inner ++ codes "]") ++ (formula ++ (behind ++ rest)) in
              let spelt : architectures ++ (formula ++ (behind ++ rest)) ≡ is.before ++ 91 ∷ more = ap (λ t. t ++ (formula ++ (behind ++ rest))) is.spelt ∙ simp append_assoc refl in
              subst (Starts is_after) (sym spelt) (white_after is.before (91 ∷ more) is.before_white refl)

      module _ (text : List ℕ) (bound : Option (Op × Version)) (spells_bound : SpellsBound text bound) where
        bound_after : Starts is_after (text ++ (architectures ++ (formula ++ (behind ++ rest))))
        bound_after = by_bound bound spells_bound
          where
            by_bound : (bound : Option (Op × Version)) → SpellsBound text bound → Starts is_after (text ++ (architectures ++ (formula ++ (behind ++ rest))))
            by_bound None is = subst (λ t. Starts is_after (t ++ (architectures ++ (formula ++ (behind ++ rest))))) (sym is) list_stands_after
            by_bound (Some bound) is =
                let more = (is.within ++ (is.operator ++ (is.between ++ (is.version ++ (is.behind ++ codes ")"))))) ++ (architectures ++ (formula ++ (behind ++ rest))) in
                let spelt : text ++ (architectures ++ (formula ++ (behind ++ rest))) ≡ is.before ++ 40 ∷ more = ap (λ t. t ++ (architectures ++ (formula ++ (behind ++ rest)))) is.spelt ∙ simp append_assoc refl in
                subst (Starts is_after) (sym spelt) (white_after is.before (40 ∷ more) is.before_white refl)

qualifier_stops : (text : List ℕ) (qualifier : Option (List ℕ)) (rest : List ℕ) → SpellsQualifier text qualifier → Starts is_after rest → Stops is_in_name (text ++ rest)
qualifier_stops text None rest is s = subst (λ t. Stops is_in_name (t ++ rest)) (sym is) (starts-stops is_after is_in_name after_name rest s)
qualifier_stops text (Some name) rest is s = subst (λ t. Stops is_in_name (t ++ rest)) (sym is.0) refl

pub alternative_read : (text : List ℕ) (a : Alternative) (rest : List ℕ) → SpellsAlternative text a → Starts is_end rest → read_alternative (behind_white (text ++ rest)) ≡ Ok (a, rest)
unfolding read_alternative
alternative_read text a rest is end =
    let t1 = is.behind ++ rest in
    let t2 = is.formula ++ t1 in
    let t3 = is.architectures ++ t2 in
    let t4 = is.bound ++ t3 in
    let t5 = is.qualifier ++ t4 in
    let w = is.behind_white in
    let after4 : Starts is_after t4 = bound_after is.behind rest w end is.formula is.lists is.spell_lists is.architectures a.architectures is.spells_architectures is.bound a.bound is.spells_bound in
    let spelt : text ++ rest ≡ is.before ++ (a.name ++ t5) = ap (λ t. t ++ rest) is.spelt ∙ simp append_assoc refl in
    let here : behind_white (text ++ rest) ≡ a.name ++ t5 = ap behind_white spelt ∙ white-past is.before (a.name ++ t5) is.before_white (signed_stops false a.name t5 (package_some a.name is.is_name) (package_bytes a.name is.is_name)) in
    let r1 = name_read a.name t5 is.is_name (qualifier_stops is.qualifier a.qualifier t4 is.spells_qualifier after4) in
    let r2 = qualifier_read is.qualifier a.qualifier t4 is.spells_qualifier (starts-stops is_after is_in_name after_name t4 after4) (begins-not is_after 58 refl t4 after4) in
    let r3 = bound_read is.bound a.bound t3 is.spells_bound (begins-not is_list 40 refl (behind_white t3) (list_first is.behind rest w end is.formula is.lists is.spell_lists is.architectures a.architectures is.spells_architectures)) in
    let r4 = architectures_read is.architectures a.architectures t2 is.spells_architectures (begins-not is_formula 91 refl (behind_white t2) (formula_first is.behind rest w end is.formula is.lists is.spell_lists)) in
    let last : behind_white t1 ≡ rest = behind_read is.behind rest w end in
    let r5 = formula_read is.lists is.formula t1 is.spell_lists (ap (begins 60) last ∙ begins-not is_end 60 refl rest end) in
    rw (here, r1, r2, r3, r4, r5, last) (ap (λ f. Ok (alternative_with a.name a.qualifier a.bound a.architectures f, rest)) (sym is.set))
