-- Where the version is in what follows the name of an alternative.
use Rattle.std.proofs.Common.{◌≡◌, ◌≢◌, ℕ, suc, ◌+◌, ◌-◌, ◌<◌, ◌≤◌, ◌==◌, ◌&&◌, Bool, true, false, cond, not, List, [], ◌∷◌, ◌++◌, length, take, drop, get_or, map, IsTrue, Option, Some, None, IfSome, is_none, append_assoc, refl, sym, ap, ◌∙◌, subst, arith, codes}
use Rattle.std.specs.List.{prefix_len}
use Rattle.std.specs.Option.{option_map}
use Rattle.std.proofs.lemmas.Bool.{ne_eqb}
use Rattle.std.proofs.lemmas.List.{length-append}
use Rattle.std.proofs.Math.Seq.{drop-append_seam, take-append_seam}
use Rattle.deb_base.proofs.AllElements.{All-append}
use Rattle.deb_version.specs.Parts.{Meaning as Version}
use Rattle.deb_version.specs.Grammar.{SpellsVersion}
use Rattle.deb_version.specs.Canonical.{version_text}
use Rattle.deb_version.proofs.FaultLemmas.{no_fault-from_spells}
use Rattle.deb_version.proofs.KeptVersions.{version_in-spelled}
use Rattle.deb_relation.specs.declared.operator.Op.{Op}
use Rattle.deb_relation.specs.declared.operator.Op.TheVariants.{Earlier, EarlierEqual, Equal, LaterEqual, Later}
use Rattle.deb_relation.specs.Meaning.{Restrictions, Alternative, Group}
use Rattle.deb_relation.specs.Texts.{alternative_text, architectures_text, bound_text, formula_text, operator_text, qualifier_text, separated}
use Rattle.deb_base.specs.PackageNames.{is_arch_name, is_package_byte}
use Rattle.deb_relation.proofs.Bytes.{arch_bytes, arch_some, other, version_some}
use Rattle.deb_relation.proofs.Regular.{IsRegular}
use Rattle.deb_relation.proofs.Runs.{Passes, Stops}
use Rattle.deb_index.specs.Entries.{BehindName, HasNoFault, IsVersionPlace, fault_kept, version_kept}
use Rattle.deb_index.specs.Listed.{bound_version, is_plain}
use Rattle.deb_index.specs.Spans.{part}
use Rattle.deb_index.proofs.Commas.{Lacks, is_other, version_lacks}
use Rattle.deb_index.proofs.Neighbours.{rest_from}

one-add : (n : ℕ) → 1 + n ≡ suc n
one-add n = omega arith

-- a run that is followed by no further byte of it is as long as it is
pub front_len : (test : ℕ → Bool) (run rest : List ℕ) → Passes test run → Stops test rest → prefix_len test (run ++ rest) ≡ length run
front_len test [] [] all stops = refl
front_len test [] (b ∷ rest) all stops = ap (λ v. cond v (1 + prefix_len test rest) 0) stops
front_len test (b ∷ run) rest all stops =
    ap (λ v. cond v (1 + prefix_len test (run ++ rest)) 0) all.0 ∙ ap (λ n. 1 + n) (front_len test run rest all.1 stops) ∙ one-add (length run)

abbrev is_nil : {A : Type 0} → List A → Bool
is_nil [] = true
is_nil (x ∷ xs) = false

pub some_length : {A : Type 0} (x : A) (xs : List A) → (length (x ∷ xs) == 0) ≡ false
some_length x xs = ne_eqb (length (x ∷ xs)) 0 (λ e. absurd (omega (arith, e)))

-- what follows the bound
abbrev behind_bound : Option (Bool × List (List ℕ)) → List Restrictions → Group → List ℕ
behind_bound list formula others = (architectures_text list ++ formula_text formula) ++ separated (codes " | ") (map alternative_text others)

abbrev is_last_plain : Option (Bool × List (List ℕ)) → List Restrictions → Group → Bool
is_last_plain list formula others = (is_none list && (length formula == 0)) && (length others == 0)

behind-plain : (list : Option (Bool × List (List ℕ))) (formula : List Restrictions) (others : Group) → is_last_plain list formula others ≡ is_nil (behind_bound list formula others)
behind-plain None [] [] = refl
behind-plain None [] (a ∷ others) = ap (λ b. true && b) (some_length a others)
behind-plain None (f ∷ formula) others = ap (λ b. (true && b) && (length others == 0)) (some_length f formula)
behind-plain (Some list) formula others = refl

-- what follows a name begins with a bound
pub record HasBound (a : Alternative) (others : Group) (rest : List ℕ) : Type 0 where
  pub bound : Op × Version
  pub tail : List ℕ
  pub is : a.bound ≡ Some bound
  pub spells : SpellsVersion (version_text bound.1) bound.1
  pub cut : rest ≡ operator_text bound.0 ++ (32 ∷ (version_text bound.1 ++ (41 ∷ tail)))
  pub plain : (is_plain a && (length others == 0)) ≡ is_nil tail

bound-cut : (op v tail : List ℕ) → (op ++ (32 ∷ (v ++ 41 ∷ []))) ++ tail ≡ op ++ (32 ∷ (v ++ (41 ∷ tail)))
bound-cut op v tail = simp append_assoc refl

abbrev opens_at : List ℕ → ℕ
opens_at text = prefix_len (is_other 40) text

-- the first parenthesis isn't the second byte
two-over : (b c : ℕ) (text : List ℕ) → is_other 40 b ≡ true → is_other 40 c ≡ true → opens_at (b ∷ c ∷ text) ≡ 1 → ⊥
two-over b c text p q e =
    let long : opens_at (b ∷ c ∷ text) ≡ 1 + (1 + opens_at text) = ap (λ v. cond v (1 + opens_at (c ∷ text)) 0) p ∙ ap (λ v. 1 + cond v (1 + opens_at text) 0) q in
    absurd (omega (arith, e, long))

qualifier-over : (q rest : List ℕ) → IsTrue (is_arch_name q) → opens_at (58 ∷ (q ++ rest)) ≡ 1 → ⊥
qualifier-over [] rest is e = arch_some [] is refl
qualifier-over (b ∷ bs) rest is e = two-over 58 b (bs ++ rest) refl (ap not (other is_package_byte 40 refl b (arch_bytes (b ∷ bs) is).0)) e

behind-over : (list : Option (Bool × List (List ℕ))) (formula : List Restrictions) (others : Group) → opens_at (behind_bound list formula others) ≡ 1 → ⊥
behind-over None [] [] e = absurd (omega (arith, e))
behind-over None [] (a ∷ others) e = two-over 32 124 (drop 2 (behind_bound None [] (a ∷ others))) refl refl e
behind-over None (f ∷ formula) others e = two-over 32 60 (drop 2 (behind_bound None (f ∷ formula) others)) refl refl e
behind-over (Some list) formula others e = two-over 32 91 (drop 2 (behind_bound (Some list) formula others)) refl refl e

-- a bound, where the text begins with one
pub has_bound : (a : Alternative) (others : Group) (text : List ℕ) → IsRegular a → BehindName a others text → opens_at text ≡ 1 → HasBound a others (drop 2 text)
has_bound a others text regular is at = go a.qualifier a.bound a.architectures a.formula refl refl regular.qualifier regular.bound is
  where
    go : (q : Option (List ℕ)) (bound : Option (Op × Version)) (list : Option (Bool × List (List ℕ))) (formula : List Restrictions)
        → a.bound ≡ bound → is_plain a ≡ (is_none q && is_none list && (length formula == 0)) → IfSome q (λ q. IsTrue (is_arch_name q)) → IfSome bound (λ b. SpellsVersion (version_text b.1) b.1)
        → text ≡ qualifier_text q ++ (bound_text bound ++ behind_bound list formula others) → HasBound a others (drop 2 text)
    go (Some q) bound list formula same plain good spells e = absurd (qualifier-over q (bound_text bound ++ behind_bound list formula others) good (ap opens_at (sym e) ∙ at))
    go None None list formula same plain good spells e = absurd (behind-over list formula others (ap opens_at (sym e) ∙ at))
    go None (Some bound) list formula same plain good spells e =
        record {
          bound = bound;
          tail = behind_bound list formula others;
          is = same;
          spells = spells;
          cut = ap (drop 2) e ∙ bound-cut (operator_text bound.0) (version_text bound.1) (behind_bound list formula others);
          plain = ap (λ b. b && (length others == 0)) plain ∙ behind-plain list formula others;
        }

-- no bound, where it doesn't
pub no_bound : (a : Alternative) (others : Group) (text : List ℕ) → BehindName a others text → ((rest : List ℕ) → text ≡ 32 ∷ (40 ∷ rest) → ⊥)
    → (text ≡ [] → ((is_plain a && (length others == 0)) ≡ true) × (a.bound ≡ None)) × (text ≢ [] → (is_plain a && (length others == 0)) ≡ false)
no_bound a others text is none = go a.qualifier a.bound a.architectures a.formula refl refl is
  where
    go : (q : Option (List ℕ)) (bound : Option (Op × Version)) (list : Option (Bool × List (List ℕ))) (formula : List Restrictions)
        → a.bound ≡ bound → is_plain a ≡ (is_none q && is_none list && (length formula == 0))
        → text ≡ qualifier_text q ++ (bound_text bound ++ behind_bound list formula others)
        → (text ≡ [] → ((is_plain a && (length others == 0)) ≡ true) × (a.bound ≡ None)) × (text ≢ [] → (is_plain a && (length others == 0)) ≡ false)
    go (Some q) bound list formula same plain e = (λ nil. let no : [] ≡ 58 ∷ (q ++ (bound_text bound ++ behind_bound list formula others)) = sym nil ∙ e in absurd (cc), λ some. ap (λ b. b && (length others == 0)) plain)
    go None (Some bound) list formula same plain e = absurd (none _ e)
    go None None list formula same plain e =
        let all = ap (λ b. b && (length others == 0)) plain ∙ behind-plain list formula others in
        (λ nil. (all ∙ ap is_nil (sym e ∙ nil), same), λ some. all ∙ not_nil (behind_bound list formula others) (λ nil. some (e ∙ nil)))
      where
        not_nil : (xs : List ℕ) → xs ≢ [] → is_nil xs ≡ false
        not_nil [] some = absurd (some refl)
        not_nil (x ∷ xs) some = refl

-- an operator has neither a space nor a parenthesis
operator_space : (operator : Op) → Lacks 32 (operator_text operator)
operator_space Earlier = (refl, (refl, tt))
operator_space EarlierEqual = (refl, (refl, tt))
operator_space Equal = (refl, tt)
operator_space LaterEqual = (refl, (refl, tt))
operator_space Later = (refl, (refl, tt))

operator_close : (operator : Op) → Lacks 41 (operator_text operator)
operator_close Earlier = (refl, (refl, tt))
operator_close EarlierEqual = (refl, (refl, tt))
operator_close Equal = (refl, tt)
operator_close LaterEqual = (refl, (refl, tt))
operator_close Later = (refl, (refl, tt))

module _ (a : Alternative) (others : Group) (rest : List ℕ) (has : HasBound a others rest) where
  -- the operator ends at the space
  pub space_at : prefix_len (is_other 32) rest ≡ length (operator_text has.bound.0)
  space_at =
      ap (prefix_len (is_other 32)) has.cut
      ∙ front_len (is_other 32) (operator_text has.bound.0) (32 ∷ (version_text has.bound.1 ++ (41 ∷ has.tail))) (operator_space has.bound.0) refl

  -- the version ends at the parenthesis
  pub close_at : prefix_len (is_other 41) rest ≡ length (operator_text has.bound.0) + 1 + length (version_text has.bound.1)
  close_at =
      let op = operator_text has.bound.0 in
      let v = version_text has.bound.1 in
      let run : Lacks 41 (op ++ 32 ∷ v) = All-append (λ b. IsTrue (is_other 41 b)) op (32 ∷ v) (operator_close has.bound.0) (refl, version_lacks 41 refl v has.bound.1 has.spells) in
      ap (prefix_len (is_other 41)) (has.cut ∙ sym (append_assoc op (32 ∷ v) (41 ∷ has.tail)))
      ∙ front_len (is_other 41) (op ++ 32 ∷ v) (41 ∷ has.tail) run refl
      ∙ omega (arith, length-append op (32 ∷ v))

  pub rest_length : length rest ≡ length (operator_text has.bound.0) + 1 + length (version_text has.bound.1) + 1 + length has.tail
  rest_length =
      let op = operator_text has.bound.0 in
      let v = version_text has.bound.1 in
      ap length has.cut ∙ omega (arith, length-append op (32 ∷ (v ++ (41 ∷ has.tail))), length-append v (41 ∷ has.tail))

  -- the version is between the two
  pub bound_place : (b c : ℕ) → part (prefix_len (is_other 32) rest + 3) (prefix_len (is_other 41) rest + 2) (b ∷ c ∷ rest) ≡ version_text has.bound.1
  bound_place b c =
      let op = operator_text has.bound.0 in
      let v = version_text has.bound.1 in
      let before : List ℕ = b ∷ c ∷ (op ++ 32 ∷ []) in
      let text : b ∷ c ∷ rest ≡ before ++ (v ++ (41 ∷ has.tail)) = ap (λ r. b ∷ c ∷ r) (has.cut ∙ sym (append_assoc op (32 ∷ []) (v ++ (41 ∷ has.tail)))) in
      let at : prefix_len (is_other 32) rest + 3 ≡ length before = omega (arith, space_at, length-append op (32 ∷ [])) in
      let long : prefix_len (is_other 41) rest + 2 - (prefix_len (is_other 32) rest + 3) ≡ length v = omega (arith, space_at, close_at) in
      ap (λ n. take n (drop (prefix_len (is_other 32) rest + 3) (b ∷ c ∷ rest))) long
      ∙ ap (λ n. take (length v) (drop n (b ∷ c ∷ rest))) at
      ∙ ap (λ t. take (length v) (drop (length before) t)) text
      ∙ ap (take (length v)) (drop-append_seam before (v ++ (41 ∷ has.tail)))
      ∙ take-append_seam v (41 ∷ has.tail)

-- the text of a version is that of one
pub kept-some : (text : List ℕ) (version : Version) → SpellsVersion text version → version_kept text ≡ Some version
kept-some [] v spells = absurd (version_some [] v spells refl)
kept-some (b ∷ bs) v spells = ap Some (version_in-spelled (b ∷ bs) v spells)

pub kept-fault : (text : List ℕ) (version : Version) → SpellsVersion text version → HasNoFault text
kept-fault [] v spells = refl
kept-fault (b ∷ bs) v spells = no_fault-from_spells (b ∷ bs) v spells

first_two : (xs : List ℕ) → 2 ≤ length xs → xs ≡ get_or xs 0 0 ∷ get_or xs 1 0 ∷ drop 2 xs
first_two [] long = absurd (omega (arith, long))
first_two (x ∷ []) long = absurd (omega (arith, long))
first_two (x ∷ y ∷ xs) long = refl

no_length : (xs : List ℕ) → length xs ≡ 0 → xs ≡ []
no_length [] e = refl
no_length (x ∷ xs) e = absurd (omega (arith, e))

-- the place, where there is one
module _ (a : Alternative) (others : Group) (text : List ℕ) (regular : IsRegular a) (behind : BehindName a others text) where
  pub place-nothing : text ≡ [] → IsVersionPlace a others text (Some (0, 0))
  place-nothing nil =
      let both = (no_bound a others text behind (λ rest e. let no : [] ≡ 32 ∷ (40 ∷ rest) = sym nil ∙ e in absurd (cc))).0 nil in
      ap (λ t. Some (version_kept (part 0 0 t))) nil ∙ ap (λ b. Some (option_map bound_version b)) (sym both.1) ∙ ap (λ v. cond v (Some (option_map bound_version a.bound)) None) (sym both.0)

  pub fault-nothing : text ≡ [] → HasNoFault (part 0 0 text)
  fault-nothing nil = ap (λ t. fault_kept (part 0 0 t)) nil

  pub place-short : text ≢ [] → length text < 2 → IsVersionPlace a others text None
  place-short some short = ap (λ v. cond v (Some (option_map bound_version a.bound)) None) (sym ((no_bound a others text behind (λ rest e. absurd (omega (arith, short, ap length e)))).1 some))

  pub place-other : text ≢ [] → opens_at text ≢ 1 → IsVersionPlace a others text None
  place-other some elsewhere = ap (λ v. cond v (Some (option_map bound_version a.bound)) None) (sym ((no_bound a others text behind (λ rest e. elsewhere (ap opens_at e))).1 some))

  module _ (at : opens_at text ≡ 1) (long : 2 ≤ length text) where
    has : HasBound a others (drop 2 text)
    has = has_bound a others text regular behind at

    -- the parenthesis ends the text exactly if nothing follows the bound
    pub place-more : prefix_len (is_other 41) (drop 2 text) + 1 ≢ length (drop 2 text) → IsVersionPlace a others text None
    unfolding has
    place-more more =
        ap (λ v. cond v (Some (option_map bound_version a.bound)) None) (sym (has.plain ∙ not_empty has.tail (λ nil. more (omega (arith, close_at a others (drop 2 text) has, rest_length a others (drop 2 text) has, ap length nil)))))
      where
        not_empty : (xs : List ℕ) → xs ≢ [] → is_nil xs ≡ false
        not_empty [] some = absurd (some refl)
        not_empty (x ∷ xs) some = refl

    pub place-order : prefix_len (is_other 32) (drop 2 text) < prefix_len (is_other 41) (drop 2 text)
    unfolding has
    place-order = omega (arith, space_at a others (drop 2 text) has, close_at a others (drop 2 text) has)

    the_place : part (prefix_len (is_other 32) (drop 2 text) + 3) (prefix_len (is_other 41) (drop 2 text) + 2) text ≡ version_text has.bound.1
    unfolding has
    the_place = subst (λ t. part (prefix_len (is_other 32) (drop 2 text) + 3) (prefix_len (is_other 41) (drop 2 text) + 2) t ≡ version_text has.bound.1) (sym (first_two text long)) (bound_place a others (drop 2 text) has (get_or text 0 0) (get_or text 1 0))

    pub place-bound : prefix_len (is_other 41) (drop 2 text) + 1 ≡ length (drop 2 text) → IsVersionPlace a others text (Some (prefix_len (is_other 32) (drop 2 text) + 3, prefix_len (is_other 41) (drop 2 text) + 2))
    unfolding has the_place
    place-bound all =
        let nil : has.tail ≡ [] = no_length has.tail (omega (arith, all, close_at a others (drop 2 text) has, rest_length a others (drop 2 text) has)) in
        ap (λ t. Some (version_kept t)) the_place ∙ ap Some (kept-some (version_text has.bound.1) has.bound.1 has.spells)
        ∙ ap (λ b. Some (option_map bound_version b)) (sym has.is)
        ∙ ap (λ v. cond v (Some (option_map bound_version a.bound)) None) (sym (has.plain ∙ ap is_nil nil))

    pub fault-bound : HasNoFault (part (prefix_len (is_other 32) (drop 2 text) + 3) (prefix_len (is_other 41) (drop 2 text) + 2) text)
    unfolding has the_place
    fault-bound = subst HasNoFault (sym the_place) (kept-fault (version_text has.bound.1) has.bound.1 has.spells)

    -- the same where the rest is a part that goes to the end
    module _ (close : ℕ) (close_is : close ≡ prefix_len (is_other 41) (take (length text - 2) (drop 2 text))) where
      closed : close ≡ prefix_len (is_other 41) (drop 2 text)
      closed = close_is ∙ ap (prefix_len (is_other 41)) (rest_from 2 text)

      pub placed-none : close + 1 ≢ length (take (length text - 2) (drop 2 text)) → IsVersionPlace a others text None
      unfolding closed
      placed-none more = place-more (λ e. more (ap (λ n. n + 1) closed ∙ e ∙ sym (ap length (rest_from 2 text))))

      module _ (space : ℕ) (space_is : space ≡ prefix_len (is_other 32) (take (length text - 2) (drop 2 text))) where
        spaced : space ≡ prefix_len (is_other 32) (drop 2 text)
        spaced = space_is ∙ ap (prefix_len (is_other 32)) (rest_from 2 text)

        pub placed-order : space < close
        unfolding closed spaced
        placed-order = omega (arith, closed, spaced, place-order)

        pub placed : close + 1 ≡ length (take (length text - 2) (drop 2 text)) → IsVersionPlace a others text (Some (space + 3, close + 2))
        unfolding closed spaced
        placed all =
            subst (λ n. IsVersionPlace a others text (Some (n + 3, close + 2))) (sym spaced)
            (subst (λ n. IsVersionPlace a others text (Some (prefix_len (is_other 32) (drop 2 text) + 3, n + 2))) (sym closed)
            (place-bound (ap (λ n. n + 1) (sym closed) ∙ all ∙ ap length (rest_from 2 text))))

        pub placed-fault : HasNoFault (part (space + 3) (close + 2) text)
        unfolding closed spaced
        placed-fault = subst (λ n. HasNoFault (part (n + 3) (close + 2) text)) (sym spaced) (subst (λ n. HasNoFault (part (prefix_len (is_other 32) (drop 2 text) + 3) (n + 2) text)) (sym closed) fault-bound)
