-- Tokens of strings and of relations tell their texts.
use Rattle.std.proofs.Common.{◌≡◌, ℕ, Bool, List, [], ◌∷◌, ◌++◌, map, Option, None, Some, codes, refl, sym, ap, ◌∙◌, arith, append_assoc}
use Rattle.std.specs.List.{flat_map}
use Rattle.json.specs.Token.{Token}
use Rattle.deb_version.specs.Canonical.{version_text}
use Rattle.deb_version.specs.Parts.{Meaning as VersionMeaning}
use Rattle.deb_relation.specs.Meaning.{Alternative, Group, Relation, Restrictions}
use Rattle.deb_relation.specs.Texts.{alternative_text, architectures_text, bound_text, formula_text, group_text, item_text, joined, operator_text, qualifier_text, relation_text, restrictions_text, separated, signed_text}
use Rattle.deb_relation.specs.declared.operator.Op.{Op}
use Rattle.deb_select.specs.JsonTokens.{alternative_tokens, architectures_member, bound_members, formula_member, group_tokens, list_tokens, qualifier_member, relation_tokens, strings_tokens, text_tokens}

abbrev pub tail : {T : Type 0} → List T → List T
tail [] = []
tail (t ∷ ts) = ts

-- what ends with one token, before more
ended : (a b : List Token) (t : Token) (r s : List Token) → (a ++ t ∷ []) ++ r ≡ (b ++ t ∷ []) ++ s → a ++ t ∷ r ≡ b ++ t ∷ s
ended a b t r s same = sym (append_assoc a (t ∷ []) r) ∙ same ∙ append_assoc b (t ∷ []) s

-- ---- lists of strings, and of what has a text

strings_told : (xs ys : List (List ℕ)) (r s : List Token) → flat_map text_tokens xs ++ Token.end_array ∷ r ≡ flat_map text_tokens ys ++ Token.end_array ∷ s → (xs ≡ ys) × (r ≡ s)
strings_told [] [] r s same = (refl, ap tail same)
strings_told [] (y ∷ ys) r s same = absurd (cc)
strings_told (x ∷ xs) [] r s same = absurd (cc)
strings_told (x ∷ xs) (y ∷ ys) r s same =
    let first : x ≡ y = cc in
    let rest = strings_told xs ys r s (ap tail same) in
    (ap (λ t. t ∷ xs) first ∙ ap (λ l. y ∷ l) rest.0, rest.1)

pub array_told : (xs ys : List (List ℕ)) (r s : List Token) → strings_tokens xs ++ r ≡ strings_tokens ys ++ s → (xs ≡ ys) × (r ≡ s)
array_told xs ys r s same = strings_told xs ys r s (ended (flat_map text_tokens xs) (flat_map text_tokens ys) Token.end_array r s (ap tail same))

module _ {X : Type 0} (f : X → List Token) (text : X → List ℕ) (tells : (x y : X) (r s : List Token) → f x ++ r ≡ f y ++ s → (text x ≡ text y) × (r ≡ s)) (begins : (x : X) (r s : List Token) → f x ++ r ≡ Token.end_array ∷ s → ⊥) where
  texts_told : (xs ys : List X) (r s : List Token) → flat_map f xs ++ Token.end_array ∷ r ≡ flat_map f ys ++ Token.end_array ∷ s → (map text xs ≡ map text ys) × (r ≡ s)
  texts_told [] [] r s same = (refl, ap tail same)
  texts_told [] (y ∷ ys) r s same = absurd (begins y (flat_map f ys ++ Token.end_array ∷ s) r (sym (append_assoc (f y) (flat_map f ys) (Token.end_array ∷ s)) ∙ sym same))
  texts_told (x ∷ xs) [] r s same = absurd (begins x (flat_map f xs ++ Token.end_array ∷ r) s (sym (append_assoc (f x) (flat_map f xs) (Token.end_array ∷ r)) ∙ same))
  texts_told (x ∷ xs) (y ∷ ys) r s same =
      let first = tells x y (flat_map f xs ++ Token.end_array ∷ r) (flat_map f ys ++ Token.end_array ∷ s) (sym (append_assoc (f x) (flat_map f xs) (Token.end_array ∷ r)) ∙ same ∙ append_assoc (f y) (flat_map f ys) (Token.end_array ∷ s)) in
      let rest = texts_told xs ys r s first.1 in
      (ap (λ t. t ∷ map text xs) first.0 ∙ ap (λ l. text y ∷ l) rest.0, rest.1)

-- ---- the members of an alternative: what follows one isn't another of its name

abbrev NotKey : List ℕ → List Token → Type 0
NotKey name ts = (us : List Token) → ts ≡ Token.key name ∷ us → ⊥

abbrev first_byte : List ℕ → ℕ
first_byte [] = 0
first_byte (b ∷ bs) = b

list_told : (list other : Restrictions) (r s : List Token) → list_tokens list ++ r ≡ list_tokens other ++ s → (restrictions_text list ≡ restrictions_text other) × (r ≡ s)
list_told list other r s same =
    let told = array_told (map item_text list) (map item_text other) r s same in
    (ap (λ texts. codes "<" ++ (joined (codes " ") texts ++ codes ">")) told.0, told.1)

formula_told : (lists others : List Restrictions) (r s : List Token) → formula_member lists ++ Token.end_object ∷ r ≡ formula_member others ++ Token.end_object ∷ s → (formula_text lists ≡ formula_text others) × (r ≡ s)
formula_told [] [] r s same = (refl, ap tail same)
formula_told [] (other ∷ others) r s same = absurd (cc)
formula_told (list ∷ lists) [] r s same = absurd (cc)
formula_told (list ∷ lists) (other ∷ others) r s same =
    let a = flat_map list_tokens (list ∷ lists) in
    let b = flat_map list_tokens (other ∷ others) in
    let inner = ended a b Token.end_array (Token.end_object ∷ r) (Token.end_object ∷ s) (ap (λ l. tail (tail l)) same) in
    let told = texts_told list_tokens restrictions_text list_told (λ x t u is. absurd (cc)) (list ∷ lists) (other ∷ others) (Token.end_object ∷ r) (Token.end_object ∷ s) inner in
    (ap (separated (codes " ")) told.0, ap tail told.1)

formula_not : (name : List ℕ) → (codes "restrictions" ≡ name → ⊥) → (lists : List Restrictions) (r : List Token) → NotKey name (formula_member lists ++ Token.end_object ∷ r)
formula_not name differs [] r us is = absurd (cc)
formula_not name differs (list ∷ lists) r us is = let same : codes "restrictions" ≡ name = cc in absurd (differs same)

architectures_told : (list other : Option (Bool × List (List ℕ))) (r s : List Token) → NotKey (codes "architectures") r → NotKey (codes "architectures") s → architectures_member list ++ r ≡ architectures_member other ++ s → (architectures_text list ≡ architectures_text other) × (r ≡ s)
architectures_told None None r s n m same = (refl, same)
architectures_told None (Some other) r s n m same = absurd (n (strings_tokens (map (signed_text other.0) other.1) ++ s) same)
architectures_told (Some list) None r s n m same = absurd (m (strings_tokens (map (signed_text list.0) list.1) ++ r) (sym same))
architectures_told (Some list) (Some other) r s n m same =
    let told = array_told (map (signed_text list.0) list.1) (map (signed_text other.0) other.1) r s (ap tail same) in
    (ap (λ texts. codes " [" ++ (joined (codes " ") texts ++ codes "]")) told.0, told.1)

architectures_not : (name : List ℕ) → (codes "architectures" ≡ name → ⊥) → (list : Option (Bool × List (List ℕ))) (r : List Token) → NotKey name r → NotKey name (architectures_member list ++ r)
architectures_not name differs None r n = n
architectures_not name differs (Some list) r n = λ us is. let same : codes "architectures" ≡ name = cc in absurd (differs same)

bound_told : (bound other : Option (Op × VersionMeaning)) (r s : List Token) → NotKey (codes "operator") r → NotKey (codes "operator") s → bound_members bound ++ r ≡ bound_members other ++ s → (bound_text bound ≡ bound_text other) × (r ≡ s)
bound_told None None r s n m same = (refl, same)
bound_told None (Some other) r s n m same = absurd (n (tail (bound_members (Some other) ++ s)) same)
bound_told (Some bound) None r s n m same = absurd (m (tail (bound_members (Some bound) ++ r)) (sym same))
bound_told (Some bound) (Some other) r s n m same =
    let operators : operator_text bound.0 ≡ operator_text other.0 = cc in
    let versions : version_text bound.1 ≡ version_text other.1 = cc in (
      ap (λ o. codes " (" ++ (o ++ (codes " " ++ (version_text bound.1 ++ codes ")")))) operators ∙ ap (λ v. codes " (" ++ (operator_text other.0 ++ (codes " " ++ (v ++ codes ")")))) versions,
      ap (λ l. tail (tail (tail (tail l)))) same,
    )

bound_not : (name : List ℕ) → (codes "operator" ≡ name → ⊥) → (bound : Option (Op × VersionMeaning)) (r : List Token) → NotKey name r → NotKey name (bound_members bound ++ r)
bound_not name differs None r n = n
bound_not name differs (Some bound) r n = λ us is. let same : codes "operator" ≡ name = cc in absurd (differs same)

qualifier_told : (qualifier other : Option (List ℕ)) (r s : List Token) → NotKey (codes "qualifier") r → NotKey (codes "qualifier") s → qualifier_member qualifier ++ r ≡ qualifier_member other ++ s → (qualifier_text qualifier ≡ qualifier_text other) × (r ≡ s)
qualifier_told None None r s n m same = (refl, same)
qualifier_told None (Some other) r s n m same = absurd (n (text_tokens other ++ s) same)
qualifier_told (Some qualifier) None r s n m same = absurd (m (text_tokens qualifier ++ r) (sym same))
qualifier_told (Some qualifier) (Some other) r s n m same =
    let texts : qualifier ≡ other = cc in
    (ap (λ q. codes ":" ++ q) texts, ap (λ l. tail (tail l)) same)

differ : (a b : List ℕ) (n m : ℕ) → first_byte a ≡ n → first_byte b ≡ m → (n ≡ m → ⊥) → a ≡ b → ⊥
differ a b n m is was bytes same = bytes (sym is ∙ ap first_byte same ∙ was)

-- what follows the qualifier, the bound and the architectures of an alternative
abbrev after_architectures : Alternative → List Token → List Token
after_architectures x r = formula_member x.formula ++ Token.end_object ∷ r

abbrev after_bound : Alternative → List Token → List Token
after_bound x r = architectures_member x.architectures ++ after_architectures x r

abbrev after_qualifier : Alternative → List Token → List Token
after_qualifier x r = bound_members x.bound ++ after_bound x r

alternative_parts : (x : Alternative) (r : List Token) → alternative_tokens x ++ r ≡ Token.begin_object ∷ Token.key (codes "name") ∷ Token.string x.name ∷ (qualifier_member x.qualifier ++ after_qualifier x r)
alternative_parts x r =
    let q = qualifier_member x.qualifier in
    let b = bound_members x.bound in
    let a = architectures_member x.architectures in
    let f = formula_member x.formula in
    let e : List Token = Token.end_object ∷ [] in
    let parts : (q ++ (b ++ (a ++ (f ++ e)))) ++ r ≡ q ++ (b ++ (a ++ (f ++ (e ++ r)))) =
    append_assoc q (b ++ (a ++ (f ++ e))) r ∙ ap (λ l. q ++ l) (append_assoc b (a ++ (f ++ e)) r ∙ ap (λ l. b ++ l) (append_assoc a (f ++ e) r ∙ ap (λ l. a ++ l) (append_assoc f e r))) in
    ap (λ l. Token.begin_object ∷ Token.key (codes "name") ∷ Token.string x.name ∷ l) parts

no_architectures : (x : Alternative) (r : List Token) → NotKey (codes "architectures") (after_architectures x r)
no_architectures x r = formula_not (codes "architectures") (differ (codes "restrictions") (codes "architectures") 114 97 refl refl (λ n. omega (arith, n))) x.formula r

no_operator : (x : Alternative) (r : List Token) → NotKey (codes "operator") (after_bound x r)
no_operator x r =
    architectures_not (codes "operator") (differ (codes "architectures") (codes "operator") 97 111 refl refl (λ n. omega (arith, n))) x.architectures (after_architectures x r)
    (formula_not (codes "operator") (differ (codes "restrictions") (codes "operator") 114 111 refl refl (λ n. omega (arith, n))) x.formula r)

no_qualifier : (x : Alternative) (r : List Token) → NotKey (codes "qualifier") (after_qualifier x r)
no_qualifier x r =
    bound_not (codes "qualifier") (differ (codes "operator") (codes "qualifier") 111 113 refl refl (λ n. omega (arith, n))) x.bound (after_bound x r)
    (architectures_not (codes "qualifier") (differ (codes "architectures") (codes "qualifier") 97 113 refl refl (λ n. omega (arith, n))) x.architectures (after_architectures x r)
    (formula_not (codes "qualifier") (differ (codes "restrictions") (codes "qualifier") 114 113 refl refl (λ n. omega (arith, n))) x.formula r))

alternative_told : (x y : Alternative) (r s : List Token) → alternative_tokens x ++ r ≡ alternative_tokens y ++ s → (alternative_text x ≡ alternative_text y) × (r ≡ s)
alternative_told x y r s same =
    let parts : Token.begin_object ∷ Token.key (codes "name") ∷ Token.string x.name ∷ (qualifier_member x.qualifier ++ after_qualifier x r) ≡ Token.begin_object ∷ Token.key (codes "name") ∷ Token.string y.name ∷ (qualifier_member y.qualifier ++ after_qualifier y s) =
    sym (alternative_parts x r) ∙ same ∙ alternative_parts y s in
    let names : x.name ≡ y.name = cc in
    let q = qualifier_told x.qualifier y.qualifier (after_qualifier x r) (after_qualifier y s) (no_qualifier x r) (no_qualifier y s) (ap (λ l. tail (tail (tail l))) parts) in
    let b = bound_told x.bound y.bound (after_bound x r) (after_bound y s) (no_operator x r) (no_operator y s) q.1 in
    let a = architectures_told x.architectures y.architectures (after_architectures x r) (after_architectures y s) (no_architectures x r) (no_architectures y s) b.1 in
    let f = formula_told x.formula y.formula r s a.1 in
    let one = ap (λ t. t ++ (qualifier_text x.qualifier ++ (bound_text x.bound ++ (architectures_text x.architectures ++ formula_text x.formula)))) names in
    let two = ap (λ t. y.name ++ (t ++ (bound_text x.bound ++ (architectures_text x.architectures ++ formula_text x.formula)))) q.0 in
    let three = ap (λ t. y.name ++ (qualifier_text y.qualifier ++ (t ++ (architectures_text x.architectures ++ formula_text x.formula)))) b.0 in
    let four = ap (λ t. y.name ++ (qualifier_text y.qualifier ++ (bound_text y.bound ++ (t ++ formula_text x.formula)))) a.0 in
    let five = ap (λ t. y.name ++ (qualifier_text y.qualifier ++ (bound_text y.bound ++ (architectures_text y.architectures ++ t)))) f.0 in
    (one ∙ two ∙ three ∙ four ∙ five, f.1)

-- ---- relations

group_told : (group other : Group) (r s : List Token) → group_tokens group ++ r ≡ group_tokens other ++ s → (group_text group ≡ group_text other) × (r ≡ s)
unfolding group_text
group_told group other r s same =
    let inner = ended (flat_map alternative_tokens group) (flat_map alternative_tokens other) Token.end_array r s (ap tail same) in
    let told = texts_told alternative_tokens alternative_text alternative_told (λ x t u is. absurd (cc)) group other r s inner in
    (ap (joined (codes " | ")) told.0, told.1)

pub relation_told : (relation other : Relation) (r s : List Token) → relation_tokens relation ++ r ≡ relation_tokens other ++ s → (relation_text relation ≡ relation_text other) × (r ≡ s)
relation_told relation other r s same =
    let inner = ended (flat_map group_tokens relation) (flat_map group_tokens other) Token.end_array r s (ap tail same) in
    let told = texts_told group_tokens group_text group_told (λ x t u is. absurd (cc)) relation other r s inner in
    (ap (joined (codes ", ")) told.0, told.1)
