-- Canonical text is at most twice as long as each spelling.
use Rattle.std.proofs.Common.{◌≡◌, inl, inr, ◌≢◌, ℕ, ◌+◌, ◌*◌, ◌≤◌, Bool, true, List, [], ◌∷◌, ◌++◌, length, map, IsTrue, Option, Some, None, refl, ap, codes, arith, nat_le, ◌&&◌}
use Rattle.std.specs.List.{AllByRecursion, list_all}
use Rattle.std.proofs.lemmas.Bool.{and_parts}
use Rattle.std.proofs.lemmas.Bool.Decides.{nat_tests}
use Rattle.std.proofs.lemmas.List.{length-append}
use Rattle.std.specs.declared.cmp.Ordering.{Ordering}
use Rattle.std.specs.declared.cmp.Ordering.TheVariants.{Less, Equal, Greater}
use Rattle.deb_base.specs.PackageNames.{is_package_name, is_arch_name, is_profile_name, begins_small_or_digit, is_package_byte}
use Rattle.deb_version.specs.Parts.{Meaning as Version}
use Rattle.deb_version.specs.Canonical.{version_text}
use Rattle.deb_version.proofs.CanonicalTexts.{canonical_text_is_short as version_is_short}
use Rattle.deb_relation.specs.declared.operator.Op.{Op}
use Rattle.deb_relation.specs.declared.operator.Op.TheVariants.{Earlier, EarlierEqual, Equal, LaterEqual, Later}
use Rattle.deb_relation.specs.Grammar.{SpellItems, SpellBetween, SpellInTurn, SpellsQualifier, SpellsOperator, SpellsBound, SpellsArchitectures, SpellsRestrictions, SpellsAlternative, SpellsGroup, SpellsPiece, groups_of, SpellsRelation, set_with, set_of}
use Rattle.deb_relation.specs.Meaning.{Restrictions, Alternative, Group, Relation}
use Rattle.deb_relation.specs.Sets.{byte_cmp, by_order, insert_by, itself}
use Rattle.deb_relation.specs.Texts.{joined, separated, operator_text, signed_text, item_text, restrictions_text, qualifier_text, bound_text, architectures_text, formula_text, alternative_text, group_text, relation_text}
use Rattle.deb_relation.proofs.Bytes.{arch_some, profile_some}
use Rattle.deb_relation.proofs.Regular.{list_regular, items_regular, group_regular}
use Rattle.deb_relation.proofs.Bytes.{signed-some}
use Rattle.deb_version.specs.PartsLemmas.{cons_not_nil}

-- lengths added up
sum_of : {A : Type 0} → (A → ℕ) → List A → ℕ
sum_of f [] = 0
sum_of f (x ∷ xs) = f x + sum_of f xs

-- a set has no more than its members
sum_of-insert : {A : Type 0} (f : A → ℕ) (text : A → List ℕ) (x : A) (xs : List A) → sum_of f (insert_by text x xs) ≤ f x + sum_of f xs
unfolding sum_of
sum_of-insert f text x [] = omega arith
sum_of-insert f text x (y ∷ ys) = by_cases (sum_of-insert f text x ys) (byte_cmp (text x) (text y))
  where
    by_cases : sum_of f (insert_by text x ys) ≤ f x + sum_of f ys → (o : Ordering) → sum_of f (by_order o (x ∷ y ∷ ys) (y ∷ ys) (y ∷ insert_by text x ys)) ≤ f x + (f y + sum_of f ys)
    by_cases more Less = omega arith
    by_cases more Equal = omega arith
    by_cases more Greater = omega (arith, more)

sum_of-set_with : {A : Type 0} (f : A → ℕ) (text : A → List ℕ) (xs set : List A) → sum_of f (set_with text xs set) ≤ sum_of f xs + sum_of f set
unfolding sum_of
sum_of-set_with f text [] set = omega arith
sum_of-set_with f text (x ∷ xs) set =
    let more = sum_of-set_with f text xs (insert_by text x set) in
    let one = sum_of-insert f text x set in
    omega (arith, more, one)

sum_of-set_of : {A : Type 0} (f : A → ℕ) (text : A → List ℕ) (xs set : List A) → set ≡ set_of text xs → sum_of f set ≤ sum_of f xs
unfolding sum_of
sum_of-set_of f text xs set is = let e : sum_of f set ≡ sum_of f (set_of text xs) = ap (sum_of f) is in let more = sum_of-set_with f text xs [] in omega (arith, e, more)

-- texts with a separator before each, and between
length-separated : {A : Type 0} (separator : List ℕ) (text : A → List ℕ) (xs : List A) → length (separated separator (map text xs)) ≡ sum_of (λ x. length separator + length (text x)) xs
unfolding sum_of
length-separated separator text [] = refl
length-separated separator text (x ∷ xs) =
    let more = length-separated separator text xs in
    omega (arith, more, length-append separator (text x ++ separated separator (map text xs)), length-append (text x) (separated separator (map text xs)))

length-joined : {A : Type 0} (separator : List ℕ) (text : A → List ℕ) (xs : List A) → xs ≢ [] → length separator + length (joined separator (map text xs)) ≡ sum_of (λ x. length separator + length (text x)) xs
unfolding sum_of
length-joined separator text [] some = absurd (some refl)
length-joined separator text (x ∷ xs) some =
    let more = length-separated separator text xs in
    omega (arith, more, length-append (text x) (separated separator (map text xs)))

some_length : (text : List ℕ) → text ≢ [] → 1 ≤ length text
some_length [] some = absurd (some refl)
some_length (b ∷ bs) some = omega arith

-- items of one byte at least
module _ {A : Type 0} (text : A → List ℕ) (Good : A → Type 0) (item_some : (a : A) → Good a → text a ≢ []) where
  items_short : (items : List A) (inner : List ℕ) → SpellItems inner (map text items) → AllByRecursion Good items → sum_of (λ a. 1 + length (text a)) items ≤ 2 * length inner
  unfolding sum_of
  items_short [] inner spells good = omega arith
  items_short (a ∷ items) inner spells good =
      let more = items_short items spells.1 spells.5 good.1 in
      let one = some_length (text a) (item_some a good.0) in
      let e : length inner ≡ length (spells.0 ++ (text a ++ spells.1)) = ap length spells.2 in
      omega (arith, more, one, e, length-append spells.0 (text a ++ spells.1), length-append (text a) spells.1)

  -- a list in its brackets, against its spelling
  list_short : (key : A → List ℕ) (items set : List A) (inner : List ℕ) → set ≡ set_of key items → set ≢ [] → SpellItems inner (map text items) → AllByRecursion Good items → length (joined (codes " ") (map text set)) + 1 ≤ 2 * length inner
  list_short key items set inner is some spells good =
      let all = items_short items inner spells good in
      let fewer = sum_of-set_of (λ a. 1 + length (text a)) key items set is in
      let joint : 1 + length (joined (codes " ") (map text set)) ≡ sum_of (λ a. 1 + length (text a)) set = length-joined (codes " ") text set some in
      omega (arith, all, fewer, joint)

qualifier_short : (text : List ℕ) (q : Option (List ℕ)) → SpellsQualifier text q → length (qualifier_text q) ≤ 2 * length text
qualifier_short text None is = omega arith
qualifier_short text (Some q) is = let e : length text ≡ length (58 ∷ q) = ap length is.0 in omega (arith, e)

-- the canonical operator has at most a byte more
operator_short : (text : List ℕ) (operator : Op) → SpellsOperator text operator → length (operator_text operator) ≤ 2 * length text
operator_short text Earlier is = rw is (omega arith)
operator_short text EarlierEqual (inl is) = rw is (omega arith)
operator_short text EarlierEqual (inr is) = rw is (omega arith)
operator_short text Equal is = rw is (omega arith)
operator_short text LaterEqual (inl is) = rw is (omega arith)
operator_short text LaterEqual (inr is) = rw is (omega arith)
operator_short text Later is = rw is (omega arith)

bound_short : (text : List ℕ) (bound : Option (Op × Version)) → SpellsBound text bound → length (bound_text bound) ≤ 2 * length text
bound_short text None is = omega arith
bound_short text (Some bound) is =
    let operator = operator_short is.operator bound.0 is.spells_operator in
    let version = version_text bound.1 in
    let short = version_is_short is.version bound.1 is.spells in
    let e : length text ≡ length (is.before ++ (40 ∷ (is.within ++ (is.operator ++ (is.between ++ (is.version ++ (is.behind ++ codes ")"))))))) = ap length is.spelt in
    let long = spelled_length is.before is.within is.operator is.between is.version is.behind in
    let written = written_length (operator_text bound.0) version in
    omega (arith, operator, short, e, long, written)
  where
    spelled_length : (before within operator between version behind : List ℕ) → 2 + (length operator + length version) ≤ length (before ++ (40 ∷ (within ++ (operator ++ (between ++ (version ++ (behind ++ 41 ∷ [])))))))
    spelled_length before within operator between version behind =
        omega (arith, length-append before (40 ∷ (within ++ (operator ++ (between ++ (version ++ (behind ++ 41 ∷ [])))))), length-append within (operator ++ (between ++ (version ++ (behind ++ 41 ∷ [])))), length-append operator (between ++ (version ++ (behind ++ 41 ∷ []))), length-append between (version ++ (behind ++ 41 ∷ [])), length-append version (behind ++ 41 ∷ []), length-append behind (41 ∷ []))

    written_length : (operator version : List ℕ) → length (32 ∷ 40 ∷ (operator ++ (32 ∷ (version ++ 41 ∷ [])))) ≡ 4 + (length operator + length version)
    written_length operator version = omega (arith, length-append operator (32 ∷ (version ++ 41 ∷ [])), length-append version (41 ∷ []))

-- a list's spelling and its canonical text, by what is between the brackets
bracketed_length : (before : List ℕ) (begin : ℕ) (inner : List ℕ) (close : ℕ) → 2 + length inner ≤ length (before ++ (begin ∷ (inner ++ close ∷ [])))
bracketed_length before begin inner close = omega (arith, length-append before (begin ∷ (inner ++ close ∷ [])), length-append inner (close ∷ []))

list_length : (begin : ℕ) (inner : List ℕ) (close : ℕ) → length (32 ∷ begin ∷ (inner ++ close ∷ [])) ≡ 3 + length inner
list_length begin inner close = omega (arith, length-append inner (close ∷ []))

architectures_short : (text : List ℕ) (list : Option (Bool × List (List ℕ))) → SpellsArchitectures text list → length (architectures_text list) ≤ 2 * length text
architectures_short text None is = omega arith
architectures_short text (Some list) is =
    let e : length text ≡ length (is.before ++ (91 ∷ (is.inner ++ 93 ∷ []))) = ap length is.spelt in
    let regular = list_regular text (Some list) is in
    let short = list_short (signed_text list.0) (λ name. IsTrue (is_arch_name name)) (λ name good. signed-some list.0 name (arch_some name good)) itself is.names list.1 is.inner is.set regular.some is.items is.are_names in
    omega (arith, e, short, bracketed_length is.before 91 is.inner 93, list_length 91 (joined (codes " ") (map (signed_text list.0) list.1)) 93)

restrictions_short : (text : List ℕ) (list : Restrictions) → SpellsRestrictions text list → 1 + length (restrictions_text list) ≤ 2 * length text
restrictions_short text list is =
    let e : length text ≡ length (is.before ++ (60 ∷ (is.inner ++ 62 ∷ []))) = ap length is.spelt in
    let regular = items_regular text list is in
    let short = list_short item_text (λ item. IsTrue (is_profile_name item.1)) (λ item good. signed-some item.0 item.1 (profile_some item.1 good)) item_text is.members list is.inner is.set regular.some is.items is.are_profiles in
    omega (arith, e, short, bracketed_length is.before 60 is.inner 62, list_length 60 (joined (codes " ") (map item_text list)) 62)

lists_short : (lists : List Restrictions) (text : List ℕ) → SpellInTurn SpellsRestrictions text lists → sum_of (λ list. 1 + length (restrictions_text list)) lists ≤ 2 * length text
unfolding sum_of
lists_short [] text is = omega arith
lists_short (list ∷ lists) text is =
    let one = restrictions_short is.0 list is.3 in
    let more = lists_short lists is.1 is.4 in
    let e : length text ≡ length (is.0 ++ is.1) = ap length is.2 in
    omega (arith, one, more, e, length-append is.0 is.1)

formula_short : (lists set : List Restrictions) (text : List ℕ) → set ≡ set_of restrictions_text lists → SpellInTurn SpellsRestrictions text lists → length (formula_text set) ≤ 2 * length text
formula_short lists set text is spell =
    let all = lists_short lists text spell in
    let fewer = sum_of-set_of (λ list. 1 + length (restrictions_text list)) restrictions_text lists set is in
    let written : length (formula_text set) ≡ sum_of (λ list. 1 + length (restrictions_text list)) set = length-separated (codes " ") restrictions_text set in
    omega (arith, all, fewer, written)

name_length : (name : List ℕ) → IsTrue (is_package_name name) → 2 ≤ length name
name_length name is = long (and_parts (nat_le 2 (length name)) (begins_small_or_digit name) (and_parts (nat_le 2 (length name) && begins_small_or_digit name) (list_all is_package_byte name) is).0).0
  where
    long : nat_le 2 (length name) ≡ true → 2 ≤ length name
    long e = grind (arith, nat_tests)

-- a name has two bytes at least, so an alternative's text is shorter than twice its spelling by two
alternative_short : (text : List ℕ) (a : Alternative) → SpellsAlternative text a → 2 + length (alternative_text a) ≤ 2 * length text
alternative_short text a is =
    let name = name_length a.name is.is_name in
    let q = qualifier_short is.qualifier a.qualifier is.spells_qualifier in
    let b = bound_short is.bound a.bound is.spells_bound in
    let l = architectures_short is.architectures a.architectures is.spells_architectures in
    let f = formula_short is.lists a.formula is.formula is.set is.spell_lists in
    let e : length text ≡ length (is.before ++ (a.name ++ (is.qualifier ++ (is.bound ++ (is.architectures ++ (is.formula ++ is.behind)))))) = ap length is.spelt in
    let long = spelled_length is.before a.name is.qualifier is.bound is.architectures is.formula is.behind in
    let written = written_length a.name (qualifier_text a.qualifier) (bound_text a.bound) (architectures_text a.architectures) (formula_text a.formula) in
    omega (arith, name, q, b, l, f, e, long, written)
  where
    spelled_length : (before name q b l f behind : List ℕ) → length name + (length q + (length b + (length l + length f))) ≤ length (before ++ (name ++ (q ++ (b ++ (l ++ (f ++ behind))))))
    spelled_length before name q b l f behind =
        omega (arith, length-append before (name ++ (q ++ (b ++ (l ++ (f ++ behind))))), length-append name (q ++ (b ++ (l ++ (f ++ behind)))), length-append q (b ++ (l ++ (f ++ behind))), length-append b (l ++ (f ++ behind)), length-append l (f ++ behind), length-append f behind)

    written_length : (name q b l f : List ℕ) → length (name ++ (q ++ (b ++ (l ++ f)))) ≡ length name + (length q + (length b + (length l + length f)))
    written_length name q b l f = omega (arith, length-append name (q ++ (b ++ (l ++ f))), length-append q (b ++ (l ++ f)), length-append b (l ++ f), length-append l f)

alternatives_short : (group : Group) (text : List ℕ) → SpellsGroup text group → sum_of (λ a. 3 + length (alternative_text a)) group ≤ 2 * length text + 1
unfolding sum_of
alternatives_short [] text is = absurd is
alternatives_short (a ∷ []) text is = let one = alternative_short text a is in omega (arith, one)
alternatives_short (a ∷ next ∷ group) text is =
    let one = alternative_short is.0 a is.3 in
    let more = alternatives_short (next ∷ group) is.1 is.4 in
    let e : length text ≡ length (is.0 ++ 124 ∷ is.1) = ap length is.2 in
    omega (arith, one, more, e, length-append is.0 (124 ∷ is.1))

group_short : (group : Group) (text : List ℕ) → SpellsGroup text group → 2 + length (group_text group) ≤ 2 * length text
unfolding group_text
group_short group text is =
    let all = alternatives_short group text is in
    let joint : 3 + length (joined (codes " | ") (map alternative_text group)) ≡ sum_of (λ a. 3 + length (alternative_text a)) group = length-joined (codes " | ") alternative_text group (group_regular group text is).some in
    omega (arith, all, joint)

pieces_short : (pieces : List (Option Group)) (text : List ℕ) → SpellBetween 44 SpellsPiece text pieces → sum_of (λ group. 2 + length (group_text group)) (groups_of pieces) ≤ 2 * length text
unfolding sum_of
pieces_short [] text is = absurd is
pieces_short (None ∷ []) text is = omega arith
pieces_short (Some group ∷ []) text is = let one = group_short group text is in omega (arith, one)
pieces_short (None ∷ next ∷ pieces) text is =
    let more = pieces_short (next ∷ pieces) is.1 is.4 in
    let e : length text ≡ length (is.0 ++ 44 ∷ is.1) = ap length is.2 in
    omega (arith, more, e, length-append is.0 (44 ∷ is.1))
pieces_short (Some group ∷ next ∷ pieces) text is =
    let one = group_short group is.0 is.3 in
    let more = pieces_short (next ∷ pieces) is.1 is.4 in
    let e : length text ≡ length (is.0 ++ 44 ∷ is.1) = ap length is.2 in
    omega (arith, one, more, e, length-append is.0 (44 ∷ is.1))

groups_short : (m : Relation) → length (relation_text m) ≤ sum_of (λ group. 2 + length (group_text group)) m
unfolding sum_of
groups_short [] = omega arith
groups_short (group ∷ groups) =
    let joint : 2 + length (relation_text (group ∷ groups)) ≡ sum_of (λ group. 2 + length (group_text group)) (group ∷ groups) = length-joined (codes ", ") group_text (group ∷ groups) (cons_not_nil group groups) in
    omega (arith, joint)

pub canonical_text_is_short : (text : List ℕ) (m : Relation) → SpellsRelation text m → length (relation_text m) ≤ 2 * length text
canonical_text_is_short text m is =
    let all = pieces_short is.pieces text is.spell_pieces in
    let fewer = sum_of-set_of (λ group. 2 + length (group_text group)) group_text (groups_of is.pieces) m is.set in
    let joint = groups_short m in
    omega (arith, all, fewer, joint)
