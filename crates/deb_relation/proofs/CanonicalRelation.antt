-- The canonical text of what is regular spells it.
use Rattle.std.proofs.Common.{◌≡◌, inl, ◌≢◌, ℕ, Bool, List, [], ◌∷◌, ◌++◌, map, IsTrue, Option, Some, None, IfSome, refl, sym, ap, ◌∙◌, subst, append_assoc, append-nil, codes, ◌↔◌}
use Rattle.std.specs.List.{AllByRecursion}
use Rattle.deb_base.specs.PackageNames.{is_arch_name}
use Rattle.deb_version.specs.Parts.{Meaning as Version}
use Rattle.deb_version.specs.Grammar.{SpellsVersion}
use Rattle.deb_version.specs.Canonical.{version_text}
use Rattle.deb_version.specs.PartsLemmas.{cons_not_nil}
use Rattle.deb_relation.specs.declared.operator.Op.{Op}
use Rattle.deb_relation.specs.declared.operator.Op.TheVariants.{Earlier, EarlierEqual, Equal, LaterEqual, Later}
use Rattle.deb_relation.specs.Grammar.{IsWhite, IsApart, SpellItems, SpellBetween, SpellInTurn, SpellsQualifier, SpellsOperator, SpellsBound, SpellsArchitectures, SpellsRestrictions, SpellsAlternative, SpellsGroup, SpellsPiece, groups_of, SpellsRelation, set_of}
use Rattle.deb_relation.specs.Meaning.{Restrictions, Alternative, Group, Relation}
use Rattle.deb_relation.specs.Sets.{itself}
use Rattle.deb_relation.specs.Texts.{operator_text, joined, separated, signed_text, item_text, restrictions_text, qualifier_text, bound_text, architectures_text, formula_text, alternative_text, group_text, relation_text}
use Rattle.deb_relation.proofs.SetLemmas.{set_of-ascends}
use Rattle.deb_relation.proofs.SpelledGroups.{one_relation}
use Rattle.deb_relation.proofs.Regular.{IsNames, IsItems, IsRegular, IsRegularGroup, IsRegularRelation, relation_regular}

-- one space
abbrev space : List ℕ
space = codes " "

apart-separated : (texts : List (List ℕ)) → IsApart (separated space texts)
apart-separated [] = tt
apart-separated (text ∷ texts) = refl

items-separated : (texts : List (List ℕ)) → SpellItems (separated space texts) texts
items-separated [] = tt
items-separated (text ∷ texts) = (space, separated space texts, refl, (refl, tt), apart-separated texts, items-separated texts)

items-joined : (texts : List (List ℕ)) → SpellItems (joined space texts) texts
items-joined [] = tt
items-joined (text ∷ texts) = ([], separated space texts, refl, tt, apart-separated texts, items-separated texts)

qualifier_spelled : (q : Option (List ℕ)) → IfSome q (λ q. IsTrue (is_arch_name q)) → SpellsQualifier (qualifier_text q) q
qualifier_spelled None is = refl
qualifier_spelled (Some q) is = (refl, is)

operator_spelled : (operator : Op) → SpellsOperator (operator_text operator) operator
operator_spelled Earlier = refl
operator_spelled EarlierEqual = inl refl
operator_spelled Equal = refl
operator_spelled LaterEqual = inl refl
operator_spelled Later = refl

bound_spelled : (bound : Option (Op × Version)) → IfSome bound (λ b. SpellsVersion (version_text b.1) b.1) → SpellsBound (bound_text bound) bound
bound_spelled None is = refl
bound_spelled (Some bound) is = record {
  before = space;
  within = [];
  operator = operator_text bound.0;
  between = space;
  version = version_text bound.1;
  behind = [];
  spelt = refl;
  before_white = (refl, tt);
  within_white = tt;
  between_white = (refl, tt);
  behind_white = tt;
  spells_operator = operator_spelled bound.0;
  spells = is;
}

list_spelled : (list : Option (Bool × List (List ℕ))) → IfSome list (λ list. IsNames list.1) → SpellsArchitectures (architectures_text list) list
list_spelled None is = refl
list_spelled (Some list) is = record {
  before = space;
  inner = joined space (map (signed_text list.0) list.1);
  names = list.1;
  spelt = refl;
  before_white = (refl, tt);
  items = items-joined (map (signed_text list.0) list.1);
  some = is.some;
  are_names = is.are_names;
  set = sym (set_of-ascends itself list.1 is.ascend);
}

items_spelled : (items : Restrictions) → IsItems items → SpellsRestrictions (space ++ restrictions_text items) items
items_spelled items is = record {
  before = space;
  inner = joined space (map item_text items);
  members = items;
  spelt = refl;
  before_white = (refl, tt);
  items = items-joined (map item_text items);
  some = is.some;
  are_profiles = is.are_profiles;
  set = sym (set_of-ascends item_text items is.ascend);
}

formula_spelled : (lists : List Restrictions) → AllByRecursion IsItems lists → SpellInTurn SpellsRestrictions (formula_text lists) lists
formula_spelled [] all = refl
formula_spelled (list ∷ lists) all = (space ++ restrictions_text list, formula_text lists, refl, items_spelled list all.0, formula_spelled lists all.1)

-- with white space before and after
alternative_spelled : (before behind : List ℕ) (a : Alternative) → IsWhite before → IsWhite behind → IsRegular a → SpellsAlternative (before ++ (alternative_text a ++ behind)) a
alternative_spelled before behind a w w' is = record {
  before = before;
  qualifier = qualifier_text a.qualifier;
  bound = bound_text a.bound;
  architectures = architectures_text a.architectures;
  formula = formula_text a.formula;
  lists = a.formula;
  behind = behind;
  spelt = reordered before a.name (qualifier_text a.qualifier) (bound_text a.bound) (architectures_text a.architectures) (formula_text a.formula) behind;
  before_white = w;
  is_name = is.name;
  spells_qualifier = qualifier_spelled a.qualifier is.qualifier;
  spells_bound = bound_spelled a.bound is.bound;
  spells_architectures = list_spelled a.architectures is.architectures;
  spell_lists = formula_spelled a.formula is.lists;
  set = sym (set_of-ascends restrictions_text a.formula is.ascend);
  behind_white = w';
}
  where
    reordered : (before name q b l f behind : List ℕ) → before ++ ((name ++ (q ++ (b ++ (l ++ f)))) ++ behind) ≡ before ++ (name ++ (q ++ (b ++ (l ++ (f ++ behind)))))
    reordered before name q b l f behind = simp append_assoc refl

alternatives_spelled : (before behind : List ℕ) (group : Group) → IsWhite before → IsWhite behind → group ≢ [] → AllByRecursion IsRegular group → SpellsGroup (before ++ (joined (codes " | ") (map alternative_text group) ++ behind)) group
alternatives_spelled before behind [] w w' some all = absurd (some refl)
alternatives_spelled before behind (a ∷ []) w w' some all = subst (λ t. SpellsAlternative (before ++ (t ++ behind)) a) (sym (append-nil (alternative_text a))) (alternative_spelled before behind a w w' all.0)
alternatives_spelled before behind (a ∷ next ∷ group) w w' some all =
    let more = joined (codes " | ") (map alternative_text (next ∷ group)) in
    (before ++ (alternative_text a ++ space), space ++ (more ++ behind), reordered before (alternative_text a) more, alternative_spelled before space a w (refl, tt) all.0, alternatives_spelled space behind (next ∷ group) (refl, tt) w' (cons_not_nil next group) all.1)
  where
    reordered : (before text more : List ℕ) → before ++ ((text ++ (32 ∷ 124 ∷ 32 ∷ more)) ++ behind) ≡ (before ++ (text ++ (32 ∷ []))) ++ (124 ∷ 32 ∷ (more ++ behind))
    reordered before text more = simp append_assoc refl

pub group_spelled : (before behind : List ℕ) (group : Group) → IsWhite before → IsWhite behind → IsRegularGroup group → SpellsGroup (before ++ (group_text group ++ behind)) group
unfolding group_text
group_spelled before behind group w w' is = alternatives_spelled before behind group w w' is.some is.each

-- the pieces of canonical text: the groups
pieces_with : Relation → List (Option Group)
pieces_with [] = []
pieces_with (group ∷ groups) = Some group ∷ pieces_with groups

groups-spelled : (before : List ℕ) (group : Group) (groups : Relation) → IsWhite before → AllByRecursion IsRegularGroup (group ∷ groups) → SpellBetween 44 SpellsPiece (before ++ joined (codes ", ") (map group_text (group ∷ groups))) (pieces_with (group ∷ groups))
unfolding pieces_with
groups-spelled before group [] w all = group_spelled before [] group w tt all.0
groups-spelled before group (next ∷ groups) w all =
    let more = joined (codes ", ") (map group_text (next ∷ groups)) in
    (before ++ group_text group, space ++ more, sym (append_assoc before (group_text group) (44 ∷ 32 ∷ more)), subst (λ t. SpellsGroup (before ++ t) group) (append-nil (group_text group)) (group_spelled before [] group w tt all.0), groups-spelled space next groups (refl, tt) all.1)

groups_of-pieces : (m : Relation) → groups_of (pieces_with m) ≡ m
unfolding pieces_with
groups_of-pieces [] = refl
groups_of-pieces (group ∷ groups) = ap (λ gs. group ∷ gs) (groups_of-pieces groups)

pub relation_spelled : (m : Relation) → IsRegularRelation m → SpellsRelation (relation_text m) m
relation_spelled [] is = record { pieces = None ∷ []; spell_pieces = tt; set = refl }
relation_spelled (group ∷ groups) is = record {
  pieces = pieces_with (group ∷ groups);
  spell_pieces = groups-spelled [] group groups tt is.groups;
  set = sym (ap (set_of group_text) (groups_of-pieces (group ∷ groups)) ∙ set_of-ascends group_text (group ∷ groups) is.ascend);
}

-- Canonical text spells what it is the text of, and no two relations have one text.
pub canonical_text_spells : (text : List ℕ) (m : Relation) → SpellsRelation text m → SpellsRelation (relation_text m) m
canonical_text_spells text m spells = relation_spelled m (relation_regular text m spells)

pub canonical_text_decides : (s t : List ℕ) (m n : Relation) → SpellsRelation s m → SpellsRelation t n → (relation_text m ≡ relation_text n) ↔ (m ≡ n)
canonical_text_decides s t m n a b =
    (λ e. one_relation (relation_text n) m n (subst (λ text. SpellsRelation text m) e (canonical_text_spells s m a)) (canonical_text_spells t n b), λ e. ap relation_text e)

pub canonical_text_stays : (text : List ℕ) (m n : Relation) → SpellsRelation text m → SpellsRelation (relation_text m) n → relation_text n ≡ relation_text m
canonical_text_stays text m n a b = ap relation_text (one_relation (relation_text m) n m b (canonical_text_spells text m a))
