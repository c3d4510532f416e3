-- What spells a relation, and which one: the grammar of relationship fields by cases, apart from
-- any reading of them. Debian Policy 7.1; restriction formulas are this project's own, after dpkg's
-- build profiles.
use Rattle.std.specs.Prelude.{◌≡◌, ◌≢◌, ℕ, ◌==◌, ◌||◌, Bool, List, [], ◌∷◌, ◌++◌, map, Option, Some}
use Rattle.std.specs.Prelude.{None, IsTrue, codes, refl, ◌⊎◌}
use Rattle.std.specs.List.{AllByRecursion}
use Rattle.deb_base.specs.PackageNames.{is_package_name, is_arch_name, is_profile_name}
use Rattle.deb_version.specs.Parts.{Meaning as Version}
use Rattle.deb_version.specs.Grammar.{SpellsVersion}
use Rattle.deb_relation.specs.declared.operator.Op.{Op}
use Rattle.deb_relation.specs.declared.operator.Op.TheVariants.{Earlier, EarlierEqual, Equal}
use Rattle.deb_relation.specs.declared.operator.Op.TheVariants.{LaterEqual, Later}
use Rattle.deb_relation.specs.Meaning.{Item, Restrictions, Alternative, Group, Relation}
use Rattle.deb_relation.specs.Sets.{insert_by, itself}
use Rattle.deb_relation.specs.Texts.{signed_text, item_text, restrictions_text}
use Rattle.deb_relation.specs.Texts.{group_text}

-- space, tab and newline
abbrev pub is_white : ℕ → Bool
is_white b = (b == 32) || (b == 9) || (b == 10)

-- white space, or nothing
abbrev pub IsWhite : List ℕ → Type 0
IsWhite text = AllByRecursion (λ b. IsTrue (is_white b)) text

-- the set of these members, put to those that are there: ascending by their texts, each once
abbrev pub set_with : {A : Type 0} → (A → List ℕ) → List A → List A → List A
set_with text [] set = set
set_with text (x ∷ xs) set = set_with text xs (insert_by text x set)

abbrev pub set_of : {A : Type 0} → (A → List ℕ) → List A → List A
set_of text xs = set_with text xs []

-- A text in turn: each piece of it spells its member, one piece directly after the other.
abbrev pub SpellInTurn : {A : Type 0} → (List ℕ → A → Type 0) → List ℕ → List A → Type 0
SpellInTurn spells text [] = text ≡ []
SpellInTurn spells text (a ∷ all) =
    (piece : List ℕ) × (behind : List ℕ) × (text ≡ piece ++ behind) × spells piece a
    × SpellInTurn spells behind all

-- A text in pieces with this byte between two of them, one piece at least, where each spells its
-- member.
abbrev pub SpellBetween : {A : Type 0} → ℕ → (List ℕ → A → Type 0) → List ℕ → List A → Type 0
SpellBetween byte spells text [] = ⊥
SpellBetween byte spells text (a ∷ []) = spells text a
SpellBetween byte spells text (a ∷ next ∷ all) =
    (piece : List ℕ) × (behind : List ℕ) × (text ≡ piece ++ byte ∷ behind) × spells piece a
    × SpellBetween byte spells behind (next ∷ all)

-- a qualifier, where there is one: `:` and the name of an architecture
abbrev pub SpellsQualifier : List ℕ → Option (List ℕ) → Type 0
SpellsQualifier text None = text ≡ []
SpellsQualifier text (Some qualifier) =
    (text ≡ codes ":" ++ qualifier) × IsTrue (is_arch_name qualifier)

-- An operator. The former `<` and `>` meant `<=` and `>=`, and are read so; Policy no longer allows
-- them.
abbrev pub SpellsOperator : List ℕ → Op → Type 0
SpellsOperator text Earlier = text ≡ codes "<<"
SpellsOperator text EarlierEqual = (text ≡ codes "<=") ⊎ (text ≡ codes "<")
SpellsOperator text Equal = text ≡ codes "="
SpellsOperator text LaterEqual = (text ≡ codes ">=") ⊎ (text ≡ codes ">")
SpellsOperator text Later = text ≡ codes ">>"

-- A bound: white space, `(`, an operator, a version, `)`. White space may be on both sides of
-- the operator and of the version.
pub record IsBound (text : List ℕ) (bound : Op × Version) : Type 0 where
  pub before : List ℕ
  pub within : List ℕ
  pub operator : List ℕ
  pub between : List ℕ
  pub version : List ℕ
  pub behind : List ℕ
  pub spelt :
      text
      ≡ before
      ++ (codes "(" ++ (within ++
      (operator ++ (between ++ (version ++ (behind ++ codes ")"))))))
  pub before_white : IsWhite before
  pub within_white : IsWhite within
  pub between_white : IsWhite between
  pub behind_white : IsWhite behind
  pub spells_operator : SpellsOperator operator bound.0
  pub spells : SpellsVersion version bound.1

abbrev pub SpellsBound : List ℕ → Option (Op × Version) → Type 0
SpellsBound text None = text ≡ []
SpellsBound text (Some bound) = IsBound text bound

-- nothing, or a byte of white space first
abbrev pub IsApart : List ℕ → Type 0
IsApart [] = Unit {0}
IsApart (b ∷ bs) = IsTrue (is_white b)

-- items in turn, white space between two of them, and perhaps before the first and after the last
abbrev pub SpellItems : List ℕ → List (List ℕ) → Type 0
SpellItems text [] = IsWhite text
SpellItems text (item ∷ items) =
    (white : List ℕ) × (behind : List ℕ) × (text ≡ white ++ (item ++ behind)) × IsWhite white
    × IsApart behind × SpellItems behind items

-- An architecture list: white space, `[`, one or more items, `]`. An item is the name of an
-- architecture; `!` is directly before each or before none. The list means the set of its
-- names.
pub record IsArchitectures (text : List ℕ) (list : Bool × List (List ℕ)) : Type 0 where
  pub before : List ℕ
  pub inner : List ℕ
  pub names : List (List ℕ)
  pub spelt : text ≡ before ++ (codes "[" ++ (inner ++ codes "]"))
  pub before_white : IsWhite before
  pub items : SpellItems inner (map (signed_text list.0) names)
  pub some : names ≢ []
  pub are_names : AllByRecursion (λ name. IsTrue (is_arch_name name)) names
  pub set : list.1 ≡ set_of itself names

abbrev pub SpellsArchitectures : List ℕ → Option (Bool × List (List ℕ)) → Type 0
SpellsArchitectures text None = text ≡ []
SpellsArchitectures text (Some list) = IsArchitectures text list

-- A restriction list: white space, `<`, one or more items, `>`. An item is the name of a profile,
-- perhaps with `!` directly before it. The list means the set of its items.
pub record SpellsRestrictions (text : List ℕ) (list : Restrictions) : Type 0 where
  pub before : List ℕ
  pub inner : List ℕ
  pub members : List Item
  pub spelt : text ≡ before ++ (codes "<" ++ (inner ++ codes ">"))
  pub before_white : IsWhite before
  pub items : SpellItems inner (map item_text members)
  pub some : members ≢ []
  pub are_profiles : AllByRecursion (λ item. IsTrue (is_profile_name item.1)) members
  pub set : list ≡ set_of item_text members

-- An alternative: white space, the name of a package, and what follows it, each thing or
-- nothing: a qualifier, a bound, an architecture list, restriction lists, white space. It means the
-- set of its restriction lists.
pub record SpellsAlternative (text : List ℕ) (a : Alternative) : Type 0 where
  pub before : List ℕ
  pub qualifier : List ℕ
  pub bound : List ℕ
  pub architectures : List ℕ
  pub formula : List ℕ
  pub lists : List Restrictions
  pub behind : List ℕ
  pub spelt :
      text ≡ before ++ (a.name ++ (qualifier ++ (bound ++ (architectures ++ (formula ++ behind)))))
  pub before_white : IsWhite before
  pub is_name : IsTrue (is_package_name a.name)
  pub spells_qualifier : SpellsQualifier qualifier a.qualifier
  pub spells_bound : SpellsBound bound a.bound
  pub spells_architectures : SpellsArchitectures architectures a.architectures
  pub spell_lists : SpellInTurn SpellsRestrictions formula lists
  pub set : a.formula ≡ set_of restrictions_text lists
  pub behind_white : IsWhite behind

-- a group: alternatives with `|` between
abbrev pub SpellsGroup : List ℕ → Group → Type 0
SpellsGroup text group = SpellBetween 124 SpellsAlternative text group

-- a piece: a group, or white space alone
abbrev pub SpellsPiece : List ℕ → Option Group → Type 0
SpellsPiece text None = IsWhite text
SpellsPiece text (Some group) = SpellsGroup text group

-- the groups of pieces
abbrev pub groups_of : List (Option Group) → List Group
groups_of [] = []
groups_of (None ∷ pieces) = groups_of pieces
groups_of (Some group ∷ pieces) = group ∷ groups_of pieces

-- The text spells the relation: pieces with `,` between. It means the set of its groups.
pub record SpellsRelation (text : List ℕ) (m : Relation) : Type 0 where
  pub pieces : List (Option Group)
  pub spell_pieces : SpellBetween 44 SpellsPiece text pieces
  pub set : m ≡ set_of group_text (groups_of pieces)

-- members that come twice or out of order, and those that are put to a set
worked-set_of : set_of itself (codes "b" ∷ codes "ab" ∷ codes "b" ∷ codes "a" ∷ [])
    ≡ codes "a" ∷ codes "ab" ∷ codes "b" ∷ []
worked-set_of = refl

worked-set_with : set_with itself (codes "c" ∷ codes "a" ∷ []) (codes "a" ∷ codes "b" ∷ [])
    ≡ codes "a" ∷ codes "b" ∷ codes "c" ∷ []
worked-set_with = refl

-- the groups in the order of their pieces, repeats kept
abbrev named : List ℕ → Alternative
named name =
    record { name = name; qualifier = None; bound = None; architectures = None; formula = [] }

worked-groups_of : groups_of
    (None ∷ Some (named (codes "b") ∷ []) ∷ None ∷ Some (named (codes "a") ∷ named (codes "c") ∷ [])
    ∷ Some (named (codes "b") ∷ []) ∷ [])
    ≡ (named (codes "b") ∷ []) ∷ (named (codes "a") ∷ named (codes "c") ∷ [])
    ∷ (named (codes "b") ∷ []) ∷ []
worked-groups_of = refl
