-- What is spelled is regular: its names are names, its lists aren't empty, its sets ascend, its versions have a
-- canonical text that spells them.
use Rattle.std.proofs.Common.{ℕ, Bool, List, [], ◌∷◌, IsTrue, Option, Some, None, IfSome, sym, subst}
use Rattle.std.specs.List.{AllByRecursion}
use Rattle.deb_base.specs.PackageNames.{is_arch_name, is_profile_name}
use Rattle.deb_version.specs.Parts.{Meaning as Version}
use Rattle.deb_version.specs.Grammar.{SpellsVersion}
use Rattle.deb_version.specs.Canonical.{version_text}
use Rattle.deb_version.proofs.CanonicalTexts.{canonical_text_spells}
use Rattle.deb_relation.specs.declared.operator.Op.{Op}
use Rattle.deb_relation.specs.Grammar.{SpellBetween, SpellInTurn, SpellsQualifier, SpellsBound, SpellsArchitectures, SpellsRestrictions, SpellsAlternative, SpellsGroup, SpellsPiece, groups_of, SpellsRelation}
use Rattle.deb_relation.specs.Laws.{Ascends}
pub use Rattle.deb_relation.specs.Regular.{IsNames, IsItems, IsRegular, IsRegularGroup, IsRegularRelation}
use Rattle.deb_relation.specs.Meaning.{Restrictions, Alternative, Group, Relation}
use Rattle.deb_relation.specs.Sets.{itself}
use Rattle.deb_relation.specs.Texts.{item_text, restrictions_text, group_text}
use Rattle.deb_version.specs.PartsLemmas.{cons_not_nil}
use Rattle.deb_relation.proofs.SetLemmas.{all-set_with, ascends-set_with}
use Rattle.deb_relation.proofs.SpelledLists.{set_of-some}

pub qualifier_regular : (text : List ℕ) (q : Option (List ℕ)) → SpellsQualifier text q → IfSome q (λ q. IsTrue (is_arch_name q))
qualifier_regular text None is = tt
qualifier_regular text (Some q) is = is.1

bound_regular : (text : List ℕ) (bound : Option (Op × Version)) → SpellsBound text bound → IfSome bound (λ b. SpellsVersion (version_text b.1) b.1)
bound_regular text None is = tt
bound_regular text (Some bound) is = canonical_text_spells is.version bound.1 is.spells

pub list_regular : (text : List ℕ) (list : Option (Bool × List (List ℕ))) → SpellsArchitectures text list → IfSome list (λ list. IsNames list.1)
list_regular text None is = tt
list_regular text (Some list) is = subst IsNames (sym is.set) (record {
  some = set_of-some itself is.names [] is.some;
  ascend = ascends-set_with itself is.names [] tt;
  are_names = all-set_with itself (λ name. IsTrue (is_arch_name name)) is.names [] is.are_names tt;
})

pub items_regular : (text : List ℕ) (list : Restrictions) → SpellsRestrictions text list → IsItems list
items_regular text list is = subst IsItems (sym is.set) (record {
  some = set_of-some item_text is.members [] is.some;
  ascend = ascends-set_with item_text is.members [] tt;
  are_profiles = all-set_with item_text (λ item. IsTrue (is_profile_name item.1)) is.members [] is.are_profiles tt;
})

lists_regular : (lists : List Restrictions) (text : List ℕ) → SpellInTurn SpellsRestrictions text lists → AllByRecursion IsItems lists
lists_regular [] text is = tt
lists_regular (list ∷ lists) text is = (items_regular is.0 list is.3, lists_regular lists is.1 is.4)

pub alternative_regular : (text : List ℕ) (a : Alternative) → SpellsAlternative text a → IsRegular a
alternative_regular text a is = record {
  name = is.is_name;
  qualifier = qualifier_regular is.qualifier a.qualifier is.spells_qualifier;
  bound = bound_regular is.bound a.bound is.spells_bound;
  architectures = list_regular is.architectures a.architectures is.spells_architectures;
  lists = subst (AllByRecursion IsItems) (sym is.set) (all-set_with restrictions_text IsItems is.lists [] (lists_regular is.lists is.formula is.spell_lists) tt);
  ascend = subst (Ascends restrictions_text) (sym is.set) (ascends-set_with restrictions_text is.lists [] tt);
}

pub group_regular : (group : Group) (text : List ℕ) → SpellsGroup text group → IsRegularGroup group
group_regular [] text is = absurd is
group_regular (a ∷ []) text is = record { some = cons_not_nil a []; each = (alternative_regular text a is, tt) }
group_regular (a ∷ next ∷ group) text is = record { some = cons_not_nil a (next ∷ group); each = (alternative_regular is.0 a is.3, (group_regular (next ∷ group) is.1 is.4).each) }

pieces_regular : (pieces : List (Option Group)) (text : List ℕ) → SpellBetween 44 SpellsPiece text pieces → AllByRecursion IsRegularGroup (groups_of pieces)
pieces_regular [] text is = tt
pieces_regular (None ∷ []) text is = tt
pieces_regular (Some group ∷ []) text is = (group_regular group text is, tt)
pieces_regular (None ∷ next ∷ pieces) text is = pieces_regular (next ∷ pieces) is.1 is.4
pieces_regular (Some group ∷ next ∷ pieces) text is = (group_regular group is.0 is.3, pieces_regular (next ∷ pieces) is.1 is.4)

pub relation_regular : (text : List ℕ) (m : Relation) → SpellsRelation text m → IsRegularRelation m
relation_regular text m is = subst IsRegularRelation (sym is.set) (record {
  groups = all-set_with group_text IsRegularGroup (groups_of is.pieces) [] (pieces_regular is.pieces text is.spell_pieces) tt;
  ascend = ascends-set_with group_text (groups_of is.pieces) [] tt;
})
