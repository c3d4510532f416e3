-- A relation that is written group by group, from its canonical text.
use Rattle.std.proofs.Common.{◌≡◌, ℕ, List, [], ◌∷◌, ◌++◌, map, drop, get_or, length, ◌≤◌, ◌<◌, Bool, true, false, not, refl, sym, ap, ◌∙◌, subst, append_assoc, append-nil, arith, codes}
use Rattle.std.specs.List.{AllByRecursion, flat_map}
use Rattle.std.proofs.lemmas.List.{flat_map_more, length-append}
use Rattle.std.specs.declared.cmp.Ordering.TheVariants.{Less}
use Rattle.json.specs.Token.{Token}
use Rattle.deb_base.proofs.AllElements.{All-append}
use Rattle.deb_field.specs.RelationSpelled.{relation_meaning}
use Rattle.deb_field.specs.declared.relation.RelationField.{RelationField}
use Rattle.deb_relation.specs.declared.group.Group.{Group as Parts}
use Rattle.deb_relation.specs.Grammar.{SpellsRelation}
use Rattle.deb_relation.specs.Groups.{group_of}
use Rattle.deb_relation.specs.Laws.{Ascends}
use Rattle.deb_relation.specs.Meaning.{Group, Relation}
use Rattle.deb_relation.specs.RelationTexts.{body_of, text_read}
use Rattle.deb_relation.specs.Sets.{byte_cmp}
use Rattle.deb_relation.specs.Texts.{group_text, relation_text, separated}
use Rattle.deb_relation.proofs.CanonicalRelation.{canonical_text_spells, relation_spelled}
use Rattle.deb_relation.proofs.ReadRelation.{relation_took}
use Rattle.deb_relation.proofs.Regular.{IsRegularGroup}
use Rattle.deb_relation.proofs.SpelledGroups.{one_relation}
use Rattle.deb_version.specs.PartsLemmas.{cons_not_nil}
use Rattle.deb_select.specs.JsonTokens.{group_tokens}

-- the texts of groups, each with a comma and a space before it
abbrev texts_of : List Group → List ℕ
texts_of groups = separated (codes ", ") (map group_text groups)

-- The groups that were written, and the text that is left. A group whose text comes after `last` comes after them all.
pub record WrittenSoFar (text rest last : List ℕ) (old new : List Token) : Type 0 where
  pub done : List Group
  pub spelt : text ≡ texts_of done ++ rest
  pub regular : AllByRecursion IsRegularGroup done
  pub ascend : Ascends group_text done
  pub next : (group : Group) → byte_cmp last (group_text group) ≡ Less → Ascends group_text (done ++ group ∷ [])
  pub written : new ≡ old ++ flat_map group_tokens done

pub written_none : (text last : List ℕ) (old : List Token) → WrittenSoFar text text last old old
written_none text last old = record {
  done = [];
  spelt = refl;
  regular = tt;
  ascend = tt;
  next = λ group less. tt;
  written = sym (append-nil old);
}

texts-last : (done : List Group) (group : Group) (behind : List ℕ) → texts_of (done ++ group ∷ []) ++ behind ≡ texts_of done ++ (codes ", " ++ (group_text group ++ behind))
texts-last [] group behind = ap (λ t. codes ", " ++ (t ++ behind)) (append-nil (group_text group))
texts-last (first ∷ done) group behind =
    ap (λ t. codes ", " ++ t)
    (append_assoc (group_text first) (texts_of (done ++ group ∷ [])) behind
    ∙ ap (λ t. group_text first ++ t) (texts-last done group behind)
    ∙ sym (append_assoc (group_text first) (texts_of done) (codes ", " ++ (group_text group ++ behind))))

ascends-last : (done : List Group) (group after : Group) → Ascends group_text (done ++ group ∷ []) → byte_cmp (group_text group) (group_text after) ≡ Less → Ascends group_text ((done ++ group ∷ []) ++ after ∷ [])
ascends-last [] group after a less = (less, tt)
ascends-last (first ∷ []) group after a less = (a.0, (less, tt))
ascends-last (first ∷ second ∷ done) group after a less = (a.0, ascends-last (second ∷ done) group after a.1 less)

-- one group more
pub written_more : (text rest last piece behind : List ℕ) (old mid new : List Token) → WrittenSoFar text rest last old mid → rest ≡ codes ", " ++ (piece ++ behind) → byte_cmp last piece ≡ Less
    → ((group : Group) × IsRegularGroup group × (group_text group ≡ piece) × (new ≡ mid ++ group_tokens group)) → WrittenSoFar text behind piece old new
written_more text rest last piece behind old mid new so_far is less put =
    let group = put.0 in
    let ascend = so_far.next group (ap (byte_cmp last) put.2 ∙ less) in
    record {
      done = so_far.done ++ group ∷ [];
      spelt = so_far.spelt ∙ ap (λ t. texts_of so_far.done ++ t) (is ∙ ap (λ t. codes ", " ++ (t ++ behind)) (sym put.2)) ∙ sym (texts-last so_far.done group behind);
      regular = All-append IsRegularGroup so_far.done (group ∷ []) so_far.regular (put.1, tt);
      ascend = ascend;
      next = λ after more. ascends-last so_far.done group after ascend (ap (λ t. byte_cmp t (group_text after)) put.2 ∙ more);
      written = put.3 ∙ ap (λ l. l ++ group_tokens group) so_far.written ∙ flat_map_more group_tokens old so_far.done group;
    }

-- what was written in the end is the relation that the text spells
pub written_all : (text last : List ℕ) (old new : List Token) → WrittenSoFar text [] last old new → (m : Relation) → SpellsRelation (relation_text m) m → text ≡ codes ", " ++ relation_text m → new ≡ old ++ flat_map group_tokens m
written_all text last old new so_far m spells is = so_far.written ∙ ap (λ l. old ++ flat_map group_tokens l) (sym (same so_far.done so_far.spelt so_far.regular so_far.ascend))
  where
    same : (done : List Group) → text ≡ texts_of done ++ [] → AllByRecursion IsRegularGroup done → Ascends group_text done → m ≡ done
    same [] spelt regular ascend = absurd (cons_not_nil 44 (32 ∷ relation_text m) (sym is ∙ spelt))
    same (first ∷ done) spelt regular ascend =
        let texts : relation_text m ≡ relation_text (first ∷ done) = ap (drop 2) (sym is ∙ spelt ∙ append-nil (texts_of (first ∷ done))) in
        one_relation (relation_text (first ∷ done)) m (first ∷ done) (subst (λ t. SpellsRelation t m) texts spells) (relation_spelled (first ∷ done) (record { groups = regular; ascend = ascend }))

-- the canonical text of a field's relation spells it
pub field_spelled : (field : RelationField) → SpellsRelation (relation_text (relation_meaning field)) (relation_meaning field)
field_spelled field = canonical_text_spells (body_of field.relation) (relation_meaning field) (relation_took (body_of field.relation) (relation_meaning field) (text_read field.relation))

-- what is behind a piece is shorter
pub piece_shorter : (rest piece behind : List ℕ) → rest ≡ codes ", " ++ (piece ++ behind) → length behind < length rest
piece_shorter rest piece behind is = omega (arith, ap length is, length-append piece behind)

-- the first group of a relation that was read
pub first_regular : (groups : List Parts) (none group : Parts) (m : Relation) → map group_of groups ≡ m → AllByRecursion IsRegularGroup m → 1 ≤ length groups → group ≡ get_or groups 0 none → IsRegularGroup (group_of group)
first_regular [] none group m all regular some is = absurd (omega (arith, some))
first_regular (first ∷ groups) none group m all regular some is = subst (λ g. IsRegularGroup (group_of g)) (sym is) (subst (AllByRecursion IsRegularGroup) (sym all) regular).0

pub not-not : (b : Bool) → not (not b) ≡ b
not-not true = refl
not-not false = refl
