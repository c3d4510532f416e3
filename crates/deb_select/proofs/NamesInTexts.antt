-- A name of a relation is in each text that spells the relation.
use Rattle.std.proofs.Common.{◌≡◌, ◌⊎◌, ℕ, ◌==◌, ◌||◌, ◌&&◌, ◌≤◌, Bool, true, false, List, [], ◌∷◌, ◌++◌, map, length, get_or, arith, not, Option, None, Some, refl, sym, ap, ◌∙◌, subst, inl, inr, eq-eqb}
use Rattle.std.proofs.lemmas.Bool.{and_from, and_parts, false_from_ne_true, false≢true}
use Rattle.std.proofs.lemmas.Slice.Eq.{bytes_eq-Decides}
use Rattle.std.specs.List.{AllByRecursion, list_all, list_any}
use Rattle.deb_base.specs.declared.kind.Kind.TheVariants as kinds
use Rattle.deb_base.specs.declared.kind.Relationship.{Relationship}
use Rattle.deb_field.specs.Values.{SpellsKind, ValueMeaning}
use Rattle.std.specs.Str.{bytes_eq}
use Rattle.deb_relation.specs.Grammar.{SpellBetween, SpellsAlternative, SpellsGroup, SpellsPiece, SpellsRelation, groups_of}
use Rattle.deb_relation.specs.Meaning.{Alternative, Group, Relation}
use Rattle.deb_relation.specs.Texts.{group_text}
use Rattle.deb_relation.proofs.SetLemmas.{all-set_with}
use Rattle.deb_select.specs.Conditions.{alternatives_in, begins_with, contains_text, names_asked}
use Rattle.deb_select.specs.Kept.{KeptTest, NamesBytes, passes_kept, value_kept}
use Rattle.deb_select.proofs.Contained.{or-left, or-right}

either : (a b : Bool) → (a || b) ≡ true → (a ≡ true) ⊎ (b ≡ true)
either true b h = inl refl
either false b h = inr h

begins-itself : (p : List ℕ) → begins_with p p ≡ true
begins-itself [] = refl
begins-itself (x ∷ p) = and_from (x == x) (begins_with p p) (eq-eqb x x refl) (begins-itself p)

begins-more : (p t b : List ℕ) → begins_with p t ≡ true → begins_with p (t ++ b) ≡ true
begins-more [] t b h = refl
begins-more (x ∷ p) [] b h = absurd (false≢true h)
begins-more (x ∷ p) (y ∷ t) b h =
    let both = and_parts (x == y) (begins_with p t) h in
    and_from (x == y) (begins_with p (t ++ b)) both.0 (begins-more p t b both.1)

contains-begun : (p t : List ℕ) → begins_with p t ≡ true → contains_text p t ≡ true
contains-begun p [] h = h
contains-begun p (b ∷ t) h = or-left (begins_with p (b ∷ t)) (contains_text p t) h

contains-more : (p t b : List ℕ) → contains_text p t ≡ true → contains_text p (t ++ b) ≡ true
contains-more p [] b h = contains-begun p b (begins-more p [] b h)
contains-more p (x ∷ t) b h =
    elim (either (begins_with p (x ∷ t)) (contains_text p t) h) [
      | inl first ↦ or-left (begins_with p (x ∷ (t ++ b))) (contains_text p (t ++ b)) (begins-more p (x ∷ t) b first)
      | inr later ↦ or-right (begins_with p (x ∷ (t ++ b))) (contains_text p (t ++ b)) (contains-more p t b later)
    ]

contains-behind : (p a t : List ℕ) → contains_text p t ≡ true → contains_text p (a ++ t) ≡ true
contains-behind p [] t h = h
contains-behind p (x ∷ a) t h = or-right (begins_with p (x ∷ (a ++ t))) (contains_text p (a ++ t)) (contains-behind p a t h)

-- the parts of a text at a byte
module _ (text piece behind : List ℕ) (byte : ℕ) (parts : text ≡ piece ++ byte ∷ behind) (p : List ℕ) where
  in-front : contains_text p piece ≡ true → contains_text p text ≡ true
  in-front h = subst (λ t. contains_text p t ≡ true) (sym parts) (contains-more p piece (byte ∷ behind) h)

  in-rest : contains_text p behind ≡ true → contains_text p text ≡ true
  in-rest h = subst (λ t. contains_text p t ≡ true) (sym parts) (contains-behind p piece (byte ∷ behind) (or-right (begins_with p (byte ∷ behind)) (contains_text p behind) h))

alternative_named : (text : List ℕ) (a : Alternative) → SpellsAlternative text a → contains_text a.name text ≡ true
alternative_named text a is =
    subst (λ t. contains_text a.name t ≡ true) (sym is.spelt)
    (contains-behind a.name is.before _ (contains-more a.name a.name _ (contains-begun a.name a.name (begins-itself a.name))))

AreNamed : List ℕ → Group → Type 0
AreNamed text group = AllByRecursion (λ a. contains_text a.name text ≡ true) group

group_named : (whole : List ℕ) (group : Group) (text : List ℕ) → ((p : List ℕ) → contains_text p text ≡ true → contains_text p whole ≡ true) → SpellsGroup text group → AreNamed whole group
unfolding AreNamed
group_named whole [] text up is = absurd is
group_named whole (a ∷ []) text up is = (up a.name (alternative_named text a is), tt)
group_named whole (a ∷ next ∷ group) text up is =
    (up a.name (in-front text is.0 is.1 124 is.2 a.name (alternative_named is.0 a is.3)), group_named whole (next ∷ group) is.1 (λ p h. up p (in-rest text is.0 is.1 124 is.2 p h)) is.4)

pieces_named : (whole : List ℕ) (pieces : List (Option Group)) (text : List ℕ) → ((p : List ℕ) → contains_text p text ≡ true → contains_text p whole ≡ true) → SpellBetween 44 SpellsPiece text pieces → AllByRecursion (AreNamed whole) (groups_of pieces)
pieces_named whole [] text up is = tt
pieces_named whole (None ∷ []) text up is = tt
pieces_named whole (Some group ∷ []) text up is = (group_named whole group text up is, tt)
pieces_named whole (None ∷ next ∷ pieces) text up is = pieces_named whole (next ∷ pieces) is.1 (λ p h. up p (in-rest text is.0 is.1 44 is.2 p h)) is.4
pieces_named whole (Some group ∷ next ∷ pieces) text up is =
    (group_named whole group is.0 (λ p h. up p (in-front text is.0 is.1 44 is.2 p h)) is.3, pieces_named whole (next ∷ pieces) is.1 (λ p h. up p (in-rest text is.0 is.1 44 is.2 p h)) is.4)

module _ (text name : List ℕ) where
  one_named : (some : List Alternative) (more : List Alternative) → AreNamed text some → (list_any (bytes_eq name) (map (λ a. a.name) more) ≡ true → contains_text name text ≡ true) → list_any (bytes_eq name) (map (λ a. a.name) (some ++ more)) ≡ true → contains_text name text ≡ true
  unfolding AreNamed
  one_named [] more named later h = later h
  one_named (a ∷ some) more named later h =
      elim (either (bytes_eq name a.name) (list_any (bytes_eq name) (map (λ a. a.name) (some ++ more))) h) [
        | inl same ↦ subst (λ n. contains_text n text ≡ true) (sym ((bytes_eq-Decides name a.name).0 same)) named.0
        | inr others ↦ one_named some more named.1 later others
      ]

  all_named : (m : Relation) → AllByRecursion (AreNamed text) m → list_any (bytes_eq name) (names_asked m) ≡ true → contains_text name text ≡ true
  all_named [] named h = absurd (false≢true h)
  all_named (group ∷ groups) named h = one_named group (alternatives_in groups) named.0 (all_named groups named.1) h

  pub not_in_text : (m : Relation) → SpellsRelation text m → contains_text name text ≡ false → list_any (bytes_eq name) (names_asked m) ≡ false
  not_in_text m is lacks =
      false_from_ne_true _ (λ h. false≢true (sym lacks ∙ all_named m
      (subst (AllByRecursion (AreNamed text)) (sym is.set) (all-set_with group_text (AreNamed text) (groups_of is.pieces) [] (pieces_named text is.pieces text (λ p h. h) is.spell_pieces) tt)) h))

pub relation_lacks : (name : List ℕ) (test : KeptTest) (body : List ℕ) (sort : Relationship) (value : ValueMeaning) → test ≡ NamesBytes name → contains_text name body ≡ false → SpellsKind (kinds.Relation sort) body value → passes_kept test (value_kept value) ≡ false
relation_lacks name test body sort value asks lacks spells =
    ap (λ t. passes_kept t (value_kept value)) asks ∙ ap (λ v. passes_kept (NamesBytes name) (value_kept v)) spells.1 ∙ not_in_text body name spells.0 spells.2.spells lacks

pub not-is : (b : Bool) → not b ≡ true → b ≡ false
not-is true h = absurd (false≢true h)
not-is false h = refl

pub first-fails : {X : Type 0} (p : X → Bool) (xs : List X) (d x : X) → 1 ≤ length xs → x ≡ get_or xs 0 d → p x ≡ false → list_all p xs ≡ false
first-fails p [] d x some is fails = absurd (omega (arith, some))
first-fails p (y ∷ xs) d x some is fails = ap (λ v. v && list_all p xs) (ap p (sym is) ∙ fails)
