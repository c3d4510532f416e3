-- A group of one plain alternative that a package meets has no line.
use Rattle.std.proofs.Common.{◌≡◌, inl, ℕ, ◌-◌, Bool, true, false, List, [], ◌∷◌, ◌++◌, IsTrue, Option, Some, None, append-nil, codes, if◌then◌else◌, nat_eq, refl, sym, ap, ◌∙◌, subst}
use Rattle.std.specs.List.{list_any, slice_get}
use Rattle.std.proofs.lemmas.Map.Keys.{any_passes_from_place}
use Rattle.deb_base.specs.PackageNames.{is_package_name}
use Rattle.deb_version.specs.Grammar.{SpellsVersion}
use Rattle.deb_version.specs.Parts.{Meaning as Version}
use Rattle.deb_relation.specs.Applying.{Environment}
use Rattle.deb_relation.specs.Grammar.{SpellsBound, SpellsOperator, SpellsRelation}
use Rattle.deb_relation.specs.Meaning.{Group}
use Rattle.deb_relation.specs.Regular.{IsRegularGroup}
use Rattle.deb_relation.specs.Texts.{group_text, operator_text}
use Rattle.deb_relation.specs.declared.operator.Op.{Op}
use Rattle.deb_relation.specs.declared.operator.Op.TheVariants.{Earlier, EarlierEqual, Equal, LaterEqual, Later}
use Rattle.deb_relation.proofs.CanonicalRelation.{relation_spelled}
use Rattle.deb_relation.proofs.SpelledGroups.{one_relation}
use Rattle.deb_index.specs.Listed.{Listed}
use Rattle.deb_index.specs.Named.{package_at}
use Rattle.deb_unmet.specs.Plain.{plain}
use Rattle.deb_unmet.specs.Readings.{applies_by}
use Rattle.deb_unmet.specs.SoFar.{unless_met}
use Rattle.deb_unmet.specs.Troubles.{is_met, trouble}
use Rattle.deb_unmet.specs.declared.applying.Applies.TheVariants.{Surely}
use Rattle.deb_unmet.specs.declared.group.Readings.{Readings as SoFar}
use Rattle.deb_unmet.proofs.Groups.{no-trouble}

operator_spelled : (operator : Op) → SpellsOperator (operator_text operator) operator
operator_spelled Earlier = refl
operator_spelled EarlierEqual = inl refl
operator_spelled Equal = refl
operator_spelled LaterEqual = inl refl
operator_spelled Later = refl

-- a bound as canonical text has it, whatever the version
pub bound_spelled : (after rest version : List ℕ) (operator : Op) (m : Version) → after ≡ codes " (" ++ (operator_text operator ++ (codes " " ++ rest)) → rest ≡ version ++ codes ")" → SpellsVersion version m → SpellsBound after (Some (operator, m))
bound_spelled after rest version operator m is cut spells = record {
  before = codes " ";
  within = [];
  operator = operator_text operator;
  between = codes " ";
  version = version;
  behind = [];
  spelt = is ∙ ap (λ r. codes " (" ++ (operator_text operator ++ (codes " " ++ r))) cut;
  before_white = (refl, tt);
  within_white = tt;
  between_white = (refl, tt);
  behind_white = tt;
  spells_operator = operator_spelled operator;
  spells = spells;
}

head-same : {X : Type 0} (x y : X) → ◌≡◌ {A = List X} (x ∷ []) (y ∷ []) → x ≡ y
head-same x y e = cc

module _ (name after : List ℕ) (bound : Option (Op × Version)) (is_name : IsTrue (is_package_name name)) (spells : SpellsBound after bound) where
  plain-spelled : SpellsRelation (name ++ after) ((plain name bound ∷ []) ∷ [])
  plain-spelled = record {
    pieces = Some (plain name bound ∷ []) ∷ [];
    spell_pieces = record {
      before = [];
      qualifier = [];
      bound = after;
      architectures = [];
      formula = [];
      lists = [];
      behind = [];
      spelt = ap (λ t. name ++ t) (sym (append-nil after));
      before_white = tt;
      is_name = is_name;
      spells_qualifier = refl;
      spells_bound = spells;
      spells_architectures = refl;
      spell_lists = refl;
      set = refl;
      behind_white = tt;
    };
    set = refl;
  }

  -- the only group with this text
  plain-only : (group : Group) → IsRegularGroup group → name ++ after ≡ group_text group → group ≡ plain name bound ∷ []
  plain-only group regular is =
      let spelled = subst (λ t. SpellsRelation t (group ∷ [])) (append-nil (group_text group) ∙ sym is) (relation_spelled (group ∷ []) (record { groups = (regular, tt); ascend = tt })) in
      head-same group (plain name bound ∷ []) (one_relation (name ++ after) (group ∷ []) ((plain name bound ∷ []) ∷ []) spelled plain-spelled)

  pub plainly_met : (environment : Environment) (packages : List Listed) (text : List ℕ) (group : Group) → IsRegularGroup group → text ≡ group_text group → text ≡ name ++ after → IsTrue (is_met environment packages (plain name bound)) → trouble environment packages group ≡ None
  plainly_met environment packages text group regular is cut met =
      let nothing : SoFar = record { unmet = false; met = false; applies = false } in
      let surely : unless_met (applies_by environment (plain name bound)) (is_met environment packages (plain name bound)) nothing ≡ None = ap (λ m. unless_met Surely m nothing) met in
      sym (no-trouble environment packages group [] [] (plain name bound) nothing surely (plain-only group regular (sym cut ∙ is)))

-- the package of a number is one of all
pub met_at : (test : Listed → Bool) (packages : List Listed) (number : ℕ) (p : Listed) → Some p ≡ package_at number packages → test p ≡ true → list_any test packages ≡ true
met_at test packages number p is passes = go (nat_eq number 0) is
  where
    go : (none : Bool) → Some p ≡ (if none then None else slice_get packages (number - 1)) → list_any test packages ≡ true
    go true is = absurd cc
    go false is = any_passes_from_place test packages (number - 1) p (sym is) passes
