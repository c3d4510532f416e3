-- What a further package changes.
use Rattle.std.proofs.Common.{◌≡◌, ℕ, Bool, true, false, cond, not, ◌&&◌, ◌||◌, is_none, List, [], ◌∷◌, ◌++◌, Option, None, Some, codes, refl, sym, ap, ◌∙◌}
use Rattle.std.specs.List.{list_all, list_any}
use Rattle.std.specs.Str.{bytes_eq}
use Rattle.std.proofs.lemmas.Bool.{false≢true}
use Rattle.std.proofs.lemmas.List.Sorted.{IsPermutation-middle}
use Rattle.std.proofs.lemmas.Slice.Eq.{bytes_eq-Decides}
use Rattle.deb_relation.specs.Applying.{Environment}
use Rattle.deb_relation.specs.Meaning.{Alternative, Group}
use Rattle.deb_field.specs.Values.{ValueMeaning}
use Rattle.deb_control.specs.Documents.{Meaning}
use Rattle.deb_control.specs.FieldWords.{groups_of, value_under, word_under}
use Rattle.deb_control.specs.ValueFiles.{ValueEntries}
use Rattle.deb_index.specs.Listed.{Listed}
use Rattle.deb_index.specs.Meeting.{meets, meets_by_name}
use Rattle.deb_unmet.specs.Asked.{fields_with}
use Rattle.deb_unmet.specs.Fields.{environment_for}
use Rattle.deb_unmet.specs.Readings.{applies_by, may, surely}
use Rattle.deb_unmet.specs.Troubles.{can_be_otherwise, can_be_unmet, is_met, trouble}
use Rattle.deb_unmet.specs.declared.asked.Asked.TheVariants.{Packages}
use Rattle.deb_unmet.specs.declared.asked.Strength.{Strength}
use Rattle.deb_health.specs.Changes.{AddingRemovesUnmetAtMost, fits}
use Rattle.deb_health.specs.Excluding.{excludes, is_spoken_of}
use Rattle.deb_health.specs.Health.{are_apart, is_abundant, is_healthy, is_peaceful}
use Rattle.deb_health.specs.Lines.{negative_fields}
use Rattle.deb_health.specs.Together.{rules_out}
use Rattle.deb_health.proofs.Growing.{all-both, all-grows, all-true, all-where, and-grows, any-grows, both-true, not-grows, or-grows}
use Rattle.deb_health.proofs.Rearranged.{filter-skipping}
use Rattle.deb_health.proofs.SameReasons.{apart-rearranged, healthy-rearranged, otherwise-rearranged, troubles-rearranged}

-- A group that has no line has none if it can be unmet only if it could.
stays-none : {X : Type 0} (a b : X) (unmet less other more : Bool) → (less ≡ true → unmet ≡ true) → cond unmet (cond other (Some a) (Some b)) None ≡ None → cond less (cond more (Some a) (Some b)) None ≡ None
stays-none a b unmet false other more back is = refl
stays-none a b true true true more back is = absurd cc
stays-none a b true true false more back is = absurd cc
stays-none a b false true other more back is = absurd (false≢true (back refl))

none-is : {X : Type 0} (why : Option X) → is_none why ≡ true → why ≡ None
none-is None is = refl
none-is (Some why) is = absurd (false≢true is)

-- an alternative that excludes no package of either kind
not-either : (v a b : Bool) → not (v && (a || b)) ≡ (not (v && (a || false)) && not (v && b))
not-either true true b = refl
not-either true false b = refl
not-either false a b = refl

not-own : (v u s : Bool) → not (v && ((u && (not true && s)) || false)) ≡ true
not-own true true s = refl
not-own true false s = refl
not-own false u s = refl

and-true : (v : Bool) → (v && true) ≡ v
and-true true = refl
and-true false = refl

all-four : (own spared others : Bool) → ((own && spared) && (others && true)) ≡ (own && (spared && others))
all-four true true others = and-true others
all-four true false others = refl
all-four false spared others = refl

-- one more package, before the others
module _ (packages : List Listed) (p : Listed) where
  module _ (environment : Environment) where
    met-more : (a : Alternative) → is_met environment packages a ≡ true → is_met environment (p ∷ packages) a ≡ true
    met-more a = or-grows false (meets environment a p) (is_met environment packages a) (is_met environment packages a) (λ e. absurd (false≢true e)) (λ e. e)

    unmet-less : (group : Group) → can_be_unmet environment (p ∷ packages) group ≡ true → can_be_unmet environment packages group ≡ true
    unmet-less group =
        let sure : Alternative → Bool = λ a. surely (applies_by environment a) in
        let some : Alternative → Bool = λ a. may (applies_by environment a) in
        let met = is_met environment packages in
        let more = is_met environment (p ∷ packages) in
        and-grows (not (list_any (λ a. sure a && more a) group)) (not (list_any (λ a. sure a && met a) group)) (list_any (λ a. some a && not (more a)) group) (list_any (λ a. some a && not (met a)) group)
        (not-grows (list_any (λ a. sure a && more a) group) (list_any (λ a. sure a && met a) group)
        (any-grows (λ a. sure a && met a) (λ a. sure a && more a) (λ a. and-grows (sure a) (sure a) (met a) (more a) (λ e. e) (met-more a)) group))
        (any-grows (λ a. some a && not (more a)) (λ a. some a && not (met a)) (λ a. and-grows (some a) (some a) (not (more a)) (not (met a)) (λ e. e) (not-grows (more a) (met a) (met-more a))) group)

    pub otherwise-more : (group : Group) → can_be_otherwise environment packages group ≡ true → can_be_otherwise environment (p ∷ packages) group ≡ true
    otherwise-more group =
        let some : Alternative → Bool = λ a. may (applies_by environment a) in
        let met = is_met environment packages in
        let more = is_met environment (p ∷ packages) in
        let none = not (list_any (λ a. surely (applies_by environment a)) group) in
        or-grows (list_any (λ a. some a && met a) group) (list_any (λ a. some a && more a) group) none none
        (any-grows (λ a. some a && met a) (λ a. some a && more a) (λ a. and-grows (some a) (some a) (met a) (more a) (λ e. e) (met-more a)) group)
        (λ e. e)

    pub none-stays : (group : Group) → trouble environment packages group ≡ None → trouble environment (p ∷ packages) group ≡ None
    none-stays group = stays-none _ _ (can_be_unmet environment packages group) (can_be_unmet environment (p ∷ packages) group) (can_be_otherwise environment packages group) (can_be_otherwise environment (p ∷ packages) group) (unmet-less group)

  module _ (strength : Strength) (environment : Environment) where
    abbrev own : ValueEntries ValueMeaning → Environment
    own values = environment_for (Packages strength) environment values

    abundant-more : (values : ValueEntries ValueMeaning) → is_abundant strength environment packages values ≡ true → is_abundant strength environment (p ∷ packages) values ≡ true
    abundant-more values =
        let met : Group → Bool = λ group. is_none (trouble (own values) packages group) in
        let more : Group → Bool = λ group. is_none (trouble (own values) (p ∷ packages) group) in
        let all : (Group → Bool) → List ℕ → Bool = λ test field. list_all test (groups_of (value_under field values)) in
        all-grows (all met) (all more) (λ field. all-grows met more (λ group e. ap is_none (none-stays (own values) group (none-is (trouble (own values) packages group) e))) (groups_of (value_under field values))) (fields_with strength)

    -- the test of an alternative
    abbrev spares : ValueEntries ValueMeaning → List Listed → Alternative → Bool
    spares values ps a = not (may (applies_by (own values) a) && list_any (excludes environment.native (word_under (codes "Package") values) a) ps)

    peaceful-both : (values : ValueEntries ValueMeaning) → is_peaceful strength environment (p ∷ packages) values ≡ (is_peaceful strength environment (p ∷ []) values && is_peaceful strength environment packages values)
    peaceful-both values =
        let group_of : List Listed → List Alternative → Bool = λ ps group. list_all (spares values ps) group in
        let all : List Listed → List ℕ → Bool = λ ps field. list_all (group_of ps) (groups_of (value_under field values)) in
        let each : (a : Alternative) → spares values (p ∷ packages) a ≡ (spares values (p ∷ []) a && spares values packages a) =
        λ a. not-either (may (applies_by (own values) a)) (excludes environment.native (word_under (codes "Package") values) a p) (list_any (excludes environment.native (word_under (codes "Package") values) a) packages) in
        all-both (all (p ∷ [])) (all packages) (all (p ∷ packages))
        (λ field. all-both (group_of (p ∷ [])) (group_of packages) (group_of (p ∷ packages)) (λ group. all-both (spares values (p ∷ [])) (spares values packages) (spares values (p ∷ packages)) each group) (groups_of (value_under field values)))
        negative_fields

    -- it doesn't exclude itself
    peaceful-own : (values : ValueEntries ValueMeaning) → word_under (codes "Package") values ≡ p.name → is_peaceful strength environment (p ∷ []) values ≡ true
    peaceful-own values named =
        let same : bytes_eq p.name (word_under (codes "Package") values) ≡ true = (bytes_eq-Decides p.name (word_under (codes "Package") values)).1 (sym named) in
        let each : (a : Alternative) → spares values (p ∷ []) a ≡ true =
        λ a. ap (λ v. not (may (applies_by (own values) a) && ((meets_by_name a p && (not v && is_spoken_of environment.native a.qualifier p)) || false))) same
        ∙ not-own (may (applies_by (own values) a)) (meets_by_name a p) (is_spoken_of environment.native a.qualifier p) in
        all-true (λ field. list_all (λ group. list_all (spares values (p ∷ [])) group) (groups_of (value_under field values)))
        (λ field. all-true (λ group. list_all (spares values (p ∷ [])) group) (λ group. all-true (spares values (p ∷ [])) each group) (groups_of (value_under field values)))
        negative_fields

    pub healthy-more : (meaning : Meaning) (values : ValueEntries ValueMeaning) → word_under (codes "Package") values ≡ p.name → is_healthy strength environment packages meaning ≡ true
        → is_healthy strength environment (p ∷ packages) (values ∷ meaning) ≡ fits strength environment packages meaning p values
    healthy-more meaning values named is =
        let good : List Listed → ValueEntries ValueMeaning → Bool = λ ps values. is_abundant strength environment ps values && is_peaceful strength environment ps values in
        let alone = is_peaceful strength environment (p ∷ []) in
        let needs = is_abundant strength environment (p ∷ packages) values in
        let others = not (list_any (rules_out environment.native p) packages) in
        let was = both-true (list_all (good packages) meaning) (are_apart environment.native packages) is in
        let each : (values : ValueEntries ValueMeaning) → good packages values ≡ true → good (p ∷ packages) values ≡ alone values =
        λ values e.
        let parts = both-true (is_abundant strength environment packages values) (is_peaceful strength environment packages values) e in
        ap (λ v. v && is_peaceful strength environment (p ∷ packages) values) (abundant-more values parts.0) ∙ peaceful-both values ∙ ap (λ v. alone values && v) parts.1 ∙ and-true (alone values) in
        ap (λ v. ((needs && v) && list_all (good (p ∷ packages)) meaning) && (others && are_apart environment.native packages)) (peaceful-both values ∙ ap (λ v. v && is_peaceful strength environment packages values) (peaceful-own values named))
        ∙ ap (λ v. ((needs && is_peaceful strength environment packages values) && v) && (others && are_apart environment.native packages)) (all-where (good packages) (good (p ∷ packages)) alone each meaning was.0)
        ∙ ap (λ v. ((needs && is_peaceful strength environment packages values) && list_all alone meaning) && (others && v)) was.1
        ∙ all-four (needs && is_peaceful strength environment packages values) (list_all alone meaning) others

-- and at any place
pub adding : AddingRemovesUnmetAtMost
adding before after p =
    let moved = IsPermutation-middle before p after in
    let more = p ∷ (before ++ after) in
    record {
      no_line_stays_none = λ environment group none. troubles-rearranged (before ++ p ∷ after) more moved environment group ∙ none-stays (before ++ after) p environment group none;
      otherwise_stays = λ environment group other. otherwise-rearranged (before ++ p ∷ after) more moved environment group ∙ otherwise-more (before ++ after) p environment group other;
      excludes_the_same = λ target name a. filter-skipping (excludes target name a) before after p;
      rules_out_the_same = λ target q. filter-skipping (rules_out target q) before after p;
      apart_alike = λ target none. apart-rearranged target (before ++ p ∷ after) more moved ∙ ap (λ v. not v && are_apart target (before ++ after)) none;
      healthy_if_fits = λ strength environment earlier later values named is.
          healthy-rearranged (before ++ p ∷ after) more moved strength environment (earlier ++ values ∷ later) (values ∷ (earlier ++ later)) (IsPermutation-middle earlier values later)
          ∙ healthy-more (before ++ after) p strength environment (earlier ++ later) values named is;
    }
