-- What lines say, by the readings of groups and by meanings of names.
use Rattle.std.proofs.Common.{◌≡◌, ℕ, Bool, true, false, not, cond, if◌then◌else◌, ◌&&◌, ◌||◌, List, [], ◌∷◌, map, Option, None, Some, refl, sym, ap, ◌∙◌}
use Rattle.std.proofs.lemmas.Bool.{false≢true}
use Rattle.std.proofs.lemmas.Slice.Eq.{bytes_eq-Decides}
use Rattle.std.specs.List.{list_any}
use Rattle.std.specs.Str.{bytes_eq}
use Rattle.deb_relation.specs.Applying.{Environment, applies, formula_applies, is_among, list_applies as list_holds}
use Rattle.deb_relation.specs.Meaning.{Alternative, Group}
use Rattle.deb_index.specs.Listed.{Listed}
use Rattle.deb_index.specs.Meeting.{meets}
use Rattle.deb_index.specs.Reports.{some_applies as some_apply}
use Rattle.deb_index.specs.declared.verdict.Verdict.{Verdict}
use Rattle.deb_index.specs.declared.verdict.Verdict.TheVariants.{Ignored, Met, Unmet}
use Rattle.deb_index.proofs.SomeMeets.{met_if}
use Rattle.deb_unmet.specs.GroupReadings.{IsMeaning, applies_in, is_group_reading, list_applies_in, some_applies, some_met, verdict_by}
use Rattle.deb_unmet.specs.Laws.{IsOther, IsUnmet, LinesAreSound, LinesSayReadings, QueryReadsNames}
use Rattle.deb_unmet.specs.Readings.{decided, is_open, is_reading, list_applies}
use Rattle.deb_unmet.specs.Troubles.{can_be_otherwise, can_be_unmet}
use Rattle.deb_unmet.specs.declared.applying.Applies.TheVariants.{Maybe, Never}
use Rattle.deb_unmet.specs.declared.trouble.Trouble.{Trouble}
use Rattle.deb_unmet.specs.declared.trouble.Trouble.TheVariants as troubles
use Rattle.deb_unmet.proofs.Readings.{other_reading, read_other, read_unmet, unmet_reading}

abbrev trouble_by : Bool → Bool → Option Trouble
trouble_by unmet other = cond unmet (cond other (Some troubles.Unsure) (Some troubles.Unmet)) None

none-parts : (unmet other : Bool) → trouble_by unmet other ≡ None → unmet ≡ false
none-parts true true h = absurd (cc)
none-parts true false h = absurd (cc)
none-parts false other h = refl

unmet-parts : (unmet other : Bool) → trouble_by unmet other ≡ Some troubles.Unmet → other ≡ false
unmet-parts true true h = absurd (cc)
unmet-parts true false h = refl
unmet-parts false other h = absurd (cc)

unsure-parts : (unmet other : Bool) → trouble_by unmet other ≡ Some troubles.Unsure → (unmet ≡ true) × (other ≡ true)
unsure-parts true true h = (refl, refl)
unsure-parts true false h = absurd (cc)
unsure-parts false other h = absurd (cc)

is-unmet : (v : Verdict) → (IsOther v → ⊥) → IsUnmet v
is-unmet Ignored h = absurd (h (λ e. cc))
is-unmet Met h = absurd (h (λ e. cc))
is-unmet Unmet h = refl

pub lines_say_readings : LinesSayReadings
lines_say_readings = record {
  none = λ environment packages group none reading is unmet.
      false≢true (sym (none-parts (can_be_unmet environment packages group) (can_be_otherwise environment packages group) none) ∙ read_unmet environment packages group (record { reading = reading; is = is; verdict = unmet }));
  unmet = λ environment packages group unmet reading is.
      is-unmet (verdict_by environment packages group reading)
      (λ other. false≢true (sym (unmet-parts (can_be_unmet environment packages group) (can_be_otherwise environment packages group) unmet) ∙ read_other environment packages group (record { reading = reading; is = is; verdict = other })));
  unsure = λ environment packages group unsure.
      let p = unsure-parts (can_be_unmet environment packages group) (can_be_otherwise environment packages group) unsure in
      (unmet_reading environment packages group p.0, other_reading environment packages group p.1);
}

module _ (target : List ℕ) (holds : List ℕ → Bool) (means : IsMeaning target holds) where
  or-false : (a b : Bool) → (a || b) ≡ false → (a ≡ false) × (b ≡ false)
  or-false true b h = absurd (false≢true (sym h))
  or-false false b h = (refl, h)

  any-own : (names : List (List ℕ)) → is_among target names ≡ true → list_any holds names ≡ true
  any-own [] h = absurd (false≢true h)
  any-own (name ∷ names) h = go (bytes_eq name target) refl h (any-own names)
    where
      last : (a b : Bool) → b ≡ true → (a || b) ≡ true
      last true b e = refl
      last false b e = e

      go : (b : Bool) → bytes_eq name target ≡ b → (b || is_among target names) ≡ true → (is_among target names ≡ true → list_any holds names ≡ true) → list_any holds (name ∷ names) ≡ true
      go true is some rest = rw (ap holds ((bytes_eq-Decides name target).0 is) ∙ means.own) refl
      go false is some rest = last (holds name) (list_any holds names) (rest some)

  any-none : (names : List (List ℕ)) → is_among target names ≡ false → list_any is_open names ≡ false → list_any holds names ≡ false
  any-none [] among wide = refl
  any-none (name ∷ names) among wide =
      let p = or-false (bytes_eq name target) (is_among target names) among in
      let q = or-false (is_open name) (list_any is_open names) wide in
      rw (means.closed name q.0 ∙ p.0, any-none names p.1 q.1) refl

  decided-not : (negated : Bool) → is_reading (decided (not negated)) (cond negated (not true) true) ≡ true
  decided-not true = refl
  decided-not false = refl

  decided-is : (negated : Bool) → is_reading (decided negated) (cond negated (not false) false) ≡ true
  decided-is true = refl
  decided-is false = refl

  list-reading : (list : Option (Bool × List (List ℕ))) → is_reading (list_applies list target) (list_applies_in holds list) ≡ true
  list-reading None = refl
  list-reading (Some list) = go (is_among target list.1) refl (list_any is_open list.1) refl
    where
      go : (among : Bool) → is_among target list.1 ≡ among → (wide : Bool) → list_any is_open list.1 ≡ wide → is_reading (cond among (decided (not list.0)) (cond wide Maybe (decided list.0))) (cond list.0 (not (list_any holds list.1)) (list_any holds list.1)) ≡ true
      go true among wide is = rw (any-own list.1 among) (decided-not list.0)
      go false among true is = refl
      go false among false is = rw (any-none list.1 among is) (decided-is list.0)

meaning-reading : (environment : Environment) (holds : List ℕ → Bool) → IsMeaning environment.target holds → (group : Group) → is_group_reading environment group (map (applies_in holds environment) group) ≡ true
meaning-reading environment holds means [] = refl
meaning-reading environment holds means (a ∷ group) = rw (one (formula_applies a.formula environment.profiles), meaning-reading environment holds means group) refl
  where
    one : (formula : Bool) → is_reading (cond formula (list_applies a.architectures environment.target) Never) (formula && list_applies_in holds a.architectures) ≡ true
    one true = list-reading environment.target holds means a.architectures
    one false = refl

pub lines_are_sound : LinesAreSound
lines_are_sound = record {
  none = λ environment packages group holds means none. lines_say_readings.none environment packages group none (map (applies_in holds environment) group) (meaning-reading environment holds means group);
  unmet = λ environment packages group holds means unmet. lines_say_readings.unmet environment packages group unmet (map (applies_in holds environment) group) (meaning-reading environment holds means group);
}

-- that of a query
abbrev own : Environment → List ℕ → Bool
own environment name = bytes_eq name environment.target

and-flip : (a b : Bool) → (a && b) ≡ (b && a)
and-flip true true = refl
and-flip true false = refl
and-flip false true = refl
and-flip false false = refl

same-list : (environment : Environment) (list : Option (Bool × List (List ℕ))) → list_holds list environment.target ≡ list_applies_in (own environment) list
same-list environment None = refl
same-list environment (Some list) = go list.0
  where
    go : (negated : Bool) → (if negated then not (is_among environment.target list.1) else is_among environment.target list.1) ≡ cond negated (not (list_any (own environment) list.1)) (list_any (own environment) list.1)
    go true = refl
    go false = refl

same-applies : (environment : Environment) (a : Alternative) → applies a environment ≡ applies_in (own environment) environment a
same-applies environment a =
    and-flip (list_holds a.architectures environment.target) (formula_applies a.formula environment.profiles)
    ∙ ap (λ b. formula_applies a.formula environment.profiles && b) (same-list environment a.architectures)

query-some : (environment : Environment) (group : Group) → some_apply environment group ≡ some_applies (map (applies_in (own environment) environment) group)
query-some environment [] = refl
query-some environment (a ∷ group) = rw (same-applies environment a, query-some environment group) refl

query-met : (environment : Environment) (packages : List Listed) (group : Group) → list_any (λ a. applies a environment && list_any (meets environment a) packages) group ≡ some_met environment packages group (map (applies_in (own environment) environment) group)
query-met environment packages [] = refl
query-met environment packages (a ∷ group) = rw (same-applies environment a, query-met environment packages group) refl

pub query_reads_names : QueryReadsNames
query_reads_names environment packages group =
    ap (λ found. cond (some_apply environment group) found Ignored) (met_if environment packages group ∙ ap (λ met. cond met Met Unmet) (query-met environment packages group))
    ∙ ap (λ some. cond some (cond (some_met environment packages group (map (applies_in (own environment) environment) group)) Met Unmet) Ignored) (query-some environment group)
