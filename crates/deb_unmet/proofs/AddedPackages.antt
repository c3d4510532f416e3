-- Over more packages a group has no more lines.
use Rattle.std.proofs.Common.{◌≡◌, Bool, true, false, cond, not, ◌&&◌, ◌||◌, List, [], ◌∷◌, ◌++◌, Option, None, Some, refl, sym}
use Rattle.std.proofs.lemmas.Bool.{false≢true}
use Rattle.std.specs.List.{list_any}
use Rattle.deb_relation.specs.Applying.{Environment}
use Rattle.deb_relation.specs.Meaning.{Alternative, Group}
use Rattle.deb_index.specs.Listed.{Listed}
use Rattle.deb_index.specs.Meeting.{meets}
use Rattle.deb_unmet.specs.Laws.{AddedPackagesAddNoLine, LinesWithOld, NoLineFromCleanOld}
use Rattle.deb_unmet.specs.Readings.{applies_by, may, surely}
use Rattle.deb_unmet.specs.Troubles.{can_be_otherwise, can_be_unmet, is_met, trouble, was_met}
use Rattle.deb_unmet.specs.declared.trouble.Trouble.{Trouble}
use Rattle.deb_unmet.specs.declared.trouble.Trouble.TheVariants.{Unmet, Unsure}
use Rattle.deb_unmet.proofs.Meanings.{lines_say_readings}
use Rattle.deb_unmet.proofs.Readings.{readings_decide}

-- if the first holds, so does the second
abbrev Grows : Bool → Bool → Type 0
Grows a b = a ≡ true → b ≡ true

or-left : (a b : Bool) → a ≡ true → (a || b) ≡ true
or-left true b e = refl
or-left false b e = absurd (false≢true e)

or-right : (a b : Bool) → b ≡ true → (a || b) ≡ true
or-right true b e = refl
or-right false b e = e

any-after : {X : Type 0} (test : X → Bool) (xs more : List X) → Grows (list_any test xs) (list_any test (xs ++ more))
any-after test [] more e = absurd (false≢true e)
any-after test (x ∷ xs) more e = go (test x) e (any-after test xs more)
  where
    go : (t : Bool) → (t || list_any test xs) ≡ true → Grows (list_any test xs) (list_any test (xs ++ more)) → (t || list_any test (xs ++ more)) ≡ true
    go true h rest = refl
    go false h rest = rest h

any-before : {X : Type 0} (test : X → Bool) (more xs : List X) → Grows (list_any test xs) (list_any test (more ++ xs))
any-before test [] xs e = e
any-before test (y ∷ more) xs e = or-right (test y) (list_any test (more ++ xs)) (any-before test more xs e)

any-grows : {X : Type 0} (first second : X → Bool) → ((x : X) → Grows (first x) (second x)) → (xs : List X) → Grows (list_any first xs) (list_any second xs)
any-grows first second grows [] e = e
any-grows first second grows (x ∷ xs) e = go (first x) refl e (any-grows first second grows xs)
  where
    go : (t : Bool) → first x ≡ t → (t || list_any first xs) ≡ true → Grows (list_any first xs) (list_any second xs) → (second x || list_any second xs) ≡ true
    go true is h rest = or-left (second x) (list_any second xs) (grows x is)
    go false is h rest = or-right (second x) (list_any second xs) (rest h)

and-grows : (a b c : Bool) → Grows b c → Grows (a && b) (a && c)
and-grows true b c grows e = grows e
and-grows false b c grows e = e

both-grow : (a b c d : Bool) → Grows a b → Grows c d → Grows (a && c) (b && d)
both-grow true true c d first second e = second e
both-grow true false c d first second e = absurd (false≢true (first refl))
both-grow false b c d first second e = absurd (false≢true e)

not-grows : (a b : Bool) → Grows a b → Grows (not b) (not a)
not-grows true true grows e = e
not-grows true false grows e = absurd (false≢true (grows refl))
not-grows false b grows e = refl

module _ (environment : Environment) (packages more : List Listed) (grows : (a : Alternative) → Grows (is_met environment packages a) (is_met environment more a)) where
  abbrev sure_met : List Listed → Alternative → Bool
  sure_met ps a = surely (applies_by environment a) && is_met environment ps a

  abbrev some_unmet : List Listed → Alternative → Bool
  some_unmet ps a = may (applies_by environment a) && not (is_met environment ps a)

  unmet-less : (group : Group) → Grows (can_be_unmet environment more group) (can_be_unmet environment packages group)
  unmet-less group =
      both-grow (not (list_any (sure_met more) group)) (not (list_any (sure_met packages) group)) (list_any (some_unmet more) group) (list_any (some_unmet packages) group)
      (not-grows (list_any (sure_met packages) group) (list_any (sure_met more) group) (any-grows (sure_met packages) (sure_met more) (λ a. and-grows (surely (applies_by environment a)) (is_met environment packages a) (is_met environment more a) (grows a)) group))
      (any-grows (some_unmet more) (some_unmet packages) (λ a. and-grows (may (applies_by environment a)) (not (is_met environment more a)) (not (is_met environment packages a)) (not-grows (is_met environment packages a) (is_met environment more a) (grows a))) group)

abbrev choice : Bool → Bool → Option Trouble
choice unmet other = cond unmet (cond other (Some Unsure) (Some Unmet)) None

abbrev if_met : Bool → Option Trouble → Option Trouble
if_met met why = cond met why None

still-none : (met unmet other less others : Bool) → Grows less unmet → if_met met (choice unmet other) ≡ None → if_met met (choice less others) ≡ None
still-none false unmet other less others grows none = refl
still-none true true true less others grows none = absurd (cc)
still-none true true false less others grows none = absurd (cc)
still-none true false other true others grows none = absurd (false≢true (grows refl))
still-none true false other false others grows none = refl

pub added_packages_add_no_line : AddedPackagesAddNoLine
added_packages_add_no_line scope before after environment group none =
    let more = before ++ (scope.packages ++ after) in
    still-none (was_met scope.unless environment group) (can_be_unmet environment scope.packages group) (can_be_otherwise environment scope.packages group) (can_be_unmet environment more group) (can_be_otherwise environment more group)
    (unmet-less environment scope.packages more (λ a e. any-before (meets environment a) before (scope.packages ++ after) (any-after (meets environment a) scope.packages after e)) group) none

-- a reason with an old index, by its parts
abbrev HasParts : Bool → Bool → Type 0
HasParts old unmet = (old ≡ false) × (unmet ≡ true)

parts : (old unmet other : Bool) (why : Trouble) → if_met (not old) (choice unmet other) ≡ Some why → HasParts old unmet
parts true unmet other why is = absurd (cc)
parts false true other why is = (refl, refl)
parts false false other why is = absurd (cc)

never-none : (old unmet other : Bool) → old ≡ false → unmet ≡ true → if_met (not old) (choice unmet other) ≡ None → ⊥
never-none true unmet other first second none = false≢true (sym first)
never-none false true true first second none = cc
never-none false true false first second none = cc
never-none false false other first second none = false≢true second

same-choice : (old : Bool) (why : Option Trouble) (is : Trouble) → if_met (not old) why ≡ Some is → why ≡ Some is
same-choice true why is e = absurd (cc)
same-choice false why is e = e

not-unmet : (unmet other : Bool) → choice unmet other ≡ None → unmet ≡ false
not-unmet true true none = absurd (cc)
not-unmet true false none = absurd (cc)
not-unmet false other none = refl

clean : (old : Bool) (why : Option Trouble) → old ≡ false → if_met (not old) why ≡ None → why ≡ None
clean true why is none = absurd (false≢true (sym is))
clean false why is none = none

none-of : (unmet other : Bool) → unmet ≡ false → choice unmet other ≡ None
none-of true other e = absurd (false≢true (sym e))
none-of false other e = refl

is-false : (b : Bool) → (b ≡ true → ⊥) → b ≡ false
is-false true never = absurd (never refl)
is-false false never = refl

pub lines_with_old : LinesWithOld
lines_with_old = record {
  readings = λ scope old environment group why is.
      let p = parts (can_be_unmet environment old group) (can_be_unmet environment scope.packages group) (can_be_otherwise environment scope.packages group) why is in
      (readings_decide.unmet environment scope.packages group p.1, lines_say_readings.none environment old group (none-of (can_be_unmet environment old group) (can_be_otherwise environment old group) p.0));
  line = λ scope old environment group some each none.
      let was = is-false (can_be_unmet environment old group) (λ e. let r = readings_decide.unmet environment old group e in each r.reading r.is r.verdict) in
      never-none (can_be_unmet environment old group) (can_be_unmet environment scope.packages group) (can_be_otherwise environment scope.packages group) was (readings_decide.is_unmet environment scope.packages group some) none;
  same = λ scope old environment group why is. same-choice (can_be_unmet environment old group) (trouble environment scope.packages group) why is;
}

pub no_line_from_clean_old : NoLineFromCleanOld
no_line_from_clean_old scope old environment group none with_it =
    clean (can_be_unmet environment old group) (trouble environment scope.packages group) (not-unmet (can_be_unmet environment old group) (can_be_otherwise environment old group) none) with_it
