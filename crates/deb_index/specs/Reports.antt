-- The report on a relation over a list of packages: for each group whether it is met, and by which
-- packages. Debian Policy 7.1; that a group of which nothing applies is ignored is this project's
-- own, after dpkg.
use Rattle.std.specs.Prelude.{◌≡◌, ℕ, ◌+◌, ◌-◌, ◌&&◌, Bool, true, false, cond, not, List, [], ◌∷◌, map, Option, Some, None, codes, refl}
use Rattle.std.specs.List.{list_all, list_any, slice_get}
use Rattle.std.specs.Option.{option_map_or}
use Rattle.deb_relation.specs.Environments.{environment_with}
use Rattle.deb_relation.specs.Applying.{Environment, applies}
use Rattle.deb_relation.specs.Meaning.{Group, Relation}
use Rattle.deb_relation.specs.Texts.{group_text}
use Rattle.deb_field.specs.declared.flag.MultiArch.{MultiArch}
use Rattle.deb_field.specs.declared.flag.MultiArch.TheVariants.{Allowed}
use Rattle.deb_index.specs.Alternatives.{alone, with_qualifier, with_list, with_formula}
use Rattle.deb_index.specs.Listed.{Provision, Listed}
use Rattle.deb_index.specs.Meeting.{meets}
use Rattle.deb_version.specs.Places.{version_in}
use Rattle.deb_index.specs.declared.verdict.Verdict.{Verdict}
use Rattle.deb_index.specs.declared.verdict.Verdict.TheVariants.{Ignored, Met, Unmet}

-- a listed package and its number in the list, which is counted from 1
abbrev pub Numbered : Type 0
Numbered = ℕ × Listed

-- Some alternative of the group applies.
abbrev pub some_applies : Environment → Group → Bool
some_applies environment group = list_any (λ a. applies a environment) group

-- A package meets a group by an alternative that applies.
abbrev pub meets_group : Environment → Group → Listed → Bool
meets_group environment group p =
    list_any (λ a. applies a environment && meets environment a p) group

-- the packages that pass a test, with their numbers, where the first one has this number
abbrev pub passing_from : ℕ → (Listed → Bool) → List Listed → List Numbered
passing_from n test [] = []
passing_from n test (p ∷ packages) =
    cond (test p) ((n, p) ∷ passing_from (n + 1) test packages) (passing_from (n + 1) test packages)

-- the package of a number, with the number
abbrev pub picked : List Listed → ℕ → List Numbered
picked packages k = option_map_or (λ p. (k, p) ∷ []) (slice_get packages (k - 1)) []

-- A group is ignored if none of its alternatives applies, met if some package meets it, else unmet.
abbrev pub met_unless_none : List Numbered → Verdict
met_unless_none [] = Unmet
met_unless_none (p ∷ found) = Met

abbrev pub verdict_of : Bool → List Numbered → Verdict
verdict_of applies found = cond applies (met_unless_none found) Ignored

-- the answer for a group: its canonical text, whether it is met, and the packages that meet it, in
-- ascending order of their numbers
pub record Answer : Type 0 where
  pub text : List ℕ
  pub verdict : Verdict
  pub packages : List Numbered

abbrev pub answer_with : Environment → Group → List Numbered → Answer
answer_with environment group found =
    record {
      text = group_text group;
      verdict = verdict_of (some_applies environment group) found;
      packages = found;
    }

abbrev pub answer : Environment → List Listed → Group → Answer
answer environment packages group =
    answer_with environment group (passing_from 1 (meets_group environment group) packages)

-- the verdict on a group alone
abbrev pub group_verdict : Environment → List Listed → Group → Verdict
group_verdict environment packages group = (answer environment packages group).verdict

-- the report on a relation: the answers for its groups, in the order of their canonical texts
abbrev pub report : List Listed → Relation → Environment → List Answer
report packages relation environment = map (answer environment packages) relation

-- no group is unmet
abbrev pub is_unmet : Verdict → Bool
is_unmet Ignored = false
is_unmet Met = false
is_unmet Unmet = true

abbrev pub all_met : List Answer → Bool
all_met answers = list_all (λ answer. not (is_unmet answer.verdict)) answers

-- For the target amd64 with the profile nocheck: a list of aa for amd64; of bb for all, which
-- provides vv; and of aa for i386 with Multi-Arch `allowed`.
abbrev environment : Environment
environment = environment_with (codes "amd64") (codes "nocheck" ∷ [])

abbrev listed : List ℕ → List ℕ → Option MultiArch → List Provision → Listed
listed name architecture multi_arch provisions =
    record {
      name = name;
      version = version_in (codes "1");
      architecture = architecture;
      multi_arch = multi_arch;
      provisions = provisions;
    }

abbrev packages : List Listed
packages =
    listed (codes "aa") (codes "amd64") None []
    ∷ listed (codes "bb") (codes "all") None (record { name = codes "vv"; version = None } ∷ [])
    ∷ listed (codes "aa") (codes "i386") (Some Allowed) []
    ∷ []

-- the verdict on a group, and the numbers of the packages that meet it
abbrev numbers_of : List Numbered → List ℕ
numbers_of found = map (λ p. p.0) found

abbrev reported : Group → Verdict × List ℕ
reported group = (
  (answer environment packages group).verdict,
  numbers_of (answer environment packages group).packages,
)

-- one package, two of them in ascending order, and one by two alternatives
worked-met : map reported
    ((alone (codes "aa") ∷ []) ∷ (alone (codes "vv") ∷ alone (codes "aa") ∷ [])
    ∷ (alone (codes "bb") ∷ alone (codes "vv") ∷ [])
    ∷ (with_qualifier (codes "aa") (codes "any") ∷ []) ∷ [])
    ≡ (Met, 1 ∷ []) ∷ (Met, 1 ∷ 2 ∷ []) ∷ (Met, 2 ∷ []) ∷ (Met, 3 ∷ []) ∷ []
worked-met = refl

-- the second and the third package, and none beyond the last
worked-picked : (map (λ k. numbers_of (picked packages k)) (2 ∷ 3 ∷ 4 ∷ [])
    ≡ (2 ∷ []) ∷ (3 ∷ []) ∷ [] ∷ [])
    × (map (λ k. map (λ p. p.1.name) (picked packages k)) (2 ∷ 3 ∷ 4 ∷ [])
    ≡ (codes "bb" ∷ []) ∷ (codes "aa" ∷ []) ∷ [] ∷ [])
worked-picked = (refl, refl)

-- no package, also where one would meet an alternative that doesn't apply
worked-unmet : map reported
    ((alone (codes "dd") ∷ [])
    ∷ (with_list (codes "aa") true (codes "amd64") ∷ alone (codes "dd") ∷ []) ∷ [])
    ≡ (Unmet, []) ∷ (Unmet, []) ∷ []
worked-unmet = refl

-- nothing applies: by the list, by the formula, and by both
worked-ignored : map reported
    ((with_list (codes "aa") true (codes "amd64") ∷ [])
    ∷ (with_formula (codes "aa") (codes "nodoc") ∷ [])
    ∷ (with_list (codes "aa") false (codes "i386")
    ∷ with_formula (codes "dd") (codes "nodoc") ∷ []) ∷ [])
    ≡ (Ignored, []) ∷ (Ignored, []) ∷ (Ignored, []) ∷ []
worked-ignored = refl

worked-verdicts : map (group_verdict environment packages)
    ((alone (codes "aa") ∷ []) ∷ (alone (codes "dd") ∷ [])
    ∷ (with_list (codes "aa") true (codes "amd64") ∷ []) ∷ [])
    ≡ Met ∷ Unmet ∷ Ignored ∷ []
worked-verdicts = refl

-- what is ignored is no obstacle, what is unmet is one, and no group is none
worked-all_met : map (λ relation. all_met (report packages relation environment))
    (((with_list (codes "aa") true (codes "amd64") ∷ []) ∷ (alone (codes "aa") ∷ []) ∷ [])
    ∷ ((alone (codes "aa") ∷ []) ∷ (alone (codes "dd") ∷ []) ∷ [])
    ∷ [] ∷ [])
    ≡ true ∷ false ∷ true ∷ []
worked-all_met = refl

-- over no packages
worked-no_packages : (all_met (report [] ((alone (codes "aa") ∷ []) ∷ []) environment) ≡ false)
    × (all_met (report [] ((with_list (codes "aa") true (codes "amd64") ∷ []) ∷ []) environment)
    ≡ true)
worked-no_packages = (refl, refl)

-- a report has the whole canonical text of each group
worked-text : (answer environment packages (alone (codes "dd") ∷ alone (codes "aa") ∷ [])).text
    ≡ codes "dd | aa"
unfolding group_text
worked-text = refl
