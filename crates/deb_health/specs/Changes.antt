-- Laws of a set that changes. In another order it has the same lines, but for their order and their
-- numbers. A package that excludes none and is excluded by none removes lines of unmet groups at
-- most, if it is added. Debian Policy 7.2 to 7.5.
use Rattle.std.specs.Prelude.{◌≡◌, ℕ, ◌&&◌, Bool, true, false, not, List, [], ◌∷◌, ◌++◌, map, None, Some, codes, refl}
use Rattle.std.specs.List.{filter, list_all, list_any}
use Rattle.std.specs.List.Sorted.{IsPermutation}
use Rattle.deb_relation.specs.Applying.{Environment}
use Rattle.deb_relation.specs.Environments.{environment_with}
use Rattle.deb_relation.specs.Meaning.{Alternative, Group}
use Rattle.deb_field.specs.Values.{ValueMeaning, NameMeans, RelationMeans}
use Rattle.deb_control.specs.Documents.{Meaning}
use Rattle.deb_control.specs.FieldWords.{word_under}
use Rattle.deb_control.specs.ValueFiles.{ValueEntries}
use Rattle.deb_index.specs.Alternatives.{alone}
use Rattle.deb_index.specs.Listed.{Listed}
use Rattle.deb_index.specs.Named.{numbers_of, package_at}
use Rattle.deb_unmet.specs.Fields.{paragraph_lines}
use Rattle.deb_unmet.specs.Scopes.{plain}
use Rattle.deb_unmet.specs.Troubles.{can_be_otherwise, trouble}
use Rattle.deb_unmet.specs.declared.asked.Asked.TheVariants.{Packages}
use Rattle.deb_unmet.specs.declared.asked.Strength.{Strength}
use Rattle.deb_unmet.specs.declared.asked.Strength.TheVariants.{Depends}
use Rattle.deb_health.specs.Excluding.{excludes}
use Rattle.deb_health.specs.Health.{are_apart, is_abundant, is_healthy, is_peaceful}
use Rattle.deb_health.specs.Lines.{listed}
use Rattle.deb_health.specs.Together.{rules_out}

-- Two lists of packages give the same reasons for lines. Over both, a group has the same trouble,
-- and a package with the same number has the same lines about its groups. An alternative excludes
-- the same packages, in some order, and a package rules out the same ones. One set is healthy
-- exactly if the other is, with its paragraphs in any order.
pub record HaveSameReasons (packages others : List Listed) : Type 0 where
  pub same_troubles : (environment : Environment) (group : Group)
      → trouble environment others group ≡ trouble environment packages group
  pub same_unmet_lines : (strength : Strength) (environment : Environment) (number : ℕ)
      (version : List ℕ) (values : ValueEntries ValueMeaning)
      → paragraph_lines (Packages strength) environment (plain others) number version values
      ≡ paragraph_lines (Packages strength) environment (plain packages) number version values
  pub excludes_the_same : (target name : List ℕ) (a : Alternative)
      → IsPermutation (filter (excludes target name a) packages)
      (filter (excludes target name a) others)
  pub rules_out_the_same : (target : List ℕ) (p : Listed)
      → IsPermutation (filter (rules_out target p) packages) (filter (rules_out target p) others)
  pub healthy_alike : (strength : Strength) (environment : Environment) (meaning other : Meaning)
      → IsPermutation meaning other
      → is_healthy strength environment others other
      ≡ is_healthy strength environment packages meaning

-- A list of packages in another order gives the same reasons. The numbers of a test, which lines
-- contain, name the packages that pass it. A package rules out another exactly if that one rules it
-- out, and the first of the two has the line.
pub record RearrangingChangesNoReason : Type 0 where
  pub same_reasons : (packages others : List Listed) → IsPermutation packages others
      → HaveSameReasons packages others
  pub numbers_name_passing : (test : Listed → Bool) (packages : List Listed)
      → map (λ number. package_at number packages) (numbers_of test packages)
      ≡ map (λ p. Some p) (filter test packages)
  pub rules_out_both_ways : (target : List ℕ) (p q : Listed)
      → rules_out target p q ≡ rules_out target q p

-- A package with these values fits a set: its needs are met, it excludes none of the set and none
-- excludes it, and it can be installed together with each of its name.
abbrev pub fits : Strength → Environment → List Listed → Meaning → Listed
    → ValueEntries ValueMeaning → Bool
fits strength environment packages meaning p values =
    (is_abundant strength environment (p ∷ packages) values
    && is_peaceful strength environment packages values)
    && (list_all (is_peaceful strength environment (p ∷ [])) meaning
    && not (list_any (rules_out environment.native p) packages))

-- What changes for a set if a package is added at any place. A group without a line still has none.
-- One that can be met or ignored still can: a line that says `unsure` stays or goes, and one that
-- says `unmet` may also say `unsure` from then on. An alternative that doesn't exclude the added
-- package excludes the same ones as before, and a package that doesn't rule it out rules out the
-- same ones. A healthy set stays healthy exactly if the added package fits.
pub record AddsNoReason (before after : List Listed) (p : Listed) : Type 0 where
  pub no_line_stays_none : (environment : Environment) (group : Group)
      → trouble environment (before ++ after) group ≡ None
      → trouble environment (before ++ p ∷ after) group ≡ None
  pub otherwise_stays : (environment : Environment) (group : Group)
      → can_be_otherwise environment (before ++ after) group ≡ true
      → can_be_otherwise environment (before ++ p ∷ after) group ≡ true
  pub excludes_the_same : (target name : List ℕ) (a : Alternative)
      → excludes target name a p ≡ false
      → filter (excludes target name a) (before ++ p ∷ after)
      ≡ filter (excludes target name a) (before ++ after)
  pub rules_out_the_same : (target : List ℕ) (q : Listed) → rules_out target q p ≡ false
      → filter (rules_out target q) (before ++ p ∷ after)
      ≡ filter (rules_out target q) (before ++ after)
  pub apart_alike : (target : List ℕ) → list_any (rules_out target p) (before ++ after) ≡ false
      → are_apart target (before ++ p ∷ after) ≡ are_apart target (before ++ after)
  pub healthy_if_fits : (strength : Strength) (environment : Environment) (earlier later : Meaning)
      (values : ValueEntries ValueMeaning) → word_under (codes "Package") values ≡ p.name
      → is_healthy strength environment (before ++ after) (earlier ++ later) ≡ true
      → is_healthy strength environment (before ++ p ∷ after) (earlier ++ values ∷ later)
      ≡ fits strength environment (before ++ after) (earlier ++ later) p values

abbrev pub AddingRemovesUnmetAtMost : Type 0
AddingRemovesUnmetAtMost = (before after : List Listed) (p : Listed) → AddsNoReason before after p

-- a package of this name for amd64, and its values, with ee in a field
abbrev of : List ℕ → Listed
of name = listed name (codes "1") (codes "amd64")

abbrev with_ee : List ℕ → List ℕ → ValueEntries ValueMeaning
with_ee name field =
    (field, RelationMeans ((alone (codes "ee") ∷ []) ∷ []))
    ∷ (codes "Package", NameMeans name) ∷ []

abbrev fits_amd64 : List Listed → Meaning → List ℕ → List ℕ → Bool
fits_amd64 packages meaning name field =
    fits Depends (environment_with (codes "amd64") []) packages meaning (of name)
    (with_ee name field)

-- dd with ee and alone, where it needs ee, excludes it, or neither
worked-dd : map (fits_amd64 (of (codes "ee") ∷ []) [] (codes "dd"))
    (codes "Depends" ∷ codes "Conflicts" ∷ codes "Suggests" ∷ []) ≡ true ∷ false ∷ true ∷ []
worked-dd = refl

worked-alone : map (fits_amd64 [] [] (codes "dd"))
    (codes "Depends" ∷ codes "Conflicts" ∷ codes "Suggests" ∷ []) ≡ false ∷ true ∷ true ∷ []
worked-alone = refl

-- ee meets its own need, and doesn't exclude itself
worked-ee : map (fits_amd64 [] [] (codes "ee")) (codes "Depends" ∷ codes "Conflicts" ∷ [])
    ≡ true ∷ true ∷ []
worked-ee = refl

-- with dd, which excludes ee, and with another ee
worked-others : map (λ name. fits_amd64 (of name ∷ []) (with_ee name (codes "Breaks") ∷ [])
    (codes "ee") (codes "Depends")) (codes "dd" ∷ codes "ee" ∷ []) ≡ false ∷ false ∷ []
worked-others = refl
