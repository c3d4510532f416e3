-- Laws of installable packages: the rows decide, a package that is installable in every reading is
-- in one, terms only restrict, a package with a line of `unmet` isn't, and what doesn't matter.
-- Debian Policy 3.8, 5.1 and 7.2 to 7.5; the canonical text is this project's own.
use Rattle.std.specs.Prelude.{◌≡◌, ℕ, ◌+◌, ◌≤◌, ltb, Bool, true, false, cond, List, [], ◌∷◌, ◌++◌, length, map, Option, Some, refl}
use Rattle.std.specs.List.{Contains, slice_get}
use Rattle.std.specs.List.Sorted.{IsPermutation}
use Rattle.deb_base.specs.declared.doc.Doc.TheVariants as docs
use Rattle.deb_relation.specs.Applying.{Environment}
use Rattle.deb_relation.specs.Meaning.{Group}
use Rattle.deb_field.specs.Values.{ValueMeaning}
use Rattle.deb_control.specs.Documents.{Meaning, Accepted, canonical_text}
use Rattle.deb_control.specs.FieldWords.{groups_of, value_under}
use Rattle.deb_control.specs.Pairs.{Pairwise}
use Rattle.deb_control.specs.ValueFiles.{ValueEntries}
use Rattle.deb_index.specs.Listed.{Listed}
use Rattle.deb_index.specs.Listing.{Lists, ListsAll}
use Rattle.deb_unmet.specs.Asked.{fields_with}
use Rattle.deb_unmet.specs.Fields.{environment_for}
use Rattle.deb_unmet.specs.Troubles.{can_be_otherwise, can_be_unmet}
use Rattle.deb_unmet.specs.declared.asked.Asked.TheVariants.{Packages}
use Rattle.deb_unmet.specs.declared.asked.Strength.{Strength}
use Rattle.deb_install.specs.Buildable.{HasBuildSet, IsBuildable, build_excludes, build_rows}
use Rattle.deb_install.specs.Installable.{IsInstallable, is_healthy_by_terms, is_healthy_in}
use Rattle.deb_install.specs.Members.{HasHealthySet, IsHealthyByRows}
use Rattle.deb_install.specs.NameMeanings.{AreMeanings, is_healthy_by}
use Rattle.deb_install.specs.Reasons.{AreTrueReasons, Reason, RuleOut}
use Rattle.deb_install.specs.Rows.{AreRowsOf}
use Rattle.deb_install.specs.SourceReasons.{AreTrueOfSources, RuleOutSource, SourceReason}
use Rattle.deb_install.specs.StoredRows.{AreStored, HaveSameNumbers}
use Rattle.deb_install.specs.Terms.{Terms, essential_names, healthy_alone, terms}
use Rattle.deb_install.specs.Universes.{Setting}
use Rattle.deb_install.specs.declared.readings.Readings.{Readings}
use Rattle.deb_install.specs.declared.readings.Readings.TheVariants.{Every, One}

-- What rows of numbers decide about the listed packages. A set with one of them is healthy and as
-- the terms ask exactly if it is healthy by rows, and a package is installable exactly if its
-- number is in such a set.
pub record AreDecidedBy (readings : Readings) (t : Terms) (environment : Environment)
    (packages : List Listed) (meaning : Meaning) (needs : ℕ → List (List ℕ))
    (excludes : ℕ → List ℕ) : Type 0 where
  pub healthy : (set : ℕ → Bool)
      → is_healthy_by_terms readings t environment packages meaning set ≡ true
      → IsHealthyByRows (length packages) needs excludes set
  pub is_healthy : (set : ℕ → Bool) (number : ℕ) → 1 ≤ number → number ≤ length packages
      → set number ≡ true → IsHealthyByRows (length packages) needs excludes set
      → is_healthy_by_terms readings t environment packages meaning set ≡ true
  pub installable : (number : ℕ)
      → IsInstallable readings t environment packages meaning number
      → HasHealthySet (length packages) needs excludes number
  pub is_installable : (number : ℕ) → HasHealthySet (length packages) needs excludes number
      → IsInstallable readings t environment packages meaning number

abbrev pub RowsDecide : Type 0
RowsDecide =
    (readings : Readings) (t : Terms) (environment : Environment)
    (packages : List Listed) (meaning : Meaning) (needs : ℕ → List (List ℕ))
    (excludes : ℕ → List ℕ) → Pairwise Lists meaning packages
    → AreRowsOf readings t environment packages meaning needs excludes
    → AreDecidedBy readings t environment packages meaning needs excludes

-- Rows decide as well if they are stored in any order, with exclusions in both directions.
abbrev pub StoredRowsDecide : Type 0
StoredRowsDecide =
    (readings : Readings) (t : Terms) (environment : Environment)
    (packages : List Listed) (meaning : Meaning) (needs : ℕ → List (List ℕ))
    (excludes : ℕ → List ℕ) → Pairwise Lists meaning packages
    → AreRowsOf readings t environment packages meaning needs excludes
    → (rows : ℕ → List (List ℕ)) (both : ℕ → List ℕ)
    → AreStored (length packages) needs excludes rows both
    → AreDecidedBy readings t environment packages meaning rows both

-- Over rows that decide who is installable, a source package can be built exactly if a set that is
-- healthy by them has a number of each of its rows, and none that it excludes.
pub record BuildRowsDecide : Type 0 where
  pub by_rows : (readings : Readings) (t : Terms) (environment : Environment)
      (packages : List Listed) (meaning : Meaning) (needs : ℕ → List (List ℕ))
      (excludes : ℕ → List ℕ)
      → AreDecidedBy readings t environment packages meaning needs excludes
      → (values : ValueEntries ValueMeaning) (rows : List (List ℕ)) (excluded : List ℕ)
      → Pairwise HaveSameNumbers rows (build_rows readings environment packages values)
      → HaveSameNumbers excluded (build_excludes readings environment packages values)
      → IsBuildable readings t environment packages meaning values
      → HasBuildSet (length packages) needs excludes rows excluded
  pub from_rows : (readings : Readings) (t : Terms) (environment : Environment)
      (packages : List Listed) (meaning : Meaning) (needs : ℕ → List (List ℕ))
      (excludes : ℕ → List ℕ)
      → AreDecidedBy readings t environment packages meaning needs excludes
      → (values : ValueEntries ValueMeaning) (rows : List (List ℕ)) (excluded : List ℕ)
      → Pairwise HaveSameNumbers rows (build_rows readings environment packages values)
      → HaveSameNumbers excluded (build_excludes readings environment packages values)
      → HasBuildSet (length packages) needs excludes rows excluded
      → IsBuildable readings t environment packages meaning values

-- A package that is installable in every reading is installable in one.
abbrev pub EveryReadingIsOne : Type 0
EveryReadingIsOne =
    (t : Terms) (environment : Environment) (packages : List Listed) (meaning : Meaning)
    (number : ℕ) → IsInstallable Every t environment packages meaning number
    → IsInstallable One t environment packages meaning number

-- A set that is healthy in every reading is healthy whatever the names in lists mean. A set that is
-- healthy by some meaning of the names is healthy in one reading.
pub record ReadingsAreSound : Type 0 where
  pub in_every : (holds : List ℕ → List ℕ → Bool) (strength : Strength) (environment : Environment)
      (packages : List Listed) (meaning : Meaning) → AreMeanings holds
      → is_healthy_in Every strength environment packages meaning ≡ true
      → is_healthy_by holds strength environment packages meaning ≡ true
  pub in_one : (holds : List ℕ → List ℕ → Bool) (strength : Strength) (environment : Environment)
      (packages : List Listed) (meaning : Meaning) → AreMeanings holds
      → is_healthy_by holds strength environment packages meaning ≡ true
      → is_healthy_in One strength environment packages meaning ≡ true

-- Whatever the terms ask, a package that is installable is so if nothing but health is asked. If
-- essential packages aren't asked, leaving out more names makes no other package installable.
pub record TermsOnlyRestrict : Type 0 where
  pub to_health : (readings : Readings) (t : Terms) (environment : Environment)
      (packages : List Listed) (meaning : Meaning) (number : ℕ)
      → IsInstallable readings t environment packages meaning number
      → IsInstallable readings (healthy_alone t.strength) environment packages meaning number
  pub to_fewer : (readings : Readings) (strength : Strength) (environment : Environment)
      (packages : List Listed) (meaning : Meaning) (number : ℕ) (without more : List (List ℕ))
      → IsInstallable readings (terms strength false (without ++ more)) environment packages meaning
      number
      → IsInstallable readings (terms strength false without) environment packages meaning number

-- The package after so many has a line of deb_unmet. The line is about a group that the package
-- needs, and that all listed packages together don't meet. It says `unsure` or `unmet`.
pub record HasUnmetLine (strength : Strength) (environment : Environment) (packages : List Listed)
    (meaning : Meaning) (k : ℕ) (is_unsure : Bool) : Type 0 where
  pub values : ValueEntries ValueMeaning
  pub is : slice_get meaning k ≡ Some values
  pub field : List ℕ
  pub asked : Contains (fields_with strength) field
  pub group : Group
  pub needed : Contains (groups_of (value_under field values)) group
  pub unmet : can_be_unmet (environment_for (Packages strength) environment values) packages group
      ≡ true
  pub otherwise : can_be_otherwise (environment_for (Packages strength) environment values)
      packages group ≡ is_unsure

-- A package with such a line isn't installable in every reading. One whose line says `unmet` isn't
-- installable in one.
pub record UnmetIsNotInstallable : Type 0 where
  pub in_every : (t : Terms) (environment : Environment) (packages : List Listed)
      (meaning : Meaning) (k : ℕ) (is_unsure : Bool)
      → HasUnmetLine t.strength environment packages meaning k is_unsure
      → IsInstallable Every t environment packages meaning (k + 1) → ⊥
  pub in_one : (t : Terms) (environment : Environment) (packages : List Listed)
      (meaning : Meaning) (k : ℕ) → HasUnmetLine t.strength environment packages meaning k false
      → IsInstallable One t environment packages meaning (k + 1) → ⊥

-- A package that true reasons rule out isn't installable, in these readings.
abbrev pub ReasonsRuleOut : Type 0
ReasonsRuleOut =
    (s : Setting) (reasons : List Reason) (number : ℕ) → Pairwise Lists s.values s.packages
    → AreTrueReasons s reasons → RuleOut (length s.packages) reasons number
    → IsInstallable s.readings s.terms s.environment s.packages s.values number → ⊥

-- A source package that true reasons rule out can't be built, in these readings.
abbrev pub SourceReasonsRuleOut : Type 0
SourceReasonsRuleOut =
    (s : Setting) (sources : Meaning) (reasons : List SourceReason) (k : ℕ)
    (values : ValueEntries ValueMeaning) → Pairwise Lists s.values s.packages
    → slice_get sources k ≡ Some values → AreTrueOfSources s sources reasons
    → RuleOutSource (length s.packages) reasons (k + 1)
    → IsBuildable s.readings s.terms s.environment s.packages s.values values → ⊥

-- the number of a package once another one is added after so many
abbrev pub moved : ℕ → ℕ → ℕ
moved before number = cond (ltb before number) (number + 1) number

-- Each package that was installable still is, whatever package is added at any place, unless that
-- one is essential and essential packages are asked.
abbrev pub AddingKeepsInstallable : Type 0
AddingKeepsInstallable =
    (readings : Readings) (t : Terms) (environment : Environment)
    (before after : List Listed) (earlier later : Meaning) (p : Listed)
    (values : ValueEntries ValueMeaning) (number : ℕ) → length earlier ≡ length before
    → essential_names t environment.native (values ∷ []) ≡ []
    → IsInstallable readings t environment (before ++ after) (earlier ++ later) number
    → IsInstallable readings t environment (before ++ p ∷ after)
    (earlier ++ values ∷ later) (moved (length before) number)

-- A package with its values is at some index of a list too, and is installable there.
pub record IsInstallableIn (readings : Readings) (t : Terms) (environment : Environment)
    (pairs : List (ValueEntries ValueMeaning × Listed))
    (pair : Option (ValueEntries ValueMeaning × Listed)) : Type 0 where
  pub index : ℕ
  pub same : slice_get pairs index ≡ pair
  pub installable : IsInstallable readings t environment (map (λ x. x.1) pairs)
      (map (λ x. x.0) pairs) (index + 1)

-- An installable package stays installable in another order of the packages, under the number that
-- it has there. Each pair has the values of a paragraph and the package that it lists.
abbrev pub RearrangingKeepsInstallable : Type 0
RearrangingKeepsInstallable =
    (readings : Readings) (t : Terms) (environment : Environment)
    (pairs others : List (ValueEntries ValueMeaning × Listed)) (k : ℕ)
    → IsPermutation pairs others
    → IsInstallable readings t environment (map (λ x. x.1) pairs) (map (λ x. x.0) pairs)
    (k + 1)
    → IsInstallableIn readings t environment others (slice_get pairs k)

-- Nothing changes if an index is replaced by its canonical text.
abbrev pub CanonicalTextChangesNothing : Type 0
CanonicalTextChangesNothing =
    (text : List ℕ) (meaning other : Meaning) (packages others : List Listed)
    → Accepted docs.Packages text meaning → ListsAll text packages
    → Accepted docs.Packages (canonical_text meaning) other
    → ListsAll (canonical_text meaning) others
    → (readings : Readings) (t : Terms) (environment : Environment) (number : ℕ)
    → (IsInstallable readings t environment packages meaning number
    → IsInstallable readings t environment others other number)
    × (IsInstallable readings t environment others other number
    → IsInstallable readings t environment packages meaning number)

-- the second of three, before and after one is added: first, after one, after two and last
worked-moved : map (λ before. moved before 2) (0 ∷ 1 ∷ 2 ∷ 3 ∷ []) ≡ 3 ∷ 3 ∷ 2 ∷ 2 ∷ []
worked-moved = refl
