-- The rows of numbers by which a healthy set is found: the packages that meet what a package needs,
-- and those that can't be in a set with it. Debian Policy 7.1 to 7.5.
use Rattle.std.specs.Prelude.{◌≡◌, ℕ, ◌+◌, Bool, true, false, cond, ltb, List, [], ◌∷◌, ◌++◌, map, Some, codes, refl}
use Rattle.std.specs.List.{filter, flat_map, list_any, slice_get}
use Rattle.std.specs.Option.{option_map_or}
use Rattle.deb_relation.specs.Applying.{Environment}
use Rattle.deb_relation.specs.Meaning.{Alternative, Group}
use Rattle.deb_field.specs.Values.{ValueMeaning, NameMeans, ArchitectureMeans, FlagMeans, RelationMeans}
use Rattle.deb_field.specs.declared.flag.Flag.TheVariants.{Yes}
use Rattle.deb_control.specs.Documents.{Meaning}
use Rattle.deb_control.specs.FieldWords.{groups_of, value_under, word_under}
use Rattle.deb_control.specs.ValueFiles.{ValueEntries}
use Rattle.deb_index.specs.Alternatives.{alone, with_list}
use Rattle.deb_index.specs.Listed.{Listed}
use Rattle.deb_index.specs.Meeting.{meets}
use Rattle.deb_index.specs.Named.{numbers_of, package_at}
use Rattle.deb_unmet.specs.Asked.{fields_with}
use Rattle.deb_unmet.specs.Fields.{environment_for}
use Rattle.deb_unmet.specs.Readings.{applies_by, may, surely}
use Rattle.deb_unmet.specs.declared.asked.Asked.TheVariants.{Packages}
use Rattle.deb_unmet.specs.declared.asked.Strength.{Strength}
use Rattle.deb_unmet.specs.declared.asked.Strength.TheVariants.{Depends, Recommends}
use Rattle.deb_health.specs.Excluding.{excludes}
use Rattle.deb_health.specs.Lines.{listed, negative_fields}
use Rattle.deb_health.specs.Together.{rules_out}
use Rattle.deb_install.specs.Passing.{counts, for_amd64}
use Rattle.deb_install.specs.Terms.{Terms, healthy_alone, term_rows, terms}
use Rattle.deb_install.specs.declared.readings.Readings.{Readings}
use Rattle.deb_install.specs.declared.readings.Readings.TheVariants.{Every, One}

-- the numbers of the packages that meet an alternative, whether or not it applies
abbrev pub candidates : Environment → List Listed → Alternative → List ℕ
candidates environment packages a = numbers_of (meets environment a) packages

-- the alternatives that surely apply, and those that may
abbrev pub surely_applying : Environment → Group → Group
surely_applying environment group = filter (λ a. surely (applies_by environment a)) group

abbrev pub may_be_applying : Environment → Group → Group
may_be_applying environment group = filter (λ a. may (applies_by environment a)) group

abbrev pub some_surely_applies : Environment → Group → Bool
some_surely_applies environment group = list_any (λ a. surely (applies_by environment a)) group

-- A set has to contain a number of each row of a group. In every reading, a package has to meet an
-- alternative that surely applies, if there is one. Else a package has to meet each alternative
-- that may apply, since that one may be the only one. In one reading, a package has to meet an
-- alternative that may apply, if there is one that surely applies. Else the group may be ignored.
abbrev pub group_rows : Readings → Environment → List Listed → Group → List (List ℕ)
group_rows Every environment packages group =
    cond (some_surely_applies environment group)
    (flat_map (candidates environment packages) (surely_applying environment group) ∷ [])
    (map (candidates environment packages) (may_be_applying environment group))
group_rows One environment packages group =
    cond (some_surely_applies environment group)
    (flat_map (candidates environment packages) (may_be_applying environment group) ∷ [])
    []

-- the rows of the groups in these fields
abbrev pub rows_of_fields : Readings → Environment → List Listed → ValueEntries ValueMeaning
    → List (List ℕ) → List (List ℕ)
rows_of_fields readings environment packages values fields =
    flat_map (λ field. flat_map (group_rows readings environment packages)
    (groups_of (value_under field values))) fields

-- the rows of the groups that a package needs
abbrev pub needed_rows : Readings → Strength → Environment → List Listed
    → ValueEntries ValueMeaning → List (List ℕ)
needed_rows readings strength environment packages values =
    rows_of_fields readings (environment_for (Packages strength) environment values) packages
    values (fields_with strength)

-- the numbers of the packages that an alternative excludes, if it counts
abbrev pub excluded_by : Readings → Environment → List ℕ → List ℕ → List Listed
    → Alternative → List ℕ
excluded_by readings environment target name packages a =
    cond (counts readings (applies_by environment a))
    (numbers_of (excludes target name a) packages) []

-- the numbers of those that the alternatives in these fields exclude, of a package with this name
abbrev pub excluded_by_fields : Readings → Environment → List ℕ → List ℕ → List Listed
    → ValueEntries ValueMeaning → List (List ℕ) → List ℕ
excluded_by_fields readings environment target name packages values fields =
    flat_map (λ field. flat_map (flat_map
    (excluded_by readings environment target name packages))
    (groups_of (value_under field values))) fields

-- those that the Conflicts and then the Breaks of a package exclude
abbrev pub excluded_numbers : Readings → Strength → Environment → List Listed
    → ValueEntries ValueMeaning → List ℕ
excluded_numbers readings strength environment packages values =
    excluded_by_fields readings (environment_for (Packages strength) environment values)
    environment.native (word_under (codes "Package") values) packages values negative_fields

-- the numbers of later packages of its name that can't be installed together with the package of
-- this number
abbrev pub later_duplicates : List ℕ → List Listed → ℕ → List ℕ
later_duplicates target packages number =
    option_map_or (λ p. filter (λ other. ltb number other)
    (numbers_of (rules_out target p) packages)) (package_at number packages) []

-- what a package excludes: no set that contains one of these numbers may contain its own
abbrev pub exclusion_row : Readings → Strength → Environment → List Listed → ℕ
    → ValueEntries ValueMeaning → List ℕ
exclusion_row readings strength environment packages number values =
    excluded_numbers readings strength environment packages values
    ++ later_duplicates environment.native packages number

-- all rows of a package: of the groups that it needs, and of the terms
abbrev pub member_rows : Readings → Terms → Environment → List Listed → Meaning
    → ValueEntries ValueMeaning → List (List ℕ)
member_rows readings t environment packages meaning values =
    needed_rows readings t.strength environment packages values
    ++ term_rows t environment.native packages meaning (word_under (codes "Package") values)

-- Two functions of a package's number, which is counted from 1: they give its rows and what it
-- excludes. For a number that no package has they may give anything.
pub record AreRowsOf (readings : Readings) (t : Terms) (environment : Environment)
    (packages : List Listed) (meaning : Meaning) (needs : ℕ → List (List ℕ))
    (excludes : ℕ → List ℕ) : Type 0 where
  pub needed : (k : ℕ) (values : ValueEntries ValueMeaning) → slice_get meaning k ≡ Some values
      → needs (k + 1) ≡ member_rows readings t environment packages meaning values
  pub excluded : (k : ℕ) (values : ValueEntries ValueMeaning) → slice_get meaning k ≡ Some values
      → excludes (k + 1)
      ≡ exclusion_row readings t.strength environment packages (k + 1) values

-- For amd64: 1 and 4 are aa, 2 is bb, and 3 is cc for i386.
abbrev packages : List Listed
packages =
    listed (codes "aa") (codes "1") (codes "amd64")
    ∷ listed (codes "bb") (codes "1") (codes "amd64")
    ∷ listed (codes "cc") (codes "1") (codes "i386")
    ∷ listed (codes "aa") (codes "2") (codes "amd64") ∷ []

abbrev perhaps : List ℕ → Alternative
perhaps name = with_list name false (codes "linux-any")

abbrev never : List ℕ → Alternative
never name = with_list name false (codes "i386")

worked-candidates : map (candidates for_amd64 packages)
    (alone (codes "aa") ∷ never (codes "bb") ∷ alone (codes "cc") ∷ [])
    ≡ (1 ∷ 4 ∷ []) ∷ (2 ∷ []) ∷ [] ∷ []
worked-candidates = refl

worked-applying : (surely_applying for_amd64
    (perhaps (codes "aa") ∷ alone (codes "bb") ∷ never (codes "cc") ∷ []) ≡ alone (codes "bb") ∷ [])
    × (may_be_applying for_amd64
    (perhaps (codes "aa") ∷ alone (codes "bb") ∷ never (codes "cc") ∷ [])
    ≡ perhaps (codes "aa") ∷ alone (codes "bb") ∷ [])
    × (some_surely_applies for_amd64 (perhaps (codes "aa") ∷ never (codes "bb") ∷ []) ≡ false)
    × (some_surely_applies for_amd64 (perhaps (codes "aa") ∷ alone (codes "bb") ∷ []) ≡ true)
worked-applying = (refl, refl, refl, refl)

-- aa | bb; cc; aa [linux-any] | bb; aa [linux-any] | bb [linux-any]; aa [i386]; aa [i386] | bb
abbrev groups : List Group
groups =
    (alone (codes "aa") ∷ alone (codes "bb") ∷ []) ∷ (alone (codes "cc") ∷ [])
    ∷ (perhaps (codes "aa") ∷ alone (codes "bb") ∷ [])
    ∷ (perhaps (codes "aa") ∷ perhaps (codes "bb") ∷ []) ∷ (never (codes "aa") ∷ [])
    ∷ (never (codes "aa") ∷ alone (codes "bb") ∷ []) ∷ []

worked-every : map (group_rows Every for_amd64 packages) groups
    ≡ ((1 ∷ 4 ∷ 2 ∷ []) ∷ []) ∷ ([] ∷ []) ∷ ((2 ∷ []) ∷ [])
    ∷ ((1 ∷ 4 ∷ []) ∷ (2 ∷ []) ∷ []) ∷ [] ∷ ((2 ∷ []) ∷ []) ∷ []
worked-every = refl

worked-one : map (group_rows One for_amd64 packages) groups
    ≡ ((1 ∷ 4 ∷ 2 ∷ []) ∷ []) ∷ ([] ∷ []) ∷ ((1 ∷ 4 ∷ 2 ∷ []) ∷ []) ∷ [] ∷ []
    ∷ ((2 ∷ []) ∷ []) ∷ []
worked-one = refl

-- the values of aa, the first package
abbrev values : ValueEntries ValueMeaning
values = (
  codes "Breaks",
  RelationMeans ((perhaps (codes "bb") ∷ []) ∷ (alone (codes "cc") ∷ []) ∷ []),
)
    ∷ (
      codes "Conflicts",
      RelationMeans ((alone (codes "aa") ∷ []) ∷ (alone (codes "bb") ∷ []) ∷ []),
    )
    ∷ (
      codes "Depends",
      RelationMeans ((alone (codes "cc") ∷ []) ∷ (alone (codes "aa") ∷ []) ∷ []),
    )
    ∷ (codes "Package", NameMeans (codes "aa"))
    ∷ (codes "Pre-Depends", RelationMeans ((perhaps (codes "bb") ∷ []) ∷ []))
    ∷ (codes "Recommends", RelationMeans ((alone (codes "bb") ∷ []) ∷ [])) ∷ []

worked-needed : (needed_rows Every Depends for_amd64 packages values
    ≡ (2 ∷ []) ∷ [] ∷ (1 ∷ 4 ∷ []) ∷ [])
    × (needed_rows One Depends for_amd64 packages values ≡ [] ∷ (1 ∷ 4 ∷ []) ∷ [])
    × (needed_rows One Recommends for_amd64 packages values
    ≡ [] ∷ (1 ∷ 4 ∷ []) ∷ (2 ∷ []) ∷ [])
worked-needed = (refl, refl, refl)

-- without conditions, and if aa is left out
worked-members : (member_rows One (healthy_alone Depends) for_amd64 packages [] values
    ≡ [] ∷ (1 ∷ 4 ∷ []) ∷ [])
    × (member_rows One (terms Depends true (codes "aa" ∷ [])) for_amd64 packages [] values
    ≡ [] ∷ (1 ∷ 4 ∷ []) ∷ [] ∷ [])
    × (member_rows One (terms Depends true []) for_amd64 packages
    (((codes "Architecture", ArchitectureMeans (codes "all"))
    ∷ (codes "Essential", FlagMeans Yes) ∷ (codes "Package", NameMeans (codes "bb")) ∷ []) ∷ [])
    values ≡ [] ∷ (1 ∷ 4 ∷ []) ∷ (2 ∷ []) ∷ [])
worked-members = (refl, refl, refl)

worked-alternatives : map (λ readings. map
    (excluded_by readings for_amd64 (codes "amd64") (codes "aa") packages)
    (perhaps (codes "bb") ∷ alone (codes "cc") ∷ alone (codes "aa") ∷ [])) (Every ∷ One ∷ [])
    ≡ ((2 ∷ []) ∷ (3 ∷ []) ∷ [] ∷ []) ∷ ([] ∷ (3 ∷ []) ∷ [] ∷ []) ∷ []
worked-alternatives = refl

worked-excluded : (excluded_numbers Every Depends for_amd64 packages values ≡ 2 ∷ 2 ∷ 3 ∷ [])
    × (excluded_numbers One Depends for_amd64 packages values ≡ 2 ∷ 3 ∷ [])
worked-excluded = (refl, refl)

-- the earlier package of a name has the later one
worked-duplicates : map (later_duplicates (codes "amd64") packages) (0 ∷ 1 ∷ 2 ∷ 4 ∷ 5 ∷ [])
    ≡ [] ∷ (4 ∷ []) ∷ [] ∷ [] ∷ [] ∷ []
worked-duplicates = refl

worked-exclusions : exclusion_row One Depends for_amd64 packages 1 values ≡ 2 ∷ 3 ∷ 4 ∷ []
worked-exclusions = refl
