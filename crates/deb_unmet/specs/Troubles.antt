-- Which groups have a line, and the line. Debian Policy 7.1; the form of the line is this project's
-- own.
use Rattle.std.specs.Prelude.{◌≡◌, ℕ, Bool, true, false, not, cond, ◌&&◌, ◌||◌, List, [], ◌∷◌, map, Option, Some, None, codes, refl}
use Rattle.std.specs.List.{concat, list_any}
use Rattle.deb_version.specs.Places.{version_in}
use Rattle.deb_relation.specs.Applying.{Environment}
use Rattle.deb_relation.specs.Meaning.{Alternative, Group}
use Rattle.deb_relation.specs.Texts.{group_text}
use Rattle.deb_relation.specs.declared.operator.Op.TheVariants.{LaterEqual}
use Rattle.deb_index.specs.Alternatives.{alone, with_bound, with_formula, with_list, with_qualifier}
use Rattle.deb_index.specs.Listed.{Listed}
use Rattle.deb_index.specs.Meeting.{meets}
use Rattle.deb_unmet.specs.Readings.{applies_by, may, surely}
use Rattle.deb_unmet.specs.Scopes.{Scope, plain}
use Rattle.deb_unmet.specs.declared.applying.Applies.{Applies}
use Rattle.deb_unmet.specs.declared.applying.Applies.TheVariants.{Surely, Maybe, Never}
use Rattle.deb_unmet.specs.declared.trouble.Trouble.{Trouble}
use Rattle.deb_unmet.specs.declared.trouble.Trouble.TheVariants.{Unmet, Unsure}

-- some listed package meets the alternative, whether or not it applies
abbrev pub is_met : Environment → List Listed → Alternative → Bool
is_met environment packages a = list_any (meets environment a) packages

-- A group can be unmet: no alternative that a package meets surely applies, and another one may.
abbrev pub can_be_unmet : Environment → List Listed → Group → Bool
can_be_unmet environment packages group =
    not (list_any (λ a. surely (applies_by environment a) && is_met environment packages a) group)
    && list_any (λ a. may (applies_by environment a) && not (is_met environment packages a)) group

-- It can be met or ignored: an alternative that a package meets may apply, or none surely applies.
abbrev pub can_be_otherwise : Environment → List Listed → Group → Bool
can_be_otherwise environment packages group =
    list_any (λ a. may (applies_by environment a) && is_met environment packages a) group
    || not (list_any (λ a. surely (applies_by environment a)) group)

-- A group has a line if it can be unmet: `unsure` if it can be otherwise too.
abbrev pub trouble : Environment → List Listed → Group → Option Trouble
trouble environment packages group =
    cond (can_be_unmet environment packages group)
    (cond (can_be_otherwise environment packages group) (Some Unsure) (Some Unmet)) None

-- An old index, if there is one, meets or ignores it in every reading.
abbrev pub was_met : Option (List Listed) → Environment → Group → Bool
was_met None environment group = true
was_met (Some old) environment group = not (can_be_unmet environment old group)

-- A group has no line if an old index can leave it unmet too.
abbrev pub trouble_in : Scope → Environment → Group → Option Trouble
trouble_in scope environment group =
    cond (was_met scope.unless environment group) (trouble environment scope.packages group) None

-- why a group has a line whose paragraph is asked so
abbrev pub trouble_for : Applies → Option Trouble → Option Trouble
trouble_for Surely why = why
trouble_for Maybe None = None
trouble_for Maybe (Some why) = Some Unsure
trouble_for Never why = None

abbrev pub trouble_word : Trouble → List ℕ
trouble_word Unmet = codes "unmet"
trouble_word Unsure = codes "unsure"

-- the word, the heading of its paragraph, the field, and the text of the group
abbrev pub trouble_line : Option Trouble → List ℕ → List ℕ → List ℕ → List ℕ
trouble_line None heading field text = []
trouble_line (Some why) heading field text =
    concat (trouble_word why ∷ heading ∷ field ∷ codes " " ∷ text ∷ codes "\n" ∷ [])

-- the line of a group of a paragraph that is asked so
abbrev pub group_lines : Environment → Scope → Applies → List ℕ → List ℕ → Group → List ℕ
group_lines environment scope tried heading field group =
    trouble_line (trouble_for tried (trouble_in scope environment group)) heading field
    (group_text group)

-- For amd64, over aa in version 1 for amd64 alone.
abbrev environment : Environment
environment = record { target = codes "amd64"; native = codes "amd64"; profiles = [] }

abbrev packages : List Listed
packages =
    record {
      name = codes "aa";
      version = version_in (codes "1");
      architecture = codes "amd64";
      multi_arch = None;
      provisions = [];
    } ∷ []

worked-met : map (is_met environment packages)
    (alone (codes "aa") ∷ alone (codes "bb") ∷ with_list (codes "aa") false (codes "i386")
    ∷ with_qualifier (codes "aa") (codes "any") ∷ []) ≡ true ∷ false ∷ true ∷ false ∷ []
worked-met = refl

abbrev troubles : List Group → List (Option Trouble)
troubles groups = map (trouble environment packages) groups

-- Read in one way: met, also by the second alternative; unmet, also by version and by qualifier;
-- ignored by the list and by the formula; unmet where the one that is met doesn't apply.
worked-decided : troubles
    ((alone (codes "aa") ∷ []) ∷ (alone (codes "bb") ∷ alone (codes "aa") ∷ [])
    ∷ (alone (codes "bb") ∷ [])
    ∷ (alone (codes "bb") ∷ with_bound (codes "aa") LaterEqual (codes "2") ∷ [])
    ∷ (with_qualifier (codes "aa") (codes "any") ∷ [])
    ∷ (with_list (codes "bb") false (codes "i386") ∷ [])
    ∷ (with_formula (codes "bb") (codes "nodoc") ∷ [])
    ∷ (with_list (codes "aa") false (codes "i386") ∷ alone (codes "bb") ∷ []) ∷ [])
    ≡ None ∷ None ∷ Some Unmet ∷ Some Unmet ∷ Some Unmet ∷ None ∷ None ∷ Some Unmet ∷ []
worked-decided = refl

-- Read in two ways: bb [linux-any] is unmet or ignored, and so is bb [!linux-any]; aa [linux-any]
-- is met or ignored; aa | bb [linux-any] is met either way; aa [linux-any] | bb is met or unmet;
-- bb | cc [linux-any] is unmet either way; aa [linux-any] | bb [linux-any] is each of the three.
worked-undecided : troubles
    ((with_list (codes "bb") false (codes "linux-any") ∷ [])
    ∷ (with_list (codes "bb") true (codes "linux-any") ∷ [])
    ∷ (with_list (codes "aa") false (codes "linux-any") ∷ [])
    ∷ (alone (codes "aa") ∷ with_list (codes "bb") false (codes "linux-any") ∷ [])
    ∷ (with_list (codes "aa") false (codes "linux-any") ∷ alone (codes "bb") ∷ [])
    ∷ (alone (codes "bb") ∷ with_list (codes "cc") false (codes "linux-any") ∷ [])
    ∷ (with_list (codes "aa") false (codes "linux-any")
    ∷ with_list (codes "bb") false (codes "linux-any") ∷ []) ∷ [])
    ≡ Some Unsure ∷ Some Unsure ∷ None ∷ None ∷ Some Unsure ∷ Some Unmet ∷ Some Unsure ∷ []
worked-undecided = refl

worked-can : (can_be_unmet environment packages (alone (codes "bb") ∷ []) ≡ true)
    × (can_be_otherwise environment packages (alone (codes "bb") ∷ []) ≡ false)
    × (can_be_unmet environment packages (alone (codes "aa") ∷ []) ≡ false)
    × (can_be_otherwise environment packages (alone (codes "aa") ∷ []) ≡ true)
    × (can_be_unmet environment packages [] ≡ false)
    × (can_be_otherwise environment packages [] ≡ true)
worked-can = (refl, refl, refl, refl, refl, refl)

-- aa and bb, and then not in it: what the old index met has a line, what it didn't meet or may not
-- have met has none, and neither has what is met now
abbrev changed : List Listed → List Group → List (Option Trouble)
changed old groups =
    map
    (trouble_in (record { packages = packages; unless = Some old; without = [] }) environment)
    groups

abbrev of_bb : List Listed
of_bb =
    record {
      name = codes "bb";
      version = version_in (codes "1");
      architecture = codes "amd64";
      multi_arch = None;
      provisions = [];
    } ∷ []

worked-old : changed of_bb
    ((alone (codes "bb") ∷ []) ∷ (alone (codes "cc") ∷ []) ∷ (alone (codes "aa") ∷ [])
    ∷ (with_list (codes "bb") false (codes "linux-any") ∷ [])
    ∷ (with_list (codes "cc") false (codes "linux-any") ∷ [])
    ∷ (with_list (codes "aa") false (codes "linux-any") ∷ alone (codes "bb") ∷ []) ∷ [])
    ≡ Some Unmet ∷ None ∷ None ∷ Some Unsure ∷ None ∷ Some Unsure ∷ []
worked-old = refl

worked-none_old : (map (trouble_in (plain packages) environment)
    ((alone (codes "bb") ∷ []) ∷ (alone (codes "aa") ∷ []) ∷ []) ≡ Some Unmet ∷ None ∷ [])
    × (map (λ old. was_met old environment (alone (codes "bb") ∷ []))
    (None ∷ Some [] ∷ Some packages ∷ Some of_bb ∷ []) ≡ true ∷ false ∷ false ∷ true ∷ [])
worked-none_old = (refl, refl)

worked-for : map (λ tried. map (trouble_for tried) (Some Unmet ∷ Some Unsure ∷ None ∷ []))
    (Surely ∷ Maybe ∷ Never ∷ [])
    ≡ (Some Unmet ∷ Some Unsure ∷ None ∷ []) ∷ (Some Unsure ∷ Some Unsure ∷ None ∷ [])
    ∷ (None ∷ None ∷ None ∷ []) ∷ []
worked-for = refl

-- lines, and none
worked-lines : map
    (group_lines environment (plain packages) Surely (codes " 2 world 1.0 all ") (codes "Depends"))
    ((alone (codes "aa") ∷ [])
    ∷ (alone (codes "bb") ∷ with_bound (codes "aa") LaterEqual (codes "2") ∷ [])
    ∷ (with_list (codes "bb") true (codes "linux-any") ∷ []) ∷ [])
    ≡ [] ∷ codes "unmet 2 world 1.0 all Depends bb | aa (>= 2)\n"
    ∷ codes "unsure 2 world 1.0 all Depends bb [!linux-any]\n" ∷ []
unfolding group_text
worked-lines = refl
