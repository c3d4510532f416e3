-- What conditions ask of a paragraph, and which paragraphs they select: this project's own. The
-- order of versions is that of deb-version(7); fields and their kinds are those of Debian Policy
-- 5.6 and 7.
use Rattle.std.specs.Prelude.{◌≡◌, ℕ, ◌==◌, ◌&&◌, ◌||◌, Bool, true, false, not, List, [], ◌∷◌, ◌++◌}
use Rattle.std.specs.Prelude.{map, Option, None, Some, codes, refl}
use Rattle.std.specs.List.{filter, flat_map, list_all, list_any, slice_split}
use Rattle.std.specs.Ordering.{is_eq, is_gt, is_lt, nat_cmp}
use Rattle.std.specs.Str.{bytes_eq}
use Rattle.std.specs.declared.cmp.Ordering.{Ordering}
use Rattle.std.specs.declared.cmp.Ordering.TheVariants.{Less, Equal, Greater}
use Rattle.deb_version.specs.Keys.{byte_order}
use Rattle.deb_version.specs.Order.{version_cmp}
use Rattle.deb_version.specs.Parts.{Meaning as VersionMeaning}
use Rattle.deb_version.specs.Places.{version_in}
use Rattle.deb_relation.specs.Meaning.{Alternative, Relation}
use Rattle.deb_relation.specs.Texts.{group_text}
use Rattle.deb_field.specs.Values.{ValueMeaning, NameMeans, SourceMeans, VersionMeans}
use Rattle.deb_field.specs.Values.{ArchitectureMeans, ArchitecturesMean, FlagMeans, MultiArchMeans}
use Rattle.deb_field.specs.Values.{NumberMeans, LineMeans, FoldedMeans, RelationMeans, TextMeans}
use Rattle.deb_field.specs.Values.{value_text}
use Rattle.deb_control.specs.Documents.{Meaning}
use Rattle.deb_control.specs.FieldWords.{value_under}
use Rattle.deb_control.specs.ValueFiles.{ValueEntries}
use Rattle.deb_select.specs.declared.comparison.Comparison.{Comparison}
use Rattle.deb_select.specs.declared.comparison.Comparison.TheVariants.{Same, Different, Earlier}
use Rattle.deb_select.specs.declared.comparison.Comparison.TheVariants.{EarlierEqual, LaterEqual}
use Rattle.deb_select.specs.declared.comparison.Comparison.TheVariants.{Later}

-- Whether a comparison holds of an order: that of a field's value and of the value that is asked.
abbrev pub comparison_holds : Comparison → Ordering → Bool
comparison_holds Same order = is_eq order
comparison_holds Different order = not (is_eq order)
comparison_holds Earlier order = is_lt order
comparison_holds EarlierEqual order = not (is_gt order)
comparison_holds LaterEqual order = not (is_lt order)
comparison_holds Later order = is_gt order

-- the version and the number that a value is; of another kind, the least
abbrev pub version_of_value : ValueMeaning → VersionMeaning
version_of_value (VersionMeans version) = version
version_of_value other = version_in []

abbrev pub number_of_value : ValueMeaning → ℕ
number_of_value (NumberMeans n) = n
number_of_value other = 0

-- The order of two values of a field: of versions Debian's, of numbers by value, of all others that
-- of the bytes of their canonical texts. Those texts are equal exactly if the values are.
abbrev pub compare_values : ValueMeaning → ValueMeaning → Ordering
compare_values (VersionMeans version) asked = version_cmp version (version_of_value asked)
compare_values (NumberMeans n) asked = nat_cmp n (number_of_value asked)
compare_values other asked = byte_order (value_text other) (value_text asked)

-- whether a text begins with these bytes, and whether it contains them
abbrev pub begins_with : List ℕ → List ℕ → Bool
begins_with [] text = true
begins_with (p ∷ part) [] = false
begins_with (p ∷ part) (b ∷ text) = (p == b) && begins_with part text

abbrev pub contains_text : List ℕ → List ℕ → Bool
contains_text part [] = begins_with part []
contains_text part (b ∷ text) = begins_with part (b ∷ text) || contains_text part text

-- the alternatives of a relation, group by group, and their names
abbrev pub alternatives_in : Relation → List Alternative
alternatives_in [] = []
alternatives_in (group ∷ groups) = group ++ alternatives_in groups

abbrev pub names_asked : Relation → List (List ℕ)
names_asked relation = map (λ alternative. alternative.name) (alternatives_in relation)

-- the texts between the commas (44) of a text; an empty one is no name that can be asked for
abbrev pub comma_pieces : List ℕ → List (List ℕ)
comma_pieces text = slice_split (λ b. b == 44) text

-- the names in a value: of a package, a source package or an architecture, the texts between the
-- commas of a folded field's words, and the names of a relation's alternatives
abbrev pub names_in : ValueMeaning → List (List ℕ)
names_in (NameMeans name) = name ∷ []
names_in (SourceMeans source) = source.name ∷ []
names_in (VersionMeans version) = []
names_in (ArchitectureMeans name) = name ∷ []
names_in (ArchitecturesMean names) = names
names_in (FlagMeans flag) = []
names_in (MultiArchMeans word) = []
names_in (NumberMeans n) = []
names_in (LineMeans line) = []
names_in (FoldedMeans words) = flat_map comma_pieces words
names_in (RelationMeans relation) = names_asked relation
names_in (TextMeans text) = []

-- what is asked of a field: that it is there; how its value compares with another; that its
-- canonical text contains some bytes; that a name is among its names
pub data TestMeaning : Type 0 where
  IsPresent : TestMeaning
  Compares : Comparison → ValueMeaning → TestMeaning
  ContainsText : List ℕ → TestMeaning
  NamesOne : List ℕ → TestMeaning

-- Whether a value passes.
abbrev pub passes : TestMeaning → ValueMeaning → Bool
passes IsPresent value = true
passes (Compares comparison asked) value =
    comparison_holds comparison (compare_values value asked)
passes (ContainsText part) value = contains_text part (value_text value)
passes (NamesOne name) value = list_any (bytes_eq name) (names_in value)

-- a condition: the canonical spelling of a field's name, and what is asked of the field
pub record ConditionMeaning : Type 0 where
  pub name : List ℕ
  pub test : TestMeaning

-- Nothing that is asked holds of a field that is absent.
abbrev pub passes_if_any : TestMeaning → Option ValueMeaning → Bool
passes_if_any test None = false
passes_if_any test (Some value) = passes test value

-- A condition holds of a paragraph.
abbrev pub holds : ConditionMeaning → ValueEntries ValueMeaning → Bool
holds condition values = passes_if_any condition.test (value_under condition.name values)

-- conditions, and whether what they select is what is left out
pub record SelectionMeaning : Type 0 where
  pub conditions : List ConditionMeaning
  pub negated : Bool

-- a truth, or its opposite
abbrev pub turned : Bool → Bool → Bool
turned false holds = holds
turned true holds = not holds

-- A paragraph is selected: all conditions hold, or if they are negated, not all do.
abbrev pub selects : SelectionMeaning → ValueEntries ValueMeaning → Bool
selects selection values =
    turned selection.negated (list_all (λ condition. holds condition values) selection.conditions)

-- the paragraphs that are selected of a file, in their order
abbrev pub selected : SelectionMeaning → Meaning → Meaning
selected selection meaning = filter (selects selection) meaning

-- ---- worked cases

worked-comparisons : (map (λ c. comparison_holds c Less)
    (Same ∷ Different ∷ Earlier ∷ EarlierEqual ∷ LaterEqual ∷ Later ∷ [])
    ≡ false ∷ true ∷ true ∷ true ∷ false ∷ false ∷ [])
    × (map (λ c. comparison_holds c Equal)
    (Same ∷ Different ∷ Earlier ∷ EarlierEqual ∷ LaterEqual ∷ Later ∷ [])
    ≡ true ∷ false ∷ false ∷ true ∷ true ∷ false ∷ [])
    × (map (λ c. comparison_holds c Greater)
    (Same ∷ Different ∷ Earlier ∷ EarlierEqual ∷ LaterEqual ∷ Later ∷ [])
    ≡ false ∷ true ∷ false ∷ false ∷ true ∷ true ∷ [])
worked-comparisons = (refl, refl, refl)

-- versions by Debian's order, numbers by value, others by their bytes
worked-orders : (compare_values (VersionMeans (version_in (codes "1.9")))
    (VersionMeans (version_in (codes "1.10"))) ≡ Less)
    × (compare_values (VersionMeans (version_in (codes "0:1.0-0")))
    (VersionMeans (version_in (codes "1.00"))) ≡ Equal)
    × (compare_values (NumberMeans 10) (NumberMeans 9) ≡ Greater)
    × (compare_values (TextMeans (codes "10")) (TextMeans (codes "9")) ≡ Less)
    × (compare_values (FoldedMeans (codes "a" ∷ codes "b" ∷ []))
    (FoldedMeans (codes "a" ∷ codes "b" ∷ [])) ≡ Equal)
worked-orders = (refl, refl, refl, refl, refl)

worked-contains : (contains_text (codes "bc") (codes "abcd") ≡ true)
    × (contains_text (codes "cd") (codes "abcd") ≡ true)
    × (contains_text (codes "abcd") (codes "abcd") ≡ true)
    × (contains_text (codes "bd") (codes "abcd") ≡ false)
    × (contains_text (codes "cde") (codes "abcd") ≡ false)
    × (contains_text [] (codes "") ≡ true) × (contains_text (codes "a") [] ≡ false)
worked-contains = (refl, refl, refl, refl, refl, refl, refl)

-- for the worked cases: `libc6 (>= 2) | libc6-dev, zlib1g`
abbrev bare : List ℕ → Alternative
bare name =
    record { name = name; qualifier = None; bound = None; architectures = None; formula = [] }

abbrev depends : Relation
depends = (bare (codes "libc6") ∷ bare (codes "libc6-dev") ∷ []) ∷ (bare (codes "zlib1g") ∷ []) ∷ []

worked-pieces : (comma_pieces (codes "a,b") ≡ codes "a" ∷ codes "b" ∷ [])
    × (comma_pieces (codes "hello,") ≡ codes "hello" ∷ [] ∷ [])
    × (comma_pieces (codes "hello") ≡ codes "hello" ∷ []) × (comma_pieces [] ≡ [] ∷ [])
worked-pieces = (refl, refl, refl, refl)

worked-names : (names_in (RelationMeans depends)
    ≡ codes "libc6" ∷ codes "libc6-dev" ∷ codes "zlib1g" ∷ [])
    × (names_in (SourceMeans (record { name = codes "ss"; version = None })) ≡ codes "ss" ∷ [])
    × (names_in (FoldedMeans (codes "aa" ∷ codes "bb" ∷ [])) ≡ codes "aa" ∷ codes "bb" ∷ [])
    × (names_in (FoldedMeans (codes "a,b" ∷ [])) ≡ codes "a" ∷ codes "b" ∷ [])
    × (names_in (FoldedMeans []) ≡ []) × (names_in (TextMeans (codes "aa")) ≡ [])
worked-names = (refl, refl, refl, refl, refl, refl)

-- a whole name, and not the beginning of one
worked-passes : (passes (NamesOne (codes "libc6")) (RelationMeans depends) ≡ true)
    × (passes (NamesOne (codes "zlib1g")) (RelationMeans depends) ≡ true)
    × (passes (NamesOne (codes "libc")) (RelationMeans depends) ≡ false)
    × (passes (ContainsText (codes "ibc6-")) (RelationMeans depends) ≡ true)
    × (passes (ContainsText (codes "1.0")) (VersionMeans (version_in (codes "0:1.00"))) ≡ true)
    × (passes IsPresent (TextMeans []) ≡ true)
unfolding group_text
worked-passes = (refl, refl, refl, refl, refl, refl)

-- the names in `hello, hello-dbg`, and in `a,b`
abbrev hello : ValueMeaning
hello = FoldedMeans (codes "hello," ∷ codes "hello-dbg" ∷ [])

abbrev unspaced : ValueMeaning
unspaced = FoldedMeans (codes "a,b" ∷ [])

worked-folded : (passes (NamesOne (codes "hello")) hello ≡ true)
    × (passes (NamesOne (codes "hello-dbg")) hello ≡ true)
    × (passes (NamesOne (codes "hello,")) hello ≡ false)
    × (passes (NamesOne (codes "hell")) hello ≡ false)
    × (passes (NamesOne (codes "a")) unspaced ≡ true)
    × (passes (NamesOne (codes "b")) unspaced ≡ true)
    × (passes (NamesOne (codes "a,b")) unspaced ≡ false)
    × (passes (ContainsText (codes "hello, h")) hello ≡ true)
worked-folded = (refl, refl, refl, refl, refl, refl, refl, refl)

-- two paragraphs: aa in 1.9, and bb in 1.10 with a size
abbrev aa : ValueEntries ValueMeaning
aa =
    (codes "Package", NameMeans (codes "aa"))
    ∷ (codes "Version", VersionMeans (version_in (codes "1.9"))) ∷ []

abbrev bb : ValueEntries ValueMeaning
bb =
    (codes "Package", NameMeans (codes "bb")) ∷ (codes "Size", NumberMeans 7)
    ∷ (codes "Version", VersionMeans (version_in (codes "1.10"))) ∷ []

abbrev version_is : Comparison → List ℕ → ConditionMeaning
version_is comparison version = record {
  name = codes "Version";
  test = Compares comparison (VersionMeans (version_in version));
}

abbrev has_size : ConditionMeaning
has_size = record { name = codes "Size"; test = IsPresent }

abbrev size_differs : ConditionMeaning
size_differs = record { name = codes "Size"; test = Compares Different (NumberMeans 8) }

-- Of an absent field not even `!=` holds.
worked-holds : (holds (version_is Later (codes "1.9")) aa ≡ false)
    × (holds (version_is Later (codes "1.9")) bb ≡ true) × (holds has_size aa ≡ false)
    × (holds has_size bb ≡ true) × (holds size_differs aa ≡ false)
    × (holds size_differs bb ≡ true)
worked-holds = (refl, refl, refl, refl, refl, refl)

-- the negation is of all conditions together; no condition selects all
worked-selected : (selected
    (record { conditions = has_size ∷ version_is Same (codes "1.9") ∷ []; negated = false })
    (aa ∷ bb ∷ []) ≡ [])
    × (selected
    (record { conditions = has_size ∷ version_is Same (codes "1.9") ∷ []; negated = true })
    (aa ∷ bb ∷ []) ≡ aa ∷ bb ∷ [])
    × (selected (record { conditions = size_differs ∷ []; negated = true }) (aa ∷ bb ∷ [])
    ≡ aa ∷ [])
    × (selected (record { conditions = []; negated = false }) (aa ∷ bb ∷ []) ≡ aa ∷ bb ∷ [])
    × (selected (record { conditions = []; negated = true }) (aa ∷ bb ∷ []) ≡ [])
worked-selected = (refl, refl, refl, refl, refl)
