-- The rows of a source package in one reading, by the groups that they are of; and their texts.
use Rattle.std.proofs.Common.{◌≡◌, ℕ, zero, suc, ◌-◌, cond, List, [], ◌∷◌, ◌++◌, map, get_or, None, Some, slice_get, append-nil, append_assoc, codes, refl, sym, ap, ◌∙◌, subst}
use Rattle.std.specs.List.{Contains, flat_map}
use Rattle.std.specs.Option.{option_map_or}
use Rattle.std.proofs.lemmas.Grind.{flat_map-append}
use Rattle.std.proofs.lemmas.List.Elements.{Contains-get_or}
use Rattle.deb_relation.specs.Applying.{Environment}
use Rattle.deb_relation.specs.Meaning.{Group}
use Rattle.deb_relation.specs.Texts.{group_text}
use Rattle.deb_field.specs.Values.{ValueMeaning}
use Rattle.deb_control.specs.Documents.{Meaning}
use Rattle.deb_control.specs.FieldWords.{groups_of, value_under, word_under}
use Rattle.deb_control.specs.Pairs.{Pairwise}
use Rattle.deb_control.specs.ValueFiles.{ValueEntries}
use Rattle.deb_index.specs.Listed.{Listed}
use Rattle.deb_unmet.specs.Asked.{build_fields}
use Rattle.deb_install.specs.Buildable.{build_rows, implied_groups}
use Rattle.deb_install.specs.KeptSources.{HoldsSource}
use Rattle.deb_install.specs.Rows.{group_rows, some_surely_applies}
use Rattle.deb_install.specs.SourceExplaining.{built_groups}
use Rattle.deb_install.specs.SourceKinds.{name_field}
use Rattle.deb_install.specs.SourceReasonLines.{source_head, source_with}
use Rattle.deb_install.specs.SourceReasons.{build_groups}
use Rattle.deb_install.specs.declared.kept_source.KeptSource.{KeptSource}
use Rattle.deb_install.specs.declared.readings.Readings.{Readings}
use Rattle.deb_install.specs.declared.readings.Readings.TheVariants.{One}
use Rattle.deb_install.specs.declared.source_kind.SourceKind.{SourceKind}
use Rattle.deb_install.proofs.Contained.{flat-twice, from-filter, map-at}
use Rattle.deb_install.proofs.RowsAsked.{one-rows, row_of}
use Rattle.deb_install.proofs.SureTexts.{texts-append, texts_of}

pub rows-by-all : (readings : Readings) (environment : Environment) (packages : List Listed) (values : ValueEntries ValueMeaning) → build_rows readings environment packages values ≡ flat_map (group_rows readings environment packages) (build_groups values)
rows-by-all readings environment packages values =
    let rows : Group → List (List ℕ) = group_rows readings environment packages in
    let groups : List ℕ → List Group = λ field. groups_of (value_under field values) in
    ap (λ l. flat_map rows implied_groups ++ l) (flat-twice rows groups build_fields)
    ∙ sym (flat_map-append rows implied_groups (flat_map groups build_fields))

module _ (environment : Environment) (packages : List Listed) (values : ValueEntries ValueMeaning) where
  pub rows-by-groups : build_rows One environment packages values ≡ map (row_of environment packages) (built_groups environment values)
  rows-by-groups = rows-by-all One environment packages values ∙ one-rows environment packages (build_groups values)

  -- The group of a row is one that the source package needs, and its numbers are those of the row.
  pub record GroupOfRow (group : Group) (candidates : List ℕ) : Type 0 where
    pub needed : Contains (build_groups values) group
    pub rows : group_rows One environment packages group ≡ candidates ∷ []

  pub group-of-row : (at : ℕ) (candidates : List ℕ) → slice_get (build_rows One environment packages values) at ≡ Some candidates → GroupOfRow (get_or (built_groups environment values) at []) candidates
  group-of-row at candidates found =
      let groups = built_groups environment values in
      let group = get_or groups at [] in
      let here = map-at (row_of environment packages) groups at [] candidates (sym (ap (λ l. slice_get l at) rows-by-groups) ∙ found) in
      let among = from-filter (some_surely_applies environment) (build_groups values) group (Contains-get_or groups at [] here.0) in
      record {
        needed = among.0;
        rows = ap (λ v. cond v (row_of environment packages group ∷ []) []) among.1 ∙ ap (λ row. row ∷ []) here.1;
      }

-- the texts of these groups, field by field
pub built-texts : (environment : Environment) (values : ValueEntries ValueMeaning) (a b c d : List (List ℕ)) → a ≡ texts_of environment implied_groups
    → b ≡ a ++ texts_of environment (groups_of (value_under (codes "Build-Depends") values))
    → c ≡ b ++ texts_of environment (groups_of (value_under (codes "Build-Depends-Arch") values))
    → d ≡ c ++ texts_of environment (groups_of (value_under (codes "Build-Depends-Indep") values)) → d ≡ map group_text (built_groups environment values)
built-texts environment values a b c d is_a is_b is_c is_d =
    let one = groups_of (value_under (codes "Build-Depends") values) in
    let two = groups_of (value_under (codes "Build-Depends-Arch") values) in
    let three = groups_of (value_under (codes "Build-Depends-Indep") values) in
    is_d
    ∙ ap (λ l. l ++ texts_of environment three) (is_c ∙ ap (λ l. l ++ texts_of environment two) (is_b ∙ ap (λ l. l ++ texts_of environment one) is_a))
    ∙ ap (λ l. (l ++ texts_of environment two) ++ texts_of environment three) (sym (texts-append environment implied_groups one))
    ∙ ap (λ l. l ++ texts_of environment three) (sym (texts-append environment (implied_groups ++ one) two))
    ∙ sym (texts-append environment ((implied_groups ++ one) ++ two) three)
    ∙ ap (texts_of environment) (same one two three)
  where
    same : (one two three : List Group) → ((implied_groups ++ one) ++ two) ++ three ≡ implied_groups ++ (one ++ (two ++ (three ++ [])))
    same one two three =
        append_assoc (implied_groups ++ one) two three ∙ append_assoc implied_groups one (two ++ three)
        ∙ ap (λ l. implied_groups ++ (one ++ (two ++ l))) (sym (append-nil three))

-- the text of the group at an index, where no group has the empty text
pub text-at : (groups : List Group) (at : ℕ) → get_or (map group_text groups) at [] ≡ group_text (get_or groups at [])
unfolding group_text
text-at [] at = refl
text-at (group ∷ groups) zero = refl
text-at (group ∷ groups) (suc at) = text-at groups at

-- what a source package has at an index of all
pub record SourceAt (kind : SourceKind) (sources : Meaning) (k : ℕ) (kept : KeptSource) : Type 0 where
  pub values : ValueEntries ValueMeaning
  pub at : slice_get sources k ≡ Some values
  pub holds : HoldsSource kind values kept

pub source-at : (kind : SourceKind) (sources : Meaning) (all : List KeptSource) (k : ℕ) (kept : KeptSource) → Pairwise (HoldsSource kind) sources all → slice_get all k ≡ Some kept → SourceAt kind sources k kept
source-at kind [] [] k kept holds is = absurd cc
source-at kind [] (other ∷ all) k kept holds is = absurd holds
source-at kind (values ∷ sources) [] k kept holds is = absurd holds
source-at kind (values ∷ sources) (other ∷ all) zero kept holds is =
    let same : other ≡ kept = cc in
    record { values = values; at = refl; holds = subst (HoldsSource kind values) same holds.0 }
source-at kind (values ∷ sources) (other ∷ all) (suc k) kept holds is =
    let it = source-at kind sources all k kept holds.1 is in
    record { values = it.values; at = it.at; holds = it.holds }

pub no-source-at : (kind : SourceKind) (sources : Meaning) (all : List KeptSource) (k : ℕ) → Pairwise (HoldsSource kind) sources all → slice_get all k ≡ None → slice_get sources k ≡ None
no-source-at kind [] all k holds is = refl
no-source-at kind (values ∷ sources) [] k holds is = absurd holds
no-source-at kind (values ∷ sources) (other ∷ all) zero holds is = absurd cc
no-source-at kind (values ∷ sources) (other ∷ all) (suc k) holds is = no-source-at kind sources all k holds.1 is

-- the line that begins with it
pub source-line : (kind : SourceKind) (sources : Meaning) (number k : ℕ) (kept : KeptSource) (words : List ℕ) → SourceAt kind sources k kept → k ≡ number - 1 → source_head number kept.name.items kept.version.items ++ words ≡ source_with kind sources number words
source-line kind sources number k kept words it is =
    ap (λ name. source_head number name kept.version.items ++ words) it.holds.name
    ∙ ap (λ version. source_head number (word_under (name_field kind) it.values) version ++ words) it.holds.version
    ∙ ap (λ o. option_map_or (λ values. source_head number (word_under (name_field kind) values) (word_under (codes "Version") values) ++ words) o []) (sym it.at ∙ ap (slice_get sources) is)

pub no-source-line : (kind : SourceKind) (sources : Meaning) (number k : ℕ) (words : List ℕ) → slice_get sources k ≡ None → k ≡ number - 1 → source_with kind sources number words ≡ []
no-source-line kind sources number k words none is =
    ap (λ o. option_map_or (λ values. source_head number (word_under (name_field kind) values) (word_under (codes "Version") values) ++ words) o []) (ap (slice_get sources) (sym is) ∙ none)
