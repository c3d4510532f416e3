-- What the words of a paragraph that passes say of its values.
use Rattle.std.proofs.Common.{◌≡◌, ℕ, ◌&&◌, Bool, true, false, is_some, List, Option, None, Some, IfSome, codes, refl, sym, ap, ◌∙◌, subst}
use Rattle.std.proofs.lemmas.Bool.{false≢true}
use Rattle.std.specs.FinMap.{find}
use Rattle.deb_base.specs.Kinds.{kind_at, kind_of, known_row, required}
use Rattle.deb_base.specs.Names.{canonical_name}
use Rattle.deb_version.specs.Grammar.{SpellsVersion}
use Rattle.deb_version.specs.Keys.{version_key}
use Rattle.deb_version.specs.Parts.{Meaning as Version}
use Rattle.deb_syntax.specs.Answers.{Seen}
use Rattle.deb_syntax.specs.Meaning.{byte_order, entries_of}
use Rattle.deb_field.specs.ValueLaws.{value_law}
use Rattle.deb_field.specs.Values.{ValueMeaning, VersionMeans, SpellsValue, value_text}
use Rattle.deb_control.specs.Acceptance.{has_values}
use Rattle.deb_control.specs.Documents.{rules_of}
use Rattle.deb_control.specs.FieldWords.{value_under}
use Rattle.deb_control.specs.Paragraphs.{AreValuesOf}
use Rattle.deb_control.specs.Refusals.{value_refusal_of}
use Rattle.deb_control.specs.ShownValues.{shown_of}
use Rattle.deb_control.specs.ValueFiles.{ValueEntries}
use Rattle.deb_control.specs.Visiting.{VisitsValues}
use Rattle.deb_control.proofs.Building.{distinct-from}
use Rattle.deb_control.proofs.FieldValues.{has_values-have_names}
use Rattle.deb_control.proofs.Passing.{built-parts}
use Rattle.deb_control.proofs.PassingParagraphs.{values-passing}
use Rattle.deb_control.proofs.ShownValues.{shown-spelled, shown-value}
use Rattle.deb_control.proofs.ValueBodies.{one_paragraph}
use Rattle.deb_latest.specs.Entries.{architecture_in, doc_of, entry_of, key_of_words, name_in, version_value}
use Rattle.deb_latest.specs.Reads.{IsEntry}
use Rattle.deb_latest.specs.Words.{KeepsWords, version_key_in}
use Rattle.deb_latest.specs.declared.kind.Kind.{Kind}
use Rattle.deb_latest.specs.declared.kind.Kind.TheVariants.{Packages, Sources}
use Rattle.deb_latest.specs.declared.request.By.{By}
use Rattle.deb_latest.specs.declared.words.Words.{Words}

abbrev IsVersion : Option ValueMeaning → Type 0
IsVersion o = (v : Version) × (o ≡ Some (VersionMeans v)) × ((body : List ℕ) × SpellsVersion body v)

abbrev IsSpelledAs : Kind → Option ValueMeaning → Type 0
IsSpelledAs kind o = IfSome o (λ value. (body : List ℕ) × SpellsValue (doc_of kind) (canonical_name (codes "Version")) body value)

-- a value under Version is a version
version-said : (kind : Kind) (o : Option ValueMeaning) → IsSpelledAs kind o → is_some o ≡ true → IsVersion o
unfolding kind_of kind_at known_row
version-said Packages None spelled there = absurd (false≢true there)
version-said Packages (Some value) spelled there = (spelled.1.0, ap Some spelled.1.1, (spelled.0, spelled.1.2))
version-said Sources None spelled there = absurd (false≢true there)
version-said Sources (Some value) spelled there = (spelled.1.0, ap Some spelled.1.1, (spelled.0, spelled.1.2))

and-parts : (a b : Bool) → (a && b) ≡ true → (a ≡ true) × (b ≡ true)
and-parts true b h = (refl, h)
and-parts false b h = absurd (false≢true h)

-- it is required
version-there : (kind : Kind) (values : ValueEntries ValueMeaning) → has_values (required (doc_of kind)) values ≡ true → is_some (value_under (codes "Version") values) ≡ true
version-there Packages values all = (and-parts _ _ (and-parts _ _ all).1).0
version-there Sources values all = (and-parts _ _ (and-parts _ _ all).1).0

module _ (kind : Kind) (words : Words) (seen : Seen) (visits : VisitsValues KeepsWords words (doc_of kind) seen) where
  abbrev pub values : ValueEntries ValueMeaning
  values = (values-passing (doc_of kind) seen visits.passes).0

  pub values-are : AreValuesOf (doc_of kind) seen values
  values-are = (values-passing (doc_of kind) seen visits.passes).1

  is_value : (name : List ℕ) → shown_of visits.visited name ≡ value_under name values
  is_value name =
      let has = shown-value KeepsWords words (doc_of kind) seen visits name in
      has.found ∙ ap (find byte_order (canonical_name name)) (one_paragraph ValueMeaning (SpellsValue (doc_of kind)) value_text (value_law (doc_of kind)) (entries_of seen.fields) has.values values has.are.spelled values-are.spelled)

  all_there : has_values (required (doc_of kind)) values ≡ true
  all_there =
      has_values-have_names (SpellsValue (doc_of kind)) seen.fields values (distinct-from seen.fields visits.fields) values-are.spelled (required (doc_of kind))
      ∙ (built-parts (rules_of (doc_of kind)) seen _ (value_refusal_of (rules_of (doc_of kind)) seen.fields) refl values-are.passes).named

  version : IsVersion (value_under (codes "Version") values)
  version = version-said kind (value_under (codes "Version") values) (subst (IsSpelledAs kind) (is_value (codes "Version")) (shown-spelled KeepsWords words (doc_of kind) seen visits (codes "Version"))) (version-there kind values all_there)

  -- so its words are those of its entry
  pub said : (by : By) (number : ℕ) → IsEntry by words number (entry_of by number values)
  said by number = record {
    number = refl;
    key = ap (λ name. key_of_words by name words.architecture.items) (visits.visits.name ∙ ap name_in (is_value (codes "Package")))
        ∙ ap (key_of_words by (name_in (value_under (codes "Package") values))) (visits.visits.architecture ∙ ap architecture_in (is_value (codes "Architecture")));
    version = visits.visits.version ∙ ap version_key_in (is_value (codes "Version")) ∙ ap version_key_in version.1 ∙ ap (λ o. version_key (version_value o)) (sym version.1);
    spelled = (version.2.0, subst (SpellsVersion version.2.0) (ap version_value (sym version.1)) version.2.1);
  }
