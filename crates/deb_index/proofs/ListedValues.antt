-- The values of a paragraph of an index of packages: which are there, and what the bodies of the fields mean.
use Rattle.std.proofs.Common.{◌≡◌, ◌<◌, ◌⊎◌, inl, inr, arith, ℕ, ◌&&◌, Bool, true, false, is_some, List, [], Option, None, Some, IfSome, IsTrue, codes, refl, sym, ap, subst, ◌∙◌}
use Rattle.std.proofs.lemmas.Bool.{false≢true}
use Rattle.std.specs.FinMap.{find}
use Rattle.std.specs.Option.{option_map}
use Rattle.deb_base.specs.Names.{canonical_name}
use Rattle.deb_version.specs.Parts.{Meaning as Version}
use Rattle.deb_relation.specs.Meaning.{Relation}
use Rattle.deb_syntax.specs.Answers.{Seen}
use Rattle.deb_syntax.specs.Fields.{Field, are_fields}
use Rattle.deb_syntax.specs.Meaning.{byte_order, entries_of}
use Rattle.deb_syntax.specs.Raw.{field_named}
use Rattle.deb_syntax.proofs.JudgingLawsMeaning.{body_at-entries_of}
use Rattle.deb_base.specs.Kinds.{kind_at, known_row, kind_of, required, row_count}
use Rattle.deb_field.specs.ValueLaws.{value_law}
use Rattle.deb_field.specs.Values.{ValueMeaning, NameMeans, VersionMeans, ArchitectureMeans, MultiArchMeans, RelationMeans, value_text, SpellsValue}
use Rattle.deb_field.specs.declared.flag.MultiArch.{MultiArch}
use Rattle.deb_base.specs.declared.doc.Doc.{Doc}
use Rattle.deb_base.specs.declared.doc.Doc.TheVariants.{Packages}
use Rattle.deb_control.specs.Acceptance.{has_values}
use Rattle.deb_control.specs.Checking.{is_judged}
use Rattle.deb_control.specs.Documents.{rules_of}
use Rattle.deb_control.specs.FieldTexts.{KeepsTexts}
use Rattle.deb_control.specs.FieldWords.{groups_of, word_of}
use Rattle.deb_control.specs.Visiting.{VisitsValues}
use Rattle.deb_control.specs.ShownValues.{shown_of}
use Rattle.deb_control.proofs.ShownValues.{shown-value}
use Rattle.deb_control.specs.Paragraphs.{AreValuesOf}
use Rattle.deb_control.specs.PassingValues.{HasValue}
use Rattle.deb_control.specs.Refusals.{value_refusal_of}
use Rattle.deb_control.specs.ValueFiles.{ValueEntries}
use Rattle.deb_control.proofs.Building.{distinct-from}
use Rattle.deb_control.proofs.FieldValues.{has_values-have_names}
use Rattle.deb_control.proofs.Passing.{built-parts}
use Rattle.deb_control.proofs.PassingParagraphs.{field-body, none-passing, values-passing}
use Rattle.deb_control.proofs.ValueBodies.{one_paragraph, value_at}
use Rattle.deb_version.specs.Grammar.{SpellsVersion}
use Rattle.deb_version.proofs.CanonicalTexts.{canonical_text_spells}
use Rattle.deb_relation.specs.Grammar.{SpellsRelation}
use Rattle.deb_relation.specs.Regular.{IsRegularRelation}
use Rattle.deb_relation.specs.Texts.{relation_text}
use Rattle.deb_relation.proofs.Regular.{relation_regular}
use Rattle.deb_index.specs.PackageBuilder.{KeepsPackage, KeepsVisited, multi_arch_of, texts_kept}
use Rattle.deb_index.specs.declared.paragraph.PackageBuilder.{PackageBuilder}
use Rattle.deb_index.specs.Listed.{Listed, Provision, provisions_in, provisions_of}
use Rattle.deb_index.specs.Listing.{HasProvisions, SeenLists}
use Rattle.deb_index.specs.VersionSpellings.{body_or_nothing, version_body}

-- some text spells a relation
abbrev IsSpelled : Relation → Type 0
IsSpelled m = (text : List ℕ) × SpellsRelation text m

-- a paragraph has one list of values
pub one_list_of_values : (seen : Seen) (values others : ValueEntries ValueMeaning) → AreValuesOf Packages seen values → AreValuesOf Packages seen others → values ≡ others
one_list_of_values seen values others are also = one_paragraph ValueMeaning (SpellsValue Packages) value_text (value_law Packages) (entries_of seen.fields) values others are.spelled also.spelled

pub and-parts : (a b : Bool) → (a && b) ≡ true → (a ≡ true) × (b ≡ true)
and-parts true b h = (refl, h)
and-parts false b h = absurd (false≢true h)

-- the values that are asked are there
all_there : (seen : Seen) → are_fields seen.fields ≡ true → (values : ValueEntries ValueMeaning) → AreValuesOf Packages seen values → has_values (required Packages) values ≡ true
all_there seen fields values are =
    has_values-have_names (SpellsValue Packages) seen.fields values (distinct-from seen.fields fields) are.spelled (required Packages)
    ∙ (built-parts (rules_of Packages) seen _ (value_refusal_of (rules_of Packages) seen.fields) refl are.passes).named

not_none : (name : List ℕ) (values : ValueEntries ValueMeaning) → is_some (find byte_order name values) ≡ true → None ≡ find byte_order name values → ⊥
not_none name values some none = false≢true (ap is_some none ∙ some)

module _ (seen : Seen) (passes : IsTrue (is_judged Packages seen)) (fields : are_fields seen.fields ≡ true) where
  -- so there is a value under these names
  name-there : HasValue Packages seen (codes "Package") None → ⊥
  name-there has = not_none (codes "Package") has.values (and-parts _ _ (all_there seen fields has.values has.are)).0 has.found

  version-there : HasValue Packages seen (codes "Version") None → ⊥
  version-there has = not_none (codes "Version") has.values (and-parts _ _ (and-parts _ _ (all_there seen fields has.values has.are)).1).0 has.found

  architecture-there : HasValue Packages seen (codes "Architecture") None → ⊥
  architecture-there has =
      not_none (codes "Architecture") has.values (and-parts _ _ (and-parts _ _ (and-parts _ _ (all_there seen fields has.values has.are)).1).1).0 has.found

  -- under a name there is one value, or none
  one-under : (name : List ℕ) (o p : Option ValueMeaning) → HasValue Packages seen name o → HasValue Packages seen name p → o ≡ p
  one-under name o p has other = has.found ∙ ap (find byte_order (canonical_name name)) (one_list_of_values seen has.values other.values has.are other.are) ∙ sym other.found

  -- a value is one that a body of a field of the name spells
  under : (name : List ℕ) (o : Option ValueMeaning) → HasValue Packages seen name o → (o ≡ None) ⊎ ((v : ValueMeaning) × (field : Field) × SpellsValue Packages (canonical_name name) field.body v × (o ≡ Some v) × (field_named name seen.fields ≡ Some field))
  under name o has = go (field_named name seen.fields) refl
    where
      go : (f : Option Field) → field_named name seen.fields ≡ f → (o ≡ None) ⊎ ((v : ValueMeaning) × (field : Field) × SpellsValue Packages (canonical_name name) field.body v × (o ≡ Some v) × (field_named name seen.fields ≡ Some field))
      go None is = inl (one-under name o None has (none-passing Packages seen passes fields name is))
      go (Some field) is =
          let values = values-passing Packages seen passes in
          let entry : find byte_order (canonical_name name) (entries_of seen.fields) ≡ Some field.body = body_at-entries_of seen.fields (distinct-from seen.fields fields) name ∙ (field-body name seen.fields field is).0 in
          let at = value_at ValueMeaning (SpellsValue Packages) value_text (value_law Packages) (canonical_name name) field.body (entries_of seen.fields) values.0 values.1.spelled entry in
          inr (at.0, field, at.1, one-under name o (Some at.0) has (record { values = values.0; are = values.1; found = sym at.2 }), is)

  -- so it is of the kind of the field
  name-said : (o : Option ValueMeaning) → HasValue Packages seen (codes "Package") o → (name : List ℕ) × (o ≡ Some (NameMeans name))
  unfolding kind_of kind_at known_row
  name-said o has = elim (under (codes "Package") o has) [
    | inl none ↦ absurd (name-there (subst (HasValue Packages seen (codes "Package")) none has))
    | inr s ↦ (s.2.0, s.3 ∙ ap Some s.2.1)
  ]

  architecture-said : (o : Option ValueMeaning) → HasValue Packages seen (codes "Architecture") o → (name : List ℕ) × (o ≡ Some (ArchitectureMeans name))
  unfolding kind_of kind_at known_row
  architecture-said o has = elim (under (codes "Architecture") o has) [
    | inl none ↦ absurd (architecture-there (subst (HasValue Packages seen (codes "Architecture")) none has))
    | inr s ↦ (s.2.0, s.3 ∙ ap Some s.2.1)
  ]

  version-said : (o : Option ValueMeaning) → HasValue Packages seen (codes "Version") o → (version : Version) × (o ≡ Some (VersionMeans version)) × SpellsVersion (version_body seen.fields) version
  unfolding kind_of kind_at known_row
  version-said o has = elim (under (codes "Version") o has) [
    | inl none ↦ absurd (version-there (subst (HasValue Packages seen (codes "Version")) none has))
    | inr s ↦ (s.2.0, s.3 ∙ ap Some s.2.1, rw (ap body_or_nothing s.4) s.2.2)
  ]

  multi_arch-said : (o : Option ValueMeaning) → HasValue Packages seen (codes "Multi-Arch") o → (word : Option MultiArch) × (o ≡ option_map MultiArchMeans word)
  unfolding kind_of kind_at known_row
  multi_arch-said o has = elim (under (codes "Multi-Arch") o has) [
    | inl none ↦ (None, none)
    | inr s ↦ (Some s.2.0, s.3 ∙ ap Some s.2.1)
  ]

  provides-said : (o : Option ValueMeaning) → HasValue Packages seen (codes "Provides") o → (relation : Option Relation) × (o ≡ option_map RelationMeans relation) × IfSome relation IsSpelled
  unfolding kind_of kind_at known_row
  provides-said o has = elim (under (codes "Provides") o has) [
    | inl none ↦ (None, none, tt)
    | inr s ↦ (Some s.2.0, s.3 ∙ ap Some s.2.1, (s.1.body, s.2.2.spells))
  ]

-- what was read of a paragraph is the package that it lists
pub lists-read : (seen : Seen) (name : List ℕ) (version : Version) (architecture : List ℕ) (multi_arch : Option MultiArch) (provisions : List Provision)
    → HasValue Packages seen (codes "Package") (Some (NameMeans name)) → HasValue Packages seen (codes "Version") (Some (VersionMeans version))
    → HasValue Packages seen (codes "Architecture") (Some (ArchitectureMeans architecture)) → HasValue Packages seen (codes "Multi-Arch") (option_map MultiArchMeans multi_arch)
    → HasProvisions seen provisions
    → SeenLists seen (record { name = name; version = version; architecture = architecture; multi_arch = multi_arch; provisions = provisions })
lists-read seen name version architecture multi_arch provisions named versioned of_architecture of_multi_arch provided =
    record {
      values = named.values;
      are = named.are;
      lists = record {
        provides = provided.provides;
        name = sym named.found;
        version = under (codes "Version") (Some (VersionMeans version)) versioned;
        architecture = under (codes "Architecture") (Some (ArchitectureMeans architecture)) of_architecture;
        multi_arch = under (codes "Multi-Arch") (option_map MultiArchMeans multi_arch) of_multi_arch;
        provided = under (codes "Provides") (option_map RelationMeans provided.provides) provided.has;
        provisions = provided.are;
      };
    }
  where
    under : (name : List ℕ) (o : Option ValueMeaning) → (has : HasValue Packages seen name o) → find byte_order (canonical_name name) named.values ≡ o
    under name o has = ap (find byte_order (canonical_name name)) (one_list_of_values seen named.values has.values named.are has.are) ∙ sym has.found

-- the words and relations among what is kept
pub visits-texts : (doc : Doc) (kept : PackageBuilder) (seen : Seen) → VisitsValues KeepsVisited kept doc seen → VisitsValues KeepsTexts kept.texts doc seen
visits-texts doc kept seen keeps = record { passes = keeps.passes; fields = keeps.fields; visited = keeps.visited; all = keeps.all; spelled = keeps.spelled; visits = keeps.visits.texts }

-- what was kept of its fields are the texts of that package
pub record ListsKept (kept : PackageBuilder) (seen : Seen) : Type 0 where
  pub listed : Listed
  pub keeps : KeepsPackage (texts_kept kept) listed
  pub lists : SeenLists seen listed
  pub spells : SpellsVersion (version_body seen.fields) listed.version

-- the value of Provides, if the field is there: a regular relation
abbrev relation_in : Option Relation → Relation
relation_in None = []
relation_in (Some m) = m

provides-regular : (o : Option Relation) → IfSome o IsSpelled → IsRegularRelation (relation_in o)
provides-regular None is = record { groups = tt; ascend = tt }
provides-regular (Some m) is = relation_regular is.0 m is.1

provides-groups : (o : Option Relation) → groups_of (option_map RelationMeans o) ≡ relation_in o
provides-groups None = refl
provides-groups (Some m) = refl

provides-provisions : (o : Option Relation) → provisions_in o ≡ provisions_of (relation_in o)
provides-provisions None = refl
provides-provisions (Some m) = refl

-- the word of Multi-Arch is found again
said-again : (o : Option MultiArch) → multi_arch_of (option_map MultiArchMeans o) ≡ o
said-again None = refl
said-again (Some word) = refl

-- the table has these fields
known : (known_row (codes "Package") < row_count) × (known_row (codes "Version") < row_count) × (known_row (codes "Architecture") < row_count) × (known_row (codes "Provides") < row_count)
unfolding known_row
known = (omega arith, omega arith, omega arith, omega arith)

pub lists-kept : (kept : PackageBuilder) (seen : Seen) → VisitsValues KeepsVisited kept Packages seen → ListsKept kept seen
lists-kept kept seen keeps =
    let shown = shown_of keeps.visited in
    let are = shown-value KeepsVisited kept Packages seen keeps in
    let texts = keeps.visits.texts in
    let passes = keeps.passes in
    let name = name-said seen passes keeps.fields (shown (codes "Package")) (are (codes "Package")) in
    let version = version-said seen passes keeps.fields (shown (codes "Version")) (are (codes "Version")) in
    let architecture = architecture-said seen passes keeps.fields (shown (codes "Architecture")) (are (codes "Architecture")) in
    let word = multi_arch-said seen passes keeps.fields (shown (codes "Multi-Arch")) (are (codes "Multi-Arch")) in
    let provides = provides-said seen passes keeps.fields (shown (codes "Provides")) (are (codes "Provides")) in
    record {
      listed = record {
        name = name.0;
        version = version.0;
        architecture = architecture.0;
        multi_arch = kept.multi_arch;
        provisions = provisions_in provides.0;
      };
      keeps = record {
        relation = relation_in provides.0;
        name = (texts.each (codes "Package") known.0).word ∙ ap word_of name.1;
        version = (texts.each (codes "Version") known.1).word ∙ ap word_of version.1;
        spelled = canonical_text_spells (version_body seen.fields) version.0 version.2;
        architecture = (texts.each (codes "Architecture") known.2).word ∙ ap word_of architecture.1;
        multi_arch = refl;
        provides = (texts.each (codes "Provides") known.3).relation ∙ ap (λ o. relation_text (groups_of o)) provides.1 ∙ ap relation_text (provides-groups provides.0);
        regular = provides-regular provides.0 provides.2;
        provisions = provides-provisions provides.0;
      };
      lists =
          lists-read seen name.0 version.0 architecture.0 kept.multi_arch (provisions_in provides.0)
          (subst (HasValue Packages seen (codes "Package")) name.1 (are (codes "Package")))
          (subst (HasValue Packages seen (codes "Version")) version.1 (are (codes "Version")))
          (subst (HasValue Packages seen (codes "Architecture")) architecture.1 (are (codes "Architecture")))
          (subst (HasValue Packages seen (codes "Multi-Arch")) (word.1 ∙ ap (option_map MultiArchMeans) (sym (keeps.visits.multi_arch ∙ ap multi_arch_of word.1 ∙ said-again word.0))) (are (codes "Multi-Arch")))
          (record { provides = provides.0; has = subst (HasValue Packages seen (codes "Provides")) provides.1 (are (codes "Provides")); are = refl });
      spells = version.2;
    }
