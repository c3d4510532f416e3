-- What is visited of a paragraph while it is checked, and how long its canonical text is. Debian
-- Policy 5.1; the canonical text is this project's own.
use Rattle.std.specs.Prelude.{◌≡◌, ◌-◌, ◌^◌, ℕ, List, [], ◌∷◌, ◌++◌, length, min, map, Option, None, Some, IsTrue, Bool, true, Result, Ok, IfOk, cond, codes, refl}
use Rattle.std.specs.List.{AllByRecursion, sum_by}
use Rattle.deb_base.specs.Names.{canonical_name}
use Rattle.deb_base.specs.declared.fault.Fault.{Fault}
use Rattle.deb_syntax.specs.Answers.{Seen}
use Rattle.deb_syntax.specs.Fields.{Field, are_fields}
use Rattle.deb_syntax.specs.Raw.{field_of}
use Rattle.deb_syntax.specs.declared.raw.RawField.{RawField}
use Rattle.deb_base.specs.declared.doc.Doc.{Doc}
use Rattle.deb_base.specs.declared.kind.Kind.{Kind}
use Rattle.deb_field.specs.Values.{ValueMeaning, NameMeans, NumberMeans, SpellsKind, SpellsValue, value_text, FlagMeans}
use Rattle.deb_field.specs.ValueMeanings.{value_meaning}
use Rattle.deb_field.specs.declared.value.Value.{Value}
use Rattle.deb_control.specs.Canonical.{field_text}
use Rattle.deb_control.specs.Checking.{CheckedMoment, ChecksOn, is_judged, passing_seen}
use Rattle.deb_control.specs.Documents.{rules_of}
use Rattle.deb_control.specs.Finding.{given_answer}
use Rattle.deb_control.specs.Refusals.{value_refusal_of}
use Rattle.deb_control.specs.Paragraphs.{flag_field}
use Rattle.deb_field.specs.declared.flag.Flag.TheVariants.{Yes}

-- a field with its value
abbrev pub Visit : Type 0
Visit = Field × ValueMeaning

abbrev pub visit_of : RawField → Value → Visit
visit_of field value = (field_of field, value_meaning value)

-- The field's body spells the value.
abbrev pub IsVisit : Doc → Visit → Type 0
IsVisit doc visit = SpellsValue doc (canonical_name visit.0.name) visit.0.body visit.1

abbrev pub fields_visited : List Visit → List Field
fields_visited visited = map (λ visit. visit.0) visited

-- the field with the canonical text of the value instead of its body
abbrev pub canonical_visit : Visit → Field
canonical_visit visit =
    record { name = visit.0.name; line = visit.0.line; body = value_text visit.1 }

-- the canonical text of the field, and how long those of fields are together
abbrev pub visit_text : Visit → List ℕ
visit_text visit = field_text (canonical_name visit.0.name, value_text visit.1)

abbrev pub texts_length : List Visit → ℕ
texts_length visited = sum_by (λ visit. length (visit_text visit)) visited

-- what a count of bytes reaches at most
abbrev pub most : ℕ
most = 2 ^ 64 - 1

-- One more field of the kind was visited, with the value that its body spells, and its canonical
-- text has n bytes, as far as a count reaches.
pub record VisitsField {V : Type 0} (Visited : V → List Visit → Type 0) (old new : V) (kind : Kind)
    (field : Field) (n : ℕ) : Type 0 where
  pub value : ValueMeaning
  pub spells : SpellsKind kind field.body value
  pub measured : n ≡ min (length (visit_text (field, value))) most
  pub visits : (visited : List Visit) → Visited old visited
      → Visited new (visited ++ (field, value) ∷ [])

-- Each of these fields was visited, in file order, with the value that its body spells, and their
-- canonical texts have n bytes, as far as a count reaches.
pub record VisitsFields {V : Type 0} (Visited : V → List Visit → Type 0) (visitor : V) (doc : Doc)
    (fields : List Field) (n : ℕ) : Type 0 where
  pub visited : List Visit
  pub all : fields_visited visited ≡ fields
  pub spelled : AllByRecursion (IsVisit doc) visited
  pub good : value_refusal_of (rules_of doc) fields ≡ None
  pub added : n ≡ min (texts_length visited) most
  pub visits : Visited visitor visited

-- The paragraph passes by itself, no two of its fields have one name, and each of them was visited,
-- in file order, with the value that its body spells.
pub record VisitsValues {V : Type 0} (Visited : V → List Visit → Type 0) (visitor : V) (doc : Doc)
    (seen : Seen) : Type 0 where
  pub passes : IsTrue (is_judged doc seen)
  pub fields : IsTrue (are_fields seen.fields)
  pub visited : List Visit
  pub all : fields_visited visited ≡ seen.fields
  pub spelled : AllByRecursion (IsVisit doc) visited
  pub visits : Visited visitor visited

-- a paragraph was found, and this holds of it
abbrev pub HoldsFound : (Seen → Type 0) → Option Seen → Type 0
HoldsFound Holds None = ⊥
HoldsFound Holds (Some seen) = Holds seen

-- A call that goes on after the next paragraph, and answers whether there is one; if there is, it
-- is the one that was given last, and this is kept of it.
pub record PassesKeeping (Keeps : Seen → Type 0) (doc : Doc) (before : CheckedMoment)
    (result : Result Bool Fault) (after : CheckedMoment) : Type 0 where
  pub given : Seen
  pub checks : ChecksOn doc before (given_answer (passing_seen doc given) result) after
  pub current : IfOk result (λ gives. after.state.current ≡ cond gives (Some given) None)
  pub keeps : result ≡ Ok true → Keeps given

-- its fields were visited
abbrev pub PassesVisiting : {V : Type 0} → (V → List Visit → Type 0) → V → Doc → CheckedMoment
    → Result Bool Fault → CheckedMoment → Type 0
PassesVisiting Visited visitor doc before result after =
    PassesKeeping (VisitsValues Visited visitor doc) doc before result after

-- for the worked cases: two fields of one name
abbrev two_visits : List Visit
two_visits =
    (record { name = codes "Package"; line = 1; body = codes "bb" }, NameMeans (codes "bb"))
    ∷ (record { name = codes "PACKAGE"; line = 2; body = codes "aa" }, NameMeans (codes "aa")) ∷ []

field_with_value : visit_of flag_field.raw flag_field.value
    ≡ (record { name = codes "eSSENTIAL"; line = 3; body = codes "yes" }, FlagMeans Yes)
unfolding flag_field
field_with_value = refl

-- the value replaces the body, and not the name as spelled
value_for_body : canonical_visit
    (record { name = codes "sIZE"; line = 3; body = codes "007" }, NumberMeans 7)
    ≡ record { name = codes "sIZE"; line = 3; body = codes "7" }
value_for_body = refl

texts_of_visits : (map visit_text two_visits
    ≡ codes "Package: bb\n" ∷ codes "Package: aa\n" ∷ [])
    × (map canonical_visit two_visits ≡ fields_visited two_visits)
    × (texts_length two_visits ≡ 24) × (most ≡ 18446744073709551615)
texts_of_visits = (refl, refl, refl, refl)
