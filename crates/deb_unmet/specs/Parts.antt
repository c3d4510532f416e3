-- What is kept of the paragraphs of a file until its packages are known. Debian Policy 5.1; what is
-- kept is this project's own.
use Rattle.std.specs.Prelude.{◌≡◌, ℕ, Bool, true, false, List, [], ◌∷◌, map, codes, refl}
use Rattle.deb_base.specs.Literals.{vector}
use Rattle.deb_base.specs.declared.doc.Doc.TheVariants as docs
use Rattle.deb_syntax.specs.Answers.{Seen}
use Rattle.deb_syntax.specs.Fields.{Field}
use Rattle.deb_field.specs.Values.{ValueMeaning}
use Rattle.deb_control.specs.CheckedStates.{passing_judged}
use Rattle.deb_control.specs.FieldTexts.{KeepsTexts}
use Rattle.deb_control.specs.Pairs.{Pairwise}
use Rattle.deb_control.specs.Paragraphs.{AreValuesOf}
use Rattle.deb_control.specs.ValueFiles.{ValueEntries}
use Rattle.deb_control.specs.Visiting.{VisitsValues}
use Rattle.deb_control.specs.declared.checked_view.CheckedView.{CheckedView}
use Rattle.deb_control.specs.declared.field_texts.FieldTexts.{FieldTexts}
use Rattle.deb_index.specs.Listed.{Listed}
use Rattle.deb_index.specs.Members.{KeepsMembers, ListsMembers, doc_of, has_values}
use Rattle.deb_index.specs.declared.members.Members.{Members}
use Rattle.deb_index.specs.declared.members.Members.TheVariants.{All}
use Rattle.deb_unmet.specs.Own.{OwnAsks}
use Rattle.deb_unmet.specs.declared.own_lines.Part.{Part}
use Rattle.deb_unmet.specs.declared.own_lines.Part.TheVariants.{Member, Other}

-- what is kept of a paragraph says whether it is a member
abbrev pub is_of_member : {Kept : Type 0} → Part Kept → Bool
is_of_member (Member kept) = true
is_of_member (Other text) = false

-- The text is what the line of a paragraph with these values has, whatever is asked.
abbrev pub IsOther : {Lines : Type 0} → (Lines → OwnAsks) → ValueEntries ValueMeaning → List ℕ
    → Type 0
IsOther {Lines} asks values text = (lines : Lines) → text ≡ (asks lines).others values

-- This is kept of a paragraph with these fields, which have these values. `Holds` says what is kept
-- of a member, and `IsText` what its line has of another.
abbrev pub HoldsPart : {Kept : Type 0} → Members
    → (List Field → ValueEntries ValueMeaning → Kept → Type 0)
    → (ValueEntries ValueMeaning → List ℕ → Type 0) → List Field → ValueEntries ValueMeaning
    → Part Kept → Type 0
HoldsPart members Holds IsText fields values (Member kept) =
    (has_values members values ≡ true) × Holds fields values kept
HoldsPart members Holds IsText fields values (Other text) =
    (has_values members values ≡ false) × IsText values text.items

-- This is kept of a paragraph that passes.
pub record IsPart {Kept : Type 0} (members : Members)
    (Holds : List Field → ValueEntries ValueMeaning → Kept → Type 0)
    (IsText : ValueEntries ValueMeaning → List ℕ → Type 0) (seen : Seen) (part : Part Kept) : Type 0
  where
    pub values : ValueEntries ValueMeaning
    pub are : AreValuesOf (doc_of members) seen values
    pub holds : HoldsPart members Holds IsText seen.fields values part

-- This is kept of these paragraphs.
abbrev pub AreParts : {Kept : Type 0} → Members
    → (List Field → ValueEntries ValueMeaning → Kept → Type 0)
    → (ValueEntries ValueMeaning → List ℕ → Type 0) → List (Part Kept) → List Seen → Type 0
AreParts members Holds IsText parts given = Pairwise (IsPart members Holds IsText) given parts

-- The file is accepted, this is kept of its paragraphs, and these are the packages that its lines
-- are over.
pub record ReadsOver (own : OwnAsks) (Keeps : List Seen → Type 0) (text : List ℕ)
    (packages : List Listed) : Type 0 where
  pub listed : List Listed
  pub lists : ListsMembers own.members text listed
  pub over : packages ≡ own.over listed
  pub keeps : KeepsMembers own.members Keeps text

-- The paragraph of a status file passes with these values, and the texts are of them.
pub record GivesValues (paragraph : CheckedView) (texts : FieldTexts)
    (values : ValueEntries ValueMeaning) : Type 0 where
  pub visits : VisitsValues KeepsTexts texts docs.Status (passing_judged paragraph).seen
  pub are : AreValuesOf docs.Status (passing_judged paragraph).seen values

worked-members : map is_of_member (Member (codes "a") ∷ Other (vector [] refl) ∷ [])
    ≡ true ∷ false ∷ []
worked-members = refl

worked-other : (asks : OwnAsks) → codes "a" ≡ asks.others []
    → IsOther (λ (lines : ℕ). asks) [] (codes "a")
worked-other asks is lines = is

-- each paragraph of an index is a member; nothing is kept of no paragraph, and none is left out
worked-parts : {Kept : Type 0} (Holds : List Field → ValueEntries ValueMeaning → Kept → Type 0)
    (IsText : ValueEntries ValueMeaning → List ℕ → Type 0) (kept : Kept) (part : Part Kept)
    → (Holds [] [] kept → HoldsPart All Holds IsText [] [] (Member kept))
    × AreParts All Holds IsText [] [] × (AreParts All Holds IsText (part ∷ []) [] → ⊥)
worked-parts Holds IsText kept part = (λ holds. (refl, holds), tt, λ none. none)
