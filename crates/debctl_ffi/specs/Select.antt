-- What is answered to a program in C of the paragraphs of a text that are selected: Debian Policy
-- 5.1 and 5.6. Conditions and forms are those of `deb_select`; the numbers are this project's own.
use Rattle.std.specs.Prelude.{◌≡◌, ◌⊎◌, ℕ, ◌+◌, ◌==◌, Bool, true, false, ◌++◌, cond, length, List}
use Rattle.std.specs.Prelude.{[], ◌∷◌, map, Option, None, Some, codes, refl}
use Rattle.deb_base.specs.declared.doc.Doc.{Doc}
use Rattle.deb_base.specs.declared.doc.Doc.TheVariants.{Packages}
use Rattle.deb_base.specs.declared.refusal.Refusal.{Refusal}
use Rattle.deb_control.specs.Documents.{Accepted, Meaning, refusal_of}
use Rattle.deb_control.specs.Pairs.{Pairwise}
use Rattle.deb_syntax.specs.Lines.{paragraphs_of}
use Rattle.deb_select.specs.Conditions.{ConditionMeaning, SelectionMeaning, selected}
use Rattle.deb_select.specs.Forms.{FormMeaning, JsonLines, NoOutput, TableOf, TheseFields}
use Rattle.deb_select.specs.Forms.{WholeParagraphs, form_shown, output}
use Rattle.deb_select.specs.Grammar.{SpellsCondition, condition_refusal, operator_in}
use Rattle.deb_select.specs.Selections.{HasConditions}
use Rattle.deb_select.specs.declared.reason.Reason.{Reason}
use Rattle.deb_select.specs.declared.reason.Reason.TheVariants.{ValueExpected}
use Rattle.deb_select.specs.declared.selection.Selection.{Selection}
use Rattle.debctl_ffi.specs.Answers.{counting, plain, refusing}
use Rattle.debctl_ffi.specs.Buffers.{Buffer}
use Rattle.debctl_ffi.specs.Documents.{IsNoKind, kind_number}
use Rattle.debctl_ffi.specs.Replies.{Replies}
use Rattle.debctl_ffi.specs.declared.answer.Answer.{Answer}
use Rattle.debctl_ffi.specs.declared.select.Asked.{Asked}

-- ---- what is asked

-- the numbers of a call: of the kind, whether the others are selected, and of the form
pub record Numbers : Type 0 where
  pub kind : ℕ
  pub others : ℕ
  pub form : ℕ

abbrev pub numbers : ℕ → ℕ → ℕ → Numbers
numbers kind others form = record { kind = kind; others = others; form = form }

-- whether the paragraphs are selected for which not all conditions hold
abbrev pub others_by : ℕ → Option Bool
others_by number = cond (number == 0) (Some false) (cond (number == 1) (Some true) None)

-- The fields with these names; without a name, whole paragraphs.
abbrev pub fields_or_all : List (List ℕ) → FormMeaning
fields_or_all [] = WholeParagraphs
fields_or_all (name ∷ names) = TheseFields (name ∷ names)

abbrev pub form_by : ℕ → List (List ℕ) → Option FormMeaning
form_by number names =
    cond (number == 0) (Some (fields_or_all names)) (cond (number == 1) (Some (TableOf names))
    (cond (number == 2) (Some JsonLines) (cond (number == 3) (Some NoOutput) None)))

-- The numbers and the names are of this.
pub record AreNumbersOf (numbers : Numbers) (names : List (List ℕ)) (kind : Doc) (negated : Bool)
    (form : FormMeaning) : Type 0 where
  pub kind_is : numbers.kind ≡ kind_number kind
  pub others_is : others_by numbers.others ≡ Some negated
  pub form_is : form_by numbers.form names ≡ Some form

abbrev pub IsAsked : Numbers → List (List ℕ) → Asked → Type 0
IsAsked numbers names asked =
    AreNumbersOf numbers names asked.kind asked.negated (form_shown asked.form)

-- The number is of no form.
abbrev pub IsNoForm : ℕ → Type 0
IsNoForm number = (names : List (List ℕ)) → form_by number names ≡ None

-- Nothing has these numbers.
abbrev pub AsksNothing : Numbers → Type 0
AsksNothing numbers =
    IsNoKind numbers.kind ⊎ (others_by numbers.others ≡ None) ⊎ IsNoForm numbers.form

-- The number is of no form; or it is of one, and memory is out.
abbrev pub FormFails : ℕ → List (List ℕ) → Answer → Type 0
FormFails number names answer =
    ((answer ≡ plain 6) × IsNoForm number)
    ⊎ ((answer ≡ plain 5)
    × ((form : FormMeaning) × (form_by number names ≡ Some form)))

-- Nothing has the numbers; or they are of something, and memory is out.
pub record LacksMemory (numbers : Numbers) (names : List (List ℕ)) (answer : Answer) : Type 0 where
  pub kind : Doc
  pub negated : Bool
  pub form : FormMeaning
  pub asked : AreNumbersOf numbers names kind negated form
  pub is : answer ≡ plain 5

abbrev pub AskingFails : Numbers → List (List ℕ) → Answer → Type 0
AskingFails numbers names answer =
    ((answer ≡ plain 6) × AsksNothing numbers) ⊎ LacksMemory numbers names answer

-- ---- the conditions

-- The texts spell these conditions, in their order.
abbrev pub SpellConditions : Doc → List (List ℕ) → List ConditionMeaning → Type 0
SpellConditions kind = Pairwise (SpellsCondition kind)

-- A selection has the conditions that the texts spell.
pub record HasTexts (kind : Doc) (negated : Bool) (texts : List (List ℕ)) (selection : Selection)
    : Type 0 where
  pub conditions : List ConditionMeaning
  pub spelled : SpellConditions kind texts conditions
  pub has : HasConditions kind (record { conditions = conditions; negated = negated }) selection

-- The text is no condition, for this reason at this offset, and is the one at this place.
pub record RefusesText (kind : Doc) (text : List ℕ) (place : ℕ) (answer : Answer) : Type 0 where
  pub reason : Reason × ℕ
  pub refused : condition_refusal kind text ≡ Some reason
  pub is : answer ≡ counting 3 place

-- The texts before one spell conditions, and it spells none.
pub record RefusesCondition (kind : Doc) (texts : List (List ℕ)) (answer : Answer) : Type 0 where
  pub earlier : List (List ℕ)
  pub text : List ℕ
  pub later : List (List ℕ)
  pub whole : texts ≡ earlier ++ text ∷ later
  pub conditions : List ConditionMeaning
  pub spelled : SpellConditions kind earlier conditions
  pub refuses : RefusesText kind text (length earlier + 1) answer

-- Or memory is out.
abbrev pub StopsAt : Doc → List ℕ → ℕ → Answer → Type 0
StopsAt kind text place answer = RefusesText kind text place answer ⊎ (answer ≡ plain 5)

abbrev pub StopsReading : Doc → List (List ℕ) → Answer → Type 0
StopsReading kind texts answer = RefusesCondition kind texts answer ⊎ (answer ≡ plain 5)

-- ---- the text

-- how many paragraphs are selected, as an answer: 1 if none is
abbrev pub some_selected : ℕ → Answer
some_selected count = counting (cond (count == 0) 1 0) count

-- The text is accepted, and this is written in this form of its paragraphs that are selected.
pub record WritesIn (kind : Doc) (selection : SelectionMeaning) (form : FormMeaning)
    (text : List ℕ) (answer : Answer) (bytes : List ℕ) : Type 0 where
  pub meaning : Meaning
  pub accepted : Accepted kind text meaning
  pub bytes_are : bytes ≡ output form false selection meaning (paragraphs_of text)
  pub is : answer ≡ some_selected (length (selected selection meaning))

-- The text is refused.
pub record RefusesSelect (kind : Doc) (text : List ℕ) (answer : Answer) : Type 0 where
  pub refusal : Refusal
  pub refused : refusal_of kind text ≡ Some refusal
  pub is : answer ≡ refusing 2 refusal

-- ---- answers

-- What is asked of the text is found.
pub record FindsIn (asked : Asked) (conditions : List (List ℕ)) (text : List ℕ) (answer : Answer)
    (bytes : List ℕ) : Type 0 where
  pub meanings : List ConditionMeaning
  pub spelled : SpellConditions asked.kind conditions meanings
  pub writes : WritesIn asked.kind (record { conditions = meanings; negated = asked.negated })
      (form_shown asked.form) text answer bytes

-- The conditions are good, and so is the text.
pub record FindsSelected (numbers : Numbers) (conditions names : List (List ℕ)) (text : List ℕ)
    (answer : Answer) (bytes : List ℕ) : Type 0 where
  pub kind : Doc
  pub selection : SelectionMeaning
  pub form : FormMeaning
  pub asked : AreNumbersOf numbers names kind selection.negated form
  pub spelled : SpellConditions kind conditions selection.conditions
  pub writes : WritesIn kind selection form text answer bytes

-- The conditions are good, and the text is refused.
pub record RefusesAfter (kind : Doc) (conditions : List (List ℕ)) (text : List ℕ)
    (answer : Answer) : Type 0 where
  pub meanings : List ConditionMeaning
  pub spelled : SpellConditions kind conditions meanings
  pub refuses : RefusesSelect kind text answer

-- A condition is refused, or memory is out; or the text is refused.
abbrev pub StopsSelect : Doc → List (List ℕ) → List ℕ → Answer → Type 0
StopsSelect kind conditions text answer =
    StopsReading kind conditions answer ⊎ RefusesAfter kind conditions text answer

-- The same where the numbers are of these.
pub record StopsAsked (numbers : Numbers) (conditions names : List (List ℕ)) (text : List ℕ)
    (answer : Answer) : Type 0 where
  pub kind : Doc
  pub negated : Bool
  pub form : FormMeaning
  pub asked : AreNumbersOf numbers names kind negated form
  pub stops : StopsSelect kind conditions text answer

abbrev pub SelectFails : Numbers → List (List ℕ) → List (List ℕ) → List ℕ → Answer → Type 0
SelectFails numbers conditions names text answer =
    AskingFails numbers names answer ⊎ StopsAsked numbers conditions names text answer

abbrev pub AnswersSelect : Numbers → List (List ℕ) → List (List ℕ) → List ℕ → Buffer ℕ → Answer
    → Type 0
AnswersSelect numbers conditions names text =
    Replies (FindsSelected numbers conditions names text)
    (SelectFails numbers conditions names text)

-- ---- worked cases

worked-others : map others_by (0 ∷ 1 ∷ 2 ∷ []) ≡ Some false ∷ Some true ∷ None ∷ []
worked-others = refl

worked-forms : (map (λ number. form_by number []) (0 ∷ 1 ∷ 2 ∷ 3 ∷ 4 ∷ [])
    ≡ Some WholeParagraphs ∷ Some (TableOf []) ∷ Some JsonLines ∷ Some NoOutput ∷ None ∷ [])
    × (form_by 0 (codes "a" ∷ []) ≡ Some (TheseFields (codes "a" ∷ [])))
    × (form_by 1 (codes "a" ∷ []) ≡ Some (TableOf (codes "a" ∷ [])))
    × (form_by 2 (codes "a" ∷ []) ≡ Some JsonLines)
worked-forms = (refl, refl, refl, refl)

worked-counts : (some_selected 0 ≡ record { status = 1; code = 0; line = 0; count = 0 })
    × (some_selected 2 ≡ record { status = 0; code = 0; line = 0; count = 2 })
worked-counts = (refl, refl)

-- the second of two conditions lacks a value
worked-place : (condition : ConditionMeaning) → SpellsCondition Packages (codes "Package") condition
    → RefusesCondition Packages (codes "Package" ∷ codes "Version =" ∷ [])
    (record { status = 3; code = 0; line = 0; count = 2 })
unfolding operator_in
worked-place condition spelled = record {
  earlier = codes "Package" ∷ [];
  text = codes "Version =";
  later = [];
  whole = refl;
  conditions = condition ∷ [];
  spelled = (spelled, tt);
  refuses = record { reason = (ValueExpected, 9); refused = refl; is = refl };
}
