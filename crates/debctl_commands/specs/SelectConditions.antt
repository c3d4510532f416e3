-- The conditions of `select`, and the usage error for a text that is none. What a condition is, is
-- defined in `deb_select`; the error is this project's own.
use Rattle.std.specs.Prelude.{◌≡◌, ◌⊎◌, ℕ, ◌+◌, Bool, true, false, List, [], ◌∷◌, ◌++◌}
use Rattle.std.specs.Prelude.{Option, None, Some, codes, refl}
use Rattle.std.specs.Fmt.{decimal, digits}
use Rattle.std.specs.List.{concat}
use Rattle.deb_base.specs.declared.doc.Doc.{Doc}
use Rattle.deb_base.specs.declared.doc.Doc.TheVariants.{Packages}
use Rattle.deb_base.specs.declared.fault.Fault.TheVariants as fault
use Rattle.deb_control.specs.Pairs.{Pairwise}
use Rattle.deb_select.specs.Conditions.{ConditionMeaning, SelectionMeaning}
use Rattle.deb_select.specs.Grammar.{SpellsCondition, condition_refusal, operator_in}
use Rattle.deb_select.specs.Reasons.{reason_text}
use Rattle.deb_select.specs.Selections.{HasConditions}
use Rattle.deb_select.specs.declared.reason.ConditionFault.{ConditionFault}
use Rattle.deb_select.specs.declared.reason.ConditionFault.TheVariants as condition
use Rattle.deb_select.specs.declared.reason.Reason.{Reason}
use Rattle.deb_select.specs.declared.reason.Reason.TheVariants.{NameExpected, OperatorBad}
use Rattle.deb_select.specs.declared.reason.Reason.TheVariants.{ValueExpected}
use Rattle.deb_select.specs.declared.selection.Selection.{Selection}
use Rattle.debctl_args.specs.declared.jobs.Picks.{Picks}
use Rattle.debctl_args.specs.declared.jobs.Picks.TheVariants.{Matching, Others}
use Rattle.debctl_commands.specs.Reporting.{ReportsFault, ReportsFront, ReportsWhole}
use Rattle.debctl_commands.specs.declared.select_conditions.ConditionsFault.{ConditionsFault}
use Rattle.debctl_commands.specs.declared.select_conditions.ConditionsFault.TheVariants.{Bad}
use Rattle.debctl_commands.specs.declared.select_conditions.ConditionsFault.TheVariants.{Memory}

abbrev pub is_negated : Picks → Bool
is_negated Matching = false
is_negated Others = true

-- The texts spell these conditions on documents of a kind, in order.
abbrev pub AreConditions : Doc → List (List ℕ) → List ConditionMeaning → Type 0
AreConditions doc texts conditions = Pairwise (SpellsCondition doc) texts conditions

-- A selection has the conditions that the texts spell.
pub record HasTexts (doc : Doc) (negated : Bool) (texts : List (List ℕ)) (selection : Selection)
    : Type 0 where
  pub conditions : List ConditionMeaning
  pub spelled : AreConditions doc texts conditions
  pub has : HasConditions doc (record { conditions = conditions; negated = negated }) selection

-- One more condition was added, which the text spells.
pub record AddsCondition (doc : Doc) (meaning : SelectionMeaning) (text : List ℕ)
    (selection : Selection) : Type 0 where
  pub added : ConditionMeaning
  pub spelled : SpellsCondition doc text added
  pub has : HasConditions doc
      (record { conditions = meaning.conditions ++ added ∷ []; negated = meaning.negated })
      selection

-- ---- a text that is no condition

-- the first of some texts that is none: its number, where the first one has this number, and its
-- refusal
abbrev pub bad_after : ℕ → Option (Reason × ℕ) → Option (ℕ × (Reason × ℕ))
    → Option (ℕ × (Reason × ℕ))
bad_after number (Some refusal) later = Some (number, refusal)
bad_after number None later = later

abbrev pub bad_from : Doc → ℕ → List (List ℕ) → Option (ℕ × (Reason × ℕ))
bad_from doc number [] = None
bad_from doc number (text ∷ texts) =
    bad_after number (condition_refusal doc text) (bad_from doc (number + 1) texts)

abbrev pub numbered : ℕ → ConditionFault → ConditionsFault
numbered number (condition.Bad reason at) = Bad number reason at
numbered number condition.Memory = Memory

-- The fault is that of the first text that is none; out of memory says nothing of the texts.
abbrev pub TellsBad : Doc → List (List ℕ) → ConditionsFault → Type 0
TellsBad doc texts (Bad number reason at) = bad_from doc 1 texts ≡ Some (number, (reason, at))
TellsBad doc texts Memory = Unit {0}

-- the usage error; columns count from 1
abbrev pub condition_line : ℕ → Reason → ℕ → List ℕ
condition_line number reason at =
    concat (codes "usage: --where " ∷ decimal number ∷ codes ", column " ∷ decimal (at + 1)
    ∷ codes ": " ∷ reason_text reason ∷ codes "\n" ∷ [])

-- It is reported with status 3, as any usage error.
abbrev pub ReportsConditions : {E : Type 0} → (E → Option (List ℕ)) → (E → ℕ) → E → E
    → ConditionsFault → ℕ → Type 0
ReportsConditions held failures old new (Bad number reason at) status =
    ReportsWhole held failures old new (condition_line number reason at) 3 status
    ⊎ ReportsFront held failures old new (condition_line number reason at) status
ReportsConditions held failures old new Memory status =
    ReportsFault held failures old new fault.Memory status

-- ---- worked cases

picks_negated : (is_negated Matching ≡ false) × (is_negated Others ≡ true)
picks_negated = (refl, refl)

-- the second text has no value, and the third one no name; a number counts from that of the first
bad_texts : (bad_from Packages 1 (codes "Package" ∷ codes "Version =" ∷ [] ∷ [])
    ≡ Some (2, (ValueExpected, 9)))
    × (bad_from Packages 4 (codes "Package" ∷ [] ∷ []) ≡ Some (5, (NameExpected, 0)))
    × (bad_from Packages 1 (codes "Package" ∷ []) ≡ None) × (bad_from Packages 1 [] ≡ None)
unfolding operator_in
bad_texts = (refl, refl, refl, refl)

line_of_bad : condition_line 2 ValueExpected 9
    ≡ codes "usage: --where 2, column 10: " ++ (reason_text ValueExpected ++ codes "\n")
unfolding digits reason_text
line_of_bad = refl

numbers_of_faults : (numbered 2 (condition.Bad OperatorBad 8) ≡ Bad 2 OperatorBad 8)
    × (numbered 2 condition.Memory ≡ Memory)
numbers_of_faults = (refl, refl)
