-- The texts of conditions: those that are, and the first that is none.
use Rattle.std.proofs.Common.{◌≡◌, ℕ, ◌+◌, List, [], ◌∷◌, ◌++◌, length, Some, ap, ◌∙◌, arith}
use Rattle.std.specs.Prelude.{Bool}
use Rattle.deb_base.specs.declared.doc.Doc.{Doc}
use Rattle.deb_control.proofs.GivenValues.{pairwise-push}
use Rattle.deb_select.specs.Conditions.{ConditionMeaning}
use Rattle.deb_select.specs.Grammar.{SpellsCondition, condition_refusal}
use Rattle.deb_select.specs.Reads.{Tells}
use Rattle.deb_select.specs.Selections.{HasConditions}
use Rattle.deb_select.specs.declared.reason.ConditionFault.{ConditionFault}
use Rattle.deb_select.specs.declared.reason.ConditionFault.TheVariants.{Bad, Memory}
use Rattle.deb_select.specs.declared.reason.Reason.{Reason}
use Rattle.deb_select.specs.declared.selection.Selection.{Selection}
use Rattle.deb_select.proofs.ReadTexts.{texts_are_read}
use Rattle.debctl_commands.specs.SelectConditions.{AddsCondition, AreConditions, HasTexts, TellsBad, bad_after, bad_from, numbered}

-- without a text there is no condition
pub no_text : (doc : Doc) (negated : Bool) (selection : Selection) → HasConditions doc (record { conditions = []; negated = negated }) selection → HasTexts doc negated [] selection
no_text doc negated selection has = record { conditions = []; spelled = tt; has = has }

-- one more text
pub one_more : (doc : Doc) (negated : Bool) (texts : List (List ℕ)) (text : List ℕ) (selection more : Selection) (has : HasTexts doc negated texts selection) → AddsCondition doc (record { conditions = has.conditions; negated = negated }) text more → HasTexts doc negated (texts ++ text ∷ []) more
one_more doc negated texts text selection more has adds = record {
  conditions = has.conditions ++ adds.added ∷ [];
  spelled = pairwise-push (SpellsCondition doc) texts has.conditions text adds.added has.spelled adds.spelled;
  has = adds.has;
}

-- the first that is none
first_bad : (doc : Doc) (number : ℕ) (before : List (List ℕ)) (conditions : List ConditionMeaning) (text : List ℕ) (after : List (List ℕ)) (refusal : Reason × ℕ) → AreConditions doc before conditions → condition_refusal doc text ≡ Some refusal
    → bad_from doc number ((before ++ text ∷ []) ++ after) ≡ Some (number + length before, refusal)
first_bad doc number [] [] text after refusal are is = ap (λ found. bad_after number found (bad_from doc (number + 1) after)) is ∙ ap (λ n. Some (n, refusal)) (omega arith)
first_bad doc number [] (condition ∷ conditions) text after refusal are is = absurd are
first_bad doc number (first ∷ before) [] text after refusal are is = absurd are
first_bad doc number (first ∷ before) (condition ∷ conditions) text after refusal are is =
    ap (λ found. bad_after number found (bad_from doc (number + 1) ((before ++ text ∷ []) ++ after))) ((texts_are_read doc first).unrefused condition are.0)
    ∙ first_bad doc (number + 1) before conditions text after refusal are.1 is
    ∙ ap (λ n. Some (n, refusal)) (omega arith)

pub tells_bad : (doc : Doc) (number : ℕ) (before : List (List ℕ)) (conditions : List ConditionMeaning) (text : List ℕ) (after : List (List ℕ)) (fault : ConditionFault) → AreConditions doc before conditions → Tells (condition_refusal doc text) fault → number ≡ length before + 1
    → TellsBad doc ((before ++ text ∷ []) ++ after) (numbered number fault)
tells_bad doc number before conditions text after (Bad reason at) are is so =
    first_bad doc 1 before conditions text after (reason, at) are is ∙ ap (λ n. Some (n, (reason, at))) (omega (arith, so))
tells_bad doc number before conditions text after Memory are is so = tt
