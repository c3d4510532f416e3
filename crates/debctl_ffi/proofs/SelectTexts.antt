-- The conditions that are read one after another, and what is answered then.
use Rattle.std.proofs.Common.{◌≡◌, ◌⊎◌, ◌<◌, ◌+◌, ◌∙◌, ℕ, Bool, List, [], ◌∷◌, ◌++◌, drop, get_or, length, take, ap, arith, inl, inr, subst, sym}
use Rattle.std.specs.Borrow.{Bor}
use Rattle.std.proofs.lemmas.List.{drop_more, length-map, length-take-le, map-append, take-append-drop}
use Rattle.std.specs.Prelude.{Some}
use Rattle.deb_base.specs.Faults.{MatchFault}
use Rattle.deb_base.specs.declared.doc.Doc.{Doc}
use Rattle.deb_base.specs.declared.fault.Fault.{Fault}
use Rattle.deb_base.specs.declared.fault.Fault.TheVariants.{Refused}
use Rattle.deb_base.specs.declared.refusal.Refusal.{Refusal}
use Rattle.deb_control.specs.Documents.{refusal_of}
use Rattle.deb_control.proofs.GivenValues.{pairwise-push}
use Rattle.deb_relation.specs.Views.{names_of}
use Rattle.deb_select.specs.Conditions.{ConditionMeaning, SelectionMeaning}
use Rattle.deb_select.specs.Forms.{form_shown}
use Rattle.deb_select.specs.Grammar.{SpellsCondition}
use Rattle.deb_select.specs.Selections.{HasConditions}
use Rattle.deb_select.specs.declared.selection.Selection.{Selection}
use Rattle.debctl_ffi.specs.Answers.{plain, refusing}
use Rattle.debctl_ffi.specs.Select.{FindsIn, FindsSelected, HasTexts, IsAsked, Numbers, RefusesSelect, SelectFails, StopsAt, StopsReading, StopsSelect, WritesIn}
use Rattle.debctl_ffi.specs.declared.answer.Answer.{Answer}
use Rattle.debctl_ffi.specs.declared.select.Asked.{Asked}
use Rattle.debctl_ffi.proofs.FirstTexts.{first_texts, one_more}

-- one more condition was added
pub adds_one : (kind : Doc) (negated : Bool) (texts : List (List ℕ)) (text : List ℕ) (added : ConditionMeaning) (before after : Selection)
    → (has : HasTexts kind negated texts before) → SpellsCondition kind text added
    → HasConditions kind (record { conditions = has.conditions ++ added ∷ []; negated = negated }) after
    → HasTexts kind negated (texts ++ text ∷ []) after
adds_one kind negated texts text added before after has spells now = record {
  conditions = has.conditions ++ added ∷ [];
  spelled = pairwise-push (SpellsCondition kind) texts has.conditions text added has.spelled spells;
  has = now;
}

-- one more text was read
pub reads_one_more : (kind : Doc) (negated : Bool) (texts : List (Bor (List ℕ))) (n : ℕ) (d : Bor (List ℕ)) (selection : Selection) → n < length texts
    → HasTexts kind negated (first_texts n texts ++ (get_or texts n d).now ∷ []) selection → HasTexts kind negated (first_texts (n + 1) texts) selection
reads_one_more kind negated texts n d selection less has = rw (one_more texts n d less) has

-- one is no condition, or memory is out
pub stops_at_text : (kind : Doc) (negated : Bool) (texts : List (Bor (List ℕ))) (n : ℕ) (d : Bor (List ℕ)) (selection : Selection) (answer : Answer)
    → n < length texts → HasTexts kind negated (first_texts n texts) selection → StopsAt kind (get_or texts n d).now (n + 1) answer
    → StopsReading kind (names_of texts) answer
stops_at_text kind negated texts n d selection answer less has (inl one) =
    let long : length (first_texts n texts) ≡ n = length-map (take n texts) (λ t. t.now) ∙ length-take-le n texts (omega (arith, less)) in
    inl (record {
      earlier = first_texts n texts;
      text = (get_or texts n d).now;
      later = names_of (drop (n + 1) texts);
      whole =
          ap names_of (sym (take-append-drop n texts)) ∙ map-append (λ t. t.now) (take n texts) (drop n texts)
          ∙ ap (λ l. first_texts n texts ++ names_of l) (drop_more texts n d less);
      conditions = has.conditions;
      spelled = has.spelled;
      refuses = rw long one;
    })
stops_at_text kind negated texts n d selection answer less has (inr memory) = inr memory

-- ---- the text

pub refuses_text : (kind : Doc) (text : List ℕ) (Says : Refusal → Type 0) (fault : Fault) (refusal : Refusal) (answer : Answer)
    → ((told : Refusal) → Says told → refusal_of kind text ≡ Some told) → fault ≡ Refused refusal → MatchFault fault Says (Unit {0}) (Unit {0}) (Unit {0})
    → answer ≡ refusing 2 refusal → RefusesSelect kind text answer
refuses_text kind text Says fault refusal answer refused is says answered = record {
  refusal = refusal;
  refused = refused refusal (subst (λ f. MatchFault f Says (Unit {0}) (Unit {0}) (Unit {0})) is says);
  is = answered;
}

pub finds_in : (asked : Asked) (conditions : List (List ℕ)) (text : List ℕ) (selection : Selection) (answer : Answer) (bytes : List ℕ)
    → HasTexts asked.kind asked.negated conditions selection
    → ((kind : Doc) (meaning : SelectionMeaning) → HasConditions kind meaning selection → WritesIn kind meaning (form_shown asked.form) text answer bytes)
    → FindsIn asked conditions text answer bytes
finds_in asked conditions text selection answer bytes has writes =
    record { meanings = has.conditions; spelled = has.spelled; writes = writes asked.kind (record { conditions = has.conditions; negated = asked.negated }) has.has }

stops_by : (asked : Asked) (conditions : List (List ℕ)) (text : List ℕ) (selection : Selection) (answer : Answer)
    → HasTexts asked.kind asked.negated conditions selection → RefusesSelect asked.kind text answer ⊎ (answer ≡ plain 5)
    → StopsSelect asked.kind conditions text answer
stops_by asked conditions text selection answer has (inl refuses) = inr (record { meanings = has.conditions; spelled = has.spelled; refuses = refuses })
stops_by asked conditions text selection answer has (inr memory) = inl (inr memory)

pub stops_in : (asked : Asked) (conditions : List (List ℕ)) (text : List ℕ) (selection : Selection) (answer : Answer)
    → HasTexts asked.kind asked.negated conditions selection
    → ((kind : Doc) (meaning : SelectionMeaning) → HasConditions kind meaning selection → RefusesSelect kind text answer ⊎ (answer ≡ plain 5))
    → StopsSelect asked.kind conditions text answer
stops_in asked conditions text selection answer has stops =
    stops_by asked conditions text selection answer has (stops asked.kind (record { conditions = has.conditions; negated = asked.negated }) has.has)

-- ---- answers

pub finds_as : (numbers : Numbers) (conditions names : List (List ℕ)) (text : List ℕ) (asked : Asked) (answer : Answer) (bytes : List ℕ)
    → IsAsked numbers names asked → FindsIn asked conditions text answer bytes → FindsSelected numbers conditions names text answer bytes
finds_as numbers conditions names text asked answer bytes is finds = record {
  kind = asked.kind;
  selection = record { conditions = finds.meanings; negated = asked.negated };
  form = form_shown asked.form;
  asked = is;
  spelled = finds.spelled;
  writes = finds.writes;
}

pub stops_as : (numbers : Numbers) (conditions names : List (List ℕ)) (text : List ℕ) (asked : Asked) (answer : Answer)
    → IsAsked numbers names asked → StopsSelect asked.kind conditions text answer → SelectFails numbers conditions names text answer
stops_as numbers conditions names text asked answer is stops =
    inr (record { kind = asked.kind; negated = asked.negated; form = form_shown asked.form; asked = is; stops = stops })
