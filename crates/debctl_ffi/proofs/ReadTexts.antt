-- A text is a relation or a version exactly if nothing is wrong in it.
use Rattle.std.proofs.Common.{◌≡◌, ℕ, List, Option, Some, None, ap, inl, inr, refl}
use Rattle.std.specs.Prelude.{codes}
use Rattle.deb_explain.specs.Causes.{stopped_at, word_cause}
use Rattle.deb_explain.specs.Texts.{word_text}
use Rattle.deb_explain.specs.declared.cause.Cause.{Cause}
use Rattle.deb_explain.specs.declared.cause.Cause.TheVariants as cause
use Rattle.deb_explain.specs.declared.cause.Word.{Word}
use Rattle.deb_explain.specs.declared.cause.Word.TheVariants.{Relation, Version}
use Rattle.std.specs.Option.{option_map}
use Rattle.deb_version.specs.declared.fault.BadVersion.{BadVersion}
use Rattle.deb_relation.specs.declared.fault.Reason.{Reason}
use Rattle.deb_version.specs.Faults.{first_fault}
use Rattle.deb_version.specs.Grammar.{meaning_of_components}
use Rattle.deb_version.specs.Places.{components_in}
use Rattle.deb_version.proofs.FaultLemmas.{no_fault-from_spells, spells-from_no_fault}
use Rattle.deb_relation.specs.Faults.{first_fault as first_stop}
use Rattle.deb_relation.proofs.Faultless.{spells_where_faultless}
use Rattle.debctl_ffi.specs.Answers.{counting, refusing}
use Rattle.debctl_ffi.specs.ExplainedTexts.{ExplainedAs, IsNotRead, IsRead, refusal_as}
use Rattle.debctl_ffi.specs.declared.answer.Answer.{Answer}

unstopped : (stop : Option (Reason × ℕ)) → stopped_at stop ≡ None → stop ≡ None
unstopped None e = refl
unstopped (Some stop) e = cc

unmapped : (fault : Option BadVersion) → option_map (λ f. cause.Version f 0) fault ≡ None → fault ≡ None
unmapped None e = refl
unmapped (Some fault) e = cc

stops_not : (found : Option Cause) (why : Cause) → found ≡ None → found ≡ Some why → ⊥
stops_not found why none some = cc

read_as : (word : Word) (text : List ℕ) → word_cause word text ≡ None → IsRead word text
read_as Relation text none = (spells_where_faultless text).1 (unstopped (first_stop text) none)
read_as Version text none =
    (meaning_of_components (components_in text), spells-from_no_fault text (unmapped (first_fault text) none))

not_read : (word : Word) (text : List ℕ) (why : Cause) → word_cause word text ≡ Some why → IsNotRead word text
not_read Relation text why some =
    λ relation spelled. stops_not (word_cause Relation text) why (ap stopped_at ((spells_where_faultless text).0 (relation, spelled))) some
not_read Version text why some =
    λ version spelled. stops_not (word_cause Version text) why (ap (option_map (λ f. cause.Version f 0)) (no_fault-from_spells text version spelled)) some

pub accepted_as : (word : Word) (text : List ℕ) (answer : Answer) (bytes : List ℕ) → word_cause word text ≡ None
    → answer ≡ counting 0 0 → bytes ≡ codes "ok\n" → ExplainedAs word text answer bytes
accepted_as word text answer bytes none is line = inl (record { read = read_as word text none; is = is; line = line })

pub refused_as : (word : Word) (text : List ℕ) (why : Cause) (answer : Answer) (bytes : List ℕ) → word_cause word text ≡ Some why
    → answer ≡ refusing 2 (refusal_as word) → bytes ≡ word_text word why text → ExplainedAs word text answer bytes
refused_as word text why answer bytes some is lines =
    inr (record { why = why; wrong = some; not_read = not_read word text why some; is = is; lines = lines })
