-- Refusals of what lies in memory, by the part of a query that is refused.
use Rattle.std.proofs.Common.{◌≡◌, ℕ, List, Some, inl, inr}
use Rattle.deb_base.specs.Faults.{RefusedOrMemory}
use Rattle.deb_base.specs.declared.doc.Doc.TheVariants.{Packages}
use Rattle.deb_base.specs.declared.fault.Fault.{Fault}
use Rattle.deb_base.specs.declared.fault.Fault.TheVariants.{Refused, Memory, Read, Write}
use Rattle.deb_control.specs.Documents.{refusal_of}
use Rattle.deb_index.specs.Asked.{Asks, relation_asked}
use Rattle.deb_index.specs.Questions.{IsGood, Question, RefusesQuery, RefusesWords}
use Rattle.deb_index.specs.declared.members.Members.TheVariants as members
use Rattle.deb_index.specs.declared.question.Question.{Question as Asked}

-- the words of a question that was parsed
abbrev pub good_words : (q : Question) (asked : Asked) → Asks q asked → IsGood q
good_words q asked asks = record { relation = relation_asked asked; spelled = asks.spelled; environment = asks.environment }

pub words_refused : (q : Question) (text : List ℕ) (fault : Fault) → RefusedOrMemory fault (RefusesWords q) → RefusedOrMemory fault (RefusesQuery members.All q text)
words_refused q text (Refused refusal) is = inl is
words_refused q text Memory is = tt
words_refused q text Read is = absurd is
words_refused q text Write is = absurd is

pub index_refused : (q : Question) (text : List ℕ) (fault : Fault) → IsGood q
    → RefusedOrMemory fault (λ refusal. refusal_of Packages text ≡ Some refusal) → RefusedOrMemory fault (RefusesQuery members.All q text)
index_refused q text (Refused refusal) good is = inr (inl (record { good = good; refused = is }))
index_refused q text Memory good is = tt
index_refused q text Read good is = absurd is
index_refused q text Write good is = absurd is
