-- The answers that a store keeps: lengths that cut its texts and its numbers.
use Rattle.std.specs.Prelude.{◌≡◌, ℕ, List, [], ◌∷◌, ◌++◌, drop, length, map, take}
use Rattle.std.specs.List.{flat_map, sum_by}
use Rattle.deb_relation.specs.Applying.{Environment}
use Rattle.deb_relation.specs.Meaning.{Relation}
use Rattle.deb_index.specs.Listed.{Listed}
use Rattle.deb_index.specs.Named.{AreNumbers}
use Rattle.deb_index.specs.Reports.{Answer, Numbered, answer, picked}
use Rattle.deb_index.specs.declared.answer_store.AnswerSpan.{AnswerSpan}
use Rattle.deb_index.specs.declared.answer_store.AnswerStore.{AnswerStore}
use Rattle.deb_index.specs.declared.verdict.Verdict.{Verdict}

-- the packages of these numbers
abbrev pub numbered : List Listed → List ℕ → List Numbered
numbered packages numbers = flat_map (picked packages) numbers

-- the answer of a span at the start of texts and numbers
abbrev pub answer_cut : List Listed → List ℕ → List ℕ → AnswerSpan → Answer
answer_cut packages texts numbers span =
    record {
      text = take span.text_len texts;
      verdict = span.verdict;
      packages = numbered packages (take span.found_len numbers);
    }

-- the answers of spans, each after what those before it take
abbrev pub answers_cut : List Listed → List ℕ → List ℕ → List AnswerSpan → List Answer
answers_cut packages texts numbers [] = []
answers_cut packages texts numbers (span ∷ spans) =
    answer_cut packages texts numbers span
    ∷ answers_cut packages (drop span.text_len texts) (drop span.found_len numbers) spans

-- the answers of a store, over the packages of its numbers
abbrev pub answers_in : List Listed → AnswerStore → List Answer
answers_in packages store =
    answers_cut packages store.texts.items store.numbers.items store.spans.items

pub record IsEmpty (store : AnswerStore) : Type 0 where
  pub texts : store.texts.items ≡ []
  pub numbers : store.numbers.items ≡ []
  pub spans : store.spans.items ≡ []

abbrev pub span_of : List ℕ → Verdict → List ℕ → AnswerSpan
span_of text verdict found =
    record { text_len = length text; found_len = length found; verdict = verdict }

-- one answer more
pub record AppendsAnswer (old new : AnswerStore) (text : List ℕ) (verdict : Verdict)
    (found : List ℕ) : Type 0 where
  pub texts : new.texts.items ≡ old.texts.items ++ text
  pub numbers : new.numbers.items ≡ old.numbers.items ++ found
  pub spans : new.spans.items ≡ old.spans.items ++ span_of text verdict found ∷ []

-- A store has exactly the answers for these groups over the packages of an index.
pub record HasAnswers (environment : Environment) (packages : List Listed) (groups : Relation)
    (store : AnswerStore) : Type 0 where
  pub texts : sum_by (λ span. span.text_len) store.spans.items ≡ length store.texts.items
  pub numbers : sum_by (λ span. span.found_len) store.spans.items ≡ length store.numbers.items
  pub listed : AreNumbers packages store.numbers.items
  pub answers : answers_in packages store ≡ map (answer environment packages) groups
