-- One more answer in a store, and the verdict on it by numbers.
use Rattle.std.proofs.Common.{◌≡◌, ℕ, ◌+◌, ◌≤◌, ◌==◌, ◌&&◌, Bool, cond, ne_eqb, not, List, [], ◌∷◌, ◌++◌, drop, length, map, take, refl, sym, ap, subst, ◌∙◌, arith}
use Rattle.std.specs.List.{list_all, sum_by}
use Rattle.std.proofs.lemmas.List.{drop-append-le, length-append, length-drop, map-append, take-append-le, take_all}
use Rattle.std.proofs.lemmas.List.Elements.{All-append, All-nil}
use Rattle.std.proofs.lemmas.List.Sums.{sum_by-cons, sum_by_push}
use Rattle.deb_relation.specs.Applying.{Environment}
use Rattle.deb_relation.specs.Meaning.{Group, Relation}
use Rattle.deb_relation.specs.Texts.{group_text}
use Rattle.deb_index.specs.AnswerStores.{AppendsAnswer, HasAnswers, IsEmpty, answer_cut, answers_cut, numbered, span_of}
use Rattle.deb_index.specs.Listed.{Listed}
use Rattle.deb_index.specs.Named.{AreNumbers, numbers_of}
use Rattle.deb_index.specs.Reports.{Numbered, answer, group_verdict, is_unmet, meets_group, met_unless_none, passing_from, some_applies}
use Rattle.deb_index.specs.declared.answer_store.AnswerSpan.{AnswerSpan}
use Rattle.deb_index.specs.declared.answer_store.AnswerStore.{AnswerStore}
use Rattle.deb_index.specs.declared.verdict.Verdict.{Verdict}
use Rattle.deb_index.specs.declared.verdict.Verdict.TheVariants.{Ignored, Met, Unmet}
use Rattle.deb_index.proofs.Picked.{numbers-listed, picked-all}
use Rattle.deb_index.proofs.Reasoned.{numbers-found}

-- no item is before the first
pub nothing : {X : Type 0} (xs : List X) → 0 ≡ length xs → xs ≡ []
nothing [] e = refl
nothing (x ∷ xs) e = absurd (omega (arith, e))

module _ (packages : List Listed) (text : List ℕ) (verdict : Verdict) (found : List ℕ) where
  -- the answers before stay, and the new one is the last
  pub cut-push : (texts numbers : List ℕ) (spans : List AnswerSpan) → sum_by (λ span. span.text_len) spans ≡ length texts → sum_by (λ span. span.found_len) spans ≡ length numbers
      → answers_cut packages (texts ++ text) (numbers ++ found) (spans ++ span_of text verdict found ∷ []) ≡ answers_cut packages texts numbers spans ++ record { text = text; verdict = verdict; packages = numbered packages found } ∷ []
  cut-push texts numbers [] long many =
      ap (λ l. answers_cut packages (l ++ text) (numbers ++ found) (span_of text verdict found ∷ [])) (nothing texts long)
      ∙ ap (λ l. answers_cut packages text (l ++ found) (span_of text verdict found ∷ [])) (nothing numbers many)
      ∙ ap (λ l. record { text = l; verdict = verdict; packages = numbered packages (take (length found) found) } ∷ []) (take_all (length text) text (omega arith))
      ∙ ap (λ l. record { text = text; verdict = verdict; packages = numbered packages l } ∷ []) (take_all (length found) found (omega arith))
  cut-push texts numbers (span ∷ spans) long many =
      let all = sym (sum_by-cons (λ s. s.text_len) span spans) ∙ long in
      let each = sym (sum_by-cons (λ s. s.found_len) span spans) ∙ many in
      let within : span.text_len ≤ length texts = omega (arith, all) in
      let few : span.found_len ≤ length numbers = omega (arith, each) in
      let more = spans ++ span_of text verdict found ∷ [] in
      ap (λ l. record { text = l; verdict = span.verdict; packages = numbered packages (take span.found_len (numbers ++ found)) } ∷ answers_cut packages (drop span.text_len (texts ++ text)) (drop span.found_len (numbers ++ found)) more) (take-append-le span.text_len texts text within)
      ∙ ap (λ l. record { text = take span.text_len texts; verdict = span.verdict; packages = numbered packages l } ∷ answers_cut packages (drop span.text_len (texts ++ text)) (drop span.found_len (numbers ++ found)) more) (take-append-le span.found_len numbers found few)
      ∙ ap (λ l. answer_cut packages texts numbers span ∷ answers_cut packages l (drop span.found_len (numbers ++ found)) more) (drop-append-le span.text_len texts text within)
      ∙ ap (λ l. answer_cut packages texts numbers span ∷ answers_cut packages (drop span.text_len texts ++ text) l more) (drop-append-le span.found_len numbers found few)
      ∙ ap (λ l. answer_cut packages texts numbers span ∷ l) (cut-push (drop span.text_len texts) (drop span.found_len numbers) spans (omega (arith, all, length-drop span.text_len texts)) (omega (arith, each, length-drop span.found_len numbers)))

-- the verdicts are those of the spans
pub verdicts : (packages : List Listed) (texts numbers : List ℕ) (spans : List AnswerSpan) → list_all (λ a. not (is_unmet a.verdict)) (answers_cut packages texts numbers spans) ≡ list_all (λ span. not (is_unmet span.verdict)) spans
verdicts packages texts numbers [] = refl
verdicts packages texts numbers (span ∷ spans) =
    ap (λ b. not (is_unmet span.verdict) && b) (verdicts packages (drop span.text_len texts) (drop span.found_len numbers) spans)

-- whether there are packages is whether there are numbers
unless_none : (found : List Numbered) (numbers : List ℕ) → map (λ q. q.0) found ≡ numbers → cond (length numbers == 0) Unmet Met ≡ met_unless_none found
unless_none [] numbers are = ap (λ l. cond (length l == 0) Unmet Met) (sym are)
unless_none (p ∷ found) numbers are = ap (λ l. cond (length l == 0) Unmet Met) (sym are) ∙ ap (λ b. cond b Unmet Met) (ne_eqb (length (map (λ q. q.0) (p ∷ found))) 0 (λ e. omega (arith, e)))

pub verdict-is : (environment : Environment) (packages : List Listed) (group : Group) (applies : Bool) (numbers : List ℕ) (verdict : Verdict) → applies ≡ some_applies environment group → numbers ≡ numbers_of (meets_group environment group) packages → verdict ≡ cond applies (cond (length numbers == 0) Unmet Met) Ignored → verdict ≡ group_verdict environment packages group
verdict-is environment packages group applies numbers verdict asked are is =
    is
    ∙ ap (λ b. cond b (cond (length numbers == 0) Unmet Met) Ignored) asked
    ∙ ap (λ v. cond (some_applies environment group) v Ignored) (unless_none (passing_from 1 (meets_group environment group) packages) numbers (numbers-found 1 (meets_group environment group) packages ∙ sym are))

-- a store with one answer more
pub answered : (environment : Environment) (packages : List Listed) (groups : Relation) (group : Group) (old new : AnswerStore) (verdict : Verdict) (numbers : List ℕ) → HasAnswers environment packages groups old → numbers ≡ numbers_of (meets_group environment group) packages → verdict ≡ group_verdict environment packages group → AppendsAnswer old new (group_text group) verdict numbers
    → HasAnswers environment packages (groups ++ group ∷ []) new
answered environment packages groups group old new verdict numbers has are is appends =
    let found : numbered packages numbers ≡ passing_from 1 (meets_group environment group) packages = ap (numbered packages) are ∙ picked-all (meets_group environment group) packages in
    record {
      texts = ap (sum_by (λ span. span.text_len)) appends.spans ∙ sum_by_push (λ span. span.text_len) old.spans.items (span_of (group_text group) verdict numbers)
          ∙ ap (λ n. n + length (group_text group)) has.texts ∙ sym (length-append old.texts.items (group_text group)) ∙ ap length (sym appends.texts);
      numbers = ap (sum_by (λ span. span.found_len)) appends.spans ∙ sum_by_push (λ span. span.found_len) old.spans.items (span_of (group_text group) verdict numbers)
          ∙ ap (λ n. n + length numbers) has.numbers ∙ sym (length-append old.numbers.items numbers) ∙ ap length (sym appends.numbers);
      listed = subst (AreNumbers packages) (sym appends.numbers) (All-append (λ k. (1 ≤ k) × (k ≤ length packages)) old.numbers.items numbers has.listed (subst (AreNumbers packages) (sym are) (numbers-listed (meets_group environment group) packages)));
      answers = rw (appends.texts, appends.numbers, appends.spans)
          (cut-push packages (group_text group) verdict numbers old.texts.items old.numbers.items old.spans.items has.texts has.numbers
          ∙ ap (λ l. l ++ record { text = group_text group; verdict = verdict; packages = numbered packages numbers } ∷ []) has.answers
          ∙ ap (λ v. map (answer environment packages) groups ++ record { text = group_text group; verdict = v; packages = numbered packages numbers } ∷ []) is
          ∙ ap (λ l. map (answer environment packages) groups ++ record { text = group_text group; verdict = group_verdict environment packages group; packages = l } ∷ []) found
          ∙ sym (map-append (answer environment packages) groups (group ∷ [])));
    }

pub none_answered : (environment : Environment) (packages : List Listed) (store : AnswerStore) → IsEmpty store → HasAnswers environment packages [] store
none_answered environment packages store none = record {
  texts = rw (none.texts, none.spans) refl;
  numbers = rw (none.numbers, none.spans) refl;
  listed = subst (AreNumbers packages) (sym none.numbers) (All-nil (λ k. (1 ≤ k) × (k ≤ length packages)));
  answers = rw (none.texts, none.numbers, none.spans) refl;
}
