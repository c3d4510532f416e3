-- One more answer with its lines.
use Rattle.std.proofs.Common.{◌≡◌, ℕ, ◌+◌, ◌≤◌, List, [], ◌∷◌, ◌++◌, drop, length, map, take, refl, sym, ap, ◌∙◌, arith}
use Rattle.std.specs.List.{sum_by}
use Rattle.std.proofs.lemmas.List.{drop-append-le, length-append, length-drop, length-map, map-append, take-append-le, take_all}
use Rattle.std.proofs.lemmas.List.Sums.{sum_by-cons, sum_by_push}
use Rattle.deb_relation.specs.Applying.{Environment}
use Rattle.deb_relation.specs.Meaning.{Group, Relation}
use Rattle.deb_index.specs.AnswerStores.{HasAnswers, IsEmpty, answers_in}
use Rattle.deb_index.specs.Detailed.{AppendsBelow, details_cut}
use Rattle.deb_index.specs.Listed.{Listed}
use Rattle.deb_index.specs.Reports.{Answer, answer, group_verdict}
use Rattle.deb_index.specs.ReportText.{VersionShown}
use Rattle.deb_index.specs.Why.{answer_in, detailed, lines_below}
use Rattle.deb_index.specs.declared.answer_store.AnswerStore.{AnswerStore}
use Rattle.deb_index.specs.declared.verdict.Verdict.{Verdict}
use Rattle.deb_index.proofs.Answered.{none_answered, nothing}

-- A store has the answers for these groups, and these lines and lengths are those of the groups.
pub record HasDetails (shown : VersionShown) (environment : Environment) (packages : List Listed) (groups : Relation) (store : AnswerStore) (reasons lens : List ℕ) : Type 0 where
  pub has : HasAnswers environment packages groups store
  pub all : sum_by (λ n. n) lens ≡ length reasons
  pub each : length lens ≡ length groups
  pub details : details_cut (answers_in packages store) reasons lens ≡ map (detailed shown environment packages) groups

-- the lines before stay, and the new ones are the last
pub cut-push : (answers : List Answer) (a : Answer) (reasons lines lens : List ℕ) → sum_by (λ n. n) lens ≡ length reasons → length lens ≡ length answers
    → details_cut (answers ++ a ∷ []) (reasons ++ lines) (lens ++ length lines ∷ []) ≡ details_cut answers reasons lens ++ record { answer = a; reasons = lines } ∷ []
cut-push [] a reasons lines [] all each =
    ap (λ l. details_cut (a ∷ []) (l ++ lines) (length lines ∷ [])) (nothing reasons all)
    ∙ ap (λ l. record { answer = a; reasons = l } ∷ []) (take_all (length lines) lines (omega arith))
cut-push [] a reasons lines (n ∷ lens) all each = absurd (omega (arith, each))
cut-push (b ∷ answers) a reasons lines [] all each = absurd (omega (arith, each))
cut-push (b ∷ answers) a reasons lines (n ∷ lens) all each =
    let whole = sym (sum_by-cons (λ k. k) n lens) ∙ all in
    let within : n ≤ length reasons = omega (arith, whole) in
    ap (λ l. record { answer = b; reasons = l } ∷ details_cut (answers ++ a ∷ []) (drop n (reasons ++ lines)) (lens ++ length lines ∷ [])) (take-append-le n reasons lines within)
    ∙ ap (λ l. record { answer = b; reasons = take n reasons } ∷ details_cut (answers ++ a ∷ []) l (lens ++ length lines ∷ [])) (drop-append-le n reasons lines within)
    ∙ ap (λ l. record { answer = b; reasons = take n reasons } ∷ l) (cut-push answers a (drop n reasons) lines lens (omega (arith, whole, length-drop n reasons)) (omega (arith, each)))

-- the answers are those that were cut
pub answers_cut : (answers : List Answer) (reasons lens : List ℕ) → map answer_in (details_cut answers reasons lens) ≡ answers
answers_cut [] reasons lens = refl
answers_cut (a ∷ answers) reasons [] = ap (λ l. a ∷ l) (answers_cut answers (drop 0 reasons) [])
answers_cut (a ∷ answers) reasons (n ∷ lens) = ap (λ l. a ∷ l) (answers_cut answers (drop n reasons) lens)

pub none_detailed : (shown : VersionShown) (environment : Environment) (packages : List Listed) (store : AnswerStore) (reasons lens : List ℕ) → IsEmpty store → reasons ≡ [] → lens ≡ [] → HasDetails shown environment packages [] store reasons lens
none_detailed shown environment packages store reasons lens none no_reasons no_lens = record {
  has = none_answered environment packages store none;
  all = rw (no_reasons, no_lens) refl;
  each = rw no_lens refl;
  details = rw none.spans refl;
}

-- one group more
pub detailed_more : (shown : VersionShown) (environment : Environment) (packages : List Listed) (groups : Relation) (group : Group) (old new : AnswerStore) (reasons lines more lens longer : List ℕ) (verdict : Verdict) (len : ℕ) → HasDetails shown environment packages groups old reasons lens → verdict ≡ group_verdict environment packages group → HasAnswers environment packages (groups ++ group ∷ []) new
    → lines ≡ lines_below shown environment packages group verdict → AppendsBelow reasons more lines len → longer ≡ lens ++ len ∷ [] → HasDetails shown environment packages (groups ++ group ∷ []) new more longer
detailed_more shown environment packages groups group old new reasons lines more lens longer verdict len so_far is has below appends one =
    let a = answer environment packages group in
    let lens_are : longer ≡ lens ++ length lines ∷ [] = one ∙ ap (λ n. lens ++ n ∷ []) appends.counted in
    let each : length lens ≡ length (answers_in packages old) = so_far.each ∙ sym (ap length so_far.has.answers ∙ length-map groups (answer environment packages)) in
    record {
      has = has;
      all = ap (sum_by (λ n. n)) lens_are ∙ sum_by_push (λ n. n) lens (length lines) ∙ ap (λ n. n + length lines) so_far.all ∙ sym (length-append reasons lines) ∙ ap length (sym appends.appended);
      each = ap length lens_are ∙ length-append lens (length lines ∷ []) ∙ ap (λ n. n + 1) so_far.each ∙ sym (length-append groups (group ∷ []));
      details = rw (appends.appended, lens_are)
          (ap (λ l. details_cut l (reasons ++ lines) (lens ++ length lines ∷ [])) (has.answers ∙ map-append (answer environment packages) groups (group ∷ []) ∙ ap (λ l. l ++ a ∷ []) (sym so_far.has.answers))
          ∙ cut-push (answers_in packages old) a reasons lines lens so_far.all each
          ∙ ap (λ l. l ++ record { answer = a; reasons = lines } ∷ []) so_far.details
          ∙ ap (λ l. map (detailed shown environment packages) groups ++ record { answer = a; reasons = l } ∷ []) (below ∙ ap (lines_below shown environment packages group) is)
          ∙ sym (map-append (detailed shown environment packages) groups (group ∷ [])));
    }
