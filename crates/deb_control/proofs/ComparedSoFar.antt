-- What the loop that compares two files knows of them, and what is answered by that.
use Rattle.deb_control.proofs.Common.{◌≡◌, ◌↔◌, ℕ, Bool, true, false, List, [], ◌∷◌, ◌++◌, length, Option, None, Some, Ok, IsTrue, refl, sym, ap, ◌∙◌, arith, length-append, false≢true, is_none, Entries, Doc, value_text, ValueMeaning, SpellsValue, value_law, HasParagraphs, paragraph_text, file_text, Passing, CheckedMoment, FitsChecked, HasChecked, AnswersChecked, all_pass, ChecksOn, AnswersSame, Agrees, rules_of, Meaning, canonical_text, refusal_of, outcome, bodies_of}
use Rattle.deb_control.proofs.Accepting.{accepted-from_none, outcome-accepted, canonical_text_tells_accepted}
use Rattle.deb_control.proofs.CheckedSoFar.{again_all, goes_on, outcome_at_end}
use Rattle.deb_control.proofs.DocumentRules.{document_rules}
use Rattle.deb_control.proofs.FollowedParagraphs.{follow-all, outcome-starts}
use Rattle.deb_control.proofs.NextChecked.{file_text-push}

-- As many first paragraphs of both files were given, with the same canonical text.
pub record HaveAgreed (doc : Doc) (text other : List ℕ) (one two : CheckedMoment) : Type 0 where
  pub first : HasChecked doc text one.state one.source.bytes
  pub second : HasChecked doc other two.state two.source.bytes
  pub counts : length first.before ≡ length second.before
  pub texts : file_text first.before ≡ file_text second.before

-- none, at the start
pub start_agreed : (doc : Doc) (text other : List ℕ) (one two : CheckedMoment) → FitsChecked doc text [] one.state one.source.bytes → FitsChecked doc other [] two.state two.source.bytes → HaveAgreed doc text other one two
start_agreed doc text other one two fits fits_too = record { first = record { before = []; fits = fits }; second = record { before = []; fits = fits_too }; counts = refl; texts = refl }

texts-push : (before others : List Entries) (entries next : Entries) → length before ≡ length others → file_text before ≡ file_text others → paragraph_text entries ≡ paragraph_text next → file_text (before ++ entries ∷ []) ≡ file_text (others ++ next ∷ [])
texts-push before others entries next counts texts same = simp file_text-push (rw (texts, counts, same) refl)

-- paragraphs at one index of equal lists are equal
same_place : {X : Type 0} (xs ys : List X) (x y : X) (more rest : List X) → length xs ≡ length ys → (xs ++ x ∷ []) ++ more ≡ (ys ++ y ∷ []) ++ rest → x ≡ y
same_place [] [] x y more rest counts same = cc
same_place [] (b ∷ ys) x y more rest counts same = absurd (omega (arith, counts))
same_place (a ∷ xs) [] x y more rest counts same = absurd (omega (arith, counts))
same_place (a ∷ xs) (b ∷ ys) x y more rest counts same =
    let tails : (xs ++ x ∷ []) ++ more ≡ (ys ++ y ∷ []) ++ rest = cc in
    same_place xs ys x y more rest (omega (arith, counts)) tails

-- a list is no longer one of the same length
no_more : {X : Type 0} (xs ys : List X) (y : X) (more : List X) → length xs ≡ length ys → xs ≡ (ys ++ y ∷ []) ++ more → ⊥
no_more xs ys y more counts same = omega (arith, counts, ap length same, length-append (ys ++ y ∷ []) more, length-append ys (y ∷ []))

-- What the next answers say of files whose paragraphs have agreed so far.
abbrev pub Compared : Doc → List ℕ → List ℕ → CheckedMoment → CheckedMoment → Option Passing → Option Passing → Type 0
Compared doc text other new new_too None given_too = Agrees doc text other (is_none given_too)
Compared doc text other new new_too (Some given) None = Agrees doc text other false
Compared doc text other new new_too (Some given) (Some given_too) = (given.text ≡ given_too.text → HaveAgreed doc text other new new_too) × ((given.text ≡ given_too.text → ⊥) → Agrees doc text other false)

pub compared : (doc : Doc) (text other : List ℕ) (one two new new_too : CheckedMoment) (given given_too : Option Passing) → HaveAgreed doc text other one two → one.state.fault ≡ None → two.state.fault ≡ None → ChecksOn doc one (Ok given) new → ChecksOn doc two (Ok given_too) new_too → Compared doc text other new new_too given given_too
compared doc text other one two new new_too given given_too agreed sound sound_too checks checks_too =
    go given given_too ((goes_on _ _ _ _ sound checks).answers text (all_pass agreed.first.before) agreed.first.fits) ((goes_on _ _ _ _ sound_too checks_too).answers other (all_pass agreed.second.before) agreed.second.fits)
  where
    go : (given given_too : Option Passing) → AnswersChecked doc text (all_pass agreed.first.before) (Ok given) new.state new.source.bytes → AnswersChecked doc other (all_pass agreed.second.before) (Ok given_too) new_too.state new_too.source.bytes → Compared doc text other new new_too given given_too
    go None None end end_too =
        let is = outcome_at_end doc text agreed.first.before agreed.first.fits end in
        let is_too = outcome_at_end doc other agreed.second.before agreed.second.fits end_too in
        record { passes = ap (λ o. o.refusal) is; other_passes = ap (λ o. o.refusal) is_too; written = ap (λ o. file_text o.passed) is ∙ agreed.texts ∙ sym (ap (λ o. file_text o.passed) is_too) }
    go None (Some given_too) end gives_too = λ same.
        let is = outcome_at_end doc text agreed.first.before agreed.first.fits end in
        let starts = outcome-starts (rules_of doc) other (agreed.second.before ++ gives_too.entries ∷ []) (follow-all (rules_of doc) other [] _ (again_all agreed.second.before gives_too).given) in
        no_more agreed.first.before agreed.second.before gives_too.entries starts.0 agreed.counts (sym (ap (λ o. o.passed) is) ∙ same ∙ starts.1)
    go (Some given) None gives end_too = λ same.
        let is = outcome_at_end doc other agreed.second.before agreed.second.fits end_too in
        let starts = outcome-starts (rules_of doc) text (agreed.first.before ++ gives.entries ∷ []) (follow-all (rules_of doc) text [] _ (again_all agreed.first.before gives).given) in
        no_more agreed.second.before agreed.first.before gives.entries starts.0 (sym agreed.counts) (sym (ap (λ o. o.passed) is) ∙ sym same ∙ starts.1)
    go (Some given) (Some given_too) gives gives_too = (
      λ same. record {
        first = record { before = _; fits = again_all agreed.first.before gives };
        second = record { before = _; fits = again_all agreed.second.before gives_too };
        counts = omega (arith, agreed.counts, length-append agreed.first.before (gives.entries ∷ []), length-append agreed.second.before (gives_too.entries ∷ []));
        texts = texts-push agreed.first.before agreed.second.before gives.entries gives_too.entries agreed.counts agreed.texts (sym gives.written ∙ same ∙ gives_too.written);
      },
      λ differ same.
          let starts = outcome-starts (rules_of doc) text (agreed.first.before ++ gives.entries ∷ []) (follow-all (rules_of doc) text [] _ (again_all agreed.first.before gives).given) in
          let starts_too = outcome-starts (rules_of doc) other (agreed.second.before ++ gives_too.entries ∷ []) (follow-all (rules_of doc) other [] _ (again_all agreed.second.before gives_too).given) in
          let entries_same = same_place agreed.first.before agreed.second.before gives.entries gives_too.entries starts.0 starts_too.0 agreed.counts (sym starts.1 ∙ same ∙ starts_too.1) in
          differ (gives.written ∙ ap paragraph_text entries_same ∙ sym gives_too.written),
    )

-- A file that is accepted isn't refused.
pub none_refused : (doc : Doc) (text : List ℕ) (n : ℕ) → HasParagraphs doc text n → refusal_of doc text ≡ None
none_refused doc text n has = ap (λ o. o.refusal) (outcome-accepted ValueMeaning (SpellsValue doc) value_text (value_law doc) (rules_of doc) (document_rules doc) text has.meaning has.accepted)

-- Where no file is refused, whether they agree is whether they mean the same.
pub tells_same : (doc : Doc) (text other : List ℕ) (same : Bool) → refusal_of doc text ≡ None → refusal_of doc other ≡ None → Agrees doc text other same → AnswersSame doc text other same
tells_same doc text other same none none_too agrees =
    let found = accepted-from_none ValueMeaning (SpellsValue doc) value_text (value_law doc) (rules_of doc) (document_rules doc) text none in
    let found_too = accepted-from_none ValueMeaning (SpellsValue doc) value_text (value_law doc) (rules_of doc) (document_rules doc) other none_too in
    let is = outcome-accepted ValueMeaning (SpellsValue doc) value_text (value_law doc) (rules_of doc) (document_rules doc) text found.0 found.1 in
    let is_too = outcome-accepted ValueMeaning (SpellsValue doc) value_text (value_law doc) (rules_of doc) (document_rules doc) other found_too.0 found_too.1 in
    let tells : (canonical_text found.0 ≡ canonical_text found_too.0) ↔ (found.0 ≡ found_too.0) = canonical_text_tells_accepted ValueMeaning (SpellsValue doc) value_text (value_law doc) (rules_of doc) text other found.0 found_too.0 found.1 found_too.1 in
    let means : IsTrue same ↔ (found.0 ≡ found_too.0) = go same agrees is is_too tells in
    record {
      meaning = found.0;
      other_meaning = found_too.0;
      accepted = found.1;
      other_accepted = found_too.1;
      means = means;
      canonical = (λ yes. tells.1 (means.0 yes), λ equal. means.1 (tells.0 equal));
    }
  where
    go : (same : Bool) → Agrees doc text other same → {meaning other_meaning : Meaning} → outcome (rules_of doc) text ≡ record { passed = bodies_of value_text meaning; refusal = None } → outcome (rules_of doc) other ≡ record { passed = bodies_of value_text other_meaning; refusal = None } → (canonical_text meaning ≡ canonical_text other_meaning) ↔ (meaning ≡ other_meaning) → IsTrue same ↔ (meaning ≡ other_meaning)
    go true equal is is_too tells =
        (λ yes. tells.0 (sym (ap (λ o. file_text o.passed) is) ∙ equal.written ∙ ap (λ o. file_text o.passed) is_too), λ means. refl)
    go false apart is is_too tells =
        (λ yes. absurd (false≢true yes), λ means. absurd (apart (ap (λ o. o.passed) is ∙ ap (bodies_of value_text) means ∙ sym (ap (λ o. o.passed) is_too))))
