-- What is known of the refusals of a file while they are read, and at its end.
use Rattle.std.proofs.Common.{◌≡◌, ℕ, List, [], ◌∷◌, ◌++◌, length, map, Option, None, Some, refl, sym, ap, ◌∙◌, subst, inl, inr, append-nil}
use Rattle.std.proofs.lemmas.List.{map-append}
use Rattle.std.proofs.lemmas.List.Concat.{flat_map-append}
use Rattle.std.specs.Option.{option_or}
use Rattle.deb_base.specs.declared.doc.Doc.{Doc}
use Rattle.deb_base.specs.declared.refusal.Refusal.{Refusal}
use Rattle.deb_control.specs.AllRefusals.{passed_of, refusals_of, total_line}
use Rattle.deb_control.specs.GivenRefusals.{GivesAll, GivesRefusal, HasGiven, summary_of}
use Rattle.deb_control.specs.SeenRefusals.{SeenRefusal, refusals_alone}
use Rattle.deb_control.specs.StreamLaws.{first_of}
use Rattle.deb_control.specs.declared.refusals.Refusals.{Refusals}
use Rattle.deb_control.proofs.AcceptedStreams.{nothing_refused}
use Rattle.deb_control.proofs.SeenRefusals.{first_is_refusal}
use Rattle.deb_explain.specs.AllExplanations.{explanations_of}
use Rattle.deb_explain.specs.Explanations.{why_refused}
use Rattle.debctl_ffi.specs.AllRefusals.{AnswersAll, ExplainsFile, NothingRefused, TablesFile, answer_to_all, block_lines, blocks_of, row_of, rows_of}
use Rattle.debctl_ffi.specs.Answers.{counting}
use Rattle.debctl_ffi.specs.declared.refusal_row.RefusalRow.{RefusalRow}

-- ---- one refusal more

first_pushed : (refusals : List Refusal) (refusal : Refusal) → option_or (first_of refusals) (Some refusal) ≡ first_of (refusals ++ refusal ∷ [])
first_pushed [] refusal = refl
first_pushed (first ∷ more) refusal = refl

alone_pushed : (done : List SeenRefusal) (seen : SeenRefusal) → refusals_alone done ++ seen.refusal ∷ [] ≡ refusals_alone (done ++ seen ∷ [])
alone_pushed done seen = sym (map-append (λ seen. seen.refusal) done (seen ∷ []))

-- the first of several is kept
kept : (first : Option Refusal) (done : List SeenRefusal) (seen : SeenRefusal) (refusal : Refusal) → first ≡ first_of (refusals_alone done) → seen.refusal ≡ refusal → option_or first (Some refusal) ≡ first_of (refusals_alone (done ++ seen ∷ []))
kept first done seen refusal is same =
    ap (λ f. option_or f (Some refusal)) is ∙ ap (λ r. option_or (first_of (refusals_alone done)) (Some r)) (sym same)
    ∙ first_pushed (refusals_alone done) seen.refusal ∙ ap first_of (alone_pushed done seen)

-- ---- at the end

accepted_all : (doc : Doc) (text : List ℕ) (passed : ℕ) → refusals_of doc text ≡ [] → passed ≡ passed_of doc text → NothingRefused doc text (counting 0 passed)
accepted_all doc text passed none total = record { none = none; has = nothing_refused doc text passed none total; is = refl }

answers_all : (doc : Doc) (text : List ℕ) (first : Option Refusal) (passed : ℕ) (refusals : List Refusal) → refusals_of doc text ≡ refusals → first ≡ first_of refusals → passed ≡ passed_of doc text → AnswersAll doc text (answer_to_all first passed)
answers_all doc text first passed [] all is total =
    subst (λ f. AnswersAll doc text (answer_to_all f passed)) (sym is) (inl (accepted_all doc text passed all total))
answers_all doc text first passed (refusal ∷ more) all is total =
    subst (λ f. AnswersAll doc text (answer_to_all f passed)) (sym is)
    (inr (record {
      first = refusal;
      more = more;
      all = all;
      refused = sym (first_is_refusal doc text) ∙ ap first_of all;
      is = ap (λ n. answer_to_all (Some refusal) n) total;
    }))

-- ---- rows

-- These refusals were given, the first is kept, and these are their rows.
pub record HasRows (doc : Doc) (text : List ℕ) (r : Refusals) (left : Option (List ℕ)) (first : Option Refusal) (rows : List RefusalRow) : Type 0 where
  pub done : List SeenRefusal
  pub given : HasGiven doc text r left done
  pub first_is : first ≡ first_of (refusals_alone done)
  pub are : rows ≡ rows_of (refusals_alone done)

pub no_rows : (doc : Doc) (text : List ℕ) (r : Refusals) (left : Option (List ℕ)) (rows : List RefusalRow) → left ≡ Some text → rows ≡ [] → HasGiven doc text r (Some text) [] → HasRows doc text r left None rows
no_rows doc text r left rows all empty given = record {
  done = [];
  given = subst (λ l. HasGiven doc text r l []) (sym all) given;
  first_is = refl;
  are = empty;
}

pub one_row : (doc : Doc) (text : List ℕ) (r new : Refusals) (left after : Option (List ℕ)) (first : Option Refusal) (rows : List RefusalRow) (refusal : Refusal) → (has : HasRows doc text r left first rows) → GivesRefusal doc text refusal new after has.done → HasRows doc text new after (option_or first (Some refusal)) (rows ++ row_of refusal ∷ [])
one_row doc text r new left after first rows refusal has gives = record {
  done = has.done ++ gives.seen ∷ [];
  given = gives.given;
  first_is = kept first has.done gives.seen refusal has.first_is gives.same;
  are = ap (λ l. l ++ row_of refusal ∷ []) has.are
      ∙ ap (λ one. rows_of (refusals_alone has.done) ++ row_of one ∷ []) (sym gives.same)
      ∙ sym (map-append row_of (refusals_alone has.done) (gives.seen.refusal ∷ []))
      ∙ ap rows_of (alone_pushed has.done gives.seen);
}

pub all_rows : (doc : Doc) (text : List ℕ) (r new : Refusals) (left after : Option (List ℕ)) (first : Option Refusal) (rows : List RefusalRow) → (has : HasRows doc text r left first rows) → GivesAll doc text new after has.done → TablesFile doc text (answer_to_all first (summary_of new).passed) rows
all_rows doc text r new left after first rows has end = record {
  answers = answers_all doc text first (summary_of new).passed (refusals_alone has.done) end.refusals has.first_is end.passed;
  are = has.are ∙ ap rows_of (sym end.refusals);
}

-- ---- lines

-- These refusals were given, the first is kept, and these are their lines.
pub record HasLines (doc : Doc) (text : List ℕ) (r : Refusals) (left : Option (List ℕ)) (first : Option Refusal) (lines : List ℕ) : Type 0 where
  pub done : List SeenRefusal
  pub given : HasGiven doc text r left done
  pub first_is : first ≡ first_of (refusals_alone done)
  pub are : lines ≡ blocks_of (map (why_refused doc) done)

pub no_lines : (doc : Doc) (text : List ℕ) (r : Refusals) (left : Option (List ℕ)) (lines : List ℕ) → left ≡ Some text → lines ≡ [] → HasGiven doc text r (Some text) [] → HasLines doc text r left None lines
no_lines doc text r left lines all empty given = record {
  done = [];
  given = subst (λ l. HasGiven doc text r l []) (sym all) given;
  first_is = refl;
  are = empty;
}

pub one_block : (doc : Doc) (text : List ℕ) (r new : Refusals) (left after : Option (List ℕ)) (first : Option Refusal) (lines more : List ℕ) (refusal : Refusal) → (has : HasLines doc text r left first lines) → (gives : GivesRefusal doc text refusal new after has.done) → more ≡ lines ++ block_lines (why_refused doc gives.seen) → HasLines doc text new after (option_or first (Some refusal)) more
one_block doc text r new left after first lines more refusal has gives pushed = record {
  done = has.done ++ gives.seen ∷ [];
  given = gives.given;
  first_is = kept first has.done gives.seen refusal has.first_is gives.same;
  are = pushed ∙ ap (λ l. l ++ block_lines (why_refused doc gives.seen)) has.are
      ∙ ap (λ l. blocks_of (map (why_refused doc) has.done) ++ l) (sym (append-nil (block_lines (why_refused doc gives.seen))))
      ∙ sym (flat_map-append block_lines (map (why_refused doc) has.done) (why_refused doc gives.seen ∷ []))
      ∙ ap blocks_of (sym (map-append (why_refused doc) has.done (gives.seen ∷ [])));
}

counted : (first : Option Refusal) (passed : ℕ) → (answer_to_all first passed).count ≡ passed
counted None passed = refl
counted (Some refusal) passed = refl

none_given : (done : List SeenRefusal) → refusals_alone done ≡ [] → done ≡ []
none_given [] none = refl
none_given (seen ∷ more) none = absurd cc

pub all_blocks : (doc : Doc) (text : List ℕ) (r new : Refusals) (left after : Option (List ℕ)) (first : Option Refusal) (lines more : List ℕ) → (has : HasLines doc text r left first lines) → GivesAll doc text new after has.done → more ≡ lines ++ total_line (summary_of new).passed (summary_of new).refused → ExplainsFile doc text (answer_to_all first (summary_of new).passed) more
all_blocks doc text r new left after first lines more has end pushed =
    let all = pushed ∙ ap (λ l. l ++ total_line (summary_of new).passed (summary_of new).refused) has.are in
    let last : blocks_of (map (why_refused doc) has.done) ++ total_line (summary_of new).passed (summary_of new).refused ≡ blocks_of (map (why_refused doc) has.done) ++ total_line (summary_of new).passed (length (refusals_of doc text)) = ap (λ n. blocks_of (map (why_refused doc) has.done) ++ total_line (summary_of new).passed n) end.refused in
    record {
      answers = answers_all doc text first (summary_of new).passed (refusals_alone has.done) end.refusals has.first_is end.passed;
      are = all ∙ last
          ∙ ap (λ l. l ++ total_line (summary_of new).passed (length (refusals_of doc text))) (ap (λ l. blocks_of (map (why_refused doc) l)) (sym end.seen))
          ∙ ap (λ n. blocks_of (explanations_of doc text) ++ total_line n (length (refusals_of doc text))) end.passed;
      alone = λ none.
          all ∙ last
          ∙ ap (λ d. blocks_of (map (why_refused doc) d) ++ total_line (summary_of new).passed (length (refusals_of doc text))) (none_given has.done (sym end.refusals ∙ none))
          ∙ ap (λ r. total_line (summary_of new).passed (length r)) none
          ∙ ap (λ n. total_line n 0) (sym (counted first (summary_of new).passed));
    }
