-- A group's text and tests, put together alternative by alternative.
use Rattle.std.proofs.Common.{◌≡◌, ◌&&◌, ℕ, true, false, List, [], ◌∷◌, ◌++◌, length, Option, Some, None, Ok, Err, Result, refl, sym, ap, ◌∙◌, subst, append-nil, length-append, codes, arith}
use Rattle.std.specs.List.{list_all}
use Rattle.std.proofs.Math.Bool.{and-true}
use Rattle.std.proofs.lemmas.Bool.{le-leb}
use Rattle.std.proofs.lemmas.List.Folds.{list_all-append}
use Rattle.deb_relation.specs.declared.fault.Stop.{Stop}
use Rattle.deb_relation.specs.declared.fault.Stop.TheVariants.{Bad, Memory}
use Rattle.deb_relation.specs.Meaning.{Alternative}
use Rattle.deb_relation.specs.Reading.{append, gather, mapped, next_alternative}
use Rattle.deb_relation.specs.Stops.{Gives}
use Rattle.deb_relation.specs.Summaries.{Summary, summary_of, summary_with}
use Rattle.deb_relation.specs.Tests.{has_equal_bound, has_two}
use Rattle.deb_relation.specs.Texts.{alternative_text, group_text}
use Rattle.deb_relation.proofs.Gathering.{IsRead, gives-err, read-last, read-more, read-stop}
use Rattle.deb_relation.proofs.InPlace.{joined-append}
use Rattle.deb_relation.proofs.ReadRelation.{step-next_alternative}

-- alternatives were read after the first, and the summary says all of them
pub record IsSummed (first : Alternative) (text : List ℕ) (summary : Summary) (rest : List ℕ) : Type 0 where
  pub more : List Alternative
  pub read : IsRead next_alternative append (first ∷ []) text (first ∷ more) rest
  pub are : summary_of (first ∷ more) ≡ summary

pub summed-first : (first : Alternative) (text : List ℕ) → IsSummed first text (summary_with (alternative_text first) false (has_equal_bound first)) text
unfolding group_text
summed-first first text = record {
  more = [];
  read = refl;
  are = ap (λ t. summary_with t false (list_all has_equal_bound (first ∷ []))) (append-nil (alternative_text first)) ∙ ap (summary_with (alternative_text first) false) (and-true (has_equal_bound first));
}

-- one alternative more
more_of : (first : Alternative) (more : List Alternative) (a : Alternative) → summary_of (append a (first ∷ more)) ≡ summary_with (group_text (first ∷ more) ++ (codes " | " ++ alternative_text a)) true (list_all has_equal_bound (first ∷ more) && has_equal_bound a)
unfolding group_text
more_of first more a =
    let two : has_two (first ∷ append a more) ≡ true = le-leb 2 (length (first ∷ append a more)) (omega (arith, length-append more (a ∷ []))) in
    ap (λ b. summary_with (group_text (append a (first ∷ more))) b (list_all has_equal_bound (append a (first ∷ more)))) two
    ∙ ap (λ t. summary_with t true (list_all has_equal_bound (append a (first ∷ more)))) (joined-append (codes " | ") alternative_text first more a)
    ∙ ap (summary_with (group_text (first ∷ more) ++ (codes " | " ++ alternative_text a)) true) (list_all-append has_equal_bound (first ∷ more) (a ∷ []) ∙ ap (λ b. list_all has_equal_bound (first ∷ more) && b) (and-true (has_equal_bound a)))

module _ (first : Alternative) (text : List ℕ) (summary : Summary) (rest : List ℕ) (is : IsSummed first text summary rest) where
  pub summed-more : (a : Alternative) (behind : List ℕ) → next_alternative rest ≡ Ok (Some (a, behind)) → IsSummed first text (summary_with (summary.text ++ (codes " | " ++ alternative_text a)) true (summary.only_equals && has_equal_bound a)) behind
  summed-more a behind e = record {
    more = append a is.more;
    read = read-more next_alternative append step-next_alternative (first ∷ []) text (first ∷ is.more) rest is.read a (append a (first ∷ is.more)) behind e refl;
    are = more_of first is.more a ∙ ap (λ s. summary_with (s.text ++ (codes " | " ++ alternative_text a)) true (s.only_equals && has_equal_bound a)) is.are;
  }

  pub summed-last : next_alternative rest ≡ Ok None → mapped summary_of (gather next_alternative append (first ∷ []) text) ≡ Ok (summary, rest)
  summed-last e = ap (mapped summary_of) (read-last next_alternative append step-next_alternative (first ∷ []) text (first ∷ is.more) rest is.read e) ∙ ap (λ s. Ok (s, rest)) is.are

  -- a step that stops stops the whole
  pub summed-stop : {R T : Type 0} (view : R → Option (Alternative × List ℕ)) (view' : T → Summary × List ℕ) (answer : Result T Stop) (stop stop' : Stop) → answer ≡ Err stop → stop ≡ stop' → Gives (Err stop') view (next_alternative rest) → Gives answer view' (mapped summary_of (gather next_alternative append (first ∷ []) text))
  summed-stop view view' answer stop stop' is_answer is_stop gives =
      gives-err answer stop view' (mapped summary_of (gather next_alternative append (first ∷ []) text)) is_answer (stops stop (subst (λ s. Gives (Err s) view (next_alternative rest)) (sym is_stop) gives))
    where
      stops : (stop : Stop) → Gives (Err stop) view (next_alternative rest) → Gives (Err stop) view' (mapped summary_of (gather next_alternative append (first ∷ []) text))
      stops (Bad reason left) gives = ap (mapped summary_of) (read-stop next_alternative append step-next_alternative (first ∷ []) text (first ∷ is.more) rest is.read (Bad reason left) view gives (λ s. (s, rest)))
      stops Memory gives = tt
