-- A paragraph whose length of canonical text is known.
use Rattle.deb_control.proofs.Common.{◌≡◌, ℕ, ◌<◌, ◌≤◌, min, true, List, length, Ok, Err, is_ok, refl, subst, sym, ◌∙◌, ap, arith, min-le_left, ParagraphTooLong, Seen, are_fields, AreDistinct, Doc, paragraph_text, rules_of, text_built, Visit, VisitsFields, VisitsValues, texts_length, most, have_names, canonical_entries, built}
use Rattle.deb_base.specs.Bodies.{paragraph_limit}
use Rattle.deb_control.proofs.Building.{distinct-from}
use Rattle.deb_control.proofs.Lengths.{length-visited}
use Rattle.deb_control.proofs.Passing.{built-from_parts, built-long}
use Rattle.deb_control.proofs.Visited.{canonical-visited}

pub limit_is : paragraph_limit ≡ 16777216
unfolding paragraph_limit
limit_is = refl

below_most : (n total : ℕ) → n ≡ min total most → n ≤ 16777216 → n ≡ total
below_most n total is short = grind (arith, is, short)

above : (n total : ℕ) → n ≡ min total most → 16777216 < n → 16777216 < total
above n total is long = omega (arith, is, long, min-le_left total most)

module _ {V : Type 0} (Visited : V → List Visit → Type 0) (visitor : V) (doc : Doc) (seen : Seen) (n : ℕ) (are : are_fields seen.fields ≡ true) (visits : VisitsFields Visited visitor doc seen.fields n) (named : true ≡ have_names seen.fields (rules_of doc).required) where
  length_is : length (paragraph_text (canonical_entries (rules_of doc) seen.fields)) ≡ texts_length visits.visited
  length_is =
      ap (λ entries. length (paragraph_text entries)) (canonical-visited doc seen.fields visits.visited visits.all visits.spelled)
      ∙ length-visited visits.visited (subst AreDistinct (sym visits.all) (distinct-from seen.fields are))

  pub measured-too_long : 16777216 < n → built (rules_of doc) seen ≡ Err (record { code = ParagraphTooLong; line = seen.first })
  measured-too_long long = built-long (rules_of doc) seen visits.good (sym named) (omega (arith, limit_is, length_is, above n (texts_length visits.visited) visits.added long))

  built_is : n ≤ 16777216 → built (rules_of doc) seen ≡ Ok (canonical_entries (rules_of doc) seen.fields)
  built_is short = built-from_parts (rules_of doc) seen visits.good (sym named) (omega (arith, limit_is, length_is, below_most n (texts_length visits.visited) visits.added short, short))

  pub measured-length : n ≤ 16777216 → n ≡ length (text_built (built (rules_of doc) seen))
  measured-length short = below_most n (texts_length visits.visited) visits.added short ∙ sym length_is ∙ ap (λ r. length (text_built r)) (sym (built_is short))

  pub measured-visits : n ≤ 16777216 → VisitsValues Visited visitor doc seen
  measured-visits short = record { passes = ap is_ok (built_is short); fields = are; visited = visits.visited; all = visits.all; spelled = visits.spelled; visits = visits.visits }
