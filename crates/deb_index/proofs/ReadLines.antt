-- What is read of each paragraph of a file, such as the line at which it starts: of those that were read, and of those that are left.
use Rattle.std.proofs.Common.{◌≡◌, ℕ, ◌+◌, ◌&&◌, not, nat_le, Bool, true, false, cond, List, [], ◌∷◌, ◌++◌, length, map, drop, Option, None, Some, Result, Ok, Err, refl, sym, ap, ◌∙◌, append-nil, arith, subst}
use Rattle.deb_base.specs.Bodies.{paragraph_limit, file_limit}
use Rattle.deb_base.specs.declared.code.Code.TheVariants.{FileTooLong, TooManyParagraphs}
use Rattle.std.proofs.lemmas.List.{length-map}
use Rattle.deb_base.specs.declared.doc.Doc.{Doc}
use Rattle.deb_base.specs.declared.doc.Doc.TheVariants.{Packages, Status}
use Rattle.deb_base.specs.declared.refusal.Refusal.{Refusal}
use Rattle.deb_syntax.specs.Answers.{Seen, answer_of_first, is_line, line_beyond, line_too_long, paragraph_answer, paragraphs_within, seen_from}
use Rattle.deb_syntax.specs.Fields.{Field}
use Rattle.deb_syntax.specs.Judging.{judged}
use Rattle.deb_syntax.specs.Lines.{Paragraph, paragraphs_of}
use Rattle.deb_syntax.specs.Meaning.{Entries}
use Rattle.deb_control.specs.Canonical.{file_text}
use Rattle.deb_control.specs.Refusals.{answer_behind, answer_of_seen, built, has_some, line_behind, within_file}
use Rattle.deb_control.specs.Rules.{Rules}
use Rattle.deb_control.proofs.FollowedParagraphs.{drop_one}
use Rattle.deb_control.proofs.Limits.{length-within, part_within-whole}
use Rattle.deb_control.specs.Documents.{rules_of}
use Rattle.deb_control.specs.GivenParagraphs.{AreNext, bodies_seen}
use Rattle.deb_control.proofs.ShownSoFar.{ShownAll}
use Rattle.std.specs.List.{filter}
use Rattle.deb_index.specs.FirstLines.{first_line}
use Rattle.deb_index.specs.Installed.{is_judged_member, is_member_in, is_seen_member}
use Rattle.deb_index.specs.Members.{doc_of, has_seen, member_lines, member_spellings, seen_in}
use Rattle.deb_index.specs.VersionSpellings.{body_judged, version_body, version_spelling}
use Rattle.deb_index.specs.declared.members.Members.{Members}
use Rattle.deb_index.specs.declared.members.Members.TheVariants.{All, Installed}
use Rattle.deb_index.proofs.Filters.{filter-all, picked, picks}

-- where a paragraph is left there is a further one, or the file is refused
module _ (rules : Rules) (n : ℕ) (before : List Entries) where
  within-some : (line : ℕ) (answer : Result Entries Refusal) → within_file before line answer ≡ Ok None → ⊥
  within-some line (Err refusal) e = cc
  within-some line (Ok entries) e = by_file (not (nat_le (length (file_text (before ++ entries ∷ []))) file_limit)) e
    where
      by_file : (t : Bool) → cond {A = Result (Option Entries) Refusal} t (Err (record { code = FileTooLong; line = line })) (Ok (Some entries)) ≡ Ok None → ⊥
      by_file true e = cc
      by_file false e = cc

  seen-some : (first : ℕ) (answer : Result (List Field) Refusal) → answer_of_seen rules n before (seen_from first answer) ≡ Ok None → ⊥
  seen-some first (Ok fields) e = within-some first (built rules (record { first = first; fields = fields })) e
  seen-some first (Err refusal) e = cc

  left-some : (beyond : Option ℕ) (p : Paragraph) (more : List Paragraph) → answer_behind rules beyond n before (p ∷ more) ≡ Ok None → ⊥
  left-some beyond p more e = by_count (rules.single && has_some before) e
    where
      by_file : (t : Bool) → answer_of_seen rules n before (cond t (Err (record { code = FileTooLong; line = p.first + length p.lines })) (seen_from p.first (judged p.first p.lines))) ≡ Ok None → ⊥
      by_file true e = cc
      by_file false e = seen-some p.first (judged p.first p.lines) e

      by_length : (long : Option ℕ) → answer_of_seen rules n before (paragraph_answer long beyond p) ≡ Ok None → ⊥
      by_length (Some line) e = cc
      by_length None e = by_file (is_line (p.first + length p.lines) beyond) e

      by_count : (t : Bool) → cond {A = Result (Option Entries) Refusal} t (Err (record { code = TooManyParagraphs; line = p.first })) (answer_of_seen rules n before (answer_of_first beyond (p ∷ more))) ≡ Ok None → ⊥
      by_count true e = cc
      by_count false e = by_length (line_too_long p.first paragraph_limit p.lines) e

  none-left : (beyond : Option ℕ) (left : List Paragraph) → answer_behind rules beyond n before left ≡ Ok None → (beyond ≡ None) × (left ≡ [])
  none-left None [] e = (refl, refl)
  none-left (Some line) [] e = absurd (cc)
  none-left beyond (p ∷ more) e = absurd (left-some beyond p more e)

-- what is read of a paragraph is read of what is seen of it
module _ {X : Type 0} (of : Paragraph → X) (shown : Seen → X) (same : (p : Paragraph) (fields : List Field) → judged p.first p.lines ≡ Ok fields → of p ≡ shown (record { first = p.first; fields = fields })) where
  seen-is : (p : Paragraph) (answer : Result (List Field) Refusal) (seen : Seen) → judged p.first p.lines ≡ answer → seen_from p.first answer ≡ Ok (Some seen) → of p ≡ shown seen
  seen-is p (Ok fields) seen is e =
      let are : record { first = p.first; fields = fields } ≡ seen = cc in
      same p fields is ∙ ap shown are
  seen-is p (Err refusal) seen is e = absurd (cc)

  seen-is_first : (beyond : Option ℕ) (left : List Paragraph) (seen : Seen) → answer_of_first beyond left ≡ Ok (Some seen) → map of left ≡ shown seen ∷ map of (drop 1 left)
  seen-is_first None [] seen e = absurd (cc)
  seen-is_first (Some line) [] seen e = absurd (cc)
  seen-is_first beyond (p ∷ more) seen e = ap (λ n. n ∷ map of more) (by_length (line_too_long p.first paragraph_limit p.lines) e)
    where
      by_file : (t : Bool) → cond {A = Result (Option Seen) Refusal} t (Err (record { code = FileTooLong; line = p.first + length p.lines })) (seen_from p.first (judged p.first p.lines)) ≡ Ok (Some seen) → of p ≡ shown seen
      by_file true e = absurd (cc)
      by_file false e = seen-is p (judged p.first p.lines) seen refl e

      by_length : (long : Option ℕ) → paragraph_answer long beyond p ≡ Ok (Some seen) → of p ≡ shown seen
      by_length (Some line) e = absurd (cc)
      by_length None e = by_file (is_line (p.first + length p.lines) beyond) e

  -- what is read of the next paragraphs, and then of those that are left
  next_read : (text : List ℕ) (n : ℕ) (given : List Seen) → AreNext text n given → map of (drop n (paragraphs_within text)) ≡ map shown given ++ map of (drop (n + length given) (paragraphs_within text))
  next_read text n [] next = ap (λ k. map of (drop k (paragraphs_within text))) (omega arith)
  next_read text n (seen ∷ more) next =
      seen-is_first (line_beyond 1 file_limit text) (drop n (paragraphs_within text)) seen next.0
      ∙ ap (λ l. shown seen ∷ map of l) (drop_one n (paragraphs_within text))
      ∙ ap (λ l. shown seen ∷ l) (next_read text (n + 1) more next.1 ∙ ap (λ k. map shown more ++ map of (drop k (paragraphs_within text))) (omega arith))

  -- if no further one follows it is read of all
  all_read : (doc : Doc) (text : List ℕ) (given : List Seen) → ShownAll doc text given → map shown given ≡ map of (paragraphs_of text)
  all_read doc text given all =
      let count = length-map given (bodies_seen doc) in
      let end : answer_behind (rules_of doc) (line_beyond 1 file_limit text) (line_behind text) (map (bodies_seen doc) given) (drop (length given) (paragraphs_within text)) ≡ Ok None = subst (λ k. answer_behind (rules_of doc) (line_beyond 1 file_limit text) (line_behind text) (map (bodies_seen doc) given) (drop k (paragraphs_within text)) ≡ Ok None) count all.none in
      let none = none-left (rules_of doc) (line_behind text) (map (bodies_seen doc) given) (line_beyond 1 file_limit text) (drop (length given) (paragraphs_within text)) end in
      let whole : paragraphs_within text ≡ paragraphs_of text = ap paragraphs_of (part_within-whole text (length-within text none.0)) in
      let from_start : length given ≡ 0 + length given = omega arith in
      sym (append-nil (map shown given)) ∙ ap (λ l. map shown given ++ map of l) (sym none.1 ∙ ap (λ k. drop k (paragraphs_within text)) from_start) ∙ sym (next_read text 0 given all.next) ∙ ap (map of) whole

-- of the members alone
module _ {X : Type 0} (of : Paragraph → X) (shown : Seen → X) (same : (p : Paragraph) (fields : List Field) → judged p.first p.lines ≡ Ok fields → of p ≡ shown (record { first = p.first; fields = fields })) where
  members_read : (text : List ℕ) (given : List Seen) → ShownAll Status text given → map shown (filter is_seen_member given) ≡ map of (filter is_member_in (paragraphs_of text))
  members_read text given all =
      picked is_seen_member shown given
      ∙ ap picks (all_read (λ p. (is_member_in p, of p)) (λ seen. (is_seen_member seen, shown seen))
      (λ p fields is. rw (ap is_judged_member is, same p fields is) refl) Status text given all)
      ∙ sym (picked is_member_in of (paragraphs_of text))

pub all_lines : (members : Members) (text : List ℕ) (given : List Seen) → ShownAll (doc_of members) text given → map (λ seen. seen.first) (seen_in members given) ≡ member_lines members text
all_lines All text given all = ap (map (λ seen. seen.first)) (filter-all (has_seen All) (λ seen. refl) given) ∙ all_read first_line (λ seen. seen.first) (λ p fields is. refl) Packages text given all
all_lines Installed text given all = members_read first_line (λ seen. seen.first) (λ p fields is. refl) text given all

pub all_spellings : (members : Members) (text : List ℕ) (given : List Seen) → ShownAll (doc_of members) text given → map (λ seen. version_body seen.fields) (seen_in members given) ≡ member_spellings members text
all_spellings All text given all = ap (map (λ seen. version_body seen.fields)) (filter-all (has_seen All) (λ seen. refl) given) ∙ all_read version_spelling (λ seen. version_body seen.fields) (λ p fields is. ap body_judged is) Packages text given all
all_spellings Installed text given all = members_read version_spelling (λ seen. version_body seen.fields) (λ p fields is. ap body_judged is) text given all
