-- What was written of the paragraphs that were given so far, and what a call that stops there says of it.
use Rattle.deb_control.proofs.Common.{◌≡◌, ℕ, IsTrue, List, [], ◌∷◌, ◌++◌, length, map, Option, Result, Ok, Err, refl, sym, ap, ◌∙◌, subst, append-nil, append_assoc, newline, Appends-trans, map-append, length-map, bytes_eq-Decides, Appends, AppendsFront, AppendsFront-then, AppendsFront-more, Fault, Refusal, Seen, Entries, Doc, ValueMeaning, SpellsValue, value_text, value_law, is_passing, is_text_of, built, paragraph_text, file_text, gap_behind, canonical_text, out_of, rules_of, IfRefused, WritesCanonical, WritesRead, WritesRefused, CheckedText, passing_of}
use Rattle.deb_control.specs.CheckedStates.{doc_of}
use Rattle.deb_control.specs.GivenParagraphs.{bodies_built, bodies_seen}
use Rattle.deb_control.proofs.Accepting.{accepted_is_written}
use Rattle.deb_control.proofs.CheckedSoFar.{has_paragraphs, refused_then}
use Rattle.deb_control.proofs.DocumentRules.{document_rules}
use Rattle.deb_control.proofs.NextChecked.{file_text-push}
use Rattle.deb_control.proofs.ShownSoFar.{ShownAll, ShownFront, ShownRefused}

-- the text of more paragraphs begins with that of the first ones
file_text-starts : (before more : List Entries) → (rest : List ℕ) × (file_text (before ++ more) ≡ file_text before ++ rest)
file_text-starts before [] = ([], ap file_text (append-nil before) ∙ sym (append-nil (file_text before)))
file_text-starts [] (entries ∷ more) = (file_text (entries ∷ more), refl)
file_text-starts (first ∷ []) (entries ∷ more) = (newline ∷ file_text (entries ∷ more), refl)
file_text-starts (first ∷ next ∷ before) (entries ∷ more) =
    let rest = file_text-starts (next ∷ before) (entries ∷ more) in
    (rest.0, ap (λ text. paragraph_text first ++ newline ∷ text) rest.1 ∙ sym (append_assoc (paragraph_text first) (newline ∷ file_text (next ∷ before)) rest.0))

-- the canonical text of these paragraphs
abbrev pub text_given : Doc → List Seen → List ℕ
text_given doc given = file_text (map (bodies_seen doc) given)

-- the canonical text of one that passes
pub text_seen : (doc : Doc) (seen : Seen) (text : List ℕ) → IsTrue (is_passing doc seen text) → text ≡ paragraph_text (bodies_seen doc seen)
text_seen doc seen text passes = go (built (rules_of doc) seen) passes
  where
    go : (r : Result Entries Refusal) → IsTrue (is_text_of r text) → text ≡ paragraph_text (bodies_built r)
    go (Ok entries) is = (bytes_eq-Decides text (paragraph_text entries)).0 is
    go (Err refusal) is = absurd cc

-- the text that a paragraph which was given shows
pub text_passing : (paragraph : CheckedText) (doc : Doc) (bytes : List ℕ) → doc_of paragraph ≡ doc → bytes ≡ (passing_of paragraph).text → IsTrue (is_passing doc (passing_of paragraph).seen bytes)
text_passing paragraph doc bytes same is = rw (← same, is) paragraph.passes

text_given-push : (doc : Doc) (given : List Seen) (seen : Seen) → text_given doc (given ++ seen ∷ []) ≡ text_given doc given ++ (gap_behind (length given) ++ paragraph_text (bodies_seen doc seen))
text_given-push doc given seen =
    ap file_text (map-append (bodies_seen doc) given (seen ∷ [])) ∙ file_text-push (map (bodies_seen doc) given) (bodies_seen doc seen)
    ∙ ap (λ n. text_given doc given ++ (gap_behind n ++ paragraph_text (bodies_seen doc seen))) (length-map given (bodies_seen doc))

-- what is put for one more paragraph
put_for : (doc : Doc) (given : List Seen) (seen : Seen) (bytes : List ℕ) (n : ℕ) → length given ≡ n → IsTrue (is_passing doc seen bytes) → gap_behind n ++ (bytes ++ []) ≡ gap_behind (length given) ++ paragraph_text (bodies_seen doc seen)
put_for doc given seen bytes n counted passes = ap (λ k. gap_behind k ++ (bytes ++ [])) (sym counted) ∙ ap (λ b. gap_behind (length given) ++ b) (append-nil bytes ∙ text_seen doc seen bytes passes)

pub written_more : (doc : Doc) (given : List Seen) (seen : Seen) (bytes : List ℕ) (n : ℕ) (a b c : Option (List ℕ)) → length given ≡ n → IsTrue (is_passing doc seen bytes) → Appends a b (text_given doc given) → Appends b c (gap_behind n ++ (bytes ++ [])) → Appends a c (text_given doc (given ++ seen ∷ []))
written_more doc given seen bytes n a b c counted passes written next =
    subst (Appends a c) (sym (text_given-push doc given seen))
    (Appends-trans a b c (text_given doc given) _ written (subst (Appends b c) (put_for doc given seen bytes n counted passes) next))

-- what is left if that write fails
pub written_front : (doc : Doc) (text : List ℕ) (given : List Seen) (seen : Seen) (bytes : List ℕ) (n : ℕ) (a b c : Option (List ℕ)) → length given ≡ n → IsTrue (is_passing doc seen bytes) → Appends a b (text_given doc given) → AppendsFront b c (gap_behind n ++ (bytes ++ [])) → ShownFront doc text (given ++ seen ∷ []) → AppendsFront a c (out_of doc text)
written_front doc text given seen bytes n a b c counted passes written front shown =
    let first = map (bodies_seen doc) (given ++ seen ∷ []) in
    let rest = file_text-starts first shown.more in
    let all : AppendsFront a c (text_given doc (given ++ seen ∷ [])) =
    subst (AppendsFront a c) (sym (text_given-push doc given seen))
    (AppendsFront-then a b c (text_given doc given) _ written (subst (AppendsFront b c) (put_for doc given seen bytes n counted passes) front)) in
    subst (AppendsFront a c) (sym (ap file_text shown.passed ∙ rest.1)) (AppendsFront-more a c (file_text first) rest.0 all)

module _ {doc : Doc} {text : List ℕ} {given : List Seen} {old held : Option (List ℕ)} (written : Appends old held (text_given doc given)) where
  -- the file ends
  pub writes_canonical : (n : ℕ) → length given ≡ n → ShownAll doc text given → WritesCanonical doc text n old held
  writes_canonical n counted all =
      let has = has_paragraphs doc text (map (bodies_seen doc) given) n all.is (length-map given (bodies_seen doc) ∙ counted) in
      let text_is : text_given doc given ≡ canonical_text has.meaning =
      ap (λ o. file_text o.passed) (sym all.is) ∙ accepted_is_written ValueMeaning (SpellsValue doc) value_text (value_law doc) (rules_of doc) (document_rules doc) text has.meaning has.accepted in
      record { meaning = has.meaning; accepted = has.accepted; count = has.count; written = subst (Appends old held) text_is written }

  -- there is another fault
  pub writes_read : ShownFront doc text given → WritesRead doc text old held
  writes_read shown = record {
    read = shown.read;
    behind = shown.behind;
    whole = shown.whole;
    closed = shown.closed;
    first = map (bodies_seen doc) given;
    more = shown.more;
    passed = shown.passed;
    all = shown.all;
    alone = shown.alone;
    written = written;
  }

-- it is refused
pub writes_refused : (T : Type 0) (doc : Doc) (text : List ℕ) (given : List Seen) (old held : Option (List ℕ)) (fault : Fault) → Appends old held (text_given doc given) → IfRefused {T = T} (Err fault) (ShownRefused doc text given) → IfRefused {T = T} (Err fault) (λ refusal. WritesRefused doc text refusal old held)
writes_refused T doc text given old held fault written refused =
    refused_then T (ShownRefused doc text given) (λ refusal. WritesRefused doc text refusal old held) fault
    (λ refusal shown. record { refused = ap (λ o. o.refusal) shown.is; written = subst (Appends old held) (ap (λ o. file_text o.passed) (sym shown.is)) written }) refused
