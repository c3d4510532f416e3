-- What is known of the fields of a file while it is read, and at its end.
use Rattle.std.proofs.Common.{◌≡◌, ℕ, ◌+◌, List, [], ◌∷◌, ◌++◌, length, map, Err, refl, sym, ap, ◌∙◌, subst, append_assoc, append-nil, arith}
use Rattle.std.proofs.lemmas.List.{length-map}
use Rattle.deb_base.specs.declared.doc.Doc.{Doc}
use Rattle.deb_base.specs.declared.fault.Fault.{Fault}
use Rattle.deb_syntax.specs.Answers.{Seen}
use Rattle.deb_control.specs.Calls.{IfRefused}
use Rattle.deb_control.specs.Documents.{rules_of}
use Rattle.deb_control.specs.GivenParagraphs.{AreNext, bodies_seen}
use Rattle.deb_control.specs.Refusals.{outcome}
use Rattle.deb_control.proofs.CheckedSoFar.{refused_then}
use Rattle.deb_control.proofs.ShownSoFar.{ShownAll, ShownRefused}
use Rattle.debctl_ffi.specs.Fields.{Numbered, numbered, numbered_from}
use Rattle.debctl_ffi.specs.Tables.{HasTables, ShowFields}
use Rattle.debctl_ffi.specs.declared.field.Tables.{Tables}

pub numbered_from-push : (n : ℕ) (paragraphs : List Seen) (seen : Seen) → numbered_from n (paragraphs ++ seen ∷ []) ≡ numbered_from n paragraphs ++ numbered (n + length paragraphs) seen.fields
numbered_from-push n [] seen = append-nil (numbered n seen.fields) ∙ ap (λ k. numbered k seen.fields) (omega arith)
numbered_from-push n (first ∷ more) seen =
    ap (λ l. numbered n first.fields ++ l) (numbered_from-push (n + 1) more seen)
    ∙ sym (append_assoc (numbered n first.fields) (numbered_from (n + 1) more) (numbered (n + 1 + length more) seen.fields))
    ∙ ap (λ k. (numbered n first.fields ++ numbered_from (n + 1) more) ++ numbered k seen.fields) (omega arith)

-- one paragraph more
pub one_shown : (tables pushed : Tables) (given : List Seen) (seen : Seen) (count : ℕ) → length given ≡ count → HasTables tables (numbered_from 1 given)
    → ((shown : List Numbered) → HasTables tables shown → HasTables pushed (shown ++ numbered (count + 1) seen.fields)) → HasTables pushed (numbered_from 1 (given ++ seen ∷ []))
one_shown tables pushed given seen count counted has push =
    subst (HasTables pushed) (ap (λ k. numbered_from 1 given ++ numbered k seen.fields) (omega (arith, counted)) ∙ sym (numbered_from-push 1 given seen)) (push (numbered_from 1 given) has)

module _ (doc : Doc) (text : List ℕ) (given : List Seen) (tables : Tables) (has : HasTables tables (numbered_from 1 given)) where
  shows_given : AreNext text 0 given → (outcome (rules_of doc) text).passed ≡ map (bodies_seen doc) given → ShowFields doc text tables
  shows_given next passed = record {
    shown = numbered_from 1 given;
    are = record { paragraphs = given; next = next; passed = sym (length-map given (bodies_seen doc)) ∙ ap length (sym passed); fields = refl };
    has = has;
  }

  -- there is no further paragraph
  pub all_shown : ShownAll doc text given → ShowFields doc text tables
  all_shown all = shows_given all.next (ap (λ o. o.passed) all.is)

  -- the file is refused after them
  pub shown_refused : (fault : Fault) → IfRefused {T = ℕ} (Err fault) (ShownRefused doc text given) → IfRefused {T = ℕ} (Err fault) (λ refusal. ShowFields doc text tables)
  shown_refused fault refused = refused_then ℕ (ShownRefused doc text given) (λ refusal. ShowFields doc text tables) fault (λ refusal shown. shows_given shown.next (ap (λ o. o.passed) shown.is)) refused
