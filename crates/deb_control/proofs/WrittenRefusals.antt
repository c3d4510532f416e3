-- What is written of a file, by what is written of each refusal.
use Rattle.std.proofs.Common.{◌≡◌, ℕ, ◌++◌, List, [], ◌∷◌, length, Option, Err, sym, ap, ◌∙◌, subst}
use Rattle.std.proofs.KnownBytes.{Appends-nil, Appends-trans}
use Rattle.std.proofs.lemmas.List.{flat_map_more}
use Rattle.std.proofs.lemmas.List.Concat.{flat_map-append}
use Rattle.std.proofs.lemmas.List.Folds.{flat_map-map}
use Rattle.std.specs.Io.KnownBytes.{Appends}
use Rattle.std.specs.List.{flat_map}
use Rattle.deb_base.proofs.Writes.{AppendsFront-more, AppendsFront-then}
use Rattle.deb_base.specs.Devices.{AppendsFront}
use Rattle.deb_base.specs.Lines.{refusal_line}
use Rattle.deb_base.specs.declared.doc.Doc.{Doc}
use Rattle.deb_base.specs.declared.fault.Fault.{Fault}
use Rattle.deb_base.specs.declared.fault.Fault.TheVariants.{Refused, Memory, Read, Write}
use Rattle.deb_base.specs.declared.refusal.Refusal.{Refusal}
use Rattle.deb_control.specs.Calls.{IfCutOff, IfWriteFailed}
use Rattle.deb_control.specs.AllRefusals.{file_lines, lines_of_refusals, passed_of, refusals_of, total_line}
use Rattle.deb_control.specs.GivenRefusals.{AreFirst, GivesAll, GivesRefusal, HasGiven}
use Rattle.deb_control.specs.SeenRefusals.{SeenRefusal, refusals_alone, refusals_seen}
use Rattle.deb_control.specs.WrittenRefusals.{HasWritten, WritesAll, WritesFirst, WritesNext, line_written, text_written}
use Rattle.deb_control.specs.declared.refusals.Refusals.{Refusals}
use Rattle.deb_control.specs.declared.summary.Summary.{Summary}
use Rattle.deb_control.proofs.SeenRefusals.{alone_are}

module _ (of : SeenRefusal → List ℕ) (doc : Doc) (text : List ℕ) where
  one_more : (done : List SeenRefusal) (seen : SeenRefusal) → flat_map of (done ++ seen ∷ []) ≡ flat_map of done ++ of seen
  one_more done seen = sym (flat_map_more of [] done seen)

  -- nothing was given
  pub nothing_written : (r : Refusals) (left held : Option (List ℕ)) → HasGiven doc text r left [] → HasWritten of (HasGiven doc text r left) held held
  nothing_written r left held given = record { done = []; given = given; written = Appends-nil held }

  -- one refusal more, which is written
  pub one_written : (r new : Refusals) (left after old held writes : Option (List ℕ)) (refusal : Refusal) → (has : HasWritten of (HasGiven doc text r left) old held) → (gives : GivesRefusal doc text refusal new after has.done) → Appends held writes (of gives.seen) → HasWritten of (HasGiven doc text new after) old writes
  one_written r new left after old held writes refusal has gives line = record {
    done = has.done ++ gives.seen ∷ [];
    given = gives.given;
    written = subst (Appends old writes) (sym (one_more has.done gives.seen)) (Appends-trans old held writes (flat_map of has.done) (of gives.seen) has.written line);
  }

  -- or a part of that is
  pub part_written : (r new : Refusals) (left after old held writes : Option (List ℕ)) (refusal : Refusal) → (has : HasWritten of (HasGiven doc text r left) old held) → (gives : GivesRefusal doc text refusal new after has.done) → AppendsFront held writes (of gives.seen) → AppendsFront old writes (text_written of doc text)
  part_written r new left after old held writes refusal has gives line =
      let first = gives.given.first in
      let seen = gives.seen in
      let total = total_line (passed_of doc text) (length (refusals_of doc text)) in
      let all : flat_map of (refusals_seen doc text) ≡ (flat_map of has.done ++ of seen) ++ flat_map of first.more =
      ap (flat_map of) first.all ∙ flat_map-append of (has.done ++ seen ∷ []) first.more ∙ ap (λ l. l ++ flat_map of first.more) (one_more has.done seen) in
      let front = AppendsFront-then old held writes (flat_map of has.done) (of seen) has.written line in
      AppendsFront-more old writes (flat_map of (refusals_seen doc text)) total
      (subst (AppendsFront old writes) (sym all) (AppendsFront-more old writes (flat_map of has.done ++ of seen) (flat_map of first.more) front))

  -- an error comes before it
  pub first_written : (done : List SeenRefusal) (old held : Option (List ℕ)) → AreFirst doc text done → Appends old held (flat_map of done) → HasWritten of (AreFirst doc text) old held
  first_written done old held first written = record { done = done; given = first; written = written }

  pub first_of_given : (r : Refusals) (left old held : Option (List ℕ)) → HasWritten of (HasGiven doc text r left) old held → HasWritten of (AreFirst doc text) old held
  first_of_given r left old held has = first_written has.done old held has.given.first has.written

  -- all are given, and the last line is written, or a part of it
  pub all_written : (r : Refusals) (left old held writes : Option (List ℕ)) → HasWritten of (GivesAll doc text r left) old held → Appends held writes (total_line r.summary.passed r.summary.refused) → Appends old writes (text_written of doc text)
  all_written r left old held writes has total =
      let given = has.given in
      let lines = subst (λ refusals. Appends old held (flat_map of refusals)) (sym given.seen) has.written in
      Appends-trans old held writes (flat_map of (refusals_seen doc text)) (total_line (passed_of doc text) (length (refusals_of doc text))) lines (rw (← given.passed, ← given.refused) total)

  pub all_failed : (r : Refusals) (left old held writes : Option (List ℕ)) → HasWritten of (GivesAll doc text r left) old held → AppendsFront held writes (total_line r.summary.passed r.summary.refused) → AppendsFront old writes (text_written of doc text)
  all_failed r left old held writes has total =
      let given = has.given in
      let lines = subst (λ refusals. Appends old held (flat_map of refusals)) (sym given.seen) has.written in
      AppendsFront-then old held writes (flat_map of (refusals_seen doc text)) (total_line (passed_of doc text) (length (refusals_of doc text))) lines (rw (← given.passed, ← given.refused) total)

  -- what an answer with an error says
  pub failed_next : (r : Refusals) (left old held : Option (List ℕ)) (fault : Fault) → fault ≡ Write → AppendsFront old held (text_written of doc text) → WritesNext of doc text (Err fault) r left old held
  failed_next r left old held fault is front = subst (λ f. WritesNext of doc text (Err f) r left old held) (sym is) front

  pub cut_after : (P : Type 0) (r : Refusals) (left old held : Option (List ℕ)) (fault : Fault) → (HasWritten of (AreFirst doc text) old held → P) → WritesNext of doc text (Err fault) r left old held → IfCutOff {T = Summary} (Err fault) P
  cut_after P r left old held (Refused refusal) says writes_next = tt
  cut_after P r left old held Memory says writes_next = says writes_next
  cut_after P r left old held Read says writes_next = says writes_next
  cut_after P r left old held Write says writes_next = tt

  pub failed_after : (P : Type 0) (r : Refusals) (left old held : Option (List ℕ)) (fault : Fault) → (AppendsFront old held (text_written of doc text) → P) → WritesNext of doc text (Err fault) r left old held → IfWriteFailed {T = Summary} (Err fault) P
  failed_after P r left old held (Refused refusal) says writes_next = tt
  failed_after P r left old held Memory says writes_next = tt
  failed_after P r left old held Read says writes_next = tt
  failed_after P r left old held Write says writes_next = says writes_next

pub write_failed : (fault : Fault) (P : Type 0) → P → IfWriteFailed {T = Summary} (Err fault) P
write_failed (Refused refusal) P p = tt
write_failed Memory P p = tt
write_failed Read P p = tt
write_failed Write P p = p

-- ---- the lines of refusals

lines_seen : (refusals : List SeenRefusal) → flat_map line_written refusals ≡ lines_of_refusals (refusals_alone refusals)
lines_seen refusals = sym (flat_map-map refusal_line (λ seen. seen.refusal) refusals)

pub lines_are_text : (doc : Doc) (text : List ℕ) → text_written line_written doc text ≡ file_lines doc text
lines_are_text doc text = ap (λ lines. lines ++ total_line (passed_of doc text) (length (refusals_of doc text))) (lines_seen (refusals_seen doc text) ∙ ap lines_of_refusals (alone_are doc text))

pub lines_first : (doc : Doc) (text : List ℕ) (old held : Option (List ℕ)) → HasWritten line_written (AreFirst doc text) old held → WritesFirst doc text old held
lines_first doc text old held has = record {
  first = refusals_alone has.done;
  more = refusals_alone has.given.more;
  all = has.given.refusals;
  written = subst (Appends old held) (lines_seen has.done) has.written;
}

pub lines_all : (doc : Doc) (text : List ℕ) (r : Refusals) (left old held writes : Option (List ℕ)) → HasWritten line_written (GivesAll doc text r left) old held → Appends held writes (total_line r.summary.passed r.summary.refused) → WritesAll doc text r.summary old writes
lines_all doc text r left old held writes has total = record {
  passed = has.given.passed;
  refused = has.given.refused;
  written = subst (Appends old writes) (lines_are_text doc text) (all_written line_written doc text r left old held writes has total);
}
