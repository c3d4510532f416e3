-- What is known of the lines that were written while a file is read, and at its end.
use Rattle.std.proofs.Common.{◌≡◌, ℕ, ◌+◌, Bool, true, ◌&&◌, List, [], ◌∷◌, ◌++◌, length, map, Option, Result, Ok, Err, refl, sym, ap, ◌∙◌, subst, append_assoc, append-nil, arith}
use Rattle.std.proofs.KnownBytes.{Appends-nil, Appends-trans}
use Rattle.std.specs.Io.KnownBytes.{Appends}
use Rattle.deb_base.specs.Devices.{AppendsFront}
use Rattle.deb_base.specs.declared.fault.Fault.{Fault}
use Rattle.deb_base.specs.declared.fault.Fault.TheVariants.{Refused, Memory, Read, Write}
use Rattle.deb_base.proofs.Writes.{AppendsFront-then}
use Rattle.deb_syntax.specs.Answers.{Seen, next_answer}
use Rattle.deb_syntax.specs.Fields.{Field}
use Rattle.deb_field.specs.Values.{ValueMeaning}
use Rattle.deb_control.specs.Calls.{IfCutOff, IfRefused, IfWriteFailed}
use Rattle.deb_control.specs.Documents.{Meaning, Accepted}
use Rattle.deb_control.specs.GivenParagraphs.{AreNext, bodies_seen}
use Rattle.deb_control.specs.Pairs.{Pairwise}
use Rattle.deb_control.specs.Paragraphs.{AreValuesOf}
use Rattle.deb_control.specs.ValueFiles.{ValueEntries}
use Rattle.deb_control.proofs.CheckedSoFar.{refused_then}
use Rattle.deb_control.proofs.GivenValues.{accepted-given, pairwise-length, pairwise-push, spelled-given}
use Rattle.deb_control.proofs.ShownSoFar.{ShownAll, ShownFront, ShownRefused}
use Rattle.deb_unmet.specs.Asking.{PutsLines}
use Rattle.deb_unmet.specs.Files.{Asks, WritesFront, WritesLines, WritesRead, WritesRefused, WritesSome, WritesFile, is_nothing, lines_from, lines_of}
use Rattle.deb_unmet.specs.Spelled.{fields_of_seen, version_word}
use Rattle.deb_unmet.specs.declared.asking.Summary.{Summary}

-- the lines of paragraphs that were given after so many
abbrev pub lines_given : Asks → ℕ → List Seen → Meaning → List ℕ
lines_given asks n (seen ∷ given) (values ∷ more) = lines_of asks (n + 1) seen.fields values ++ lines_given asks (n + 1) given more
lines_given asks n given values = []

-- and those of more paragraphs
pub lines_given-append : (asks : Asks) (n : ℕ) (given : List Seen) (values : Meaning) (more : List Seen) (others : Meaning) → length values ≡ length given → lines_given asks n (given ++ more) (values ++ others) ≡ lines_given asks n given values ++ lines_given asks (n + length given) more others
lines_given-append asks n [] [] more others same = ap (λ k. lines_given asks k more others) (omega arith)
lines_given-append asks n [] (v ∷ values) more others same = absurd (omega (arith, same))
lines_given-append asks n (first ∷ given) [] more others same = absurd (omega (arith, same))
lines_given-append asks n (first ∷ given) (v ∷ values) more others same =
    ap (λ l. lines_of asks (n + 1) first.fields v ++ l) (lines_given-append asks (n + 1) given values more others (omega (arith, same)))
    ∙ sym (append_assoc (lines_of asks (n + 1) first.fields v) (lines_given asks (n + 1) given values) (lines_given asks (n + 1 + length given) more others))
    ∙ ap (λ k. (lines_of asks (n + 1) first.fields v ++ lines_given asks (n + 1) given values) ++ lines_given asks k more others) (omega arith)

lines_given-push : (asks : Asks) (n : ℕ) (given : List Seen) (values : Meaning) (seen : Seen) (more : ValueEntries ValueMeaning) → length values ≡ length given → lines_given asks n (given ++ seen ∷ []) (values ++ more ∷ []) ≡ lines_given asks n given values ++ lines_of asks (n + length given + 1) seen.fields more
lines_given-push asks n given values seen more same =
    lines_given-append asks n given values (seen ∷ []) (more ∷ []) same
    ∙ ap (λ l. lines_given asks n given values ++ l) (append-nil (lines_of asks (n + length given + 1) seen.fields more))

-- they are those of the file
pub given-lines : (asks : Asks) (text : List ℕ) (n : ℕ) (given : List Seen) (values : Meaning) → length values ≡ length given → AreNext text n given → lines_given asks n given values ≡ lines_from asks text n values
given-lines asks text n [] [] same next = refl
given-lines asks text n [] (v ∷ values) same next = absurd (omega (arith, same))
given-lines asks text n (seen ∷ given) [] same next = refl
given-lines asks text n (seen ∷ given) (v ∷ values) same next =
    ap (λ f. lines_of asks (n + 1) f v ++ lines_given asks (n + 1) given values) (sym (ap fields_of_seen next.0))
    ∙ ap (λ l. lines_of asks (n + 1) (fields_of_seen (next_answer text n)) v ++ l) (given-lines asks text (n + 1) given values (omega (arith, same)) next.1)

-- what is put of a paragraph with this text of its version
pub puts_lines : (asks : Asks) (number : ℕ) (fields : List Field) (values : ValueEntries ValueMeaning) (version : List ℕ) (r : Result Bool Fault) (held writes : Option (List ℕ)) → version ≡ version_word asks.versions fields values → PutsLines (asks.lines number version values) r held writes → PutsLines (lines_of asks number fields values) r held writes
puts_lines asks number fields values version r held writes is puts = subst (λ v. PutsLines (asks.lines number v values) r held writes) is puts

-- Exactly the lines of these paragraphs were written.
pub record HasAsked (asks : Asks) (old new : Option (List ℕ)) (empty : Bool) (given : List Seen) : Type 0 where
  pub values : Meaning
  pub are : Pairwise (AreValuesOf asks.doc) given values
  pub written : Appends old new (lines_given asks 0 given values)
  pub is_empty : empty ≡ is_nothing (lines_given asks 0 given values)

pub none_asked : (asks : Asks) (held : Option (List ℕ)) → HasAsked asks held held true []
none_asked asks held = record { values = []; are = tt; written = Appends-nil held; is_empty = refl }

pub nothing-both : (xs ys : List ℕ) → is_nothing (xs ++ ys) ≡ (is_nothing xs && is_nothing ys)
nothing-both [] ys = refl
nothing-both (x ∷ xs) ys = refl

module _ {asks : Asks} {old held : Option (List ℕ)} {empty : Bool} {given : List Seen} (has : HasAsked asks old held empty given) where
  same_length : length has.values ≡ length given
  same_length = pairwise-length (AreValuesOf asks.doc) given has.values has.are

  -- the same as lines of the file
  written_of : {text : List ℕ} → AreNext text 0 given → WritesLines asks text (map (bodies_seen asks.doc) given) old held
  written_of {text} next = record {
    values = has.values;
    are = spelled-given asks.doc given has.values has.are;
    written = subst (Appends old held) (given-lines asks text 0 given has.values same_length next) has.written;
  }

  -- one paragraph more
  module _ (seen : Seen) (values : ValueEntries ValueMeaning) (are : AreValuesOf asks.doc seen values) (count : ℕ) (counted : length given ≡ count) where
    from_start : 0 + length given ≡ count
    from_start = omega (arith, counted)

    more_is : lines_given asks 0 (given ++ seen ∷ []) (has.values ++ values ∷ []) ≡ lines_given asks 0 given has.values ++ lines_of asks (count + 1) seen.fields values
    more_is = lines_given-push asks 0 given has.values seen values same_length ∙ ap (λ k. lines_given asks 0 given has.values ++ lines_of asks (k + 1) seen.fields values) from_start

    more_are : Pairwise (AreValuesOf asks.doc) (given ++ seen ∷ []) (has.values ++ values ∷ [])
    more_are = pairwise-push (AreValuesOf asks.doc) given has.values seen values has.are are

    pub one_asked : (writes : Option (List ℕ)) (one all : Bool) → PutsLines (lines_of asks (count + 1) seen.fields values) (Ok one) held writes → all ≡ (empty && one) → HasAsked asks old writes all (given ++ seen ∷ [])
    one_asked writes one all puts all_is = record {
      values = has.values ++ values ∷ [];
      are = more_are;
      written = subst (Appends old writes) (sym more_is) (Appends-trans old held writes _ _ has.written puts.0);
      is_empty = all_is ∙ ap (λ b. b && one) has.is_empty ∙ ap (λ b. is_nothing (lines_given asks 0 given has.values) && b) puts.1
          ∙ sym (nothing-both (lines_given asks 0 given has.values) (lines_of asks (count + 1) seen.fields values)) ∙ ap is_nothing (sym more_is);
    }

    -- or a front of its lines
    asked_front : {text : List ℕ} (writes : Option (List ℕ)) → AppendsFront held writes (lines_of asks (count + 1) seen.fields values) → AreNext text 0 (given ++ seen ∷ []) → WritesFront asks text (map (bodies_seen asks.doc) (given ++ seen ∷ [])) old writes
    asked_front {text} writes put next = record {
      values = has.values ++ values ∷ [];
      are = spelled-given asks.doc (given ++ seen ∷ []) (has.values ++ values ∷ []) more_are;
      written = subst (AppendsFront old writes) (sym more_is ∙ given-lines asks text 0 (given ++ seen ∷ []) (has.values ++ values ∷ []) (pairwise-length (AreValuesOf asks.doc) (given ++ seen ∷ []) (has.values ++ values ∷ []) more_are) next)
          (AppendsFront-then old held writes _ _ has.written put);
    }

    pub failed_after : (text : List ℕ) (writes : Option (List ℕ)) (fault : Fault) → PutsLines (lines_of asks (count + 1) seen.fields values) (Err fault) held writes → ShownFront asks.doc text (given ++ seen ∷ []) → IfWriteFailed {T = Summary} (Err fault) (WritesSome asks text old writes)
    failed_after text writes (Refused refusal) puts shown = tt
    failed_after text writes Memory puts shown = tt
    failed_after text writes Read puts shown = tt
    failed_after text writes Write puts shown = record {
      first = map (bodies_seen asks.doc) (given ++ seen ∷ []);
      more = shown.more;
      passed = shown.passed;
      lines = asked_front writes puts shown.next;
    }

  -- there is no further paragraph
  pub all_given : (text : List ℕ) (count : ℕ) → length given ≡ count → AreNext text 0 given → ((meaning : Meaning) → Pairwise (AreValuesOf asks.doc) given meaning → Accepted asks.doc text meaning) → WritesFile asks text (record { paragraphs = count; is_empty = empty }) old held
  all_given text count counted next accepted = record {
    meaning = has.values;
    accepted = accepted has.values has.are;
    count = same_length ∙ counted;
    written = subst (Appends old held) (given-lines asks text 0 given has.values same_length next) has.written;
    is_empty = has.is_empty ∙ ap is_nothing (given-lines asks text 0 given has.values same_length next);
  }

  pub all_asked : (text : List ℕ) (count : ℕ) → length given ≡ count → ShownAll asks.doc text given → WritesFile asks text (record { paragraphs = count; is_empty = empty }) old held
  all_asked text count counted shown = all_given text count counted shown.next (λ meaning are. accepted-given asks.doc text given meaning shown are)

  -- the file is refused after them
  pub asked_refused : (text : List ℕ) (fault : Fault) → IfRefused {T = Summary} (Err fault) (ShownRefused asks.doc text given) → IfRefused {T = Summary} (Err fault) (λ refusal. WritesRefused asks text refusal old held)
  asked_refused text fault refused =
      refused_then Summary (ShownRefused asks.doc text given) (λ refusal. WritesRefused asks text refusal old held) fault
      (λ refusal shown. record { refused = ap (λ o. o.refusal) shown.is; lines = subst (λ bodies. WritesLines asks text bodies old held) (ap (λ o. o.passed) (sym shown.is)) (written_of shown.next) }) refused

  -- a fault of another kind comes after them
  pub asked_read : (text : List ℕ) → ShownFront asks.doc text given → WritesRead asks text old held
  asked_read text shown = record {
    read = shown.read;
    behind = shown.behind;
    whole = shown.whole;
    closed = shown.closed;
    first = map (bodies_seen asks.doc) given;
    more = shown.more;
    passed = shown.passed;
    all = shown.all;
    alone = shown.alone;
    lines = written_of shown.next;
  }

-- out of memory before anything of its lines was written
pub cut_after : (asks : Asks) (text lines : List ℕ) (old held writes : Option (List ℕ)) (fault : Fault) → PutsLines lines (Err fault) held writes → WritesRead asks text old held → IfCutOff {T = Summary} (Err fault) (WritesRead asks text old writes)
cut_after asks text lines old held writes (Refused refusal) puts read = tt
cut_after asks text lines old held writes Memory puts read = subst (WritesRead asks text old) puts read
cut_after asks text lines old held writes Read puts read = absurd puts
cut_after asks text lines old held writes Write puts read = tt
