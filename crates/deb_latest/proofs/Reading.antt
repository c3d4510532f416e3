-- What was read of a file so far, and of the whole file.
use Rattle.std.proofs.Common.{◌≡◌, ℕ, suc, ◌+◌, List, [], ◌∷◌, ◌++◌, length, refl, sym, ap, ◌∙◌, subst, append-nil, append_assoc, arith}
use Rattle.deb_syntax.specs.Answers.{Seen}
use Rattle.deb_field.specs.Values.{ValueMeaning}
use Rattle.deb_control.specs.Documents.{Accepted, Meaning}
use Rattle.deb_control.specs.Pairs.{Pairwise}
use Rattle.deb_control.specs.Paragraphs.{AreValuesOf}
use Rattle.deb_control.specs.ValueFiles.{ValueEntries}
use Rattle.deb_control.specs.Visiting.{VisitsValues}
use Rattle.deb_control.proofs.GivenValues.{accepted-given, pairwise-push}
use Rattle.deb_control.proofs.ShownSoFar.{ShownAll}
use Rattle.deb_latest.specs.BestOf.{AreNumbered}
use Rattle.deb_latest.specs.Entries.{doc_of, entries_from, entries_of, entry_of}
use Rattle.deb_latest.specs.Reads.{HasEntries, HasRead, IsEntry, ReadsFile, kind_of}
use Rattle.deb_latest.specs.Requests.{Asked}
use Rattle.deb_latest.specs.Winning.{Entry}
use Rattle.deb_latest.specs.Words.{KeepsWords}
use Rattle.deb_latest.specs.declared.kind.Kind.{Kind}
use Rattle.deb_latest.specs.declared.latest.Latest.{Latest}
use Rattle.deb_latest.specs.declared.request.By.{By}
use Rattle.deb_latest.specs.declared.words.Words.{Words}
use Rattle.deb_latest.proofs.Said.{said, values, values-are}

pub entries-numbered : (by : By) (n : ℕ) (meaning : Meaning) → AreNumbered n (entries_from by n meaning)
entries-numbered by n [] = tt
entries-numbered by n (v ∷ meaning) = (refl, entries-numbered by (n + 1) meaning)

pub entries-length : (by : By) (n : ℕ) (meaning : Meaning) → length (entries_from by n meaning) ≡ length meaning
entries-length by n [] = refl
entries-length by n (v ∷ meaning) = ap suc (entries-length by (n + 1) meaning)

entries-push : (by : By) (n : ℕ) (meaning : Meaning) (v : ValueEntries ValueMeaning) → entries_from by n (meaning ++ v ∷ []) ≡ entries_from by n meaning ++ entry_of by (length (entries_from by n meaning) + n + 1) v ∷ []
entries-push by n [] v = ap (λ k. entry_of by k v ∷ []) (zero n)
  where
    zero : (n : ℕ) → n + 1 ≡ 0 + n + 1
    zero n = omega arith
entries-push by n (w ∷ meaning) v =
    ap (λ l. entry_of by (n + 1) w ∷ l)
    (entries-push by (n + 1) meaning v
    ∙ ap (λ k. entries_from by (n + 1) meaning ++ entry_of by k v ∷ []) (moved (length (entries_from by (n + 1) meaning)) n))
  where
    moved : (k n : ℕ) → k + (n + 1) + 1 ≡ suc k + n + 1
    moved k n = omega arith

-- These were given of the file, and their entries follow those before.
pub record LatestGiven (kind : Kind) (old new : Latest) (given : List Seen) : Type 0 where
  pub meaning : Meaning
  pub are : Pairwise (AreValuesOf (doc_of kind)) given meaning
  pub same : kind_of new ≡ kind_of old
  pub has : (asked : Asked) (before : Meaning) → HasRead asked before old → HasRead asked (before ++ meaning) new

pub none_given : (kind : Kind) (latest : Latest) → LatestGiven kind latest latest []
none_given kind latest = record { meaning = []; are = tt; same = refl; has = λ asked before has. subst (λ m. HasRead asked m latest) (sym (append-nil before)) has }

pub one_given : (kind : Kind) (old now new : Latest) (given : List Seen) (words : Words) (seen : Seen) → LatestGiven kind old now given → VisitsValues KeepsWords words (doc_of kind) seen
    → kind_of new ≡ kind_of now
    → ((asked : Asked) (entries : List Entry) (e : Entry) → HasEntries asked entries now → IsEntry asked.by words (length entries + 1) e → HasEntries asked (entries ++ e ∷ []) new)
    → LatestGiven kind old new (given ++ seen ∷ [])
one_given kind old now new given words seen so_far visits same added =
    let v = values kind words seen visits in
    record {
      meaning = so_far.meaning ++ v ∷ [];
      are = pairwise-push (AreValuesOf (doc_of kind)) given so_far.meaning seen v so_far.are (values-are kind words seen visits);
      same = same ∙ so_far.same;
      has = λ asked before has.
          let all = before ++ so_far.meaning in
          let entries = entries_of asked.by all in
          let number : length entries + 0 + 1 ≡ length entries + 1 = omega arith in
          subst (λ m. HasRead asked m new) (append_assoc before so_far.meaning (v ∷ []))
          (subst (λ l. HasEntries asked l new) (sym (entries-push asked.by 0 all v ∙ ap (λ k. entries ++ entry_of asked.by k v ∷ []) number))
          (added asked entries (entry_of asked.by (length entries + 1) v) (so_far.has asked before has) (said kind words seen visits asked.by (length entries + 1))));
    }

-- the whole file
pub all_given : (kind : Kind) (old new : Latest) (text : List ℕ) (given : List Seen) → LatestGiven kind old new given → kind_of old ≡ kind → ShownAll (doc_of kind) text given
    → (asked : Asked) (before : Meaning) → HasRead asked before old → ReadsFile asked before text new
all_given kind old new text given so_far is shown asked before has = record {
  meaning = so_far.meaning;
  accepted = subst (λ k. Accepted (doc_of k) text so_far.meaning) (sym is ∙ has.kind) (accepted-given (doc_of kind) text given so_far.meaning shown so_far.are);
  has = so_far.has asked before has;
}
