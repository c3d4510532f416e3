-- The members of a file: they have values, of which something is kept, and list the packages.
use Rattle.std.proofs.Common.{◌≡◌, ℕ, List, length, Result, Ok, Err, IfOk, Option, refl, sym, ap, ◌∙◌, subst}
use Rattle.std.specs.Io.KnownBytes.{Appends}
use Rattle.std.specs.List.{filter}
use Rattle.deb_base.specs.Devices.{AppendsFront}
use Rattle.deb_base.specs.Faults.{IsReadersFault}
use Rattle.deb_base.specs.declared.refusal.Refusal.{Refusal}
use Rattle.deb_base.specs.declared.doc.Doc.{Doc}
use Rattle.deb_base.specs.declared.doc.Doc.TheVariants.{Packages, Status}
use Rattle.deb_base.specs.declared.fault.Fault.{Fault}
use Rattle.deb_base.specs.declared.fault.Fault.TheVariants as faults
use Rattle.deb_field.specs.ValueLaws.{value_law}
use Rattle.deb_field.specs.Values.{ValueMeaning, value_text, SpellsValue}
use Rattle.deb_control.specs.Documents.{Meaning, Accepted, rules_of}
use Rattle.deb_control.specs.Pairs.{Pairwise}
use Rattle.deb_control.proofs.Accepting.{accepted_means_one_thing}
use Rattle.deb_index.specs.Installed.{is_member}
use Rattle.deb_index.specs.Listed.{Listed}
use Rattle.deb_index.specs.Listing.{Lists}
use Rattle.deb_index.specs.Members.{KeepsMembers, ListsMembers, doc_of, has_values}
use Rattle.deb_index.specs.declared.members.Members.{Members}
use Rattle.deb_index.specs.declared.members.Members.TheVariants.{All, Installed}
use Rattle.deb_index.proofs.Filters.{filter-all}
use Rattle.deb_unmet.specs.Files.{is_nothing}
use Rattle.deb_unmet.specs.declared.asking.Summary.{Summary}
use Rattle.deb_unmet.proofs.OwnFiles.{all_kept}
use Rattle.deb_install.specs.Answers.{AreVerdictsIn, answer_at}
use Rattle.deb_install.specs.Explaining.{HasLines}
use Rattle.deb_install.specs.Installing.{AsksInstallable, BeginsAnswers, FileAnswers, HasAnswers, StopsAnswers, WritesAnswers}
use Rattle.deb_install.specs.Keeping.{HoldsGiven, HoldsValues}
use Rattle.deb_install.specs.declared.kept.KeptMember.{KeptMember}
use Rattle.deb_install.specs.declared.readings.Readings.TheVariants.{Every}
use Rattle.deb_solve.specs.declared.verdict.Verdict.{Verdict}
use Rattle.deb_install.proofs.AnswerLines.{answers-true}

one_meaning : (doc : Doc) (text : List ℕ) (meaning other : Meaning) → Accepted doc text meaning → Accepted doc text other → meaning ≡ other
one_meaning doc = accepted_means_one_thing ValueMeaning (SpellsValue doc) value_text (value_law doc) (rules_of doc)

lists-of : (members : Members) (text : List ℕ) (packages : List Listed) (meaning : Meaning) → Accepted (doc_of members) text meaning → ListsMembers members text packages → Pairwise Lists (filter (has_values members) meaning) packages
lists-of All text packages meaning accepted lists =
    subst (λ m. Pairwise Lists m packages) (one_meaning Packages text lists.meaning meaning lists.accepted accepted ∙ sym (filter-all (has_values All) (λ v. refl) meaning)) lists.listed
lists-of Installed text packages meaning accepted lists =
    subst (λ m. Pairwise Lists (filter is_member m) packages) (one_meaning Status text lists.meaning meaning lists.accepted accepted) lists.listed

pub record HeldFile (members : Members) (text : List ℕ) (packages : List Listed) (kept : List KeptMember) : Type 0 where
  pub meaning : Meaning
  pub accepted : Accepted (doc_of members) text meaning
  pub listed : Pairwise Lists (filter (has_values members) meaning) packages
  pub holds : Pairwise HoldsValues (filter (has_values members) meaning) kept

pub held-file : (members : Members) (text : List ℕ) (packages : List Listed) (kept : List KeptMember) → ListsMembers members text packages → KeepsMembers members (HoldsGiven members kept) text → HeldFile members text packages kept
held-file members text packages kept lists keeps =
    let all = all_kept members (HoldsGiven members kept) text keeps in
    let holds = all.keeps in
    let accepted = all.accepted holds.meaning holds.are in
    record {
      meaning = holds.meaning;
      accepted = accepted;
      listed = lists-of members text packages holds.meaning accepted lists;
      holds = holds.holds;
    }

module _ (asks : AsksInstallable) (text : List ℕ) (packages : List Listed) (kept : List KeptMember) (lists : ListsMembers asks.members text packages) (file : HeldFile asks.members text packages kept) (lines : List ℕ) (has : HasAnswers asks packages (filter (has_values asks.members) file.meaning) lines) where
  abbrev answers : FileAnswers asks text
  answers = record {
    packages = packages;
    lists = lists;
    meaning = file.meaning;
    accepted = file.accepted;
    answer = has.answer;
    are_true = has.are_true;
    reasons = has.reasons;
    are_reasons = has.are_reasons;
  }

  pub writes-answers : (summary : Summary) (old new : Option (List ℕ)) → length packages ≡ summary.paragraphs → Appends old new lines → summary.is_empty ≡ is_nothing lines → WritesAnswers asks text summary old new
  writes-answers summary old new count written is_empty = record {
    file = answers;
    count = count;
    written = subst (Appends old new) has.is written;
    is_empty = is_empty ∙ ap is_nothing has.is;
  }

  pub begins-answers : (old new : Option (List ℕ)) → AppendsFront old new lines → BeginsAnswers asks text old new
  begins-answers old new written = record { file = answers; written = subst (AppendsFront old new) has.is written }

-- lines by verdicts are those of true answers
pub has-answers : (asks : AsksInstallable) (packages : List Listed) (meaning : Meaning) (every : List Verdict) (text : List ℕ) → AreVerdictsIn Every asks.terms asks.environment packages meaning every → HasLines asks packages meaning every text → HasAnswers asks packages meaning text
has-answers asks packages meaning every text are has = record {
  answer = answer_at every has.one;
  are_true = answers-true asks.terms asks.environment packages meaning every has.one are has.are;
  reasons = has.reasons;
  are_reasons = has.are_reasons;
  is = has.is;
}

pub stopped-writing : (fault : Fault) (asks : AsksInstallable) (text : List ℕ) (old new : Option (List ℕ)) → fault ≡ faults.Write → BeginsAnswers asks text old new → StopsAnswers fault asks text old new
stopped-writing fault asks text old new is begins = subst (λ f. StopsAnswers f asks text old new) (sym is) begins

-- a fault of the reader comes before anything is written
pub unstarted : (fault : Fault) (P : Refusal → Type 0) (asks : AsksInstallable) (text : List ℕ) (held : Option (List ℕ)) → IsReadersFault fault P → StopsAnswers fault asks text held held
unstarted (faults.Refused refusal) P asks text held is = refl
unstarted faults.Memory P asks text held is = refl
unstarted faults.Read P asks text held is = refl
unstarted faults.Write P asks text held is = absurd is

-- a result's value, of which more follows
pub if-value : {T E : Type 0} (P Q : T → Type 0) → ((x : T) → P x → Q x) → (r : Result T E) → IfOk r P → IfOk r Q
if-value P Q f (Ok x) h = f x h
if-value P Q f (Err e) h = h
