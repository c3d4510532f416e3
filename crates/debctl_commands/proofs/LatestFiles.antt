-- What reading files for their latest versions gives.
use Rattle.std.proofs.Common.{◌≡◌, ◌+◌, ℕ, List, [], ◌∷◌, ◌++◌, Some, None, Result, Ok, Err, length, inl, inr, refl, sym, ap, subst}
use Rattle.std.specs.Prelude.{IfErr, IfOk}
use Rattle.deb_base.specs.declared.refusal.Refusal.{Refusal}
use Rattle.deb_base.specs.Faults.{IsReadersFault, MatchFault}
use Rattle.deb_base.specs.declared.fault.Fault.{Fault}
use Rattle.deb_base.specs.declared.fault.Fault.TheVariants.{Refused, Memory, Read, Write}
use Rattle.deb_control.specs.Checking.{IsRefusalOfDocument}
use Rattle.deb_control.specs.Documents.{Meaning, refusal_of}
use Rattle.deb_control.proofs.ComparedSoFar.{none_refused}
use Rattle.deb_latest.specs.Entries.{doc_of}
use Rattle.deb_latest.specs.Files.{FilesMean}
use Rattle.deb_latest.specs.Reads.{HasRead, kind_of}
use Rattle.deb_latest.specs.Requests.{Asked, latest_of}
use Rattle.deb_latest.specs.Writes.{HasWritten}
use Rattle.deb_latest.specs.declared.latest.Latest.{Latest}
use Rattle.deb_latest.specs.declared.winners.Winners.{Winners}
use Rattle.deb_latest.proofs.FilesRead.{files_follow}
use Rattle.debctl_commands.specs.IndexFiles.{RefusesPlace}
use Rattle.debctl_commands.specs.LatestJob.{AddsLatest, AnswersLatest, FailsToFind}
use Rattle.debctl_commands.specs.OpenedFiles.{AreTexts, InOrder, Opener, ReadsMore}
use Rattle.debctl_commands.specs.VersionJobs.{IsNoVersion, ParsesWord, bad_version}
use Rattle.debctl_commands.specs.declared.file_fault.PlaceFault.{PlaceFault}
use Rattle.debctl_commands.proofs.InOrderSteps.{gathered, refused_place, texts_stay}

-- These files were read, and together they mean something.
pub record ReadsFiles (asked : Asked) (texts : List (List ℕ)) (latest : Latest) : Type 0 where
  pub meaning : Meaning
  pub mean : FilesMean asked.kind texts meaning
  pub has : HasRead asked meaning latest

module _ (asked : Asked) where
  one_more : (before : List (List ℕ)) (text : List ℕ) (latest next : Latest) → ReadsFiles asked before latest → AddsLatest latest (Some text) (Ok next) → ReadsFiles asked (before ++ text ∷ []) next
  one_more before text latest next has adds =
      let file = adds.ok asked has.meaning text has.has refl in
      record { meaning = has.meaning ++ file.meaning; mean = files_follow asked.kind before text has.meaning file.meaning has.mean file.accepted; has = file.has }

  accepted : (before : List (List ℕ)) (text : List ℕ) (latest next : Latest) → ReadsFiles asked before latest → AddsLatest latest (Some text) (Ok next) → refusal_of (doc_of asked.kind) text ≡ None
  accepted before text latest next has adds =
      let file = adds.ok asked has.meaning text has.has refl in
      none_refused (doc_of asked.kind) text (length file.meaning) (record { meaning = file.meaning; accepted = file.accepted; count = refl })

  refused : (before : List (List ℕ)) (text : List ℕ) (latest : Latest) (fault : Fault) → ReadsFiles asked before latest → AddsLatest latest (Some text) (Err fault) → MatchFault fault (λ refusal. refusal_of (doc_of asked.kind) text ≡ Some refusal) (Unit {0}) (Unit {0}) (Unit {0})
  refused before text latest fault has adds =
      subst (λ kind. MatchFault fault (λ refusal. refusal_of (doc_of kind) text ≡ Some refusal) (Unit {0}) (Unit {0}) (Unit {0})) has.has.kind (adds.refused text refl)

  of_none : (none : Latest) → HasRead asked [] none → ReadsFiles asked [] none
  of_none none has = record { meaning = []; mean = refl; has = has }

  module _ {F R : Type 0} (by : Opener F R) (paths : List (List ℕ)) (files after : F) (none : Latest) (has : HasRead asked [] none) where
    pub files_read : (latest : Latest) → InOrder (ReadsMore by AddsLatest) 1 paths files none (Ok latest) after → (texts : List (List ℕ)) → AreTexts (by.text files) paths texts → ReadsFiles asked texts latest
    files_read latest order texts known = gathered by AddsLatest (doc_of asked.kind) (ReadsFiles asked) one_more accepted refused 1 paths texts [] files after none latest order known (of_none none has)

    pub files_refused : (told : PlaceFault) → InOrder (ReadsMore by AddsLatest) 1 paths files none (Err told) after → (texts : List (List ℕ)) → AreTexts (by.text files) paths texts → RefusesPlace (doc_of asked.kind) texts told
    files_refused told order texts known = refused_place by AddsLatest (doc_of asked.kind) (ReadsFiles asked) one_more accepted refused 1 paths texts [] files after none told order known (of_none none has)

-- the fault at a file is one of reading it
pub fault_at_file : {F R : Type 0} (by : Opener F R) (place : ℕ) (paths : List (List ℕ)) (files after : F) (latest : Latest) (told : PlaceFault) → InOrder (ReadsMore by AddsLatest) place paths files latest (Err told) after → IsReadersFault told.fault IsRefusalOfDocument
fault_at_file by place [] files after latest told order = absurd order
fault_at_file by place (path ∷ paths) files after latest told (inl failed) = failed.0.adds.fault
fault_at_file by place (path ∷ paths) files after latest told (inr (f, next, done, others)) = fault_at_file by (place + 1) paths f after next told others

memory_is : (fault : Fault) (P : Refusal → Type 0) → fault ≡ Memory → MatchFault fault P (Unit {0}) (Unit {0}) (Unit {0})
memory_is fault P is = subst (λ f. MatchFault f P (Unit {0}) (Unit {0}) (Unit {0})) (sym is) tt

memory_of : (fault : Fault) (P : Refusal → Type 0) → fault ≡ Memory → IsReadersFault fault P
memory_of fault P is = subst (λ f. IsReadersFault f P) (sym is) tt

module _ {F R : Type 0} (by : Opener F R) (asked : Asked) (paths : List (List ℕ)) (files after : F) (none : Latest) (has : HasRead asked [] none) (kind : kind_of none ≡ asked.kind) where
  -- the files were read, and what was found has this answer
  pub answers_found : (latest : Latest) → InOrder (ReadsMore by AddsLatest) 1 paths files none (Ok latest) after → (answer : Result Winners PlaceFault)
      → ((asked : Asked) (meaning : Meaning) → HasRead asked meaning latest → IfOk answer (HasWritten (latest_of asked meaning) (length meaning) [])) → IfErr answer (λ told. told.fault ≡ Memory) → AnswersLatest by asked paths files answer after
  answers_found latest order (Ok winners) ok fault = record {
    in_order = inr (none, Ok latest, has, kind, order, tt);
    has = λ texts known. let read = files_read asked by paths files after none has latest order texts known in record { meaning = read.meaning; mean = read.mean; has = ok asked read.meaning read.has };
    unchanged = texts_stay by AddsLatest 1 paths files after none (Ok latest) order;
  }
  answers_found latest order (Err told) ok fault = record {
    in_order = inr (none, Ok latest, has, kind, order, fault);
    refused = λ texts known. memory_is told.fault _ fault;
    fault = memory_of told.fault _ fault;
  }

  -- or a file failed
  pub answers_failed : (told : PlaceFault) → InOrder (ReadsMore by AddsLatest) 1 paths files none (Err told) after → FailsToFind by asked paths told files after
  answers_failed told order = record {
    in_order = inr (none, Err told, has, kind, order, refl);
    refused = files_refused asked by paths files after none has told order;
    fault = fault_at_file by 1 paths files after none told order;
  }

-- a text that isn't parsed as a version is none
pub refuses_word : (text : List ℕ) (fault : Fault) → ParsesWord text (Err fault) → (fault ≡ Refused bad_version) × IsNoVersion text
refuses_word text (Refused refusal) (is, none) = (ap Refused is, none)
refuses_word text Memory is = absurd is
refuses_word text Read is = absurd is
refuses_word text Write is = absurd is
