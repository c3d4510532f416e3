-- What was found among the members of a file: a healthy set with a package that is asked, or answers.
use Rattle.std.proofs.Common.{◌≡◌, inl, inr, ℕ, zero, suc, ◌-◌, ◌≤◌, eqb, slice_get, Bool, true, false, ◌||◌, if◌then◌else◌, List, [], ◌∷◌, ◌++◌, length, None, Some, Option, Result, Ok, Err, OnOk, refl, sym, ap, ◌∙◌, subst, arith}
use Rattle.std.proofs.lemmas.Bool.{eqb-true, false≢true, or_cases}
use Rattle.std.proofs.lemmas.List.Folds.{list_any-append}
use Rattle.std.proofs.lemmas.Option.{slice_get_within}
use Rattle.std.specs.Io.KnownBytes.{Appends}
use Rattle.std.specs.List.{filter, slice_index_or}
use Rattle.deb_base.specs.Devices.{AppendsFront}
use Rattle.deb_base.specs.Faults.{IsReadersFault}
use Rattle.deb_base.specs.declared.fault.Fault.{Fault}
use Rattle.deb_base.specs.declared.fault.Fault.TheVariants as faults
use Rattle.deb_base.specs.declared.refusal.Refusal.{Refusal}
use Rattle.deb_control.specs.Documents.{Meaning}
use Rattle.deb_control.specs.Pairs.{Pairwise}
use Rattle.deb_index.specs.Listed.{Listed}
use Rattle.deb_index.specs.Listing.{Lists}
use Rattle.deb_index.specs.Members.{ListsMembers, has_values}
use Rattle.deb_index.specs.Named.{package_at}
use Rattle.deb_index.proofs.Numbered.{from-one}
use Rattle.deb_solve.specs.Health.{is_among}
use Rattle.deb_solve.specs.Verdicts.{IsWitness as IsWitnessIn, NoneIsInstallable}
use Rattle.deb_solve.specs.declared.universe.Universe.{Universe}
use Rattle.deb_solve.specs.declared.verdict.Verdict.{Verdict}
use Rattle.deb_solve.specs.declared.verdict.Verdict.TheVariants as solved
use Rattle.deb_solve.specs.declared.witnesses.SetOrVerdicts.{SetOrVerdicts}
use Rattle.deb_solve.specs.declared.witnesses.SetOrVerdicts.TheVariants.{Set, Refused}
use Rattle.deb_install.specs.Answers.{AskedNames, answer_at, answer_by, is_asked, names_asked}
use Rattle.deb_install.specs.Explaining.{HasLines}
use Rattle.deb_install.specs.Installing.{AsksInstallable}
use Rattle.deb_install.specs.Seeking.{AreAsked, AreRefusalsIn, IsFoundIn, IsSetIn}
use Rattle.deb_install.specs.Universes.{IsUniverseOf, Setting}
use Rattle.deb_install.specs.Witnesses.{BeginsWitness, FileSought, HasNoSet, HasSet, HasSought, IsAskedAt, StopsWitness, WritesWitness, set_lines}
use Rattle.deb_install.specs.declared.answer.Answer.TheVariants.{Installable}
use Rattle.deb_install.specs.declared.kept.KeptMember.{KeptMember}
use Rattle.deb_install.specs.declared.readings.Readings.TheVariants.{Every}
use Rattle.deb_install.proofs.AnswerLines.{answers-true, known-at}
use Rattle.deb_install.proofs.Decided.{healthy-in}
use Rattle.deb_install.proofs.FileAnswers.{HeldFile}
use Rattle.deb_install.proofs.TrueVerdicts.{verdicts-in}

module _ (asks : AsksInstallable) (text : List ℕ) (packages : List Listed) (kept : List KeptMember) (lists : ListsMembers asks.members text packages) (file : HeldFile asks.members text packages kept) (is_found : Bool) (lines : List ℕ) (has : HasSought asks packages (filter (has_values asks.members) file.meaning) is_found lines) where
  abbrev file-sought : FileSought asks text is_found lines
  file-sought = record {
    packages = packages;
    lists = lists;
    meaning = file.meaning;
    accepted = file.accepted;
    has = has;
  }

  pub begins-witness : (old new : Option (List ℕ)) → AppendsFront old new lines → BeginsWitness asks text old new
  begins-witness old new written = record { is_found = is_found; lines = lines; file = file-sought; written = written }

  pub writes-witness : (paragraphs : ℕ) (old new : Option (List ℕ)) → length packages ≡ paragraphs → Appends old new lines → WritesWitness asks text (record { paragraphs = paragraphs; is_found = is_found }) old new
  writes-witness paragraphs old new count written = record { lines = lines; file = file-sought; count = count; written = written }

pub stopped-writing : (fault : Fault) (asks : AsksInstallable) (text : List ℕ) (old new : Option (List ℕ)) → fault ≡ faults.Write → BeginsWitness asks text old new → StopsWitness fault asks text old new
stopped-writing fault asks text old new is begins = subst (λ f. StopsWitness f asks text old new) (sym is) begins

-- a fault of the reader comes before anything is written
pub unstarted : (fault : Fault) (P : Refusal → Type 0) (asks : AsksInstallable) (text : List ℕ) (held : Option (List ℕ)) → IsReadersFault fault P → StopsWitness fault asks text held held
unstarted (faults.Refused refusal) P asks text held is = refl
unstarted faults.Memory P asks text held is = refl
unstarted faults.Read P asks text held is = refl
unstarted faults.Write P asks text held is = absurd is

-- of verdicts none of which is `Installable`, no answer is
not-installable : (v w : Verdict) → (v ≡ solved.Installable → ⊥) → answer_by v w ≡ Installable → ⊥
not-installable solved.Installable w none is = none refl
not-installable solved.Undecided w none is = cc
not-installable solved.Uninstallable solved.Installable none is = cc
not-installable solved.Uninstallable solved.Uninstallable none is = cc
not-installable solved.Uninstallable solved.Undecided none is = cc

pub none-installable : (every one : List Verdict) → NoneIsInstallable every → (number : ℕ) → answer_at every one number ≡ Installable → ⊥
none-installable every one none number is =
    not-installable (slice_index_or every number solved.Undecided) (slice_index_or one number solved.Undecided)
    (λ yes. none number (known-at every number solved.Installable (λ e. cc) yes)) is

pub has-no-set : (asks : AsksInstallable) (packages : List Listed) (meaning : Meaning) (every : List Verdict) (lines : List ℕ) → AreRefusalsIn Every asks.terms asks.environment packages meaning every → HasLines asks packages meaning every lines → HasNoSet asks packages meaning lines
has-no-set asks packages meaning every lines refused has = record {
  answer = answer_at every has.one;
  are_true = answers-true asks.terms asks.environment packages meaning every has.one refused.are has.are;
  none = none-installable every has.one refused.none;
  reasons = has.reasons;
  are_reasons = has.are_reasons;
  lines_are = has.is;
}

pub has-set : (asks : AsksInstallable) (packages : List Listed) (meaning : Meaning) (members lines : List ℕ) → IsSetIn Every asks.terms asks.names asks.environment packages meaning members → lines ≡ set_lines (is_among members) packages → HasSet asks packages meaning lines
has-set asks packages meaning members lines found are = record {
  set = is_among members;
  is = record { healthy = found.healthy; number = found.number; is_asked = found.is_asked; contains = found.contains };
  lines_are = are;
}

-- a number with a package is one of those of the list
number-listed : (packages : List Listed) (number : ℕ) (p : Listed) → package_at number packages ≡ Some p → (1 ≤ number) × (number ≤ length packages)
number-listed packages zero p at = absurd cc
number-listed packages (suc k) p at =
    let less : suc k - 1 ≡ k = omega arith in
    let found = ap (λ b. if b then None else slice_get packages (suc k - 1)) (from-one (suc k) (omega arith)) ∙ ap (slice_get packages) less in
    let within = slice_get_within packages k p (sym found ∙ at) in
    (omega arith, omega (arith, within))

-- what is found in a universe is found among the packages
pub found-in : (s : Setting) (names : List (List ℕ)) (u : Universe) (wanted : List ℕ) (found : SetOrVerdicts) → IsUniverseOf s u → Pairwise Lists s.values s.packages → AreAsked (names_asked names s.terms.without) s.packages wanted → IsWitnessIn u wanted found → IsFoundIn s.readings s.terms names s.environment s.packages s.values found
found-in s names u wanted (Set members) is lists asked witness =
    let own = asked witness.number witness.is_wanted in
    let there = number-listed s.packages witness.number own.«package» own.at in
    record {
      healthy = healthy-in s u is lists (is_among members.items) witness.number there.0 there.1 witness.is.contains witness.is.is_healthy;
      number = witness.number;
      is_asked = own;
      contains = witness.is.contains;
    }
found-in s names u wanted (Refused verdicts) is lists asked witness = record {
  are = verdicts-in s u verdicts.items is lists witness.are;
  none = witness.none;
}

-- without a universe there are no verdicts
pub nothing-found : (s : Setting) (verdicts : List Verdict) → verdicts ≡ [] → AreRefusalsIn s.readings s.terms s.environment s.packages s.values verdicts
nothing-found s [] are = record {
  are = record { yes = λ number some most at. absurd cc; no = λ number some most at. absurd cc };
  none = λ number at. cc;
}
nothing-found s (v ∷ verdicts) are = absurd cc

module _ (names : AskedNames) (packages : List Listed) (out : List ℕ) (number : ℕ) (p : Listed) (asked : AreAsked names packages out) (at : package_at number packages ≡ Some p) (is : is_asked names p.name ≡ true) where
  -- a number of the list with one more: of the list, or that one
  pushed-asked : AreAsked names packages (out ++ number ∷ [])
  pushed-asked n contains = elim (or_cases (is_among out n) (eqb number n || false) (sym (list_any-append (λ member. eqb member n) out (number ∷ [])) ∙ contains)) [
    | inl before ↦ asked n before
    | inr last ↦ elim (or_cases (eqb number n) false last) [
      | inl same ↦ subst (IsAskedAt names packages) (eqb-true number n same) here
      | inr none ↦ absurd (false≢true none)
    ]
  ]
    where
      here : IsAskedAt names packages number
      here = record { «package» = p; at = at; asked = is }

pub one-more-asked : {T E : Type 0} (names : AskedNames) (packages : List Listed) (out new : List ℕ) (number : ℕ) (p : Listed) (r : Result T E) → OnOk r (new ≡ out ++ number ∷ []) → AreAsked names packages out → package_at number packages ≡ Some p → is_asked names p.name ≡ true → OnOk r (AreAsked names packages new)
one-more-asked names packages out new number p (Ok x) more asked at is = subst (AreAsked names packages) (sym more) (pushed-asked names packages out number p asked at is)
one-more-asked names packages out new number p (Err e) more asked at is = more
