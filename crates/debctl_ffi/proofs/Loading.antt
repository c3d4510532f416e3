-- What is said of a loaded index holds of the index in it; and what is loaded of an index that was
-- made.
use Rattle.std.proofs.Common.{◌≡◌, ◌∙◌, ◌-◌, ◌++◌, ℕ, Bool, true, false, List, [], ◌∷◌, Some, None, Result, Ok, Err, length, ap, arith, refl, subst, sym}
use Rattle.std.specs.Option.{is_some, option_map_or}
use Rattle.std.specs.Prelude.{IfErr, IfOk}
use Rattle.std.proofs.lemmas.Bool.{false≢true}
use Rattle.deb_base.specs.Faults.{RefusedOrMemory}
use Rattle.deb_base.specs.declared.doc.Doc.TheVariants.{Packages}
use Rattle.deb_base.specs.declared.fault.Fault.{Fault}
use Rattle.deb_base.specs.declared.fault.Fault.TheVariants.{Refused, Memory, Read, Write}
use Rattle.deb_control.specs.Documents.{refusal_of}
use Rattle.deb_index.specs.Files.{ListsAfter}
use Rattle.deb_index.specs.FirstLines.{first_lines}
use Rattle.deb_index.specs.Indexes.{counts_of, lines_of, packages_of}
use Rattle.deb_index.specs.Listed.{Listed}
use Rattle.deb_index.specs.Listing.{ListsAll}
use Rattle.deb_index.specs.Without.{counts_left, left_beside, without}
use Rattle.deb_index.specs.declared.index.Index.{Index}
use Rattle.deb_index.specs.declared.members.Members.TheVariants.{All}
use Rattle.debctl_ffi.specs.Answers.{HasStatus, plain}
use Rattle.debctl_ffi.specs.Loads.{HasFiles, HasLines, HasPackages, HoldsNone, IsLoading, IsLoadingMore, IsWithout, Keeps, OfFiles}
use Rattle.debctl_ffi.specs.Queries.{Kept, kept_by}
use Rattle.debctl_ffi.specs.declared.answer.Answer.{Answer}
use Rattle.debctl_ffi.specs.declared.loaded.Loaded.{Loaded}

-- there is one index
one_index : (loaded : Loaded) (index other : Index) → loaded.index ≡ Some index
    → loaded.index ≡ Some other → index ≡ other
one_index loaded index other is is_other = ap (λ it. option_map_or (λ i. i) it index) (sym is ∙ is_other)

pub packages_held : (loaded : Loaded) (index : Index) (packages : List Listed)
    → loaded.index ≡ Some index → HasPackages loaded packages → packages ≡ packages_of index
packages_held loaded index packages is has =
    has.packages_are ∙ ap packages_of (one_index loaded has.index index has.is is)

pub lines_held : (loaded : Loaded) (index : Index) (lines : List ℕ)
    → loaded.index ≡ Some index → HasLines loaded lines → lines ≡ lines_of index
lines_held loaded index lines is has =
    has.lines_are ∙ ap lines_of (one_index loaded has.index index has.is is)

pub kept_held : (loaded : Loaded) (index : Index) (kept : Kept) → loaded.index ≡ Some index → HasFiles loaded kept → kept ≡ kept_by index
kept_held loaded index kept is has = has.kept_are ∙ ap kept_by (one_index loaded has.index index has.is is)

-- what is said of what it keeps
pub of_kept : (loaded : Loaded) (index : Index) (Says : Kept → Type 0) → loaded.index ≡ Some index → Says (kept_by index) → OfFiles loaded Says
of_kept loaded index Says is says = λ kept has. subst Says (sym (kept_held loaded index kept is has)) says

-- ---- what is loaded

-- an answer has one status
same_status : (answer told : Answer) (status : ℕ) → answer ≡ told → answer.status ≡ status → told.status ≡ status
same_status answer told status is has = sym (ap (λ a. a.status) is) ∙ has

-- an index that was made, or a refusal, or out of memory
pub loads : (text : List ℕ) (made : Result Index Fault) (answer : Answer) (loaded : Loaded)
    → IfOk made (λ index. ListsAll text (packages_of index)) → IfOk made (λ index. lines_of index ≡ first_lines text)
    → IfOk made (λ index. counts_of index ≡ length (packages_of index) ∷ [])
    → IfErr made (λ fault. RefusedOrMemory fault (λ refusal. refusal_of Packages text ≡ Some refusal))
    → Keeps made answer loaded → IsLoading text answer loaded
loads text (Ok index) answer loaded lists lines alone refused keeps =
    let is = same_status answer _ in
    record {
      accepted = λ e. record { holds = record { index = index; is = keeps.1; lists = lists; alone = alone }; is = keeps.0; lines = lines };
      refused = λ e. let no : 0 ≡ 2 = is 2 keeps.0 e in absurd (omega (arith, no));
      no_memory = λ e. let no : 0 ≡ 5 = is 5 keeps.0 e in absurd (omega (arith, no));
      status = subst (λ a. HasStatus a.status (0 ∷ 2 ∷ 5 ∷ [])) (sym keeps.0) refl;
    }
loads text (Err (Refused refusal)) answer loaded lists lines alone refused keeps =
    let is = same_status answer _ in
    record {
      accepted = λ e. let no : 2 ≡ 0 = is 0 keeps.0 e in absurd (omega (arith, no));
      refused = λ e. record { refusal = refusal; refused = refused; is = keeps.0; none = keeps.1 };
      no_memory = λ e. let no : 2 ≡ 5 = is 5 keeps.0 e in absurd (omega (arith, no));
      status = subst (λ a. HasStatus a.status (0 ∷ 2 ∷ 5 ∷ [])) (sym keeps.0) refl;
    }
loads text (Err Memory) answer loaded lists lines alone refused keeps =
    let is = same_status answer _ in
    record {
      accepted = λ e. let no : 5 ≡ 0 = is 0 keeps.0 e in absurd (omega (arith, no));
      refused = λ e. let no : 5 ≡ 2 = is 2 keeps.0 e in absurd (omega (arith, no));
      no_memory = λ e. keeps;
      status = subst (λ a. HasStatus a.status (0 ∷ 2 ∷ 5 ∷ [])) (sym keeps.0) refl;
    }
loads text (Err Read) answer loaded lists lines alone refused keeps = absurd refused
loads text (Err Write) answer loaded lists lines alone refused keeps = absurd refused

-- there was an index before
not_none : (before : Loaded) (old : Index) → before.index ≡ Some old → HoldsNone before → ⊥
not_none before old was none = false≢true (ap is_some (sym none ∙ was))

pub loads_more : (text : List ℕ) (before : Loaded) (old : Index) (made : Result Index Fault) (answer : Answer) (loaded : Loaded)
    → before.index ≡ Some old
    → IfOk made (λ index. ListsAfter All text (packages_of old) (packages_of index))
    → IfOk made (λ index. lines_of index ≡ lines_of old ++ first_lines text)
    → IfOk made (λ index. counts_of index ≡ counts_of old ++ (length (packages_of index) - length (packages_of old)) ∷ [])
    → IfErr made (λ fault. RefusedOrMemory fault (λ refusal. refusal_of Packages text ≡ Some refusal))
    → Keeps made answer loaded → IsLoadingMore text answer before loaded
loads_more text before old (Ok index) answer loaded was lists lines counts refused keeps =
    let is = same_status answer _ in
    record {
      accepted = λ e. record {
        old = old;
        was = was;
        index = index;
        is = keeps.1;
        lists = lists;
        lines = lines;
        counts = counts;
        told = keeps.0;
      };
      refused = λ e. let no : 0 ≡ 2 = is 2 keeps.0 e in absurd (omega (arith, no));
      no_memory = λ e. let no : 0 ≡ 5 = is 5 keeps.0 e in absurd (omega (arith, no));
      no_index = λ e. let no : 0 ≡ 7 = is 7 keeps.0 e in absurd (omega (arith, no));
      none_held = λ none. absurd (not_none before old was none);
      status = subst (λ a. HasStatus a.status (0 ∷ 2 ∷ 5 ∷ 7 ∷ [])) (sym keeps.0) refl;
    }
loads_more text before old (Err (Refused refusal)) answer loaded was lists lines counts refused keeps =
    let is = same_status answer _ in
    record {
      accepted = λ e. let no : 2 ≡ 0 = is 0 keeps.0 e in absurd (omega (arith, no));
      refused = λ e. record { refusal = refusal; refused = refused; is = keeps.0; none = keeps.1 };
      no_memory = λ e. let no : 2 ≡ 5 = is 5 keeps.0 e in absurd (omega (arith, no));
      no_index = λ e. let no : 2 ≡ 7 = is 7 keeps.0 e in absurd (omega (arith, no));
      none_held = λ none. absurd (not_none before old was none);
      status = subst (λ a. HasStatus a.status (0 ∷ 2 ∷ 5 ∷ 7 ∷ [])) (sym keeps.0) refl;
    }
loads_more text before old (Err Memory) answer loaded was lists lines counts refused keeps =
    let is = same_status answer _ in
    record {
      accepted = λ e. let no : 5 ≡ 0 = is 0 keeps.0 e in absurd (omega (arith, no));
      refused = λ e. let no : 5 ≡ 2 = is 2 keeps.0 e in absurd (omega (arith, no));
      no_memory = λ e. keeps;
      no_index = λ e. let no : 5 ≡ 7 = is 7 keeps.0 e in absurd (omega (arith, no));
      none_held = λ none. absurd (not_none before old was none);
      status = subst (λ a. HasStatus a.status (0 ∷ 2 ∷ 5 ∷ 7 ∷ [])) (sym keeps.0) refl;
    }
loads_more text before old (Err Read) answer loaded was lists lines counts refused keeps = absurd refused
loads_more text before old (Err Write) answer loaded was lists lines counts refused keeps = absurd refused

-- there was none
pub loads_no_more : (text : List ℕ) (before : Loaded) (answer : Answer) (loaded : Loaded)
    → HoldsNone before → answer ≡ plain 7 → HoldsNone loaded → IsLoadingMore text answer before loaded
loads_no_more text before answer loaded none told stays =
    let is = same_status answer _ in
    record {
      accepted = λ e. let no : 7 ≡ 0 = is 0 told e in absurd (omega (arith, no));
      refused = λ e. let no : 7 ≡ 2 = is 2 told e in absurd (omega (arith, no));
      no_memory = λ e. let no : 7 ≡ 5 = is 5 told e in absurd (omega (arith, no));
      no_index = λ e. record { none = none; stays = stays; is = told };
      none_held = λ none. ap (λ a. a.status) told;
      status = subst (λ a. HasStatus a.status (0 ∷ 2 ∷ 5 ∷ 7 ∷ [])) (sym told) refl;
    }

abbrev is_memory : Fault → Bool
is_memory (Refused refusal) = false
is_memory Memory = true
is_memory Read = false
is_memory Write = false

pub leaves_out : (names : List (List ℕ)) (before : Loaded) (old : Index) (made : Result Index Fault) (answer : Answer) (loaded : Loaded)
    → before.index ≡ Some old
    → IfOk made (λ index. packages_of index ≡ without names (packages_of old))
    → IfOk made (λ index. lines_of index ≡ left_beside names (packages_of old) (lines_of old))
    → IfOk made (λ index. counts_of index ≡ counts_left names (counts_of old) (packages_of old))
    → IfErr made (λ fault. fault ≡ Memory)
    → Keeps made answer loaded → IsWithout names answer before loaded
leaves_out names before old (Ok index) answer loaded was packages lines counts memory keeps =
    let is = same_status answer _ in
    record {
      done = λ e. record {
        old = old;
        was = was;
        index = index;
        is = keeps.1;
        packages = packages;
        lines = lines;
        counts = counts;
        told = keeps.0;
      };
      no_memory = λ e. let no : 0 ≡ 5 = is 5 keeps.0 e in absurd (omega (arith, no));
      no_index = λ e. let no : 0 ≡ 7 = is 7 keeps.0 e in absurd (omega (arith, no));
      none_held = λ none. absurd (not_none before old was none);
      status = subst (λ a. HasStatus a.status (0 ∷ 5 ∷ 7 ∷ [])) (sym keeps.0) refl;
    }
leaves_out names before old (Err Memory) answer loaded was packages lines counts memory keeps =
    let is = same_status answer _ in
    record {
      done = λ e. let no : 5 ≡ 0 = is 0 keeps.0 e in absurd (omega (arith, no));
      no_memory = λ e. keeps;
      no_index = λ e. let no : 5 ≡ 7 = is 7 keeps.0 e in absurd (omega (arith, no));
      none_held = λ none. absurd (not_none before old was none);
      status = subst (λ a. HasStatus a.status (0 ∷ 5 ∷ 7 ∷ [])) (sym keeps.0) refl;
    }
leaves_out names before old (Err (Refused refusal)) answer loaded was packages lines counts memory keeps = absurd (false≢true (ap is_memory memory))
leaves_out names before old (Err Read) answer loaded was packages lines counts memory keeps = absurd (false≢true (ap is_memory memory))
leaves_out names before old (Err Write) answer loaded was packages lines counts memory keeps = absurd (false≢true (ap is_memory memory))

pub leaves_none_out : (names : List (List ℕ)) (before : Loaded) (answer : Answer) (loaded : Loaded)
    → HoldsNone before → answer ≡ plain 7 → HoldsNone loaded → IsWithout names answer before loaded
leaves_none_out names before answer loaded none told stays =
    let is = same_status answer _ in
    record {
      done = λ e. let no : 7 ≡ 0 = is 0 told e in absurd (omega (arith, no));
      no_memory = λ e. let no : 7 ≡ 5 = is 5 told e in absurd (omega (arith, no));
      no_index = λ e. record { none = none; stays = stays; is = told };
      none_held = λ none. ap (λ a. a.status) told;
      status = subst (λ a. HasStatus a.status (0 ∷ 5 ∷ 7 ∷ [])) (sym told) refl;
    }
