-- Reasons, and the lines that say them.
use Rattle.std.proofs.Common.{◌≡◌, ℕ, ◌+◌, ◌==◌, Bool, true, false, cond, ◌&&◌, ◌||◌, List, [], ◌∷◌, length, map, None, Some, refl, sym, ap, ◌∙◌}
use Rattle.std.specs.List.{filter, flat_map, list_any}
use Rattle.std.specs.Option.{is_none}
use Rattle.std.proofs.lemmas.Bool.{false≢true}
use Rattle.deb_relation.specs.Applying.{Environment}
use Rattle.deb_relation.specs.Meaning.{Alternative, Relation}
use Rattle.deb_relation.specs.Texts.{alternative_text}
use Rattle.deb_relation.proofs.Joining.{nil_of}
use Rattle.deb_index.specs.Laws.{ReasonUnlessMet, ReasonsChangeNoAnswer}
use Rattle.deb_index.specs.Listed.{Listed}
use Rattle.deb_index.specs.Meeting.{meets_by_name, meets_qualifier}
use Rattle.deb_index.specs.Named.{numbers_from, numbers_of}
use Rattle.deb_index.specs.Reasons.{has_version, reason_of_bound, reason_of_qualifier}
use Rattle.deb_index.specs.Reports.{Numbered, answer, passing_from, picked, report}
use Rattle.deb_index.specs.ReportText.{VersionShown, canonical_version}
use Rattle.deb_index.specs.Why.{answer_in, asked_lines, detailed_report_by, has_or_provides, lines_of, nameless_line, package_reason}
use Rattle.deb_index.specs.declared.reason.Reason.{Reason}
use Rattle.deb_index.proofs.Picked.{picked-all}

-- what a test finds among those that pass another one
any-filter-cond : {X : Type 0} (f : X → Bool) (v : Bool) (x : X) (xs : List X) → list_any f (cond v (x ∷ xs) xs) ≡ ((v && f x) || list_any f xs)
any-filter-cond f true x xs = refl
any-filter-cond f false x xs = refl

pub any-filtered : {X : Type 0} (f g : X → Bool) (xs : List X) → list_any f (filter g xs) ≡ list_any (λ x. g x && f x) xs
any-filtered f g [] = refl
any-filtered f g (x ∷ xs) = any-filter-cond f (g x) x (filter g xs) ∙ ap (λ b. (g x && f x) || b) (any-filtered f g xs)

unless : (n q : Bool) (r s : Reason) → is_none (cond n (cond q None (Some r)) (Some s)) ≡ (n && q)
unless true true r s = refl
unless true false r s = refl
unless false q r s = refl

pub reason_unless_met : ReasonUnlessMet
reason_unless_met environment a p = unless (meets_by_name a p) (meets_qualifier environment a.qualifier p) (reason_of_qualifier a.qualifier) (reason_of_bound a.bound (has_version a.name p))

-- whichever text of versions is written
pub changes_no_answer : (shown : VersionShown) (packages : List Listed) (relation : Relation) (environment : Environment) → map answer_in (detailed_report_by shown packages relation environment) ≡ report packages relation environment
changes_no_answer shown packages [] environment = refl
changes_no_answer shown packages (group ∷ groups) environment = ap (λ l. answer environment packages group ∷ l) (changes_no_answer shown packages groups environment)

pub change_no_answer : ReasonsChangeNoAnswer
change_no_answer = changes_no_answer canonical_version

-- the packages that pass a test have their numbers
first-cond : (n : ℕ) (v : Bool) (p : Listed) (found : List Numbered) → map (λ q. q.0) (cond v ((n, p) ∷ found) found) ≡ cond v (n ∷ map (λ q. q.0) found) (map (λ q. q.0) found)
first-cond n true p found = refl
first-cond n false p found = refl

pub numbers-found : (n : ℕ) (test : Listed → Bool) (packages : List Listed) → map (λ q. q.0) (passing_from n test packages) ≡ numbers_from n test packages
numbers-found n test [] = refl
numbers-found n test (p ∷ packages) =
    first-cond n (test p) p (passing_from (n + 1) test packages)
    ∙ ap (λ l. cond (test p) (n ∷ l) l) (numbers-found (n + 1) test packages)

abbrev some : List ℕ → Bool
some [] = false
some (n ∷ ns) = true

module _ (shown : VersionShown) (environment : Environment) (a : Alternative) where
  none_of : (found : List Numbered) → map (λ q. q.0) found ≡ [] → lines_of shown environment a found ≡ nameless_line (alternative_text a)
  none_of [] e = refl
  none_of (p ∷ found) e = absurd (false≢true (sym (ap some e)))

  some_of : (found : List Numbered) (numbers : List ℕ) → map (λ q. q.0) found ≡ numbers → (length numbers == 0) ≡ false → lines_of shown environment a found ≡ flat_map (package_reason shown environment a) found
  some_of [] numbers is e = absurd (false≢true (sym (ap (λ l. length l == 0) is ∙ e)))
  some_of (p ∷ found) numbers is e = refl

  -- no package has the name, or provides it
  pub lines-nameless : (packages : List Listed) (numbers : List ℕ) → numbers ≡ numbers_of (has_or_provides a.name) packages → (length numbers == 0) ≡ true → asked_lines shown environment packages a ≡ nameless_line (alternative_text a)
  lines-nameless packages numbers are none =
      none_of (passing_from 1 (has_or_provides a.name) packages) (numbers-found 1 (has_or_provides a.name) packages ∙ sym are ∙ nil_of numbers none)

  -- some package does
  pub lines-named : (packages : List Listed) (numbers : List ℕ) → numbers ≡ numbers_of (has_or_provides a.name) packages → (length numbers == 0) ≡ false → asked_lines shown environment packages a ≡ flat_map (package_reason shown environment a) (flat_map (picked packages) numbers)
  lines-named packages numbers are some =
      some_of (passing_from 1 (has_or_provides a.name) packages) numbers (numbers-found 1 (has_or_provides a.name) packages ∙ sym are) some
      ∙ ap (flat_map (package_reason shown environment a)) (sym (ap (flat_map (picked packages)) are ∙ picked-all (has_or_provides a.name) packages))
