-- The lines of packages with reasons, package by package.
use Rattle.std.proofs.Common.{◌≡◌, ℕ, zero, suc, ◌+◌, ◌==◌, ◌<◌, ◌≤◌, Bool, true, false, cond, List, [], ◌∷◌, ◌++◌, length, map, take, get_or, append-nil, append_assoc, Option, None, Some, eqb-true, refl, sym, ap, ◌∙◌, subst, arith}
use Rattle.std.specs.List.{flat_map}
use Rattle.std.specs.Option.{option_map_or}
use Rattle.std.proofs.lemmas.List.{take_all}
use Rattle.deb_health.specs.Lines.{line_at}
use Rattle.deb_index.specs.Listed.{Listed}
use Rattle.deb_index.specs.Named.{package_at}
use Rattle.deb_index.specs.Reports.{Numbered}
use Rattle.deb_solve.specs.declared.facts.Fact.{Fact}
use Rattle.deb_solve.specs.declared.universe.Universe.{Universe}
use Rattle.deb_install.specs.Answers.{AskedNames, answer_lines, asked_line, is_asked, lines_from}
use Rattle.deb_install.specs.Explaining.{Explain, reason_of}
use Rattle.deb_install.specs.ReasonLines.{explained_line, explained_lines, reason_line, reason_lines}
use Rattle.deb_install.specs.Universes.{Setting}
use Rattle.deb_install.specs.declared.answer.Answer.{Answer}
use Rattle.deb_install.specs.declared.answer.Answer.TheVariants.{Installable, Uninstallable, Unsure, Undecided}
use Rattle.deb_install.proofs.AnswerLines.{any, place}

-- lines that agree on the numbers of the first packages
first-same : (f g : Numbered → List ℕ) (packages : List Listed) (n m : ℕ) → ((k : ℕ) (p : Listed) → k < n + m → f (k, p) ≡ g (k, p)) → lines_from f n (take m packages) ≡ lines_from g n (take m packages)
first-same f g packages n zero same = refl
first-same f g [] n (suc m) same = refl
first-same f g (p ∷ packages) n (suc m) same =
    let here : n < n + suc m = omega arith in
    let head = same n p here in
    let rest = first-same f g packages (n + 1) m (λ k q less. same k q (omega (arith, less))) in
    λ i. head i ++ rest i

last-more : (f : Numbered → List ℕ) (packages : List Listed) (n m : ℕ) → m < length packages → lines_from f n (take (suc m) packages) ≡ lines_from f n (take m packages) ++ f (n + m, get_or packages m any)
last-more f [] n m within = absurd (omega (arith, within))
last-more f (p ∷ packages) n zero within =
    let here : n ≡ n + zero = omega arith in
    append-nil (f (n, p)) ∙ ap (λ k. f (k, p)) here
last-more f (p ∷ packages) n (suc m) within =
    let there : (n + 1) + m ≡ n + suc m = omega arith in
    ap (λ l. f (n, p) ++ l) (last-more f packages (n + 1) m (omega (arith, within)))
    ∙ sym (append_assoc (f (n, p)) (lines_from f (n + 1) (take m packages)) (f ((n + 1) + m, get_or packages m any)))
    ∙ ap (λ k. (f (n, p) ++ lines_from f (n + 1) (take m packages)) ++ f (k, get_or packages m any)) there

-- The text has the lines of the first packages, with facts that explain them.
pub record ExplainedTo (u : Universe) (line : List Fact → Numbered → List ℕ) (packages : List Listed) (n : ℕ) (text : List ℕ) : Type 0 where
  pub found : ℕ → List Fact
  pub explain : (number : ℕ) → Explain u number (found number)
  pub is : text ≡ lines_from (λ p. line (found p.0) p) 1 (take n packages)

pub none-explained : (u : Universe) (line : List Fact → Numbered → List ℕ) (packages : List Listed) (text : List ℕ) → text ≡ [] → ExplainedTo u line packages 0 text
none-explained u line packages text none = record { found = λ number. []; explain = λ number some. absurd (some refl); is = none }

other : (k n : ℕ) → k < n → (k == n) ≡ false
other k n less = grind (arith, less)

same-number : (n : ℕ) → (n == n) ≡ true
same-number n = grind arith

module _ (u : Universe) (line : List Fact → Numbered → List ℕ) (packages : List Listed) (n number : ℕ) (text longer : List ℕ) (more : List Fact) (within : n < length packages) (counted : number ≡ n + 1) (so_far : ExplainedTo u line packages n text) where
  abbrev found : ℕ → List Fact
  found k = cond (k == number) more (so_far.found k)

  abbrev lines : List ℕ
  lines = lines_from (λ p. line (found p.0) p) 1 (take n packages)

  abbrev last : Listed
  last = get_or packages n any

  before : text ≡ lines
  before =
      so_far.is
      ∙ first-same (λ p. line (so_far.found p.0) p) (λ p. line (found p.0) p) packages 1 n
      (λ k p less. ap (λ v. line (cond v more (so_far.found k)) (k, p)) (sym (other k number (omega (arith, less, counted)))))

  here : line_at (line more) packages number ≡ line (found number) (number, last)
  here =
      ap (λ o. option_map_or (λ p. line more (number, p)) o []) (ap (λ k. package_at k packages) counted ∙ place packages n within)
      ∙ ap (λ v. line (cond v more (so_far.found number)) (number, last)) (sym (same-number number))

  each : (k : ℕ) (v : Bool) → (k == number) ≡ v → Explain u number more → Explain u k (cond v more (so_far.found k))
  each k true same explain = subst (λ m. Explain u m more) (sym (eqb-true k number same)) explain
  each k false differ explain = so_far.explain k

  pub more-explained : Explain u number more → longer ≡ text ++ line_at (line more) packages number → ExplainedTo u line packages (n + 1) longer
  more-explained explain is =
      let after : number ≡ 1 + n = omega (arith, counted) in
      let next : suc n ≡ n + 1 = omega arith in
      record {
        found = found;
        explain = λ k. each k (k == number) refl explain;
        is = is
            ∙ ap (λ t. t ++ line_at (line more) packages number) before
            ∙ ap (λ l. lines ++ l) here
            ∙ ap (λ k. lines ++ line (found k) (k, last)) after
            ∙ sym (last-more (λ p. line (found p.0) p) packages 1 n within)
            ∙ ap (λ m. lines_from (λ p. line (found p.0) p) 1 (take m packages)) next;
      }

-- the lines of all packages
pub all-explained : (u : Universe) (line : List Fact → Numbered → List ℕ) (packages : List Listed) (n : ℕ) (text : List ℕ) → length packages ≤ n → (so_far : ExplainedTo u line packages n text) → text ≡ lines_from (λ p. line (so_far.found p.0) p) 1 packages
all-explained u line packages n text past so_far = so_far.is ∙ ap (lines_from (λ p. line (so_far.found p.0) p) 1) (take_all n packages past)

-- a package without reasons has no lines of them
no-reasons : (packages : List Listed) (answer : Answer) → reason_lines packages answer [] ≡ []
no-reasons packages Installable = refl
no-reasons packages Uninstallable = refl
no-reasons packages Unsure = refl
no-reasons packages Undecided = refl

nothing-if : (v : Bool) (text : List ℕ) → text ≡ [] → cond v text [] ≡ []
nothing-if true text none = none
nothing-if false text none = refl

plain-line : (names : AskedNames) (packages : List Listed) (answer : Answer) (p : Numbered) → asked_line names answer p ≡ explained_line names packages answer [] p
plain-line names packages answer p =
    sym (append-nil (asked_line names answer p))
    ∙ ap (λ l. asked_line names answer p ++ l) (sym (nothing-if (is_asked names p.1.name) (reason_lines packages answer []) (no-reasons packages answer)))

pub plain-lines : (names : AskedNames) (answer : ℕ → Answer) (packages : List Listed) → answer_lines names answer packages ≡ explained_lines names answer (λ number. []) packages
plain-lines names answer packages = λ i. lines_from (λ p. plain-line names packages (answer p.0) p i) 1 packages

pub no-lines : (names : AskedNames) (packages : List Listed) (answer : Answer) (number : ℕ) → line_at (λ p. cond (is_asked names p.1.name) (reason_lines packages answer []) []) packages number ≡ []
no-lines names packages answer number = go (package_at number packages)
  where
    go : (o : Option Listed) → option_map_or (λ p. cond (is_asked names p.name) (reason_lines packages answer []) []) o [] ≡ []
    go None = refl
    go (Some p) = nothing-if (is_asked names p.name) (reason_lines packages answer []) (no-reasons packages answer)

-- an answer's line, and then the reasons
pub both-at : (names : AskedNames) (packages : List Listed) (answer : Answer) (lines : List ℕ) (number : ℕ) (text longer longest : List ℕ) → longer ≡ text ++ line_at (asked_line names answer) packages number
    → longest ≡ longer ++ line_at (λ p. cond (is_asked names p.1.name) lines []) packages number
    → longest ≡ text ++ line_at (λ p. asked_line names answer p ++ cond (is_asked names p.1.name) lines []) packages number
both-at names packages answer lines number text longer longest first second =
    second ∙ ap (λ t. t ++ line_at (λ p. cond (is_asked names p.1.name) lines []) packages number) first
    ∙ append_assoc text (line_at (asked_line names answer) packages number) (line_at (λ p. cond (is_asked names p.1.name) lines []) packages number)
    ∙ ap (λ l. text ++ l) (go (package_at number packages))
  where
    go : (o : Option Listed) → option_map_or (λ p. asked_line names answer (number, p)) o [] ++ option_map_or (λ p. cond (is_asked names p.name) lines []) o [] ≡ option_map_or (λ p. asked_line names answer (number, p) ++ cond (is_asked names p.name) lines []) o []
    go None = refl
    go (Some p) = refl

-- lines of a package that is asked, and none
pub asked-lines : (names : AskedNames) (packages : List Listed) (number : ℕ) (p : Listed) (lines : List ℕ) → Some p ≡ package_at number packages → is_asked names p.name ≡ true → line_at (λ q. cond (is_asked names q.1.name) lines []) packages number ≡ lines
asked-lines names packages number p lines at is =
    ap (λ o. option_map_or (λ q. cond (is_asked names q.name) lines []) o []) (sym at) ∙ ap (λ v. cond v lines []) is

pub none-lines : (names : AskedNames) (packages : List Listed) (number : ℕ) → line_at (λ q. cond {A = List ℕ} (is_asked names q.1.name) [] []) packages number ≡ []
none-lines names packages number = go (package_at number packages)
  where
    go : (o : Option Listed) → option_map_or (λ q. cond {A = List ℕ} (is_asked names q.name) [] []) o [] ≡ []
    go None = refl
    go (Some p) = nothing-if (is_asked names p.name) [] refl

-- the lines of the reasons that facts say
pub fact-reasons : (s : Setting) (u : Universe) (packages : List Listed) (found : List Fact) → flat_map (reason_line packages) (map (reason_of s u) found) ≡ flat_map (λ fact. reason_line packages (reason_of s u fact)) found
fact-reasons s u packages [] = refl
fact-reasons s u packages (fact ∷ found) = ap (λ l. reason_line packages (reason_of s u fact) ++ l) (fact-reasons s u packages found)
