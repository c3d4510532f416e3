-- The lines of source packages with reasons, one by one.
use Rattle.std.proofs.Common.{◌≡◌, ℕ, ◌+◌, ◌==◌, ◌<◌, Bool, true, false, cond, List, [], ◌∷◌, ◌++◌, length, map, take, append-nil, append_assoc, eqb-true, refl, sym, ap, ◌∙◌, subst, arith}
use Rattle.std.proofs.lemmas.List.{length-take-le}
use Rattle.deb_field.specs.Values.{ValueMeaning}
use Rattle.deb_control.specs.Documents.{Meaning}
use Rattle.deb_control.specs.FieldWords.{word_under}
use Rattle.deb_control.specs.ValueFiles.{ValueEntries}
use Rattle.deb_index.specs.Listed.{Listed}
use Rattle.deb_solve.specs.declared.facts.Fact.{Fact}
use Rattle.deb_solve.specs.declared.universe.Universe.{Universe}
use Rattle.deb_install.specs.Explaining.{Explain}
use Rattle.deb_install.specs.KeptSources.{HoldsSource}
use Rattle.deb_install.specs.SourceAnswers.{line_of, source_line, source_lines_from}
use Rattle.deb_install.specs.SourceExplaining.{source_fact_lines, source_reason_of}
use Rattle.deb_install.specs.SourceKinds.{name_field}
use Rattle.deb_install.specs.SourceReasonLines.{each_source, explained_source, source_reason_line, source_reason_lines}
use Rattle.deb_install.specs.SourceReasons.{SourceReason}
use Rattle.deb_install.specs.Universes.{Setting}
use Rattle.deb_install.specs.declared.answer.Answer.{Answer}
use Rattle.deb_install.specs.declared.answer.Answer.TheVariants.{Installable, Uninstallable, Unsure, Undecided}
use Rattle.deb_install.specs.declared.kept_source.KeptSource.{KeptSource}
use Rattle.deb_install.specs.declared.source_kind.SourceKind.{SourceKind}

each-same : (f g : ℕ → ValueEntries ValueMeaning → List ℕ) (sources : Meaning) (n : ℕ) → ((k : ℕ) (values : ValueEntries ValueMeaning) → k < n + length sources → f k values ≡ g k values) → each_source f n sources ≡ each_source g n sources
each-same f g [] n same = refl
each-same f g (values ∷ sources) n same =
    let here : n < n + length (values ∷ sources) = omega arith in
    let head = same n values here in
    let rest = each-same f g sources (n + 1) (λ k other less. same k other (omega (arith, less))) in
    λ i. head i ++ rest i

each-more : (f : ℕ → ValueEntries ValueMeaning → List ℕ) (sources : Meaning) (n : ℕ) (values : ValueEntries ValueMeaning) → each_source f n (sources ++ values ∷ []) ≡ each_source f n sources ++ f (n + length sources) values
each-more f [] n values =
    let here : n ≡ n + 0 = omega arith in
    append-nil (f n values) ∙ ap (λ k. f k values) here
each-more f (other ∷ sources) n values =
    let there : (n + 1) + length sources ≡ n + length (other ∷ sources) = omega arith in
    ap (λ l. f n other ++ l) (each-more f sources (n + 1) values)
    ∙ sym (append_assoc (f n other) (each_source f (n + 1) sources) (f ((n + 1) + length sources) values))
    ∙ ap (λ k. (f n other ++ each_source f (n + 1) sources) ++ f k values) there

-- The text has the lines of the first source packages, with facts that explain them.
pub record SourcesExplainedTo (u : Universe) (count : ℕ) (line : List Fact → ℕ → ValueEntries ValueMeaning → List ℕ) (sources : Meaning) (n : ℕ) (text : List ℕ) : Type 0 where
  pub found : ℕ → List Fact
  pub explain : (k : ℕ) → Explain u (count + (k + 1)) (found k)
  pub is : text ≡ each_source (λ k. line (found k) k) 0 (take n sources)

pub none-explained : (u : Universe) (count : ℕ) (line : List Fact → ℕ → ValueEntries ValueMeaning → List ℕ) (sources : Meaning) (text : List ℕ) → text ≡ [] → SourcesExplainedTo u count line sources 0 text
none-explained u count line sources text none = record { found = λ k. []; explain = λ k some. absurd (some refl); is = none }

other : (k n : ℕ) → k < n → (k == n) ≡ false
other k n less = grind (arith, less)

same-number : (n : ℕ) → (n == n) ≡ true
same-number n = grind arith

module _ (u : Universe) (count : ℕ) (line : List Fact → ℕ → ValueEntries ValueMeaning → List ℕ) (sources : Meaning) (n : ℕ) (values : ValueEntries ValueMeaning) (text longer : List ℕ) (more : List Fact) (within : n < length sources) (taken : take (n + 1) sources ≡ take n sources ++ values ∷ []) (so_far : SourcesExplainedTo u count line sources n text) where
  abbrev found : ℕ → List Fact
  found k = cond (k == n) more (so_far.found k)

  abbrev lines : List ℕ
  lines = each_source (λ k. line (found k) k) 0 (take n sources)

  long : length (take n sources) ≡ n
  long = length-take-le n sources (omega (arith, within))

  before : text ≡ lines
  before =
      so_far.is
      ∙ each-same (λ k. line (so_far.found k) k) (λ k. line (found k) k) (take n sources) 0
      (λ k v less. ap (λ is. line (cond is more (so_far.found k)) k v) (sym (other k n (omega (arith, less, long)))))

  each : (k : ℕ) (v : Bool) → (k == n) ≡ v → Explain u (count + (n + 1)) more → Explain u (count + (k + 1)) (cond v more (so_far.found k))
  each k true same explain = subst (λ m. Explain u (count + (m + 1)) more) (sym (eqb-true k n same)) explain
  each k false differ explain = so_far.explain k

  pub more-explained : Explain u (count + (n + 1)) more → longer ≡ text ++ line more n values → SourcesExplainedTo u count line sources (n + 1) longer
  more-explained explain is =
      let place : n ≡ 0 + length (take n sources) = omega (arith, long) in
      record {
        found = found;
        explain = λ k. each k (k == n) refl explain;
        is = is
            ∙ ap (λ t. t ++ line more n values) before
            ∙ ap (λ v. lines ++ line (cond v more (so_far.found n)) n values) (sym (same-number n))
            ∙ ap (λ k. lines ++ line (found k) k values) place
            ∙ sym (each-more (λ k. line (found k) k) (take n sources) 0 values)
            ∙ ap (each_source (λ k. line (found k) k) 0) (sym taken);
      }

-- a source package without reasons has no lines of them
pub no-reasons : (kind : SourceKind) (packages : List Listed) (sources : Meaning) (answer : Answer) → source_reason_lines kind packages sources answer [] ≡ []
no-reasons kind packages sources Installable = refl
no-reasons kind packages sources Uninstallable = refl
no-reasons kind packages sources Unsure = refl
no-reasons kind packages sources Undecided = refl

pub plain-lines : (kind : SourceKind) (packages : List Listed) (all : Meaning) (answer : ℕ → Answer) (n : ℕ) (sources : Meaning) → source_lines_from kind answer n sources ≡ each_source (λ k. explained_source kind packages all (answer k) [] k) n sources
plain-lines kind packages all answer n [] = refl
plain-lines kind packages all answer n (values ∷ sources) =
    let head = append-nil (line_of kind (answer n) (n + 1) values) in
    let none = no-reasons kind packages all (answer n) in
    let own : line_of kind (answer n) (n + 1) values ≡ explained_source kind packages all (answer n) [] n values =
    sym head ∙ ap (λ l. line_of kind (answer n) (n + 1) values ++ l) (sym none) in
    let rest = plain-lines kind packages all answer (n + 1) sources in
    λ i. own i ++ rest i

-- the lines of the reasons that facts say are those of the facts
pub fact-lines : (kind : SourceKind) (s : Setting) (sources : Meaning) (u : Universe) (found : List Fact) → source_reason_lines kind s.packages sources Uninstallable (map (source_reason_of s sources u) found) ≡ source_fact_lines kind s sources u found
fact-lines kind s sources u [] = refl
fact-lines kind s sources u (fact ∷ found) = ap (λ l. source_reason_line kind s.packages sources (source_reason_of s sources u fact) ++ l) (fact-lines kind s sources u found)

-- the line of an answer, and then the reasons
pub both-lines : (kind : SourceKind) (packages : List Listed) (sources : Meaning) (answer : Answer) (reasons : List SourceReason) (n : ℕ) (values : ValueEntries ValueMeaning) (source : KeptSource) (text longer longest : List ℕ) → HoldsSource kind values source
    → longer ≡ text ++ source_line answer (n + 1) source.name.items source.version.items → longest ≡ longer ++ source_reason_lines kind packages sources answer reasons → longest ≡ text ++ explained_source kind packages sources answer reasons n values
both-lines kind packages sources answer reasons n values source text longer longest holds first second =
    let lines = source_reason_lines kind packages sources answer reasons in
    let own : source_line answer (n + 1) source.name.items source.version.items ≡ line_of kind answer (n + 1) values =
    ap (λ name. source_line answer (n + 1) name source.version.items) holds.name
    ∙ ap (source_line answer (n + 1) (word_under (name_field kind) values)) holds.version in
    second ∙ ap (λ t. t ++ lines) (first ∙ ap (λ l. text ++ l) own)
    ∙ append_assoc text (line_of kind answer (n + 1) values) lines
