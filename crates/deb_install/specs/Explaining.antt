-- The reasons that facts of a universe of numbers say, and how the lines with them are appended.
-- This project's own.
use Rattle.std.specs.Prelude.{◌≡◌, ℕ, ◌-◌, true, false, cond, List, [], ◌∷◌, ◌++◌, map, get_or, codes, refl}
use Rattle.std.specs.Fmt.{digits}
use Rattle.std.specs.List.{filter, flat_map, slice_get}
use Rattle.std.specs.Option.{option_map_or}
use Rattle.deb_base.specs.Literals.{lent}
use Rattle.deb_relation.specs.Applying.{Environment, is_among}
use Rattle.deb_relation.specs.Environments.{environment_of}
use Rattle.deb_relation.specs.Meaning.{Group as GroupMeaning}
use Rattle.deb_relation.specs.Texts.{group_text}
use Rattle.deb_relation.specs.Views.{names_of}
use Rattle.deb_field.specs.Values.{ValueMeaning, ArchitectureMeans, FlagMeans, NameMeans, RelationMeans}
use Rattle.deb_field.specs.declared.flag.Flag.TheVariants.{Yes}
use Rattle.deb_control.specs.Documents.{Meaning}
use Rattle.deb_control.specs.FieldWords.{groups_of, value_under, word_under}
use Rattle.deb_control.specs.Pairs.{Pairwise}
use Rattle.deb_control.specs.ValueFiles.{ValueEntries}
use Rattle.deb_index.specs.Alternatives.{alone, with_list}
use Rattle.deb_index.specs.Listed.{Listed}
use Rattle.deb_solve.specs.Health.{row}
use Rattle.deb_solve.specs.Reasons.{AreReasons, excluded, needed}
use Rattle.deb_solve.specs.declared.facts.Fact.{Fact}
use Rattle.deb_solve.specs.declared.facts.Fact.TheVariants as facts
use Rattle.deb_solve.specs.declared.universe.Universe.{Universe}
use Rattle.deb_solve.specs.declared.verdict.Verdict.{Verdict}
use Rattle.deb_unmet.specs.Asked.{fields_with}
use Rattle.deb_unmet.specs.Fields.{environment_for}
use Rattle.deb_unmet.specs.declared.asked.Asked.TheVariants.{Packages}
use Rattle.deb_unmet.specs.declared.asked.Strength.TheVariants.{Depends}
use Rattle.deb_install.specs.Answers.{AreVerdictsIn, AskedNames, answer_at}
use Rattle.deb_install.specs.Installing.{AsksInstallable, names_by}
use Rattle.deb_install.specs.Keeping.{HoldsValues}
use Rattle.deb_install.specs.Passing.{for_amd64, of}
use Rattle.deb_install.specs.ReasonLines.{essential_words, explained_lines, left_out_words, lines_with, need_words, reason_line}
use Rattle.deb_install.specs.Reasons.{AreReasonsIn, Reason, Needs, NeedsName, IsLeftOut, Excludes}
use Rattle.deb_install.specs.Rows.{some_surely_applies}
use Rattle.deb_install.specs.Terms.{Terms, essential_names, terms}
use Rattle.deb_install.specs.Universes.{Setting, setting, terms_in}
use Rattle.deb_install.specs.declared.answer.Answer.{Answer}
use Rattle.deb_install.specs.declared.explaining.Explaining.{Explaining}
use Rattle.deb_install.specs.declared.readings.Readings.TheVariants.{One}
use Rattle.deb_install.specs.declared.row_texts.RowText.{RowText}
use Rattle.deb_install.specs.declared.row_texts.RowText.TheVariants.{Group, Name, LeftOut}

-- What a row of a package asks for: a package that meets a group, one that has an essential name,
-- or nothing that there could be.
pub data RowMeaning : Type 0 where
  GroupRow : GroupMeaning → RowMeaning
  NameRow : List ℕ → RowMeaning
  EmptyRow : RowMeaning

-- the groups that a package needs, of which an alternative surely applies: in one reading, there is
-- a row for each of them
abbrev pub sure_groups : Environment → List GroupMeaning → List GroupMeaning
sure_groups environment groups = filter (some_surely_applies environment) groups

abbrev pub groups_with_rows : Terms → Environment → ValueEntries ValueMeaning
    → List GroupMeaning
groups_with_rows t environment values =
    sure_groups (environment_for (Packages t.strength) environment values)
    (flat_map (λ field. groups_of (value_under field values)) (fields_with t.strength))

-- what the rows of a package with these values ask for, in one reading
abbrev pub rows_asked : Setting → ValueEntries ValueMeaning → List RowMeaning
rows_asked s values =
    map GroupRow (groups_with_rows s.terms s.environment values)
    ++ (cond (is_among (word_under (codes "Package") values) s.terms.without) (EmptyRow ∷ []) []
    ++ map NameRow (essential_names s.terms s.environment.native s.values))

-- what the row at an index asks for, of the package with a number
abbrev pub row_at : Setting → ℕ → ℕ → RowMeaning
row_at s number at =
    option_map_or (λ values. get_or (rows_asked s values) at EmptyRow)
    (slice_get s.values (number - 1)) EmptyRow

-- the reason that such a row is, which these numbers are in
abbrev pub need_of : ℕ → RowMeaning → List ℕ → Reason
need_of number (GroupRow group) candidates = Needs number group candidates
need_of number (NameRow name) candidates = NeedsName number name candidates
need_of number EmptyRow candidates = IsLeftOut number

abbrev pub reason_of : Setting → Universe → Fact → Reason
reason_of s u (facts.Needs member at) =
    need_of member (row_at s member at) (row u.groups (needed u member at))
reason_of s u (facts.Excludes by at) = Excludes by (excluded u by at)

-- the words of such a row, by its meaning, and by its text
abbrev pub row_words : RowMeaning → List ℕ → List ℕ
row_words (GroupRow group) candidates = need_words (group_text group) candidates
row_words (NameRow name) candidates = need_words (essential_words name) candidates
row_words EmptyRow candidates = left_out_words

abbrev pub text_words : RowText → List ℕ → List ℕ
text_words (Group text) candidates = need_words text.now candidates
text_words (Name text) candidates = need_words (essential_words text.now) candidates
text_words LeftOut candidates = left_out_words

abbrev pub HasWords : RowMeaning → RowText → Type 0
HasWords meaning text =
    (candidates : List ℕ) → text_words text candidates ≡ row_words meaning candidates

-- the lines of facts
abbrev pub fact_lines : Setting → Universe → List Fact → List ℕ
fact_lines s u found = flat_map (λ fact. reason_line s.packages (reason_of s u fact)) found

-- What packages with these values are explained by: what is kept of them, and the names of the
-- essential ones.
pub record HoldsFor (meaning : Meaning) (explaining : Explaining) : Type 0 where
  pub holds : Pairwise HoldsValues meaning explaining.kept.now
  pub essential : names_of explaining.essential.now
      ≡ essential_names (terms_in explaining.listing.now)
      (environment_of explaining.listing.now.environment.now).native meaning

-- If there are facts, they show that the package isn't installable.
abbrev pub Explain : Universe → ℕ → List Fact → Type 0
Explain u number found = (found ≡ [] → ⊥) → AreReasons u number found

-- A text was appended that facts have, which explain a package.
pub record AppendsExplained (u : Universe) (number : ℕ) (line : List Fact → List ℕ)
    (old new : List ℕ) : Type 0 where
  pub found : List Fact
  pub explain : Explain u number found
  pub appended : new ≡ old ++ line found

-- The text has the lines of these answers, each with reasons that facts say.
pub record HasExplained (s : Setting) (u : Universe) (names : AskedNames) (answer : ℕ → Answer)
    (text : List ℕ) : Type 0 where
  pub found : ℕ → List Fact
  pub explain : (number : ℕ) → Explain u number (found number)
  pub is : text ≡ explained_lines names answer (λ number. map (reason_of s u) (found number))
      s.packages

-- The text has the lines of the answers by verdicts in every reading and by true ones in one
-- reading, with reasons.
pub record HasReasons (t : Terms) (environment : Environment) (packages : List Listed)
    (meaning : Meaning) (names : AskedNames) (every : List Verdict) (text : List ℕ) : Type 0
  where
    pub one : List Verdict
    pub are : AreVerdictsIn One t environment packages meaning one
    pub reasons : ℕ → List Reason
    pub are_reasons : AreReasonsIn t environment packages meaning reasons
    pub is : text ≡ explained_lines names (answer_at every one) reasons packages

-- The text has the lines of the answers by verdicts in every reading and by true ones in one
-- reading, with reasons if they are asked.
pub record HasLines (asks : AsksInstallable) (packages : List Listed) (meaning : Meaning)
    (every : List Verdict) (text : List ℕ) : Type 0 where
  pub one : List Verdict
  pub are : AreVerdictsIn One asks.terms asks.environment packages meaning one
  pub reasons : ℕ → List Reason
  pub are_reasons : AreReasonsIn asks.terms asks.environment packages meaning reasons
  pub is : text ≡ lines_with asks.reasons (names_by asks) (answer_at every one) reasons packages

-- 1 is essential. 2 needs three groups, of which the second one may be ignored, and is left out.
abbrev marked : ValueEntries ValueMeaning
marked =
    (codes "Architecture", ArchitectureMeans (codes "all"))
    ∷ (codes "Essential", FlagMeans Yes)
    ∷ (codes "Package", NameMeans (codes "cc")) ∷ []

abbrev values : ValueEntries ValueMeaning
values = (
  codes "Depends",
  RelationMeans ((alone (codes "aa") ∷ [])
      ∷ (with_list (codes "bb") false (codes "linux-any") ∷ [])
      ∷ (alone (codes "ee") ∷ []) ∷ []),
)
    ∷ (codes "Package", NameMeans (codes "dd")) ∷ []

abbrev s : Setting
s =
    setting One (terms Depends true (codes "dd" ∷ [])) for_amd64
    (of (codes "cc") ∷ of (codes "dd") ∷ []) (marked ∷ values ∷ [])

abbrev example : Universe
example = record {
  needs = [] ∷ (2 ∷ []) ∷ (1 ∷ 0 ∷ 1 ∷ 2 ∷ []) ∷ [];
  groups = (2 ∷ []) ∷ [] ∷ (1 ∷ []) ∷ [];
  excludes = [] ∷ (7 ∷ 2 ∷ []) ∷ [] ∷ [];
}

worked-reasons : map (reason_of s example)
    (facts.Needs 2 0 ∷ facts.Needs 2 1 ∷ facts.Needs 2 2 ∷ facts.Needs 2 3 ∷ facts.Needs 2 4
    ∷ facts.Needs 1 0 ∷ facts.Needs 3 0 ∷ facts.Excludes 1 1 ∷ [])
    ≡ Needs 2 (alone (codes "aa") ∷ []) [] ∷ Needs 2 (alone (codes "ee") ∷ []) (2 ∷ [])
    ∷ IsLeftOut 2 ∷ NeedsName 2 (codes "cc") (1 ∷ []) ∷ IsLeftOut 2
    ∷ NeedsName 1 (codes "cc") (1 ∷ []) ∷ IsLeftOut 3 ∷ Excludes 1 2 ∷ []
worked-reasons = refl

worked-lines : fact_lines s example (facts.Needs 2 1 ∷ facts.Excludes 1 1 ∷ [])
    ≡ codes " 2 dd 1 amd64 needs ee: 2\n 1 cc 1 amd64 excludes 2 dd 1 amd64\n"
unfolding group_text digits
worked-lines = refl

worked-words : (map (λ meaning. row_words meaning (3 ∷ []))
    (GroupRow (alone (codes "ee") ∷ []) ∷ NameRow (codes "cc") ∷ EmptyRow ∷ [])
    ≡ codes " needs ee: 3\n" ∷ codes " needs cc (Essential): 3\n" ∷ codes " is left out\n" ∷ [])
    × (map (λ text. text_words text (3 ∷ []))
    (Group (lent (codes "ee")) ∷ Name (lent (codes "cc")) ∷ LeftOut ∷ [])
    ≡ codes " needs ee: 3\n" ∷ codes " needs cc (Essential): 3\n" ∷ codes " is left out\n" ∷ [])
unfolding group_text digits
worked-words = (refl, refl)
