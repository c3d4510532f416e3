-- The judging of a paragraph's lines, one after another: what is judged is spelled by the lines, and a refusal is of one of them.
use Rattle.deb_syntax.proofs.Common.{◌≡◌, ◌≢◌, ℕ, ◌+◌, true, false, not, eqb, List, [], ◌∷◌, ◌++◌, length, map, drop, refl, sym, ap, ◌∙◌, subst, arith, append_assoc, Ok, Err, Result, IsUtf8, MatchResult, not-false, cond_both, map_push, MatchResult-weaker, IsUtf8-from_is_utf8, AllByRecursion, is_utf8, Refusal, Line, newline, is_all_blank, joined, HasNoNewline, begins_with_blank, Field, SpellsField, SpellsFields, has_name, AreDistinct, colon, is_name, with_text, ended, continued, begins_armour, begins_comment, has_colon, begun, field_line, continuation_line, line_judged, lines_judged, IsLineRefusal, IsRefusalWithin, trimmed, IsTrimmed, trimmed_cut}
use Rattle.std.proofs.Common.{append-nil}
use Rattle.deb_syntax.proofs.DistinctNames.{distinct-push, distinct-ended, distinct-continued}
use Rattle.deb_syntax.proofs.LinesLaws.{pieces_of-joined}
use Rattle.deb_syntax.proofs.JudgingLawsTexts.{split_at_colon, IsMore, body_shape-cut}
use Rattle.deb_syntax.proofs.JudgingLaws.{all_left, all_right, extended, extended-push, push-append}

-- a line that isn't spaces and tabs alone
abbrev pub IsNotBlank : Line → Type 0
IsNotBlank line = is_all_blank line ≡ false

joined-head : (name : List ℕ) (c : ℕ) (more : List ℕ) (rest : List Line) → joined ((name ++ c ∷ more) ∷ rest) ≡ name ++ c ∷ joined (more ∷ rest)
joined-head name c more [] = refl
joined-head name c more (next ∷ rest) = append_assoc name (c ∷ more) (newline ∷ joined (next ∷ rest))

-- a field of a line that begins it and lines that go on is spelled by them
spells : (n : ℕ) (line : Line) (rest : List Line) → has_colon line ≡ true → is_name (begun n line).name ≡ true → AllByRecursion HasNoNewline (line ∷ rest) → AllByRecursion IsMore rest → SpellsField (line ∷ rest) (ended (with_text (begun n line) (joined ((begun n line).body ∷ rest))))
spells n line rest some good none all =
    let name : List ℕ = (begun n line).name in
    let more : List ℕ = (begun n line).body in
    let is : line ≡ name ++ colon ∷ more = split_at_colon line some in
    let behind = all_right (λ b. eqb b 10 ≡ false) name (colon ∷ more) (subst HasNoNewline is none.0) in
    let pieces = pieces_of-joined more rest (behind.1, none.1) in
    let c : IsTrimmed (joined (more ∷ rest)) (trimmed (joined (more ∷ rest))) = trimmed_cut (joined (more ∷ rest)) in
    record {
      before = c.before;
      after = c.after;
      spelt = ap (λ l. joined (l ∷ rest)) is ∙ joined-head name colon more rest ∙ ap (λ t. name ++ colon ∷ t) c.is;
      before_blank = c.before_blank;
      after_blank = c.after_blank;
      name = good;
      body = body_shape-cut (joined (more ∷ rest)) _ c (subst (λ ls. AllByRecursion IsMore (drop 1 ls)) (sym pieces) all);
    }

-- The lines, the first with number n, are judged after the fields before them: some go on with the last of these, and
-- the others spell the further ones.
pub record IsSound (n : ℕ) (lines : List Line) (before result : List Field) : Type 0 where
  pub more : List Line
  pub rest : List Line
  pub at : ℕ
  pub fields : List Field
  pub is : lines ≡ more ++ rest
  pub number : at ≡ n + length more
  pub none_before : before ≡ [] → more ≡ []
  pub gives : result ≡ map ended (extended before more) ++ fields
  pub go_on : AllByRecursion IsNotBlank lines → AllByRecursion IsMore more
  pub spelt : AllByRecursion HasNoNewline lines → AllByRecursion IsNotBlank lines → SpellsFields at rest fields
  pub text : AllByRecursion IsUtf8 lines
  pub distinct : AreDistinct before → AreDistinct result

module _ (n : ℕ) (line : Line) (lines : List Line) (text : IsUtf8 line) where
  sound_goes_on : (before : List Field) → begins_with_blank line ≡ true → before ≢ [] → (result : List Field) → IsSound (n + 1) lines (continued before line) result → IsSound n (line ∷ lines) before result
  sound_goes_on before blank some result s = record {
    more = line ∷ s.more;
    rest = s.rest;
    at = s.at;
    fields = s.fields;
    is = ap (λ ls. line ∷ ls) s.is;
    number = let e : s.at ≡ n + 1 + length s.more = s.number in omega arith;
    none_before = λ e. absurd (some e);
    gives = s.gives;
    go_on = λ solid. ((blank, solid.0), s.go_on solid.1);
    spelt = λ none solid. s.spelt none.1 solid.1;
    text = (text, s.text);
    distinct = λ d. s.distinct (distinct-continued before line d);
  }

  sound_begins : (before : List Field) → has_colon line ≡ true → is_name (begun n line).name ≡ true → has_name (begun n line).name before ≡ false → (result : List Field) → IsSound (n + 1) lines (before ++ begun n line ∷ []) result → IsSound n (line ∷ lines) before result
  sound_begins before some good new result s =
      let raw : Field = with_text (begun n line) (joined ((begun n line).body ∷ s.more)) in
      let after : s.at ≡ n + length (line ∷ s.more) = let e : s.at ≡ n + 1 + length s.more = s.number in omega arith in
      record {
        more = [];
        rest = line ∷ lines;
        at = n;
        fields = ended raw ∷ s.fields;
        is = refl;
        number = omega arith;
        none_before = λ _. refl;
        gives = s.gives ∙ ap (λ fs. map ended fs ++ s.fields) (extended-push s.more before (begun n line)) ∙ ap (λ fs. fs ++ s.fields) (map_push ended before raw) ∙ push-append (map ended before) (ended raw) s.fields;
        go_on = λ _. tt;
        spelt = λ none solid. (
          line ∷ s.more,
          s.rest,
          ap (λ ls. line ∷ ls) s.is,
          refl,
          spells n line s.more some good (none.0, all_left HasNoNewline s.more s.rest (subst (AllByRecursion HasNoNewline) s.is none.1)) (s.go_on solid.1),
          subst (λ k. SpellsFields k s.rest s.fields) after (s.spelt none.1 solid.1),
        );
        text = (text, s.text);
        distinct = λ d. s.distinct (distinct-push before (begun n line) d new);
      }

-- A line is refused, or what is judged from the next line on is judged from this one on.
abbrev Judges : ℕ → Line → List Line → List Field → Result (List Field) Refusal → Type 0
Judges n line lines before r = MatchResult r (λ next. (result : List Field) → IsSound (n + 1) lines next result → IsSound n (line ∷ lines) before result) (IsLineRefusal n)

field_line-judges : (n : ℕ) (line : Line) (lines : List Line) (before : List Field) → IsUtf8 line → Judges n line lines before (field_line n before line)
field_line-judges n line lines before text =
    cond_both (begins_armour line) _ _ (Judges n line lines before) (λ _. record { line = refl; least = omega arith; most = omega arith }) (λ _.
    cond_both (begins_comment line) _ _ (Judges n line lines before) (λ _. record { line = refl; least = omega arith; most = omega arith }) (λ _.
    cond_both (not (has_colon line)) _ _ (Judges n line lines before) (λ _. record { line = refl; least = omega arith; most = omega arith }) (λ some.
    cond_both (not (is_name (begun n line).name)) _ _ (Judges n line lines before) (λ _. record { line = refl; least = omega arith; most = omega arith }) (λ good.
    cond_both (has_name (begun n line).name before) _ _ (Judges n line lines before) (λ _. record { line = refl; least = omega arith; most = omega arith })
    (sound_begins n line lines text before (not-false _ some) (not-false _ good))))))

continuation_line-judges : (n : ℕ) (line : Line) (lines : List Line) (before : List Field) → IsUtf8 line → begins_with_blank line ≡ true → Judges n line lines before (continuation_line n before line)
continuation_line-judges n line lines [] text blank = record { line = refl; least = omega arith; most = omega arith }
continuation_line-judges n line lines (f ∷ before) text blank = sound_goes_on n line lines text (f ∷ before) blank (λ e. cc)

line_judged-judges : (n : ℕ) (line : Line) (lines : List Line) (before : List Field) → Judges n line lines before (line_judged n before line)
line_judged-judges n line lines before =
    cond_both (not (is_utf8 line)) _ _ (Judges n line lines before) (λ _. record { line = refl; least = omega arith; most = omega arith }) (λ utf8.
    let text : IsUtf8 line = IsUtf8-from_is_utf8 line (not-false _ utf8) in
    cond_both (begins_with_blank line) _ _ (Judges n line lines before) (continuation_line-judges n line lines before text) (λ _. field_line-judges n line lines before text))

pub lines_judged-judges : (lines : List Line) (n : ℕ) (before : List Field) → MatchResult (lines_judged n (Ok before) lines) (IsSound n lines before) (IsRefusalWithin n lines)
lines_judged-judges [] n before = record {
  more = [];
  rest = [];
  at = n;
  fields = [];
  is = refl;
  number = omega arith;
  none_before = λ _. refl;
  gives = sym (append-nil (map ended before));
  go_on = λ _. tt;
  spelt = λ _ _. refl;
  text = tt;
  distinct = distinct-ended before;
}
lines_judged-judges (line ∷ lines) n before = go (line_judged n before line) (line_judged-judges n line lines before) (λ next. lines_judged-judges lines (n + 1) next)
  where
    go : (r : Result (List Field) Refusal) → Judges n line lines before r → ((next : List Field) → MatchResult (lines_judged (n + 1) (Ok next) lines) (IsSound (n + 1) lines next) (IsRefusalWithin (n + 1) lines)) → MatchResult (lines_judged (n + 1) r lines) (IsSound n (line ∷ lines) before) (IsRefusalWithin n (line ∷ lines))
    go (Err refusal) h later = let e : refusal.line ≡ n = h.line in record { first = omega arith; last = omega arith; least = h.least; most = h.most }
    go (Ok next) h later =
        MatchResult-weaker (lines_judged (n + 1) (Ok next) lines) (later next) h
        (λ refusal w. record { first = omega (arith, w.first); last = omega (arith, w.last); least = w.least; most = w.most })
