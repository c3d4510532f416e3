-- Fields are judged of lines exactly where the lines spell them, and what a refusal of a paragraph's lines says.
use Rattle.deb_syntax.proofs.Common.{◌≡◌, ℕ, ◌+◌, ◌≤◌, true, false, ◌&&◌, leb, List, [], ◌∷◌, ◌++◌, length, map, refl, sym, subst, arith, Ok, Err, Result, sum_by-cons, MatchResult-at_ok, MatchResult-at_err, AllByRecursion, Refusal, Line, is_all_blank, is_blank, line_length, paragraph_limit, HasNoNewline, total_length, Paragraph, Field, SpellsFields, IsShort, SpellsParagraph, ended, judged, IsRun, IsRefusalWithin}
use Rattle.std.proofs.Common.{le-leb}
use Rattle.deb_syntax.proofs.JudgingLaws.{extended, judged-complete}
use Rattle.deb_syntax.proofs.JudgingLawsSound.{IsNotBlank, IsSound, lines_judged-judges}

-- what is judged of lines, none of spaces and tabs alone, is spelled by them
pub judged-sound_from : (n : ℕ) (lines : List Line) (fields : List Field) → AllByRecursion HasNoNewline lines → AllByRecursion IsNotBlank lines → judged n lines ≡ Ok fields → SpellsParagraph (record { first = n; lines = lines }) fields
judged-sound_from n lines fields none solid h = go s.more (s.none_before refl) s.is s.number s.gives
  where
    s : IsSound n lines [] fields
    s = MatchResult-at_ok (IsSound n lines []) (IsRefusalWithin n lines) fields h (lines_judged-judges lines n [])

    go : (more : List Line) → more ≡ [] → lines ≡ more ++ s.rest → s.at ≡ n + length more → fields ≡ map ended (extended [] more) ++ s.fields → SpellsParagraph (record { first = n; lines = lines }) fields
    go [] e is number gives =
        let at : s.at ≡ n = omega (arith, number) in
        record { text = s.text; spelt = subst (λ k. SpellsFields k lines fields) at (subst (λ ls. SpellsFields s.at ls fields) (sym is) (subst (SpellsFields s.at s.rest) (sym gives) (s.spelt none solid))); distinct = s.distinct tt }
    go (line ∷ more) e is number gives = absurd (let z : ⊥ = cc in z)

-- in a short paragraph a line that isn't blank holds more than spaces and tabs
pub not_blank-solid : (lines : List Line) → AllByRecursion (λ line. is_blank line ≡ false) lines → total_length lines ≤ paragraph_limit → AllByRecursion IsNotBlank lines
not_blank-solid [] h short = tt
not_blank-solid (line ∷ lines) h short =
    let e : total_length (line ∷ lines) ≡ line_length line + total_length lines = sum_by-cons line_length line lines in
    let fits : leb (line_length line) paragraph_limit ≡ true = le-leb (line_length line) paragraph_limit (omega arith) in
    (subst (λ t. (t && is_all_blank line) ≡ false) fits h.0, not_blank-solid lines h.1 (omega arith))

-- what is judged of a run of lines is spelled by them
pub judged-sound : (n : ℕ) (lines : List Line) (fields : List Field) → IsRun lines → IsShort (record { first = n; lines = lines }) → judged n lines ≡ Ok fields → SpellsParagraph (record { first = n; lines = lines }) fields
judged-sound n lines fields run short h = judged-sound_from n lines fields run.no_newline (not_blank-solid lines run.not_blank short) h

same_fields : (a b : List Field) (r : Result (List Field) Refusal) → r ≡ Ok a → r ≡ Ok b → a ≡ b
same_fields a b r p q = cc

-- a paragraph is spelled by at most one list of fields
pub spells-unique : (paragraph : Paragraph) (fields others : List Field) → AllByRecursion HasNoNewline paragraph.lines → SpellsParagraph paragraph fields → SpellsParagraph paragraph others → fields ≡ others
spells-unique paragraph fields others none s t = same_fields fields others (judged paragraph.first paragraph.lines) (judged-complete paragraph.first paragraph.lines fields none s) (judged-complete paragraph.first paragraph.lines others none t)

-- the lines of a paragraph spell no fields if one of them is refused
pub judged-refused : (n : ℕ) (lines : List Line) (refusal : Refusal) (fields : List Field) → AllByRecursion HasNoNewline lines → judged n lines ≡ Err refusal → SpellsParagraph (record { first = n; lines = lines }) fields → ⊥
judged-refused n lines refusal fields none h s = let e = judged-complete n lines fields none s in cc

-- a refusal's line is one of the paragraph's, and its code one of a line's
pub judged-refusal : (n : ℕ) (lines : List Line) (refusal : Refusal) → judged n lines ≡ Err refusal → IsRefusalWithin n lines refusal
judged-refusal n lines refusal h = MatchResult-at_err (IsSound n lines []) (IsRefusalWithin n lines) refusal h (lines_judged-judges lines n [])
