-- The order of the refusals of a file, and of its runs of lines. Debian Policy 5.1; the lines of
-- the refusals are this project's own.
use Rattle.std.specs.Prelude.{◌≡◌, ◌≢◌, ℕ, ◌+◌, ◌≤◌, ◌<◌, List, [], ◌∷◌, ◌++◌, length, Option, Some, None, IfSome, IfErr, Ok, Err, codes, refl}
use Rattle.std.proofs.lemmas.Bool.{leb-true}
use Rattle.deb_base.specs.Bodies.{Line}
use Rattle.deb_base.specs.declared.code.Code.TheVariants.{Comment}
use Rattle.deb_base.specs.declared.doc.Doc.{Doc}
use Rattle.deb_base.specs.declared.refusal.Refusal.{Refusal}
use Rattle.deb_syntax.specs.Lines.{lines_of}
use Rattle.deb_control.specs.Documents.{rules_of}
use Rattle.deb_control.specs.Streams.{CheckedItem, stream_of}
use Rattle.deb_control.specs.AllRefusals.{refusals_of}

-- The lines of refusals ascend strictly, the first from line n on.
abbrev pub Ascend : ℕ → List Refusal → Type 0
Ascend n [] = Unit {0}
Ascend n (refusal ∷ refusals) = (n ≤ refusal.line) × Ascend (refusal.line + 1) refusals

-- If a run is refused, the refusal is at one of its lines.
abbrev pub HasRefusalWithin : CheckedItem → Type 0
HasRefusalWithin item =
    IfErr item.bodies
    (λ refusal. (item.first ≤ refusal.line) × (refusal.line < item.first + length item.lines))

-- The lines from line n on contain these runs, one after another, each at its own number. A run has
-- a line, and a refused one has its refusal at one of its lines. A refusal that ends the stream is
-- at a line after the last run; this may be the line after the last one.
abbrev pub AreInOrder : ℕ → List Line → List CheckedItem → Option Refusal → Type 0
AreInOrder n lines [] end =
    IfSome end (λ refusal. (n ≤ refusal.line) × (refusal.line ≤ n + length lines))
AreInOrder n lines (item ∷ items) end =
    (before : List Line) × (rest : List Line) × (lines ≡ before ++ (item.lines ++ rest))
    × (item.first ≡ n + length before) × (item.lines ≢ []) × HasRefusalWithin item
    × AreInOrder (item.first + length item.lines) rest items end

-- The lines of a file's refusals, counted from 1, ascend strictly.
abbrev pub RefusalsAscend : Type 0
RefusalsAscend = (doc : Doc) (text : List ℕ) → Ascend 1 (refusals_of doc text)

-- The runs of a file are among its lines one after another, each with at most one refusal.
abbrev pub RunsAreInOrder : Type 0
RunsAreInOrder =
    (doc : Doc) (text : List ℕ) → AreInOrder 1 (lines_of text) (stream_of (rules_of doc) text).items
    (stream_of (rules_of doc) text).end

-- for the worked cases: a refusal of a line, a run that is refused, and one that passes
abbrev at_line : ℕ → Refusal
at_line n = record { code = Comment; line = n }

abbrev run_at : ℕ → Refusal → CheckedItem
run_at n refusal =
    record { first = n; lines = codes "A:1" ∷ codes "#" ∷ []; bodies = Err refusal }

abbrev good_at : ℕ → CheckedItem
good_at n = record { first = n; lines = codes "A:1" ∷ []; bodies = Ok [] }

-- each at a line after the one before
ascending : (Ascend 3 [] ≡ Unit {0})
    × (Ascend 3 (at_line 3 ∷ at_line 7 ∷ []) ≡ ((3 ≤ 3) × ((4 ≤ 7) × Unit {0})))
    × (Ascend 1 (at_line 3 ∷ at_line 3 ∷ []) ≡ ((1 ≤ 3) × ((4 ≤ 3) × Unit {0})))
ascending = (refl, refl, refl)

-- at one of two lines, at neither, and nothing for a run that passes
refusals_within : (HasRefusalWithin (run_at 4 (at_line 5)) ≡ ((4 ≤ 5) × (5 < 6)))
    × (HasRefusalWithin (run_at 4 (at_line 6)) ≡ ((4 ≤ 6) × (6 < 6)))
    × (HasRefusalWithin (good_at 4) ≡ Unit {0})
refusals_within = (refl, refl, refl)

-- the refusal that ends the stream, and none
ends : (AreInOrder 2 (codes "A" ∷ []) [] (Some (at_line 4)) ≡ ((2 ≤ 4) × (4 ≤ 3)))
    × (AreInOrder 1 [] [] None ≡ Unit {0})
ends = (refl, refl)

some_lines : (line : Line) (lines : List Line) → (line ∷ lines) ≢ []
some_lines line lines none = cc

-- a run that passes and one that is refused, with a line before each, and a refusal that ends the
-- stream at the line after the last one
two_runs : AreInOrder 1 ([] ∷ codes "A:1" ∷ [] ∷ codes "A:1" ∷ codes "#" ∷ [])
    (good_at 2 ∷ run_at 4 (at_line 5) ∷ []) (Some (at_line 6))
two_runs = (
  [] ∷ [],
  [] ∷ codes "A:1" ∷ codes "#" ∷ [],
  refl,
  refl,
  some_lines (codes "A:1") [],
  tt,
  (
    [] ∷ [],
    [],
    refl,
    refl,
    some_lines (codes "A:1") (codes "#" ∷ []),
    (leb-true 4 5 refl, leb-true 6 6 refl),
    (leb-true 6 6 refl, leb-true 6 6 refl),
  ),
)
