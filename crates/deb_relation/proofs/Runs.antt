-- Runs of bytes at the beginning of a text.
use Rattle.std.proofs.Common.{◌≡◌, ℕ, suc, ◌+◌, Bool, true, false, cond, List, [], ◌∷◌, ◌++◌, length, take, drop, IsTrue, refl, sym, ap, ◌∙◌, subst, arith}
use Rattle.std.specs.List.{AllByRecursion, prefix_len}
use Rattle.std.proofs.Math.Seq.{take-append_seam, drop-append_seam}
use Rattle.std.proofs.lemmas.List.{take-append-drop}
use Rattle.deb_relation.specs.Grammar.{IsWhite}
use Rattle.deb_relation.specs.Reading.{run_of, behind_run, behind_white, is_white}

-- each byte passes the test
abbrev pub Passes : (ℕ → Bool) → List ℕ → Type 0
Passes test text = AllByRecursion (λ b. IsTrue (test b)) text

-- no byte that passes comes next
abbrev pub Stops : (ℕ → Bool) → List ℕ → Type 0
Stops test [] = Unit {0}
Stops test (b ∷ bs) = test b ≡ false

one-add : (n : ℕ) → 1 + n ≡ suc n
one-add n = omega arith

prefix_len-whole : (test : ℕ → Bool) (run rest : List ℕ) → Passes test run → Stops test rest → prefix_len test (run ++ rest) ≡ length run
prefix_len-whole test [] [] all stops = refl
prefix_len-whole test [] (b ∷ rest) all stops = ap (λ v. cond v (1 + prefix_len test rest) 0) stops
prefix_len-whole test (b ∷ run) rest all stops =
    ap (λ v. cond v (1 + prefix_len test (run ++ rest)) 0) all.0 ∙ ap (λ n. 1 + n) (prefix_len-whole test run rest all.1 stops) ∙ one-add (length run)

-- a run that is followed by no further byte of it is read whole
pub run_of-whole : (test : ℕ → Bool) (run rest : List ℕ) → Passes test run → Stops test rest → run_of test (run ++ rest) ≡ run
run_of-whole test run rest all stops = ap (λ n. take n (run ++ rest)) (prefix_len-whole test run rest all stops) ∙ take-append_seam run rest

pub behind_run-whole : (test : ℕ → Bool) (run rest : List ℕ) → Passes test run → Stops test rest → behind_run test (run ++ rest) ≡ rest
behind_run-whole test run rest all stops = ap (λ n. drop n (run ++ rest)) (prefix_len-whole test run rest all stops) ∙ drop-append_seam run rest

-- a run and what is after it make up the text
pub run_of-split : (test : ℕ → Bool) (text : List ℕ) → text ≡ run_of test text ++ behind_run test text
run_of-split test text = sym (take-append-drop (prefix_len test text) text)

pub run_of-passes : (test : ℕ → Bool) (text : List ℕ) → Passes test (run_of test text)
run_of-passes test [] = tt
run_of-passes test (b ∷ bs) = by_test (run_of-passes test bs) (test b) refl
  where
    by_test : Passes test (run_of test bs) → (v : Bool) → test b ≡ v → Passes test (take (cond v (1 + prefix_len test bs) 0) (b ∷ bs))
    by_test more true e = subst (λ n. Passes test (take n (b ∷ bs))) (sym (one-add (prefix_len test bs))) (e, more)
    by_test more false e = tt

pub behind_run-stops : (test : ℕ → Bool) (text : List ℕ) → Stops test (behind_run test text)
behind_run-stops test [] = tt
behind_run-stops test (b ∷ bs) = by_test (behind_run-stops test bs) (test b) refl
  where
    by_test : Stops test (behind_run test bs) → (v : Bool) → test b ≡ v → Stops test (drop (cond v (1 + prefix_len test bs) 0) (b ∷ bs))
    by_test more true e = subst (λ n. Stops test (drop n (b ∷ bs))) (sym (one-add (prefix_len test bs))) more
    by_test more false e = e

pub white-past : (white rest : List ℕ) → IsWhite white → Stops is_white rest → behind_white (white ++ rest) ≡ rest
white-past white rest w stops = behind_run-whole is_white white rest w stops

pub stops-append : (test : ℕ → Bool) (text rest : List ℕ) → Stops test text → Stops test rest → Stops test (text ++ rest)
stops-append test [] rest s t = t
stops-append test (b ∷ bs) rest s t = s

-- a text in which no byte passes
pub stops-each : (P : ℕ → Type 0) (test : ℕ → Bool) → ((b : ℕ) → P b → test b ≡ false) → (text : List ℕ) → AllByRecursion P text → Stops test text
stops-each P test not [] all = tt
stops-each P test not (b ∷ bs) all = not b all.0
