-- The parts that are cut show the alternative that is read.
use Rattle.std.proofs.Common.{◌≡◌, ℕ, ◌+◌, ◌-◌, ◌==◌, Bool, true, false, not, if◌then◌else◌, List, [], ◌∷◌, ◌++◌, length, take, drop, Option, Some, None, Result, Ok, Err, ap, sym, subst, ◌∙◌, arith, refl}
use Rattle.std.specs.List.{prefix_len}
use Rattle.std.specs.Option.{unwrap_or}
use Rattle.std.specs.Result.{IfOk}
use Rattle.std.proofs.Math.Seq.{drop-append_seam}
use Rattle.std.proofs.lemmas.List.{append_assoc, length-append, take-append-drop}
use Rattle.deb_version.specs.declared.fault.BadVersion.{BadVersion}
use Rattle.deb_version.specs.Faults.{first_fault}
use Rattle.deb_version.specs.Grammar.{meaning_of_components}
use Rattle.deb_version.specs.Parts.{Meaning as Version}
use Rattle.deb_version.specs.Places.{components_in}
use Rattle.deb_base.specs.PackageNames.{is_arch_name, is_package_name}
use Rattle.deb_relation.specs.declared.fault.Reason.TheVariants.{Unclosed}
use Rattle.deb_relation.specs.declared.operator.Op.{Op}
use Rattle.deb_relation.specs.Reading.{Reading, Stopped, and_then, begins, behind_run, behind_white, is_at_end, is_before, is_in_name, is_in_operator, is_white, operator_of, or_fault, or_stop, read_alternative, read_architectures, read_bound, read_bound_behind, read_close, read_formula, read_name, read_operator, read_qualifier, read_version, run_of, some_read}
use Rattle.deb_relation.proofs.Runs.{Stops, behind_run-stops}
use Rattle.deb_spelled.specs.Alternatives.{cut_alternative}
use Rattle.deb_spelled.specs.Parts.{behind_byte, cut_bound, cut_inside, cut_name, cut_qualifier, no_span, span_at}
use Rattle.deb_spelled.specs.Shown.{PartsShowAlternatives, ShowsBound, part}

-- ---- what is left of a text

-- the text ends in this rest
pub record IsRest (text rest : List ℕ) : Type 0 where
  pub before : List ℕ
  pub is : text ≡ before ++ rest

dropped : (text rest : List ℕ) (n : ℕ) → IsRest text rest → IsRest text (drop n rest)
dropped text rest n is = record {
  before = is.before ++ take n rest;
  is = is.is ∙ ap (λ s. is.before ++ s) (sym (take-append-drop n rest)) ∙ sym (append_assoc is.before (take n rest) (drop n rest));
}

past_byte : (byte : ℕ) (text rest : List ℕ) → IsRest text rest → IsRest text (behind_byte byte rest)
past_byte byte text rest is = by_test (begins byte rest)
  where
    by_test : (b : Bool) → IsRest text (if b then drop 1 rest else rest)
    by_test true = dropped text rest 1 is
    by_test false = is

-- a part at the start of what is left has its first bytes
shown : (text rest : List ℕ) (n : ℕ) → IsRest text rest → part text (span_at (length text) rest n) ≡ take n rest
shown text rest n is = by_test (n == 0) refl
  where
    by_test : (b : Bool) → (n == 0) ≡ b → part text (if b then no_span else record { start = length text - length rest; length = n }) ≡ take n rest
    by_test true e = let z : n ≡ 0 = grind arith in ap (λ k. take k rest) (sym z)
    by_test false e =
        let at : length text - length rest ≡ length is.before = ap (λ s. length s - length rest) is.is ∙ ap (λ k. k - length rest) (length-append is.before rest) ∙ (omega arith) in
        ap (λ k. take n (drop k text)) at ∙ ap (λ s. take n (drop (length is.before) s)) is.is ∙ ap (take n) (drop-append_seam is.before rest)

-- ---- steps

then_ok : {A B : Type 0} (r : Reading A) (next : A → List ℕ → Result B Stopped) (P : B → Type 0) → ((a : A) (rest : List ℕ) → r ≡ Ok (a, rest) → IfOk (next a rest) P) → IfOk (and_then r next) P
then_ok (Ok p) next P each = each p.0 p.1 refl
then_ok (Err stopped) next P each = tt

known : {A : Type 0} (r : Reading A) (a : A) (rest : List ℕ) (P : A × List ℕ → Type 0) → IfOk r P → r ≡ Ok (a, rest) → P (a, rest)
known r a rest P holds e = subst (λ r. IfOk r P) e holds

-- no byte of a run is left after it
none_left : (test : ℕ → Bool) (text : List ℕ) → Stops test text → prefix_len test text ≡ 0
none_left test [] stops = refl
none_left test (b ∷ bs) stops = ap (λ v. if v then 1 + prefix_len test bs else 0) stops

name_ok : (text : List ℕ) → IfOk (read_name text) (λ p. (p.0 ≡ run_of is_in_name text) × (p.1 ≡ behind_run is_in_name text))
unfolding read_name
name_ok text = by_tests (is_at_end (run_of is_in_name text)) (is_package_name (run_of is_in_name text)) _ _
  where
    by_tests : (e g : Bool) (x y : Stopped) → IfOk {T = List ℕ × List ℕ} {E = Stopped} (if e then Err x else if g then Ok (run_of is_in_name text, behind_run is_in_name text) else Err y) (λ p. (p.0 ≡ run_of is_in_name text) × (p.1 ≡ behind_run is_in_name text))
    by_tests true g x y = tt
    by_tests false true x y = (refl, refl)
    by_tests false false x y = tt

-- after a name
qualifier_ok : (text : List ℕ) → Stops is_in_name text → IfOk (read_qualifier text) (λ p. (run_of is_in_name (behind_byte 58 text) ≡ unwrap_or p.0 []) × (behind_run is_in_name (behind_byte 58 text) ≡ p.1))
unfolding read_qualifier
qualifier_ok text stops = by_tests (begins 58 text) (is_arch_name (run_of is_in_name (drop 1 text))) _
  where
    by_tests : (b g : Bool) (x : Stopped) → IfOk {T = Option (List ℕ) × List ℕ} {E = Stopped} (if not b then Ok (None, text) else if g then Ok (Some (run_of is_in_name (drop 1 text)), behind_run is_in_name (drop 1 text)) else Err x) (λ p. (run_of is_in_name (if b then drop 1 text else text) ≡ unwrap_or p.0 []) × (behind_run is_in_name (if b then drop 1 text else text) ≡ p.1))
    by_tests false g x = (ap (λ n. take n text) (none_left is_in_name text stops), ap (λ n. drop n text) (none_left is_in_name text stops))
    by_tests true true x = (refl, refl)
    by_tests true false x = tt

operator_ok : (text : List ℕ) → IfOk (read_operator text) (λ p. (operator_of (run_of is_in_operator text) ≡ Some p.0) × (behind_white (behind_run is_in_operator text) ≡ p.1))
unfolding read_operator
operator_ok text = by_op (operator_of (run_of is_in_operator text)) _ _
  where
    by_op : (o : Option Op) (rest : List ℕ) (x : Stopped) → IfOk (or_stop o rest x) (λ p. (o ≡ Some p.0) × (rest ≡ p.1))
    by_op (Some op) rest x = (refl, refl)
    by_op None rest x = tt

version_ok : (text : List ℕ) → IfOk (read_version text) (λ p. meaning_of_components (components_in (run_of (is_before 41) text)) ≡ p.0)
unfolding read_version
version_ok text = by_fault (first_fault (run_of (is_before 41) text)) _ _ _
  where
    by_fault : (f : Option BadVersion) (v : Version) (rest : List ℕ) (left : ℕ) → IfOk (or_fault f v rest left) (λ p. v ≡ p.0)
    by_fault None v rest left = refl
    by_fault (Some fault) v rest left = tt

closed : (A : Type 0) (a : A) (text : List ℕ) (P : A × List ℕ → Type 0) → ((rest : List ℕ) → P (a, rest)) → IfOk (read_close a text) P
closed A a text P each = by_test (begins 41 text)
  where
    by_test : (b : Bool) → IfOk {T = A × List ℕ} {E = Stopped} (if b then Ok (a, behind_white (drop 1 text)) else Err (Unclosed, length text)) P
    by_test true = each _
    by_test false = tt

inside_ok : (whole text : List ℕ) → IsRest whole text → IfOk (read_bound_behind text) (λ p. ShowsBound whole (cut_inside (length whole) text).0 (cut_inside (length whole) text).1 (Some p.0))
unfolding read_bound_behind cut_inside
inside_ok whole text is =
    then_ok (read_operator text) _ _ (λ op rest1 e1. then_ok (read_version rest1) _ _ (λ v rest2 e2. closed (Op × Version) (op, v) rest2 _ (λ rest3.
    let o = known (read_operator text) op rest1 _ (operator_ok text) e1 in
    let at = behind_white (behind_run is_in_operator text) in
    let ver : meaning_of_components (components_in (run_of (is_before 41) at)) ≡ v = known (read_version at) v rest2 _ (version_ok at) (ap read_version o.1 ∙ e2) in (
      ap operator_of (shown whole text (prefix_len is_in_operator text) is) ∙ o.0,
      ap (λ s. meaning_of_components (components_in s)) (shown whole at (prefix_len (is_before 41) at) (dropped _ _ _ (dropped _ _ _ is))) ∙ ver,
    ))))

bounded : (whole text : List ℕ) → IsRest whole text → IfOk {T = Option (Op × Version) × List ℕ} {E = Stopped} (and_then (read_bound_behind text) some_read) (λ p. ShowsBound whole (cut_inside (length whole) text).0 (cut_inside (length whole) text).1 p.0)
bounded whole text is =
    then_ok (read_bound_behind text) some_read (λ p. ShowsBound whole (cut_inside (length whole) text).0 (cut_inside (length whole) text).1 p.0) (λ bound rest e. known (read_bound_behind text) bound rest (λ p. ShowsBound whole (cut_inside (length whole) text).0 (cut_inside (length whole) text).1 (Some p.0)) (inside_ok whole text is) e)

bound_ok : (whole text : List ℕ) → IsRest whole text → IfOk (read_bound text) (λ p. ShowsBound whole (cut_bound (length whole) text).0 (cut_bound (length whole) text).1 p.0)
unfolding read_bound cut_bound
bound_ok whole text is = by_test (bounded whole (behind_white (drop 1 text)) (dropped whole (drop 1 text) (prefix_len is_white (drop 1 text)) (dropped whole text 1 is))) (begins 40 text)
  where
    by_test : IfOk {T = Option (Op × Version) × List ℕ} {E = Stopped} (and_then (read_bound_behind (behind_white (drop 1 text))) some_read) (λ p. ShowsBound whole (cut_inside (length whole) (behind_white (drop 1 text))).0 (cut_inside (length whole) (behind_white (drop 1 text))).1 p.0) → (b : Bool) → IfOk {T = Option (Op × Version) × List ℕ} {E = Stopped} (if b then and_then (read_bound_behind (behind_white (drop 1 text))) some_read else Ok (None, text)) (λ p. ShowsBound whole (if b then cut_inside (length whole) (behind_white (drop 1 text)) else (no_span, no_span, text)).0 (if b then cut_inside (length whole) (behind_white (drop 1 text)) else (no_span, no_span, text)).1 p.0)
    by_test some true = some
    by_test some false = (refl, refl)

pub parts_show : PartsShowAlternatives
unfolding read_alternative cut_alternative cut_name cut_qualifier
parts_show before text group =
    let whole = before ++ text in
    let is : IsRest whole text = record { before = before; is = refl } in
    then_ok (read_name text) _ _ (λ name text1 e1. then_ok (read_qualifier text1) _ _ (λ qualifier text2 e2. then_ok (read_bound (behind_white text2)) _ _ (λ bound text3 e3. then_ok (read_architectures text3) _ _ (λ names text4 e4. then_ok (read_formula text4) _ _ (λ formula text5 e5.
    let n = known (read_name text) name text1 _ (name_ok text) e1 in
    let after = behind_run is_in_name text in
    let in_after = dropped whole text (prefix_len is_in_name text) is in
    let q = known (read_qualifier after) qualifier text2 _ (qualifier_ok after (behind_run-stops is_in_name text)) (ap read_qualifier (sym n.1) ∙ e2) in
    let colon = behind_byte 58 after in
    let in_colon = past_byte 58 whole after in_after in
    let at = behind_white (behind_run is_in_name colon) in
    let b = known (read_bound at) bound text3 _ (bound_ok whole at (dropped _ _ _ (dropped _ _ _ in_colon))) (ap (λ s. read_bound (behind_white s)) q.1 ∙ e3) in
    record {
      name = shown whole text (prefix_len is_in_name text) is ∙ sym n.0;
      qualifier = shown whole colon (prefix_len is_in_name colon) in_colon ∙ q.0;
      bound = b;
    })))))
