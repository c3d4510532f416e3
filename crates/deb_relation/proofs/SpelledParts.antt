-- A name, a qualifier and a bound that are spelled are read, whatever is after them.
use Rattle.std.proofs.Common.{◌≡◌, inl, inr, ℕ, false, List, [], ◌∷◌, ◌++◌, IsTrue, Option, Some, None, Ok, refl, sym, ap, ◌∙◌, append_assoc}
use Rattle.deb_base.specs.PackageNames.{is_package_name}
use Rattle.deb_version.specs.Parts.{Meaning as Version}
use Rattle.deb_version.specs.Grammar.{SpellsVersion}
use Rattle.deb_relation.specs.declared.operator.Op.{Op}
use Rattle.deb_relation.specs.declared.operator.Op.TheVariants.{Earlier, EarlierEqual, Equal, LaterEqual, Later}
use Rattle.deb_relation.specs.Grammar.{IsWhite, SpellsQualifier, SpellsOperator, SpellsBound}
use Rattle.deb_relation.specs.Reading.{begins, behind_white, is_before, is_in_name, is_in_operator, is_white, operator_of, read_name, read_qualifier, read_operator, read_version, read_bound_behind, read_bound}
use Rattle.deb_version.proofs.VersionBytes.{version_bytes}
use Rattle.deb_relation.proofs.Bytes.{name_run, package_bytes, arch_bytes, package_some, at_end-some, version_run, version_some, version_first, white_stops_close, version_stops_operator, white_stops_operator}
use Rattle.deb_relation.proofs.Runs.{Passes, Stops, run_of-whole, behind_run-whole, white-past}
use Rattle.deb_relation.proofs.Versions.{version_in}

pub name_read : (name rest : List ℕ) → IsTrue (is_package_name name) → Stops is_in_name rest → read_name (name ++ rest) ≡ Ok (name, rest)
unfolding read_name
name_read name rest is stops =
    let run = name_run name (package_bytes name is) in
    rw (run_of-whole is_in_name name rest run stops, behind_run-whole is_in_name name rest run stops, at_end-some name (package_some name is), is) refl

pub qualifier_read : (text : List ℕ) (qualifier : Option (List ℕ)) (rest : List ℕ) → SpellsQualifier text qualifier → Stops is_in_name rest → begins 58 rest ≡ false → read_qualifier (text ++ rest) ≡ Ok (qualifier, rest)
unfolding read_qualifier
qualifier_read text None rest is stops other = rw (is, other) refl
qualifier_read text (Some name) rest is stops other =
    let run = name_run name (arch_bytes name is.1) in
    rw (is.0, run_of-whole is_in_name name rest run stops, behind_run-whole is_in_name name rest run stops, is.1) refl

operator_run : (text : List ℕ) (operator : Op) → SpellsOperator text operator → Passes is_in_operator text
operator_run text Earlier is = rw is (refl, (refl, tt))
operator_run text EarlierEqual (inl is) = rw is (refl, (refl, tt))
operator_run text EarlierEqual (inr is) = rw is (refl, tt)
operator_run text Equal is = rw is (refl, tt)
operator_run text LaterEqual (inl is) = rw is (refl, (refl, tt))
operator_run text LaterEqual (inr is) = rw is (refl, tt)
operator_run text Later is = rw is (refl, (refl, tt))

operator_known : (text : List ℕ) (operator : Op) → SpellsOperator text operator → operator_of text ≡ Some operator
operator_known text Earlier is = rw is refl
operator_known text EarlierEqual (inl is) = rw is refl
operator_known text EarlierEqual (inr is) = rw is refl
operator_known text Equal is = rw is refl
operator_known text LaterEqual (inl is) = rw is refl
operator_known text LaterEqual (inr is) = rw is refl
operator_known text Later is = rw is refl

operator_first : (text : List ℕ) (operator : Op) (rest : List ℕ) → SpellsOperator text operator → Stops is_white (text ++ rest)
operator_first text Earlier rest is = rw is refl
operator_first text EarlierEqual rest (inl is) = rw is refl
operator_first text EarlierEqual rest (inr is) = rw is refl
operator_first text Equal rest is = rw is refl
operator_first text LaterEqual rest (inl is) = rw is refl
operator_first text LaterEqual rest (inr is) = rw is refl
operator_first text Later rest is = rw is refl

operator_read : (text : List ℕ) (operator : Op) (white rest : List ℕ) → SpellsOperator text operator → IsWhite white → Stops is_white rest → Stops is_in_operator rest → read_operator (text ++ (white ++ rest)) ≡ Ok (operator, rest)
unfolding read_operator
operator_read text operator white rest is w stops other =
    let here = white_stops_operator white rest w other in
    let run = operator_run text operator is in
    rw (run_of-whole is_in_operator text (white ++ rest) run here, behind_run-whole is_in_operator text (white ++ rest) run here, operator_known text operator is, white-past white rest w stops) refl

version_read : (text : List ℕ) (m : Version) (white more : List ℕ) → SpellsVersion text m → IsWhite white → read_version (text ++ (white ++ 41 ∷ more)) ≡ Ok (m, 41 ∷ more)
version_read text m white more spells w =
    let all = version_bytes text m spells in
    let stops : Stops (is_before 41) (white ++ 41 ∷ more) = white_stops_close 41 white more refl w in
    version_in (text ++ (white ++ 41 ∷ more)) text (41 ∷ more) m
    (sym (run_of-whole (is_before 41) text (white ++ 41 ∷ more) (version_run text all) stops))
    (sym (ap behind_white (behind_run-whole (is_before 41) text (white ++ 41 ∷ more) (version_run text all) stops) ∙ white-past white (41 ∷ more) w refl))
    spells

-- the pieces of a bound, and the text after it
abbrev bound_pieces : List ℕ → List ℕ → List ℕ → List ℕ → List ℕ → List ℕ
bound_pieces operator between version behind more = operator ++ (between ++ (version ++ (behind ++ 41 ∷ more)))

bound_behind_read : (bound : Op × Version) (operator between version behind more : List ℕ) → SpellsOperator operator bound.0 → IsWhite between → SpellsVersion version bound.1 → IsWhite behind → read_bound_behind (bound_pieces operator between version behind more) ≡ Ok (bound, behind_white more)
unfolding read_bound_behind
bound_behind_read bound operator between version behind more is w spells w' =
    let rest = version ++ (behind ++ 41 ∷ more) in
    let all = version_bytes version bound.1 spells in
    let first = operator_read operator bound.0 between rest is w (version_first version (behind ++ 41 ∷ more) (version_some version bound.1 spells) all) (version_stops_operator version (behind ++ 41 ∷ more) all (white_stops_operator behind (41 ∷ more) w' refl)) in
    rw (first, version_read version bound.1 behind more spells w') refl

reordered : (before within operator between version behind more : List ℕ) → (before ++ (40 ∷ (within ++ (operator ++ (between ++ (version ++ (behind ++ 41 ∷ []))))))) ++ more ≡ before ++ (40 ∷ (within ++ bound_pieces operator between version behind more))
reordered before within operator between version behind more = simp append_assoc refl

-- a bound or nothing: white space before it is skipped, and so is that after it
pub bound_read : (text : List ℕ) (bound : Option (Op × Version)) (more : List ℕ) → SpellsBound text bound → begins 40 (behind_white more) ≡ false → read_bound (behind_white (text ++ more)) ≡ Ok (bound, behind_white more)
unfolding read_bound
bound_read text None more is other = rw (is, other) refl
bound_read text (Some bound) more is other =
    let pieces = is.within ++ bound_pieces is.operator is.between is.version is.behind more in
    let spelt : text ++ more ≡ is.before ++ 40 ∷ pieces = ap (λ t. t ++ more) is.spelt ∙ reordered is.before is.within is.operator is.between is.version is.behind more in
    let here : behind_white (text ++ more) ≡ 40 ∷ pieces = ap behind_white spelt ∙ white-past is.before (40 ∷ pieces) is.before_white refl in
    let within : behind_white pieces ≡ bound_pieces is.operator is.between is.version is.behind more = white-past is.within (bound_pieces is.operator is.between is.version is.behind more) is.within_white (operator_first is.operator bound.0 (is.between ++ (is.version ++ (is.behind ++ 41 ∷ more))) is.spells_operator) in
    rw (here, within, bound_behind_read bound is.operator is.between is.version is.behind more is.spells_operator is.between_white is.spells is.behind_white) refl
