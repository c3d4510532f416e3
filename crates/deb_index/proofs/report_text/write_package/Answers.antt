-- The end of the line follows the package.
use Rattle.std.proofs.Common.{◌≡◌, ℕ, List, [], ◌∷◌, ◌++◌, Option, Result, append_assoc, refl, sym, ap, ◌∙◌, subst}
use Rattle.std.proofs.lemmas.Result.{err_from_is_err_and}
use Rattle.std.specs.Io.KnownBytes.{Appends}
use Rattle.std.specs.List.{concat}
use Rattle.deb_base.specs.Devices.{AppendsFront, Puts}
use Rattle.deb_base.proofs.Writes.{AppendsFront-more, Puts-then}
use Rattle.deb_index.specs.Reported.{found_of}
use Rattle.deb_index.specs.ReportText.{end_pieces, package_pieces}
use Rattle.deb_index.specs.ShownVersions.{shown_by}
use Rattle.deb_index.proofs.report_text.write_package.Goals as goal

concat-both : (xs ys : List (List ℕ)) → concat (xs ++ ys) ≡ concat xs ++ concat ys
concat-both [] ys = refl
concat-both (x ∷ xs) ys = ap (λ l. x ++ l) (concat-both xs ys) ∙ sym (append_assoc x (concat xs) (concat ys))

both-put : {T E : Type 0} (a b c : Option (List ℕ)) (xs ys : List (List ℕ)) (r : Result T E) → Appends a b (concat xs) → Puts b c r (concat ys) → Puts a c r (concat (xs ++ ys))
both-put a b c xs ys r first second = subst (Puts a c r) (sym (concat-both xs ys)) (Puts-then a b c (concat xs) (concat ys) r first second)

first-front : (a b : Option (List ℕ)) (xs ys : List (List ℕ)) → AppendsFront a b (concat xs) → AppendsFront a b (concat (xs ++ ys))
first-front a b xs ys front = subst (AppendsFront a b) (sym (concat-both xs ys)) (AppendsFront-more a b (concat xs) (concat ys) front)

pub returns-in_err-write_named-clause-written : goal.returns-in_err-write_named-clause-written
returns-in_err-write_named-clause-written g c =
    let shown = shown_by c.args.versions in
    let p = found_of c.args.found.now in
    let err = err_from_is_err_and c.from_residual.result c.from_residual.ensures.1 in
    rw err.1 (first-front _ _ (package_pieces shown p) (end_pieces (shown.file p)) c.in_err-write_named.ensures.written)

pub returns-clause-written : goal.returns-clause-written
returns-clause-written g c =
    let shown = shown_by c.args.versions in
    let p = found_of c.args.found.now in
    both-put _ _ _ (package_pieces shown p) (end_pieces (shown.file p)) c.write_end.result c.in_ok-write_named.ensures.written (rw c.file.ensures at c.write_end.ensures.written)
