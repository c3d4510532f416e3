use Rattle.deb_syntax.proofs.Common.{◌≡◌, [], ap, arith, refl, slice_range, sym, ◌∙◌, Ok, IfSome, IsTrue, List, ℕ, option_map, subst, list_all, pieces_of, buffer_of, judged, fields_at, lies_within, stands_within}
use Rattle.deb_syntax.specs.Judged.{lines_standing}
use Rattle.deb_syntax.specs.LineEnds.{piece_ends}
use Rattle.deb_syntax.specs.Passing.{CanBeJudged, EndsLines}
use Rattle.deb_syntax.proofs.LineEnds.{few_ends}
use Rattle.deb_syntax.proofs.PassingOn.{stands_judged}
use Rattle.deb_syntax.proofs.paragraphs.Paragraphs.judge_passed.Goals as goal

pub judge-requires-clause-ends : goal.judge-requires-clause-ends
judge-requires-clause-ends c =
    c.as_slice.ensures.value
    ∙ subst (EndsLines c.args.self.now.ends.items (buffer_of c.args.self.now.cursor)) c.in-Some.is c.requires.ends
    ∙ ap piece_ends (sym c.slice-text.ensures)

pub judge-requires-clause-lines : goal.judge-requires-clause-lines
judge-requires-clause-lines c =
    let self = c.args.self.now in
    let buffer = buffer_of self.cursor in
    let at = c.in-Some.at in
    let can = subst (λ o. IfSome (option_map (lines_standing buffer) o) CanBeJudged) c.in-Some.is c.requires.judgeable in
    let ends = subst (EndsLines self.ends.items buffer) c.in-Some.is c.requires.ends in
    omega (arith, can.numbered, few_ends (slice_range buffer at.from at.to) _ _ (c.as_slice.ensures.value ∙ ends) refl)

pub invariant_of-self : goal.invariant_of-self
invariant_of-self c =
    let self = c.args.self.now in
    let buffer = buffer_of self.cursor in
    let spans = c.judge.new.spans.items in
    let at = c.in-Some.at in
    let stands = subst (λ o. IsTrue (stands_within buffer [] o)) c.in-Some.is self.judges in
    record {
      near = self.near;
      reach = self.reach;
      hides = self.hides;
      stands = stands_judged buffer at spans stands (subst (λ o. IfSome (option_map (lines_standing buffer) o) CanBeJudged) c.in-Some.is c.requires.judgeable)
          (subst (λ (zs : List ℕ). judged at.first_line (pieces_of zs) ≡ Ok (fields_at zs spans)) c.slice-text.ensures c.in-Ok.ensures.ok)
          (subst (λ (zs : List ℕ). IsTrue (list_all (lies_within zs) spans)) c.slice-text.ensures c.in-Ok.ensures.within);
      judges = self.judges;
    }
