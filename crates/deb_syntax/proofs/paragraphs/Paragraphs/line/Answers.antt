use Rattle.std.proofs.Common.{◌≡◌, ◌-◌, rules, tests, slice_get, option_map, ap, sym, ◌∙◌, arith}
use Rattle.std.proofs.lemmas.Iterator.Consumers.{nth_from_yields_List}
use Rattle.std.proofs.lemmas.Iterator.Splits.{YieldsList-from_slice_split}
use Rattle.deb_base.proofs.BodyLemmas.{slice_split-pieces_of}
use Rattle.deb_syntax.proofs.Common.{cond-true, le-leb, leb, pieces_of, buffer_of}
use Rattle.deb_syntax.specs.Judged.{line_among, line_judged, lines_standing}
use Rattle.deb_syntax.specs.Paragraphs.{judged_last}
use Rattle.deb_syntax.proofs.paragraphs.Paragraphs.line.Goals as goal

pub returns : goal.returns
returns c =
    let at = c.in_ok-at.at in
    let bytes = c.slice.result.now in
    let index = c.args.number - at.first_line in
    let among : line_judged c.args.number (judged_last c.args.self.now) ≡ line_among c.args.number (lines_standing (buffer_of c.args.self.now.cursor) at) = ap (λ o. line_judged c.args.number (option_map (lines_standing (buffer_of c.args.self.now.cursor)) o)) c.in_ok-at.was in
    nth_from_yields_List c.nth.result _ _ c.nth.ensures.ran (YieldsList-from_slice_split _ _ bytes c.split.ensures.rest c.split.ensures.done c.split.ensures.closure (λ x r q k. search (rules, tests)))
    ∙ ap (λ lines. slice_get lines index) (slice_split-pieces_of bytes)
    ∙ ap (λ text. slice_get (pieces_of text) index) c.slice.ensures
    ∙ sym (cond-true (leb at.first_line c.args.number) _ _ (le-leb at.first_line c.args.number (omega arith)))
    ∙ sym among
