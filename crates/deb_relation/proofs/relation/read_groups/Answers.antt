use Rattle.std.proofs.Common.{rules, map, [], Ok, ap, sym, ◌∙◌}
use Rattle.std.proofs.lemmas.Result.{err_from_is_err_and}
use Rattle.std.specs.Option.{option_map}
use Rattle.deb_relation.specs.Grammar.{set_of}
use Rattle.deb_relation.specs.Stops.{next_of}
use Rattle.deb_relation.specs.Groups.{group_of, piece_behind}
use Rattle.deb_relation.specs.Reading.{next_piece, put_piece}
use Rattle.deb_relation.specs.Texts.{group_text}
use Rattle.deb_relation.proofs.GatheredSets.{put_group}
use Rattle.deb_relation.proofs.ReadRelation.{step-next_piece}
use Rattle.deb_relation.proofs.Gathering.{read-more, read-last, loop-stop}
use Rattle.deb_relation.proofs.relation.read_groups.Goals as goal

pub returns-in_err-piece : goal.returns-in_err-piece
returns-in_err-piece c =
    let p = err_from_is_err_and c.from_residual-in_err-piece.result c.from_residual-in_err-piece.ensures.1 in
    loop-stop next_piece put_piece step-next_piece [] c.args.text.now (set_of group_text (map group_of c.loop-groups.groups.items)) c.loop-groups.rest.now c.loop-groups.invariant (next_of piece_behind) _ c.from_residual-in_err-piece.result p.0 _ p.1 p.2 c.in_err-piece.ensures.value

pub loop-groups-smaller : goal.loop-groups-smaller
loop-groups-smaller c = step-next_piece.shrinks c.loop-groups.rest.now (option_map group_of c.in-Some.piece) c.in-Some.behind.now (c.in_ok-piece.ensures.value ∙ ap (λ o. Ok (next_of piece_behind o)) c.in-Some.is)

pub loop-groups-preserved : goal.loop-groups-preserved
loop-groups-preserved c =
    let all = map group_of c.loop-groups.groups.items in
    let piece = option_map group_of c.in-Some.piece in
    let kept = c.in_ok-drop_repeats.ensures ∙ ap (set_of group_text) c.in_ok-push_piece.ensures ∙ put_group piece all in
    read-more next_piece put_piece step-next_piece [] c.args.text.now (set_of group_text all) c.loop-groups.rest.now c.loop-groups.invariant piece (set_of group_text (map group_of c.drop_repeats.new.groups.items)) c.in-Some.behind.now (c.in_ok-piece.ensures.value ∙ ap (λ o. Ok (next_of piece_behind o)) c.in-Some.is) kept

pub returns : goal.returns
returns c =
    read-last next_piece put_piece step-next_piece [] c.args.text.now (set_of group_text (map group_of c.loop-groups.groups.items)) c.loop-groups.rest.now c.loop-groups.invariant (search rules)
    ∙ ap (λ all. Ok (all, c.loop-groups.rest.now)) (sym c.in_ok-sort_groups.ensures)
