use Rattle.std.proofs.Common.{◌≡◌, true, sym, ap, ◌∙◌}
use Rattle.std.specs.Option.{option_map}
use Rattle.deb_latest.specs.Bests.{best_kept, best_under, is_later_kept}
use Rattle.deb_latest.proofs.Lookups.{put-new}
use Rattle.deb_latest.proofs.bests.put.Goals as goal

pub returns : goal.returns
returns c = λ other.
    let later : is_later_kept (best_under c.args.bests.now c.args.key.now) c.args.version.now ≡ true =
    sym (ap (λ o. is_later_kept (option_map best_kept o) c.args.version.now) c.get.ensures.value) ∙ sym c.is_later.ensures ∙ c.if-not-is_later.false in
    put-new c.args.key.now c.args.bests.now (c.args.version.now, c.args.number) other c.in_ok-from_slice-2.field-0.items c.insert.new.self _ later c.in_ok-from_slice-2.ensures.items
    (ap (λ v. (v, c.args.number)) c.in_ok-from_slice.ensures.items) c.in_ok-insert.ensures.updates
