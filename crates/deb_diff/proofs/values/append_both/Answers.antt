-- The lines of both fields.
use Rattle.std.proofs.Common.{refl, ap, ◌∙◌}
use Rattle.std.proofs.lemmas.Result.{on_ok_weaker}
use Rattle.std.specs.Option.{option_map}
use Rattle.deb_diff.specs.Cuts.{texts_in}
use Rattle.deb_diff.proofs.Cutting.{found_now}
use Rattle.deb_diff.proofs.Marking.{lines-both}
use Rattle.deb_diff.proofs.values.append_both.Goals as goal

pub returns : goal.returns
returns c =
    on_ok_weaker c.append_field-2.result
    (λ e. lines-both (texts_in c.args.fields.now.entries) (texts_in c.args.others.now.entries) c.args.name.now _ _ c.args.out.now.items c.append_field.new.out.items c.append_field-2.new.out.items
    (ap (option_map (λ t. t.now)) c.get.ensures.value ∙ found_now _ c.args.name.now (λ q. refl) c.args.fields.now.entries)
    (ap (option_map (λ t. t.now)) c.get-2.ensures.value ∙ found_now _ c.args.name.now (λ q. refl) c.args.others.now.entries)
    c.in_ok-append_field.ensures e)
    c.append_field-2.ensures
