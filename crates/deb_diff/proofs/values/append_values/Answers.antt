use Rattle.std.proofs.Common.{◌++◌, map, ap, ◌∙◌}
use Rattle.std.proofs.lemmas.Result.{on_ok_weaker}
use Rattle.deb_diff.specs.Cuts.{rest_of, texts_in}
use Rattle.deb_diff.specs.Fields.{fields_of_both}
use Rattle.deb_diff.specs.Marks.{lines_in}
use Rattle.deb_diff.proofs.Rests.{collected_rests}
use Rattle.deb_diff.proofs.Marking.{rests-under}
use Rattle.deb_diff.proofs.values.append_values.Goals as goal

pub returns : goal.returns
returns c = λ entries others cut cut_too is also.
    let names = map (λ n. n.now) c.args.names.now in
    let fields = c.in_ok-add_fields.ensures entries cut is ∙ ap (λ l. fields_of_both (texts_in l) (map rest_of entries)) c.new-fields.ensures.empty ∙ collected_rests entries cut in
    let other_fields = c.in_ok-add_fields-2.ensures others cut_too also ∙ ap (λ l. fields_of_both (texts_in l) (map rest_of others)) c.new-others.ensures.empty ∙ collected_rests others cut_too in
    on_ok_weaker c.append_lines.result
    (λ e. e ∙ ap (λ l. c.args.out.now.items ++ l)
    (ap (λ f. lines_in f (texts_in c.add_fields-2.new.fields.entries) names) fields ∙ ap (λ f. lines_in (map rest_of entries) f names) other_fields ∙ rests-under entries others names))
    c.append_lines.ensures
