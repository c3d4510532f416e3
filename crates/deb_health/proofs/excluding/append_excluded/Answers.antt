use Rattle.std.proofs.Common.{◌++◌, ap, ◌∙◌}
use Rattle.std.specs.List.{flat_map}
use Rattle.std.proofs.lemmas.List.{take_all}
use Rattle.deb_relation.specs.Views.{alternative_of}
use Rattle.deb_index.specs.Indexes.{packages_of}
use Rattle.deb_index.specs.Meeting.{meets_by_name}
use Rattle.deb_unmet.specs.Paragraphs.{heading_in}
use Rattle.deb_health.specs.Excluding.{is_other}
use Rattle.deb_health.specs.Lines.{exclusion_front, exclusion_line, line_at}
use Rattle.deb_health.proofs.Exclusions.{lines-passing, lines_if, one-more}
use Rattle.deb_health.proofs.excluding.append_excluded.Goals as goal

pub loop-number-preserved : goal.loop-number-preserved
loop-number-preserved c =
    let negative = c.args.negative.now in
    let packages = packages_of negative.index.now in
    let test = is_other negative.target.now negative.paragraph.now.texts.now.name.now (alternative_of c.args.alternative.now).qualifier in
    let line = line_at (exclusion_line (exclusion_front c.args.applies (heading_in negative.paragraph.now) negative.field.now c.args.group.now)) packages in
    one-more (lines_if test packages line) c.args.numbers.now c.loop-number.number-index _ c.args.out.now.items c.loop-number.out.items c.append_if_other.new.out.items c.loop-number-test.true c.loop-number.invariant
    (rw c.qualifier.ensures at c.in_ok-append_if_other.ensures)

pub returns : goal.returns
returns c = λ are.
    let negative = c.args.negative.now in
    let packages = packages_of negative.index.now in
    let a = alternative_of c.args.alternative.now in
    let test = is_other negative.target.now negative.paragraph.now.texts.now.name.now a.qualifier in
    let line = line_at (exclusion_line (exclusion_front c.args.applies (heading_in negative.paragraph.now) negative.field.now c.args.group.now)) packages in
    c.loop-number.invariant
    ∙ ap (λ ks. c.args.out.now.items ++ flat_map (lines_if test packages line) ks) (take_all c.loop-number.number-index c.args.numbers.now c.loop-number-test.false ∙ are)
    ∙ ap (λ l. c.args.out.now.items ++ l) (lines-passing (meets_by_name a) test packages line)
