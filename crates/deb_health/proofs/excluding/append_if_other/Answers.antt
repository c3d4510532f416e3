use Rattle.std.proofs.Common.{rules, ◌++◌, [], cond, false, append_assoc, sym, ap, ◌∙◌}
use Rattle.std.specs.Option.{option_map_or}
use Rattle.std.proofs.Common.{option_copied}
use Rattle.deb_index.specs.Kept.{listed_of}
use Rattle.deb_index.specs.ReportText.{canonical_version, package_line}
use Rattle.deb_unmet.specs.Paragraphs.{heading_in}
use Rattle.deb_health.specs.Excluding.{is_other}
use Rattle.deb_health.specs.Lines.{exclusion_front}
use Rattle.deb_health.proofs.excluding.append_if_other.Goals as goal

pub returns-in_ok-append_package : goal.returns-in_ok-append_package
returns-in_ok-append_package c =
    let negative = c.args.negative.now in
    let out = c.args.out.now.items in
    let front = exclusion_front c.args.applies (heading_in negative.paragraph.now) negative.field.now c.args.group.now in
    let last = package_line canonical_version (c.args.number, listed_of c.in-Some.«package») in
    let test = is_other negative.target.now negative.paragraph.now.texts.now.name.now (option_copied c.args.qualifier) in
    c.in_ok-append_package.ensures
    ∙ ap (λ o. o ++ last) c.in_ok-append_front.ensures
    ∙ append_assoc out front last
    ∙ ap (λ v. out ++ cond v (front ++ last) []) (sym (sym c.is_other.ensures ∙ c.if-is_other.true))
    ∙ ap (λ o. out ++ cond (option_map_or test o false) (option_map_or (λ p. front ++ package_line canonical_version (c.args.number, p)) o []) []) c.in-Some.ensures.listed

pub returns-else-is_other : goal.returns-else-is_other
returns-else-is_other c = rw (sym c.in-Some.ensures.listed) (search rules)
