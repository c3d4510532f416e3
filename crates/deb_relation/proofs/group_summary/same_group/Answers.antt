use Rattle.std.proofs.Common.{ap₂, ◌∙◌}
use Rattle.std.specs.Cmp.Lexicographic.{texts_ties}
use Rattle.std.specs.Ordering.{is_eq}
use Rattle.deb_relation.specs.Sets.{byte_cmp}
use Rattle.deb_relation.proofs.group_summary.same_group.Goals as goal

pub returns : goal.returns
returns c = c.eq.ensures ∙ texts_ties c.bytes.result.now c.bytes-2.result.now ∙ ap₂ (λ a b. is_eq (byte_cmp a b)) c.bytes.ensures c.bytes-2.ensures
