use Rattle.std.proofs.Common.{◌++◌, ap, sym, ◌∙◌, not}
use Rattle.std.proofs.lemmas.Result.{on_ok_weaker}
use Rattle.std.proofs.lemmas.Slice.Eq.{bytes_eq-Decides}
use Rattle.std.specs.List.{flat_map}
use Rattle.std.specs.Str.{bytes_eq}
use Rattle.deb_relation.specs.Groups.{group_of}
use Rattle.deb_select.proofs.RelationPieces.{first_regular, not-not}
use Rattle.deb_select.specs.JsonTokens.{alternative_tokens}
use Rattle.deb_select.proofs.json_relation.put_chunk.Goals as goal

pub returns-clause-tokens : goal.returns-clause-tokens
returns-clause-tokens c =
    let equal = (bytes_eq-Decides c.as_slice.result.now c.args.text.now).0 (sym (not-not (bytes_eq c.as_slice.result.now c.args.text.now)) ∙ ap not (sym c.ne.ensures ∙ c.if-ne.false)) in
    let text = rw (c.in_ok-canonical.ensures.items) at c.in_ok-canon_into.ensures.ok in
    let regular = first_regular c.groups.result.now _ c.group-item.result _ c.groups.ensures.value c.groups.ensures.regular.groups c.in-len1.len_at_least c.group-item.is in
    on_ok_weaker c.put_alternatives.result
    (λ written. (group_of c.group-item.result, regular, sym text ∙ sym c.as_slice.ensures.value ∙ equal, written ∙ ap (λ l. c.args.out.now.tokens ++ flat_map alternative_tokens l) c.alternatives.ensures))
    c.put_alternatives.ensures.tokens
