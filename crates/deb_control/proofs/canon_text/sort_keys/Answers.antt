use Rattle.std.proofs.lemmas.Fn.{always_returns_same}
use Rattle.deb_control.proofs.Common.{rules, nat_list_cmp_total, ranks_by, is_lt, All-from_recursion, All-permutation, recursion_from_All, fields_of, byte_order, IsKeyIn, key_bytes}
use Rattle.deb_control.proofs.NameFronts.{sorted-names}
use Rattle.deb_control.proofs.canon_text.sort_keys.Goals as goal

pub returns-clause-sorted : goal.returns-clause-sorted
returns-clause-sorted c =
    let fields = fields_of c.args.paragraph.now in
    let P = IsKeyIn fields in
    let was = c.args.keys.now.items in
    let now = c.sort_unstable_by.new.self.items in
    sorted-names fields c.args.paragraph.now.fields now (recursion_from_All P now (All-permutation P was now c.sort_unstable_by.ensures.permutation (All-from_recursion P was c.requires)))
    (c.sort_unstable_by.ensures.sorted (λ key other. is_lt (byte_order (key_bytes fields key) (key_bytes fields other))) (ranks_by nat_list_cmp_total (key_bytes fields)) (always_returns_same _ _ _ (λ a r f k. (search rules, search rules))))
