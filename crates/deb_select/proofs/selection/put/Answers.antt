use Rattle.std.proofs.Common.{◌∙◌, ◌++◌, ◌∷◌, [], ap, rules}
use Rattle.deb_select.proofs.TestMaps.{appended, begun}
use Rattle.deb_select.proofs.selection.put.Goals as goal

pub returns-in-Some : goal.returns-in-Some
returns-in-Some c =
    appended c.args.name.items c.as_slice.result.now c.args.tests.now (c.get_mut.follows.lender c.push.new.self) c.push.new.self c.in-Some.found.now c.args.test c.as_slice.ensures.value ((c.get_mut.follows.holds c.push.new.self).3 (search rules)) c.in-Some.ensures.value c.in_ok-push.ensures.items

pub returns : goal.returns
returns c =
    begun c.args.name.items c.as_slice.result.now c.get_mut.follows.lender-at-none c.args.tests.now c.insert.new.self c.push-2.new.self c.args.test (search rules) c.as_slice.ensures.value c.in_ok-insert.ensures.updates c.in_default.ensures.value
    (c.in_ok-push-2.ensures.items ∙ ap (λ l. l ++ c.args.test ∷ []) c.new-found.ensures.items)
