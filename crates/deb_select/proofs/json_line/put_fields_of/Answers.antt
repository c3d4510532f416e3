use Rattle.std.proofs.Common.{List, [], ◌∷◌, ◌++◌, codes, decimal, ap, ◌∙◌}
use Rattle.std.specs.List.{flat_map}
use Rattle.json.specs.Token.{Token, begin_object, end_object, key, number}
use Rattle.deb_control.specs.CheckedStates.{passing_judged}
use Rattle.deb_control.specs.Paragraphs.{values_in}
use Rattle.deb_select.specs.JsonTokens.{entry_tokens}
use Rattle.deb_select.proofs.Pushed.{last_after, more_after}
use Rattle.deb_select.proofs.json_line.put_fields_of.Goals as goal

pub returns-clause-tokens : goal.returns-clause-tokens
returns-clause-tokens c =
    let start = c.args.out.now.tokens in
    let seen = (passing_judged c.args.paragraph.now).seen in
    let members = flat_map (entry_tokens seen.fields) (values_in c.args.fields.now) in
    let t1 : List Token = begin_object ∷ [] in
    let t2 : List Token = key (codes "line") ∷ [] in
    let t3 : List Token = number (decimal seen.first) ∷ [] in
    let t4 : List Token = key (codes "fields") ∷ [] in
    let t7 : List Token = end_object ∷ [] in
    let e2 = more_after start c.begin_object.new.self.tokens c.key.new.self.tokens t1 t2 c.in_ok-begin_object.ensures.ok c.in_ok-key.ensures.ok in
    let e3 = more_after start c.key.new.self.tokens c.u64.new.self.tokens (t1 ++ t2) t3 e2 (c.in_ok-u64.ensures.ok ∙ ap (λ n. c.key.new.self.tokens ++ number (decimal n) ∷ []) c.first_line.ensures) in
    let e4 = more_after start c.u64.new.self.tokens c.key-2.new.self.tokens ((t1 ++ t2) ++ t3) t4 e3 c.in_ok-key-2.ensures.ok in
    let e5 = more_after start c.key-2.new.self.tokens c.begin_object-2.new.self.tokens (((t1 ++ t2) ++ t3) ++ t4) t1 e4 c.in_ok-begin_object-2.ensures.ok in
    let e6 = more_after start c.begin_object-2.new.self.tokens c.put_fields.new.out.tokens ((((t1 ++ t2) ++ t3) ++ t4) ++ t1) members e5 c.in_ok-put_fields.ensures.tokens in
    last_after c.end_object-2.result start c.put_fields.new.out.tokens c.end_object-2.new.self.tokens (((((t1 ++ t2) ++ t3) ++ t4) ++ t1) ++ members) (t7 ++ t7) e6
    (last_after c.end_object-2.result c.put_fields.new.out.tokens c.end_object.new.self.tokens c.end_object-2.new.self.tokens t7 t7 c.in_ok-end_object.ensures.ok c.end_object-2.ensures.ok)
