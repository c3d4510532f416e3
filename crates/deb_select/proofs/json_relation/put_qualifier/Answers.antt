use Rattle.std.proofs.Common.{List, [], ◌∷◌, ◌++◌, codes, sym, ap, ◌∙◌}
use Rattle.std.specs.Option.{option_copied}
use Rattle.json.specs.Token.{Token, key, string}
use Rattle.deb_select.specs.JsonTokens.{qualifier_member}
use Rattle.deb_select.proofs.Pushed.{more_after}
use Rattle.deb_select.proofs.json_relation.put_qualifier.Goals as goal

pub returns-in_ok-put_text-clause-tokens : goal.returns-in_ok-put_text-clause-tokens
returns-in_ok-put_text-clause-tokens c =
    let t1 : List Token = key (codes "qualifier") ∷ [] in
    let t2 : List Token = string c.in-Some.qualifier.now ∷ [] in
    more_after c.args.out.now.tokens c.key.new.self.tokens c.put_text.new.out.tokens t1 t2 c.in_ok-key.ensures.ok c.in_ok-put_text.ensures.tokens
    ∙ ap (λ q. c.args.out.now.tokens ++ qualifier_member (option_copied q)) (sym c.in-Some.is)
