use Rattle.std.proofs.Common.{List, [], ◌∷◌, ◌++◌, codes, sym, ap, ◌∙◌}
use Rattle.std.specs.Option.{option_map}
use Rattle.json.specs.Token.{Token, key, string}
use Rattle.deb_version.specs.Canonical.{version_text}
use Rattle.deb_version.specs.Version.{meaning_of}
use Rattle.deb_relation.specs.Texts.{operator_text}
use Rattle.deb_relation.specs.Views.{lent_bound_of}
use Rattle.deb_select.specs.JsonTokens.{bound_members}
use Rattle.deb_select.proofs.Pushed.{more_after}
use Rattle.deb_select.proofs.json_relation.put_bound.Goals as goal

pub returns-in_ok-put_version-clause-tokens : goal.returns-in_ok-put_version-clause-tokens
returns-in_ok-put_version-clause-tokens c =
    let start = c.args.out.now.tokens in
    let t1 : List Token = key (codes "operator") ∷ [] in
    let t2 : List Token = string (operator_text c.in-Some.operator) ∷ [] in
    let t3 : List Token = key (codes "version") ∷ [] in
    let t4 : List Token = string (version_text (meaning_of c.in-Some.version.now)) ∷ [] in
    let e2 = more_after start c.key.new.self.tokens c.string.new.self.tokens t1 t2 c.in_ok-key.ensures.ok (c.in_ok-string.ensures.ok ∙ ap (λ text. c.key.new.self.tokens ++ string text ∷ []) c.operator_text.ensures) in
    let e3 = more_after start c.string.new.self.tokens c.key-in-Some.new.self.tokens (t1 ++ t2) t3 e2 c.in_ok-key-2.ensures.ok in
    more_after start c.key-in-Some.new.self.tokens c.put_version.new.out.tokens ((t1 ++ t2) ++ t3) t4 e3 c.in_ok-put_version.ensures.tokens
    ∙ ap (λ b. start ++ bound_members (option_map lent_bound_of b)) (sym c.in-Some.is)
