use Rattle.std.proofs.Common.{List, [], ◌∷◌, ◌++◌, codes}
use Rattle.json.specs.Token.{Token, begin_object, end_object, key, string}
use Rattle.deb_version.specs.Canonical.{version_text}
use Rattle.deb_version.specs.Version.{meaning_of}
use Rattle.deb_select.proofs.Pushed.{last_after, more_after}
use Rattle.deb_select.proofs.json_line.put_spelled.Goals as goal

pub returns-clause-tokens : goal.returns-clause-tokens
returns-clause-tokens c =
    let start = c.args.out.now.tokens in
    let t1 : List Token = begin_object ∷ [] in
    let t2 : List Token = key (codes "canonical") ∷ [] in
    let t3 : List Token = string (version_text (meaning_of c.args.version.now)) ∷ [] in
    let t4 : List Token = key (codes "spelled") ∷ [] in
    let t5 : List Token = string c.args.body.now ∷ [] in
    let t6 : List Token = end_object ∷ [] in
    let e2 = more_after start c.begin_object.new.self.tokens c.key.new.self.tokens t1 t2 c.in_ok-begin_object.ensures.ok c.in_ok-key.ensures.ok in
    let e3 = more_after start c.key.new.self.tokens c.put_version.new.out.tokens (t1 ++ t2) t3 e2 c.in_ok-put_version.ensures.tokens in
    let e4 = more_after start c.put_version.new.out.tokens c.key-2.new.self.tokens ((t1 ++ t2) ++ t3) t4 e3 c.in_ok-key-2.ensures.ok in
    let e5 = more_after start c.key-2.new.self.tokens c.put_text.new.out.tokens (((t1 ++ t2) ++ t3) ++ t4) t5 e4 c.in_ok-put_text.ensures.tokens in
    last_after c.end_object.result start c.put_text.new.out.tokens c.end_object.new.self.tokens ((((t1 ++ t2) ++ t3) ++ t4) ++ t5) t6 e5 c.end_object.ensures.ok
