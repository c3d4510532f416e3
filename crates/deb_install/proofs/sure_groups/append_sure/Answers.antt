use Rattle.std.proofs.Common.{◌≡◌, ◌++◌, ◌∷◌, [], cond, sym, ap, ◌∙◌, append-nil, append_assoc}
use Rattle.deb_index.proofs.TextPieces.{groups_all, groups_more, groups_none}
use Rattle.deb_relation.specs.Environments.{environment_of}
use Rattle.deb_relation.specs.Texts.{group_text}
use Rattle.deb_relation.specs.Views.{names_of}
use Rattle.deb_install.specs.Rows.{some_surely_applies}
use Rattle.deb_install.proofs.SureTexts.{texts-more, texts_of}
use Rattle.deb_install.proofs.sure_groups.append_sure.Goals as goal

pub loop-rest-init : goal.loop-rest-init
loop-rest-init c = λ m regular is.
    groups_none (λ done. names_of c.args.out.now.items ≡ names_of c.args.out.now.items ++ texts_of (environment_of c.args.needing.now.environment.now) done) m c.args.text.now regular is (sym (append-nil (names_of c.args.out.now.items)))

pub loop-rest-preserved : goal.loop-rest-preserved
loop-rest-preserved c = λ m regular is.
    let environment = environment_of c.args.needing.now.environment.now in
    let out = names_of c.args.out.now.items in
    groups_more (λ done. names_of c.loop-rest.out.items ≡ out ++ texts_of environment done) (λ done. names_of c.append_if_sure.new.out.items ≡ out ++ texts_of environment done) m c.loop-rest.rest.now c.cut_group.result.1.now (c.loop-rest.invariant m regular is) (sym c.is_empty.ensures ∙ c.loop-rest-test.true) c.cut_group.ensures.others
    (λ g gs done good text so_far.
    let one = cond (some_surely_applies environment g) (group_text g ∷ []) [] in
    c.in_ok-append_if_sure.ensures g good (c.cut_group.ensures.first g gs good text)
    ∙ ap (λ l. l ++ one) so_far ∙ append_assoc out (texts_of environment done) one ∙ ap (λ l. out ++ l) (sym (texts-more environment done g)))

pub returns : goal.returns
returns c = λ m regular is.
    groups_all (λ done. names_of c.loop-rest.out.items ≡ names_of c.args.out.now.items ++ texts_of (environment_of c.args.needing.now.environment.now) done) m c.loop-rest.rest.now (c.loop-rest.invariant m regular is) (sym c.is_empty.ensures ∙ c.loop-rest-test.false)
