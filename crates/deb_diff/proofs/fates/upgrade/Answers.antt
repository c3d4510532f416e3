use Rattle.std.proofs.Common.{◌≡◌, ◌∷◌, ◌++◌, map, refl, sym, ap, ◌∙◌, rules}
use Rattle.std.proofs.lemmas.List.{append_assoc}
use Rattle.std.proofs.lemmas.Result.{on_ok_weaker}
use Rattle.std.specs.Fmt.{decimal}
use Rattle.deb_diff.specs.Fields.{differing}
use Rattle.deb_diff.specs.Kepts.{architecture_in, name_in, printed_in, version_in}
use Rattle.deb_diff.specs.Lefts.{rest_of_line}
use Rattle.deb_diff.specs.Lines.{version_word}
use Rattle.deb_diff.proofs.Fating.{upgraded_line, line-values}
use Rattle.deb_diff.proofs.fates.upgrade.Goals as goal

pub returns : goal.returns
returns c = λ item other whole_old whole_new.
    let old_text : c.deref.result.now ≡ c.args.old.now.text.items = search rules in
    let new_text : c.deref-2.result.now ≡ c.args.new.now.text.items = search rules in
    let lent : c.deref-3.result.now ≡ c.in_ok-names.names.items = search rules in
    let lent_too : c.deref-4.result.now ≡ c.in_ok-names.names.items = search rules in
    let names : map (λ n. n.now) c.deref-3.result.now ≡ differing item.bodies other.bodies =
    ap (map (λ n. n.now)) lent ∙ c.in_ok-names.ensures item.bodies other.bodies whole_old.cut whole_new.cut (old_text ∙ whole_old.is_kept.text) (new_text ∙ whole_new.is_kept.text) in
    let names_too = ap (map (λ n. n.now)) (lent_too ∙ sym lent) ∙ names in
    let line : c.append_upgraded.new.out.items ≡ c.args.out.now.items ++ (version_word (version_in c.args.old.now) (version_in c.args.new.now) ++ rest_of_line (decimal c.args.new.now.number ∷ name_in c.args.new.now ∷ printed_in c.args.form.versions c.args.old.now ∷ printed_in c.args.form.versions c.args.new.now ∷ architecture_in c.args.new.now ∷ map (λ n. n.now) c.deref-3.result.now)) = c.in_ok-append_upgraded.ensures ∙ append_assoc c.args.out.now.items (version_word (version_in c.args.old.now) (version_in c.args.new.now)) _ in
    on_ok_weaker c.append_fields.result
    (λ e. line-values c.args.out.now.items c.append_upgraded.new.out.items c.append_fields.new.out.items _ _ _ _ line (upgraded_line c.args.form.versions c.args.old.now c.args.new.now item other (map (λ n. n.now) c.deref-3.result.now) whole_old.is_kept whole_new.is_kept names) e refl)
    (c.append_fields.ensures item other whole_old whole_new names_too)
