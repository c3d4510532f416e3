use Rattle.std.proofs.Common.{◌≡◌, ℕ, ◌+◌, List, ◌++◌, drop, length, rules, refl, ap, subst, ◌∙◌}
use Rattle.std.proofs.Math.Seq.{drop-append_seam}
use Rattle.deb_index.specs.Entries.{AppendsEntries}
use Rattle.deb_index.specs.Listed.{provisions_of}
use Rattle.deb_index.specs.PackageBuilder.{texts_kept}
use Rattle.deb_index.specs.VersionSpellings.{text_besides}
use Rattle.deb_index.proofs.Stored.{bytes_with, keeps_one_more}
use Rattle.deb_index.proofs.store.Store.push.Goals as goal

pub returns-clause-kept : goal.returns-clause-kept
returns-clause-kept c = λ p keeps spells is.
    let old = c.args.self.now in
    let kept = texts_kept c.args.kept.now in
    let besides = text_besides kept.version c.args.spelled.now in
    let front : List ℕ = (((old.bytes.items ++ kept.name) ++ kept.version) ++ besides) ++ kept.architecture in
    let whole : c.deref.result.now ≡ bytes_with old.bytes.items kept besides = search rules in
    let start : c.in_ok-architecture_end.architecture_end ≡ length front = search rules in
    let number : c.in_ok-number.number ≡ length old.records.items + 1 = search rules in
    let provides = ap (λ n. drop n c.deref.result.now) start ∙ ap (drop (length front)) whole ∙ drop-append_seam front kept.provides ∙ keeps.provides in
    keeps_one_more old.bytes.items old.entries.items c.append_entries.new.entries.items kept c.args.spelled.now c.args.line p keeps spells c.in_ok-number.number
    (subst (λ text. AppendsEntries text c.in_ok-number.number old.entries.items c.append_entries.new.entries.items (provisions_of keeps.relation)) whole (c.in_ok-append_entries.ensures keeps.relation keeps.regular provides))
    old _ refl refl (search rules) (search rules) (search rules) number is
