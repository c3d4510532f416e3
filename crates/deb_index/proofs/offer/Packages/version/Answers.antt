use Rattle.std.proofs.Common.{◌≡◌, ◌-◌, Some, length, refl, ap, sym, ◌∙◌, arith, rules}
use Rattle.std.specs.List.{slice_get}
use Rattle.std.specs.Option.{option_and_then}
use Rattle.std.proofs.lemmas.Option.{slice_get_read}
use Rattle.deb_index.specs.Entries.{entry_version, version_kept}
use Rattle.deb_index.proofs.Owners.{entry-version, version_kept-some}
use Rattle.deb_index.proofs.offer.Packages.version.Goals as goal

pub returns : goal.returns
returns c =
    let store = c.args.self.now.store.now in
    let entry = c.in_ok-entry.entry.now in
    let count : c.len-2.result ≡ length store.records.items = search rules in
    let found =
    ap (λ n. slice_get store.entries.items (c.args.offer - n)) (sym count)
    ∙ ap (λ xs. slice_get xs (c.args.offer - c.len-2.result)) (sym c.deref.ensures.value)
    ∙ slice_get_read c.deref.result.now (length c.deref.result.now) (c.args.offer - c.len-2.result) entry refl c.in_ok-entry.ensures.lookup.3.0 c.in_ok-entry.ensures.lookup.1 in
    let text = c.version-text.ensures ∙ ap (λ bytes. entry_version bytes entry) c.deref-2.ensures.value in
    sym (entry-version store c.args.offer (omega (arith, c.if-offer-len.false, c.len.ensures, c.len-2.ensures, count))
    ∙ ap (option_and_then (λ e. version_kept (entry_version store.bytes.items e))) found
    ∙ ap version_kept (sym text)
    ∙ version_kept-some c.version-text.result.now (sym c.is_empty.ensures ∙ c.if-is_empty.false)
    ∙ ap Some (sym c.version_of-2.ensures))
