use Rattle.std.proofs.Common.{Bool, ap, ◌∙◌}
use Rattle.std.specs.List.{list_any}
use Rattle.std.specs.Option.{is_some}
use Rattle.std.specs.Str.{bytes_eq}
use Rattle.deb_relation.proofs.Mapped.{any-map}
use Rattle.deb_index.specs.Entries.{Places, entry_name, entry_version, provision_at, version_kept}
use Rattle.deb_index.specs.Reasons.{provides_version}
use Rattle.deb_index.proofs.Reasoned.{any-filtered}
use Rattle.deb_index.proofs.provisions.Provisions.have_version.Goals as goal

pub returns : goal.returns
returns c =
    let name = c.args.name.now in
    let text = c.args.self.now.text.now in
    let entries = c.args.self.now.entries.now in
    let has : Places → Bool = λ entry. is_some (version_kept (entry_version text entry)) in
    let named : Places → Bool = λ entry. bytes_eq (entry_name text entry) name in
    c.some_has_version.ensures
    ∙ ap (list_any has) c.named.ensures.value
    ∙ any-filtered has named entries
    ∙ any-map (provision_at text) (provides_version name) entries
