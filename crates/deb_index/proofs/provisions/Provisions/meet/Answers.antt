use Rattle.std.proofs.Common.{Bool, true, ap, ◌∙◌}
use Rattle.std.specs.List.{list_any}
use Rattle.std.specs.Str.{bytes_eq}
use Rattle.std.proofs.lemmas.Map.Views.{any-filter_same}
use Rattle.deb_relation.specs.Views.{alternative_of}
use Rattle.deb_relation.proofs.Mapped.{any-map}
use Rattle.deb_index.specs.Entries.{Places, entry_name, provision_at}
use Rattle.deb_index.specs.Meeting.{provided_meets_bound, provision_meets}
use Rattle.deb_index.proofs.Meetings.{and-first}
use Rattle.deb_index.proofs.provisions.Provisions.meet.Goals as goal

-- an entry that meets an alternative has its name
pub returns : goal.returns
returns c =
    let a = alternative_of c.args.alternative.now in
    let text = c.args.self.now.text.now in
    let entries = c.args.self.now.entries.now in
    let test : Places → Bool = λ entry. provision_meets a (provision_at text entry) in
    let named : Places → Bool = λ entry. bytes_eq (entry_name text entry) a.name in
    c.some_meets.ensures
    ∙ ap (list_any test) (rw c.name.ensures at c.named.ensures.value)
    ∙ any-filter_same test named true (λ entry. and-first (named entry) (provided_meets_bound a.bound (provision_at text entry).version)) entries
    ∙ any-map (provision_at text) (provision_meets a) entries
