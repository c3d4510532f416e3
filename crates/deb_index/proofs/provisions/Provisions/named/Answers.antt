use Rattle.std.proofs.Common.{sym, subst}
use Rattle.std.specs.List.{All}
use Rattle.std.specs.Str.{bytes_eq}
use Rattle.std.proofs.lemmas.List.Elements.{All-filter}
use Rattle.deb_index.specs.Entries.{IsFaultless, entry_name}
use Rattle.deb_index.proofs.provisions.Provisions.named.Goals as goal

pub returns-clause-faultless : goal.returns-clause-faultless
returns-clause-faultless c =
    let text = c.args.self.now.text.now in
    subst (All (IsFaultless text)) (sym c.find.ensures.value) (All-filter (λ entry. bytes_eq (entry_name text entry) c.args.name.now) (IsFaultless text) c.args.self.now.entries.now c.args.self.now.faultless)
