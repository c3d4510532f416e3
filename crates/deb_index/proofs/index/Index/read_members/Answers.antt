-- The packages of a first file are all.
use Rattle.std.proofs.Common.{◌≡◌, ◌-◌, ◌++◌, ◌∷◌, [], length, ◌∙◌}
use Rattle.std.proofs.lemmas.Result.{IfOk-weaker}
use Rattle.deb_index.specs.Indexes.{counts_of, packages_of}
use Rattle.deb_index.specs.Stores.{listed_in}
use Rattle.deb_index.proofs.Indexed.{counted_alone, lists_alone}
use Rattle.deb_index.proofs.index.Index.read_members.Goals as goal

pub returns-clause-ok : goal.returns-clause-ok
returns-clause-ok g c = λ text told. IfOk-weaker _ _ _ (λ index. lists_alone c.args.members text _ (packages_of index) c.new.ensures.listed) (c.append_file.ensures.ok text told)

pub returns-clause-lines : goal.returns-clause-lines
returns-clause-lines g c = rw c.new.ensures.lines at c.append_file.ensures.lines

pub returns-clause-spellings : goal.returns-clause-spellings
returns-clause-spellings g c = rw c.new.ensures.spellings at c.append_file.ensures.spellings

pub returns-clause-counts : goal.returns-clause-counts
returns-clause-counts g c =
    IfOk-weaker c.append_file.result (λ index. counts_of index ≡ c.new.result.files.items ++ (length (packages_of index) - length (listed_in c.new.result)) ∷ []) (λ index. counts_of index ≡ length (packages_of index) ∷ [])
    (λ index are. are ∙ counted_alone c.new.result.files.items (length (packages_of index)) (listed_in c.new.result) c.new.ensures.files c.new.ensures.listed) c.append_file.ensures.counts

pub returns-clause-keeps : goal.returns-clause-keeps
returns-clause-keeps g c = λ text told none. c.append_file.ensures.keeps text [] told none
