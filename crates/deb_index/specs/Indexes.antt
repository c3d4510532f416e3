-- The packages that an index is to its callers, the lines of their paragraphs, the texts by which
-- these spell their versions, how many each file has, and the packages of offers.
use Rattle.std.specs.Prelude.{ℕ, List}
use Rattle.deb_index.specs.Listed.{Listed}
use Rattle.deb_index.specs.Offers.{number_of}
use Rattle.deb_index.specs.Stores.{lines_in, listed_in, spellings_in}
use Rattle.deb_index.specs.declared.index.Index.{Index}

-- the packages that it lists
abbrev pub packages_of : Index → List Listed
packages_of index = listed_in index.store

-- the lines at which their paragraphs start
abbrev pub lines_of : Index → List ℕ
lines_of index = lines_in index.store

-- the texts of their versions
abbrev pub spellings_of : Index → List (List ℕ)
spellings_of index = spellings_in index.store

-- how many packages each of its files has, in the order in which they were read
abbrev pub counts_of : Index → List ℕ
counts_of index = index.store.files.items

-- the number of the package of an offer
abbrev pub number_in : Index → ℕ → ℕ
number_in index offer = number_of index.store offer
