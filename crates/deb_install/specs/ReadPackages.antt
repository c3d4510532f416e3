-- The packages of a file that was read. Debian Policy 5.3; what is kept of them is this project's
-- own.
use Rattle.std.specs.Prelude.{ℕ, List}
use Rattle.deb_index.specs.Indexes.{packages_of}
use Rattle.deb_index.specs.Members.{KeepsMembers, ListsMembers}
use Rattle.deb_index.specs.declared.members.Members.{Members}
use Rattle.deb_install.specs.Keeping.{HoldsGiven}
use Rattle.deb_install.specs.declared.packages.Packages.{Packages}

-- They are those that the file lists, and this is kept of them.
pub record HoldsFile (members : Members) (text : List ℕ) (packages : Packages) : Type 0 where
  pub lists : ListsMembers members text (packages_of packages.index)
  pub keeps : KeepsMembers members (HoldsGiven members packages.kept.items) text
