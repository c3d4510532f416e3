-- What is answered to a program in C that seeks a healthy set with a package. Debian Policy 7.2 to
-- 7.5; the order of refusals and the form of the lines are this project's own.
use Rattle.std.specs.Prelude.{◌≡◌, ◌⊎◌, ℕ, IsTrue, Bool, true, false, List, length}
use Rattle.deb_relation.specs.Targets.{is_environment}
use Rattle.deb_index.specs.declared.members.Members.{Members}
use Rattle.deb_install.specs.Installing.{AsksInstallable}
use Rattle.deb_install.specs.Witnesses.{FileSought}
use Rattle.deb_install.specs.declared.witnesses.Sought.{Sought}
use Rattle.debctl_ffi.specs.Answers.{counting}
use Rattle.debctl_ffi.specs.Health.{OfMembers}
use Rattle.debctl_ffi.specs.Searches.{Search, asks_in}
use Rattle.debctl_ffi.specs.Unmet.{Asker}
use Rattle.debctl_ffi.specs.declared.answer.Answer.{Answer}

-- The file is accepted, and these are the lines of what was found among its packages, which are so
-- many: a set, or none.
pub record HasFoundLines (asks : AsksInstallable) (file : List ℕ) (sought : Sought)
    (bytes : List ℕ) : Type 0 where
  pub found : FileSought asks file sought.is_found bytes
  pub count : length found.packages ≡ sought.paragraphs

-- The target is good, and these are the lines of the search in the file for it.
pub record IsSought (search : Search) (by : Asker) (members : Members) (sought : Sought)
    (bytes : List ℕ) : Type 0 where
  pub environment : IsTrue (is_environment by.target by.profiles)
  pub has : HasFoundLines (asks_in search by members) by.index sought bytes

-- These are the lines of a search that finds a set, or none; the answer has the number of the
-- packages.
pub record IsOfSearch (search : Search) (by : Asker) (found : Bool) (told : Answer)
    (bytes : List ℕ) (members : Members) : Type 0 where
  pub sought : Sought
  pub of : IsSought search by members sought bytes
  pub found_is : sought.is_found ≡ found
  pub count : told.count ≡ sought.paragraphs

-- A set is found, or none is.
abbrev pub Seeks : ℕ → Search → Asker → Answer → List ℕ → Type 0
Seeks kind search by told bytes =
    ((told ≡ counting 0 told.count) × OfMembers kind (IsOfSearch search by true told bytes))
    ⊎ ((told ≡ counting 1 told.count) × OfMembers kind (IsOfSearch search by false told bytes))
