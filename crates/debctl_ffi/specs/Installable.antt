-- What is answered to a program in C of which packages can't be installed. Debian Policy 7.2 to
-- 7.5; the order of refusals and the form of the lines are this project's own.
use Rattle.std.specs.Prelude.{◌≡◌, ℕ, IsTrue, List, length}
use Rattle.deb_relation.specs.Targets.{is_environment}
use Rattle.deb_index.specs.declared.members.Members.{Members}
use Rattle.deb_unmet.specs.Files.{is_nothing}
use Rattle.deb_unmet.specs.declared.asking.Summary.{Summary}
use Rattle.deb_install.specs.Installing.{AsksInstallable, FileAnswers, names_by}
use Rattle.deb_install.specs.ReasonLines.{lines_with}
use Rattle.debctl_ffi.specs.Searches.{Search, asks_in}
use Rattle.debctl_ffi.specs.Unmet.{Asker}

-- The file is accepted, these are the lines of true answers of its packages, with their reasons if
-- these are asked, and the summary says how many packages there are and whether there is no line.
pub record HasAnswerLines (asks : AsksInstallable) (file : List ℕ) (summary : Summary)
    (bytes : List ℕ) : Type 0 where
  pub answers : FileAnswers asks file
  pub count : length answers.packages ≡ summary.paragraphs
  pub lines : bytes
      ≡ lines_with asks.reasons (names_by asks) answers.answer answers.reasons answers.packages
  pub is_empty : summary.is_empty ≡ is_nothing bytes

-- The target is good, and these are the lines of the search in the file for it.
pub record IsInstallable (search : Search) (by : Asker) (members : Members) (summary : Summary)
    (bytes : List ℕ) : Type 0 where
  pub environment : IsTrue (is_environment by.target by.profiles)
  pub has : HasAnswerLines (asks_in search by members) by.index summary bytes
