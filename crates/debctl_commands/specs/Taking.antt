-- How much a job takes of a reader. The limit is this project's own.
use Rattle.std.specs.Prelude.{◌≡◌, ℕ, List, Option, Some}
use Rattle.deb_base.specs.Bodies.{file_limit}
use Rattle.deb_base.specs.Reading.{TakesNoMore}

-- Of a reader whose bytes are known, no more was taken than a file may have, and one piece.
abbrev pub TakesFile : Option (List ℕ) → Option (List ℕ) → Type 0
TakesFile left left_after =
    (text : List ℕ) → left ≡ Some text → TakesNoMore text file_limit left_after
