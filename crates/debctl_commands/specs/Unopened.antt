-- Why a file can't be opened, in words. They are this project's own, after those of the system.
use Rattle.std.specs.Prelude.{◌≡◌, ℕ, List, [], ◌∷◌, ◌++◌, map, codes, refl}
use Rattle.std.specs.Fmt.{decimal, digits}
use Rattle.debctl_commands.specs.declared.unopened.Unopened.{Unopened}
use Rattle.debctl_commands.specs.declared.unopened.Unopened.TheVariants.{NotFound, PermissionDenied}
use Rattle.debctl_commands.specs.declared.unopened.Unopened.TheVariants.{NotADirectory, IsADirectory}
use Rattle.debctl_commands.specs.declared.unopened.Unopened.TheVariants.{FilesystemLoop}
use Rattle.debctl_commands.specs.declared.unopened.Unopened.TheVariants.{InvalidFilename, NotUtf8, ReadBefore}
use Rattle.debctl_commands.specs.declared.unopened.Unopened.TheVariants.{NotRegular, System, Other}

abbrev pub unopened_words : Unopened → List ℕ
unopened_words NotFound = codes "no such file or directory"
unopened_words PermissionDenied = codes "permission denied"
unopened_words NotADirectory = codes "not a directory"
unopened_words IsADirectory = codes "is a directory"
unopened_words FilesystemLoop = codes "too many levels of symbolic links"
unopened_words InvalidFilename = codes "file name too long"
unopened_words NotUtf8 = codes "the path isn't UTF-8"
unopened_words ReadBefore = codes "standard input was read before"
unopened_words NotRegular = codes "isn't a regular file"
unopened_words (System number) = codes "os error " ++ decimal number
unopened_words Other = codes "other error"

words_of_a_number : unopened_words (System 24) ≡ codes "os error 24"
unfolding digits
words_of_a_number = refl

-- the words of each other reason
words_of_reasons : map unopened_words
    (NotFound ∷ PermissionDenied ∷ NotADirectory ∷ IsADirectory ∷ FilesystemLoop ∷ [])
    ≡ codes "no such file or directory" ∷ codes "permission denied" ∷ codes "not a directory"
    ∷ codes "is a directory" ∷ codes "too many levels of symbolic links" ∷ []
words_of_reasons = refl

words_of_other_reasons : map unopened_words
    (InvalidFilename ∷ NotUtf8 ∷ ReadBefore ∷ NotRegular ∷ Other ∷ [])
    ≡ codes "file name too long" ∷ codes "the path isn't UTF-8"
    ∷ codes "standard input was read before" ∷ codes "isn't a regular file"
    ∷ codes "other error" ∷ []
words_of_other_reasons = refl
