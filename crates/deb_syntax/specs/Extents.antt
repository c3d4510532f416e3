-- Lines that are all blank, or none of them. Debian Policy 5.1.
use Rattle.std.specs.Prelude.{◌≡◌, true, false, List}
use Rattle.std.specs.List.{AllByRecursion}
use Rattle.deb_base.specs.Bodies.{Line, is_blank}

abbrev pub AreBlank : List Line → Type 0
AreBlank lines = AllByRecursion (λ line. is_blank line ≡ true) lines

abbrev pub AreNotBlank : List Line → Type 0
AreNotBlank lines = AllByRecursion (λ line. is_blank line ≡ false) lines
