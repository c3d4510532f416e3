-- What lines that are versions are to the sort: their texts, also in runs of equal lines.
use Rattle.std.specs.Prelude.{◌≡◌, List, [], ◌∷◌, map, codes, refl, replicate}
use Rattle.std.specs.List.{flat_map}
use Rattle.deb_base.specs.Bodies.{Line}
use Rattle.deb_version.specs.Faults.{first_fault}
use Rattle.deb_version.specs.Kept.{text_of}
use Rattle.deb_sort.specs.declared.equal_lines.EqualLines.{EqualLines}
use Rattle.deb_version.specs.declared.version_text.VersionText.{VersionText}
use Rattle.deb_base.specs.Literals.{lent}

abbrev pub texts_of : List VersionText → List Line
texts_of lines = map text_of lines

-- a run of lines that are spelled alike, line by line
abbrev pub run_lines : EqualLines → List Line
run_lines run = replicate run.count (text_of run.line)

-- runs that follow one another, line by line
abbrev pub lines_of_runs : List EqualLines → List Line
lines_of_runs runs = flat_map run_lines runs

abbrev line : VersionText
unfolding first_fault
line = record { text = lent (codes "1.0"); faultless = refl }

abbrev other : VersionText
unfolding first_fault
other = record { text = lent (codes "01.0"); faultless = refl }

-- the lines as they are spelled, in their order, each as often as it is there
worked-texts : texts_of (line ∷ other ∷ line ∷ []) ≡ codes "1.0" ∷ codes "01.0" ∷ codes "1.0" ∷ []
unfolding line other
worked-texts = refl

-- each run as often as it says, in their order
worked-runs : lines_of_runs
    (record { line = line; count = 2 } ∷ record { line = other; count = 1 } ∷ [])
    ≡ codes "1.0" ∷ codes "1.0" ∷ codes "01.0" ∷ []
unfolding line other
worked-runs = refl
