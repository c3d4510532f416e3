-- Worked cases of what the words of `latest` ask.
use Rattle.std.specs.Prelude.{◌≡◌, List, [], map, ◌∷◌, Option, Some, None, codes, refl}
use Rattle.clap.proofs.OnLiterals.{clap_on_literals}
use Rattle.clap.specs.Faults.{fault_of}
use Rattle.clap.specs.Walk.{Text}
use Rattle.clap.specs.declared.error.kind.ErrorKind.TheVariants as kind
use Rattle.debctl_args.specs.Asked.{asked_of, asks, other_by, other_latest_kind, reads_twice, unknown_kind, Asked}
use Rattle.debctl_args.specs.AskedWords.{by_asked, kind_asked}
use Rattle.debctl_args.specs.Commands.{debctl_app}
use Rattle.debctl_args.specs.Requests.{finds_latest, wants}
use Rattle.debctl_args.specs.declared.jobs.LatestBy.{LatestBy}
use Rattle.debctl_args.specs.declared.jobs.LatestBy.TheVariants.{Name, NameAndArchitecture}
use Rattle.debctl_args.specs.declared.jobs.LatestKind.{LatestKind}
use Rattle.debctl_args.specs.declared.jobs.LatestKind.TheVariants.{Packages, Sources}

-- the program's name, `latest`, and the arguments after it
abbrev latest_line : List Text → List Text
latest_line words = codes "debctl" ∷ codes "latest" ∷ words

abbrev asked_with : List Text → Option Asked
asked_with words = asked_of (latest_line words)

abbrev asks_latest : LatestKind → LatestBy → Option Text → List Text → Option Asked
asks_latest kind by before paths =
    Some (asks (wants (finds_latest
    (record { kind = kind; by = by; before = before; paths = paths }))))

latest_of_files : map asked_with
    ((codes "x" ∷ []) ∷ (codes "y" ∷ codes "x" ∷ codes "y" ∷ []) ∷ [])
    ≡ asks_latest Packages Name None (codes "x" ∷ [])
    ∷ asks_latest Packages Name None (codes "y" ∷ codes "x" ∷ codes "y" ∷ []) ∷ []
unfolding clap_on_literals kind_asked
latest_of_files = refl

-- in any order; any text may be the version, which the command checks
latest_with_options : map asked_with
    ((codes "--kind" ∷ codes "sources" ∷ codes "--by" ∷ codes "name,arch" ∷ codes "x" ∷ [])
    ∷ (codes "x" ∷ codes "--by=name" ∷ codes "y" ∷ codes "-kpackages" ∷ [])
    ∷ (codes "--before" ∷ codes "1.0" ∷ codes "x" ∷ [])
    ∷ (codes "-ksources" ∷ codes "x" ∷ codes "--before=" ∷ []) ∷ [])
    ≡ asks_latest Sources NameAndArchitecture None (codes "x" ∷ [])
    ∷ asks_latest Packages Name None (codes "x" ∷ codes "y" ∷ [])
    ∷ asks_latest Packages Name (Some (codes "1.0")) (codes "x" ∷ [])
    ∷ asks_latest Sources Name (Some []) (codes "x" ∷ []) ∷ []
unfolding clap_on_literals kind_asked
latest_with_options = refl

words_for_a_package : map by_asked
    (None ∷ Some (codes "name") ∷ Some (codes "name,arch") ∷ Some (codes "arch")
    ∷ Some (codes "arch,name") ∷ Some (codes "Name") ∷ Some [] ∷ [])
    ≡ Some Name ∷ Some Name ∷ Some NameAndArchitecture ∷ None ∷ None ∷ None ∷ None ∷ []
words_for_a_package = refl

-- ---- mistakes

kinds_of_latest : map (λ kind. asked_with (codes "--kind" ∷ kind ∷ codes "x" ∷ []))
    (codes "packages" ∷ codes "binary" ∷ codes "sources" ∷ codes "source" ∷ codes "status"
    ∷ codes "any" ∷ codes "foo" ∷ [])
    ≡ asks_latest Packages Name None (codes "x" ∷ []) ∷ Some other_latest_kind
    ∷ asks_latest Sources Name None (codes "x" ∷ []) ∷ Some other_latest_kind
    ∷ Some other_latest_kind ∷ Some other_latest_kind ∷ Some unknown_kind ∷ []
unfolding clap_on_literals kind_asked
kinds_of_latest = refl

refused_words_for_a_package : map (λ word. asked_with (word ∷ codes "x" ∷ []))
    (codes "--by=arch" ∷ codes "--by=" ∷ codes "--by=name,arch,name" ∷ [])
    ≡ Some other_by ∷ Some other_by ∷ Some other_by ∷ []
unfolding clap_on_literals kind_asked
refused_words_for_a_package = refl

-- standard input can't be read twice; after `./` a name is a path
standard_input : map asked_with
    ((codes "-" ∷ []) ∷ (codes "x" ∷ codes "-" ∷ []) ∷ (codes "--" ∷ codes "-" ∷ [])
    ∷ (codes "./-" ∷ []) ∷ [])
    ≡ Some reads_twice ∷ Some reads_twice ∷ Some reads_twice
    ∷ asks_latest Packages Name None (codes "./-" ∷ []) ∷ []
unfolding clap_on_literals kind_asked
standard_input = refl

-- which mistake is named of several
first_mistakes : map asked_with
    ((codes "--by=x" ∷ codes "-kany" ∷ codes "-" ∷ []) ∷ (codes "--by=x" ∷ codes "-" ∷ []) ∷ [])
    ≡ Some other_latest_kind ∷ Some other_by ∷ []
unfolding clap_on_literals kind_asked
first_mistakes = refl

-- ---- words that `clap` refuses

no_path : map (λ words. fault_of debctl_app (latest_line words))
    ([] ∷ (codes "--before=1" ∷ []) ∷ (codes "--help" ∷ []) ∷ [])
    ≡ (kind.MissingRequiredArgument ∷ []) ∷ (kind.MissingRequiredArgument ∷ [])
    ∷ (kind.DisplayHelp ∷ []) ∷ []
unfolding clap_on_literals
no_path = refl

unknown_options : map (λ word. fault_of debctl_app (latest_line (word ∷ codes "x" ∷ [])))
    (codes "--arch=amd64" ∷ codes "--installed" ∷ codes "--all" ∷ [])
    ≡ (kind.UnknownArgument ∷ []) ∷ (kind.UnknownArgument ∷ []) ∷ (kind.UnknownArgument ∷ []) ∷ []
unfolding clap_on_literals
unknown_options = refl

given_twice : map (λ word. fault_of debctl_app (latest_line (word ∷ word ∷ codes "x" ∷ [])))
    (codes "-ksources" ∷ codes "--by=name" ∷ codes "--before=1" ∷ [])
    ≡ (kind.ArgumentConflict ∷ []) ∷ (kind.ArgumentConflict ∷ []) ∷ (kind.ArgumentConflict ∷ [])
    ∷ []
unfolding clap_on_literals
given_twice = refl
