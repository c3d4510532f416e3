-- Worked cases of what the words of `healthy` ask.
use Rattle.std.specs.Prelude.{◌≡◌, List, [], map, ◌∷◌, Option, Some, None, true, codes, refl}
use Rattle.clap.proofs.OnLiterals.{clap_on_literals}
use Rattle.clap.specs.Faults.{fault_of}
use Rattle.clap.specs.Takes.{takes}
use Rattle.clap.specs.Walk.{Text}
use Rattle.clap.specs.declared.error.kind.ErrorKind.TheVariants as kind
use Rattle.debctl_args.specs.Asked.{asked_of, asks, asks_help, Asked}
use Rattle.debctl_args.specs.Commands.{debctl_app}
use Rattle.debctl_args.specs.Requests.{checks_health}
use Rattle.debctl_args.specs.declared.jobs.Members.TheVariants as members
use Rattle.debctl_args.specs.declared.jobs.Strength.{Strength}
use Rattle.debctl_args.specs.declared.jobs.Strength.TheVariants.{Depends, Recommends}

-- the program's name, `healthy`, and the arguments after it
abbrev healthy_line : List Text → List Text
healthy_line words = codes "debctl" ∷ codes "healthy" ∷ words

-- what is asked of a set for amd64
abbrev asks_healthy : Strength → Option Text → Option Asked
asks_healthy strength path =
    Some (asks (record {
      wanted = checks_health (codes "amd64") members.All strength;
      first = path;
      second = None;
    }))

-- without a path, with one, and with that of standard input
files_of_a_set : map (λ words. asked_of (healthy_line (codes "--arch" ∷ codes "amd64" ∷ words)))
    ([] ∷ (codes "x" ∷ []) ∷ (codes "-" ∷ []) ∷ [])
    ≡ asks_healthy Depends None ∷ asks_healthy Depends (Some (codes "x"))
    ∷ asks_healthy Depends (Some (codes "-")) ∷ []
unfolding clap_on_literals
files_of_a_set = refl

-- in any order
healthy_with_recommends : map (λ words. asked_of (healthy_line words))
    ((codes "--arch=amd64" ∷ codes "--recommends" ∷ [])
    ∷ (codes "x" ∷ codes "--recommends" ∷ codes "--arch" ∷ codes "amd64" ∷ []) ∷ [])
    ≡ asks_healthy Recommends None ∷ asks_healthy Recommends (Some (codes "x")) ∷ []
unfolding clap_on_literals
healthy_with_recommends = refl

healthy_of_installed_packages : asked_of
    (healthy_line (codes "--arch=amd64" ∷ codes "--installed" ∷ codes "x" ∷ []))
    ≡ Some (asks (record {
      wanted = checks_health (codes "amd64") members.Installed Depends;
      first = Some (codes "x");
      second = None;
    }))
unfolding clap_on_literals
healthy_of_installed_packages = refl

-- any text may be the architecture, and after `--` any may be the path
unusual_words : asked_of
    (healthy_line (codes "--arch" ∷ [] ∷ codes "--" ∷ codes "--recommends" ∷ []))
    ≡ Some (asks (record {
      wanted = checks_health [] members.All Depends;
      first = Some (codes "--recommends");
      second = None;
    }))
unfolding clap_on_literals
unusual_words = refl

help_on_healthy : asked_of (codes "debctl" ∷ codes "help" ∷ codes "healthy" ∷ []) ≡ Some asks_help
unfolding clap_on_literals
help_on_healthy = refl

-- ---- words that `clap` takes, and others

taken : takes debctl_app
    (healthy_line (codes "--arch=amd64" ∷ codes "--recommends" ∷ codes "x" ∷ [])) ≡ true
unfolding clap_on_literals
taken = refl

call_for_help : fault_of debctl_app (healthy_line (codes "--help" ∷ [])) ≡ kind.DisplayHelp ∷ []
unfolding clap_on_literals
call_for_help = refl

no_architecture : map (λ words. fault_of debctl_app (healthy_line words))
    ([] ∷ (codes "x" ∷ []) ∷ (codes "--recommends" ∷ []) ∷ [])
    ≡ (kind.MissingRequiredArgument ∷ []) ∷ (kind.MissingRequiredArgument ∷ [])
    ∷ (kind.MissingRequiredArgument ∷ []) ∷ []
unfolding clap_on_literals
no_architecture = refl

-- options of `unmet` that `healthy` doesn't have, and one that no command has
unknown_options : map
    (λ word. fault_of debctl_app (healthy_line (codes "--arch=amd64" ∷ word ∷ [])))
    (codes "--kind=binary" ∷ codes "-ksource" ∷ codes "--profiles=a" ∷ codes "--spelled"
    ∷ codes "--frob" ∷ [])
    ≡ (kind.UnknownArgument ∷ []) ∷ (kind.UnknownArgument ∷ []) ∷ (kind.UnknownArgument ∷ [])
    ∷ (kind.UnknownArgument ∷ []) ∷ (kind.UnknownArgument ∷ []) ∷ []
unfolding clap_on_literals
unknown_options = refl

second_path : fault_of debctl_app (healthy_line (codes "--arch=amd64" ∷ codes "x" ∷ codes "y" ∷ []))
    ≡ kind.UnknownArgument ∷ []
unfolding clap_on_literals
second_path = refl

given_twice : map (λ words. fault_of debctl_app (healthy_line words))
    ((codes "--arch=amd64" ∷ codes "--arch=amd64" ∷ [])
    ∷ (codes "--arch=amd64" ∷ codes "--recommends" ∷ codes "--recommends" ∷ []) ∷ [])
    ≡ (kind.ArgumentConflict ∷ []) ∷ (kind.ArgumentConflict ∷ []) ∷ []
unfolding clap_on_literals
given_twice = refl
