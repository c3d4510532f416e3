-- Worked cases of what the words of `installable` ask.
use Rattle.std.specs.Prelude.{◌≡◌, ℕ, Bool, true, false, List, [], map, ◌∷◌, Option, Some, None, codes, refl}
use Rattle.std.specs.Fmt.{digits}
use Rattle.clap.proofs.OnLiterals.{clap_on_literals}
use Rattle.clap.specs.Faults.{fault_of}
use Rattle.clap.specs.Takes.{takes}
use Rattle.clap.specs.Walk.{Text}
use Rattle.clap.specs.declared.error.kind.ErrorKind.TheVariants as kind
use Rattle.debctl_args.specs.Asked.{asked_of, asks, asks_help, index_of_packages, no_budget, only_or_witness, profiles_of_packages, Asked}
use Rattle.debctl_args.specs.AskedWords.{budget_named, kind_asked, pieces_asked}
use Rattle.debctl_args.specs.Commands.{debctl_app}
use Rattle.debctl_args.specs.Requests.{finds_uninstallable, finds_witness, AskedTerms}
use Rattle.debctl_args.specs.declared.jobs.Members.TheVariants as members
use Rattle.debctl_args.specs.declared.jobs.Strength.{Strength}
use Rattle.debctl_args.specs.declared.jobs.Strength.TheVariants.{Depends, Recommends}

-- a set may contain any packages
abbrev no_terms : AskedTerms
no_terms = record { essential = false; without = [] }

-- the program's name, `installable`, and the arguments after it
abbrev installable_line : List Text → List Text
installable_line words = codes "debctl" ∷ codes "installable" ∷ words

-- what is asked of an index for amd64
abbrev asks_installable : Strength → ℕ → Option Text → Option Asked
asks_installable strength budget path =
    Some (asks (record {
      wanted = finds_uninstallable (codes "amd64") members.All strength no_terms [] budget false;
      first = path;
      second = None;
    }))

-- without a path, with one, and with that of standard input
files_of_packages : map
    (λ words. asked_of (installable_line (codes "--arch" ∷ codes "amd64" ∷ words)))
    ([] ∷ (codes "x" ∷ []) ∷ (codes "-" ∷ []) ∷ [])
    ≡ asks_installable Depends 100000 None ∷ asks_installable Depends 100000 (Some (codes "x"))
    ∷ asks_installable Depends 100000 (Some (codes "-")) ∷ []
unfolding clap_on_literals kind_asked
files_of_packages = refl

-- in any order
installable_with_options : map (λ words. asked_of (installable_line words))
    ((codes "--arch=amd64" ∷ codes "--recommends" ∷ codes "--budget" ∷ codes "20" ∷ [])
    ∷ (codes "x" ∷ codes "--budget=1" ∷ codes "--arch" ∷ codes "amd64" ∷ []) ∷ [])
    ≡ asks_installable Recommends 20 None ∷ asks_installable Depends 1 (Some (codes "x")) ∷ []
unfolding clap_on_literals kind_asked digits
installable_with_options = refl

installable_of_installed_packages : asked_of
    (installable_line (codes "--arch=amd64" ∷ codes "--installed" ∷ codes "x" ∷ []))
    ≡ Some (asks (record {
      wanted = finds_uninstallable (codes "amd64") members.Installed Depends no_terms [] 100000
          false;
      first = Some (codes "x");
      second = None;
    }))
unfolding clap_on_literals kind_asked
installable_of_installed_packages = refl

-- any text may be the architecture, and after `--` any may be the path
unusual_words : asked_of
    (installable_line (codes "--arch" ∷ [] ∷ codes "--" ∷ codes "--budget=x" ∷ []))
    ≡ Some (asks (record {
      wanted = finds_uninstallable [] members.All Depends no_terms [] 100000 false;
      first = Some (codes "--budget=x");
      second = None;
    }))
unfolding clap_on_literals kind_asked
unusual_words = refl

help_on_installable : asked_of (codes "debctl" ∷ codes "help" ∷ codes "installable" ∷ [])
    ≡ Some asks_help
unfolding clap_on_literals kind_asked
help_on_installable = refl

-- ---- names

-- the lines of packages with these names, for amd64 and with the budget of no option
abbrev asks_named : List Text → Option Asked
asks_named names =
    Some (asks (record {
      wanted = finds_uninstallable (codes "amd64") members.All Depends no_terms names 100000 false;
      first = Some (codes "x");
      second = None;
    }))

-- between commas any text is a name, and the empty text is one
names_of_lines : map
    (λ words. asked_of (installable_line (codes "--arch=amd64" ∷ codes "x" ∷ words)))
    ((codes "--only" ∷ codes "aa,b,a a" ∷ []) ∷ (codes "--only=aa" ∷ [])
    ∷ (codes "--only=,aa," ∷ []) ∷ (codes "--only=" ∷ []) ∷ [])
    ≡ asks_named (codes "aa" ∷ codes "b" ∷ codes "a a" ∷ []) ∷ asks_named (codes "aa" ∷ [])
    ∷ asks_named ([] ∷ codes "aa" ∷ [] ∷ []) ∷ asks_named ([] ∷ []) ∷ []
unfolding clap_on_literals kind_asked
names_of_lines = refl

names_of_a_set : map (λ words. asked_of (installable_line (codes "--arch=amd64" ∷ words)))
    ((codes "--witness" ∷ codes "aa,b" ∷ codes "x" ∷ codes "--recommends" ∷ codes "--installed"
    ∷ []) ∷ (codes "--budget=20" ∷ codes "--witness=" ∷ []) ∷ [])
    ≡ Some (asks (record {
      wanted = finds_witness (codes "amd64") members.Installed Recommends no_terms
          (codes "aa" ∷ codes "b" ∷ []) 100000 false;
      first = Some (codes "x");
      second = None;
    }))
    ∷ Some (asks (record {
      wanted = finds_witness (codes "amd64") members.All Depends no_terms ([] ∷ []) 20 false;
      first = None;
      second = None;
    })) ∷ []
unfolding clap_on_literals kind_asked digits
names_of_a_set = refl

-- not both, also if they have the same names
both_options : asked_of (installable_line
    (codes "--arch=amd64" ∷ codes "--only=a" ∷ codes "--witness=a" ∷ codes "x" ∷ []))
    ≡ Some only_or_witness
unfolding clap_on_literals kind_asked
both_options = refl

-- which mistake is named of two
first_mistakes : map (λ word. asked_of (installable_line
    (codes "--arch=amd64" ∷ codes "--only=a" ∷ codes "--witness=a" ∷ word ∷ [])))
    (codes "--index=x" ∷ codes "--profiles=a" ∷ codes "--budget=0" ∷ [])
    ≡ Some index_of_packages ∷ Some profiles_of_packages ∷ Some only_or_witness ∷ []
unfolding clap_on_literals kind_asked digits
first_mistakes = refl

-- the number is read with names too
names_and_budget : map (λ word. asked_of (installable_line
    (codes "--arch=amd64" ∷ codes "--budget=0" ∷ word ∷ [])))
    (codes "--only=a" ∷ codes "--witness=a" ∷ []) ≡ Some no_budget ∷ Some no_budget ∷ []
unfolding clap_on_literals kind_asked digits
names_and_budget = refl

pieces_of_words : map pieces_asked (None ∷ Some [] ∷ Some (codes "aa,b") ∷ [])
    ≡ [] ∷ ([] ∷ []) ∷ (codes "aa" ∷ codes "b" ∷ []) ∷ []
pieces_of_words = refl

-- ---- what a set has to contain, what it may not, and why there is none

abbrev asks_on_terms : AskedTerms → Bool → Option Asked
asks_on_terms terms reasons =
    Some (asks (record {
      wanted = finds_uninstallable (codes "amd64") members.All Depends terms [] 100000 reasons;
      first = Some (codes "x");
      second = None;
    }))

terms_and_reasons : map
    (λ words. asked_of (installable_line (codes "--arch=amd64" ∷ codes "x" ∷ words)))
    ((codes "--essential" ∷ []) ∷ (codes "--why" ∷ [])
    ∷ (codes "--why" ∷ codes "--without=a" ∷ codes "--essential" ∷ []) ∷ [])
    ≡ asks_on_terms (record { essential = true; without = [] }) false
    ∷ asks_on_terms no_terms true
    ∷ asks_on_terms (record { essential = true; without = codes "a" ∷ [] }) true ∷ []
unfolding clap_on_literals kind_asked
terms_and_reasons = refl

-- the names are split as those of lines
abbrev asks_without : List Text → Option Asked
asks_without names = asks_on_terms (record { essential = false; without = names }) false

names_left_out : map
    (λ words. asked_of (installable_line (codes "--arch=amd64" ∷ codes "x" ∷ words)))
    ((codes "--without" ∷ codes "aa,b,a a" ∷ []) ∷ (codes "--without=aa" ∷ [])
    ∷ (codes "--without=,aa," ∷ []) ∷ (codes "--without=" ∷ []) ∷ [])
    ≡ asks_without (codes "aa" ∷ codes "b" ∷ codes "a a" ∷ []) ∷ asks_without (codes "aa" ∷ [])
    ∷ asks_without ([] ∷ codes "aa" ∷ [] ∷ []) ∷ asks_without ([] ∷ []) ∷ []
unfolding clap_on_literals kind_asked
names_left_out = refl

-- with other names too, also with the same ones
terms_of_named : map (λ words. asked_of (installable_line (codes "--arch=amd64" ∷ words)))
    ((codes "--only=a" ∷ codes "--without=a,b" ∷ codes "--why" ∷ [])
    ∷ (codes "--essential" ∷ codes "--without=b" ∷ codes "--why" ∷ codes "--witness=a" ∷ []) ∷ [])
    ≡ Some (asks (record {
      wanted = finds_uninstallable (codes "amd64") members.All Depends
          (record { essential = false; without = codes "a" ∷ codes "b" ∷ [] })
          (codes "a" ∷ []) 100000 true;
      first = None;
      second = None;
    }))
    ∷ Some (asks (record {
      wanted = finds_witness (codes "amd64") members.All Depends
          (record { essential = true; without = codes "b" ∷ [] }) (codes "a" ∷ []) 100000 true;
      first = None;
      second = None;
    })) ∷ []
unfolding clap_on_literals kind_asked
terms_of_named = refl

-- ---- budgets

-- from 1 to 1000000000
budgets : map budget_named
    (codes "1" ∷ codes "100000" ∷ codes "999999999" ∷ codes "1000000000" ∷ [])
    ≡ Some 1 ∷ Some 100000 ∷ Some 999999999 ∷ Some 1000000000 ∷ []
unfolding digits
budgets = refl

no_budgets : map budget_named
    (codes "0" ∷ codes "1000000001" ∷ codes "4294967297" ∷ codes "18446744073709551616" ∷ []
    ∷ codes "01" ∷ codes "+1" ∷ codes "-1" ∷ codes "1k" ∷ codes "1_000" ∷ [])
    ≡ None ∷ None ∷ None ∷ None ∷ None ∷ None ∷ None ∷ None ∷ None ∷ None ∷ []
unfolding digits
no_budgets = refl

refused_budgets : map
    (λ word. asked_of (installable_line (codes "--arch=amd64" ∷ word ∷ codes "x" ∷ [])))
    (codes "--budget=0" ∷ codes "--budget=1000000001" ∷ codes "--budget=x" ∷ codes "--budget=" ∷ [])
    ≡ Some no_budget ∷ Some no_budget ∷ Some no_budget ∷ Some no_budget ∷ []
unfolding clap_on_literals kind_asked digits
refused_budgets = refl

-- ---- words that `clap` takes, and others

taken : takes debctl_app
    (installable_line (codes "--arch=amd64" ∷ codes "--budget=0" ∷ codes "x" ∷ [])) ≡ true
unfolding clap_on_literals
taken = refl

call_for_help : fault_of debctl_app (installable_line (codes "--help" ∷ []))
    ≡ kind.DisplayHelp ∷ []
unfolding clap_on_literals
call_for_help = refl

no_architecture : map (λ words. fault_of debctl_app (installable_line words))
    ([] ∷ (codes "x" ∷ []) ∷ (codes "--budget=2" ∷ []) ∷ [])
    ≡ (kind.MissingRequiredArgument ∷ []) ∷ (kind.MissingRequiredArgument ∷ [])
    ∷ (kind.MissingRequiredArgument ∷ []) ∷ []
unfolding clap_on_literals
no_architecture = refl

-- options of other commands, and one that no command has
unknown_options : map
    (λ word. fault_of debctl_app (installable_line (codes "--arch=amd64" ∷ word ∷ [])))
    (codes "--values" ∷ codes "--spelled" ∷ codes "--frob" ∷ [])
    ≡ (kind.UnknownArgument ∷ []) ∷ (kind.UnknownArgument ∷ []) ∷ (kind.UnknownArgument ∷ []) ∷ []
unfolding clap_on_literals
unknown_options = refl

-- only `installable` has a budget, names and terms
options_of_healthy : map (λ word. fault_of debctl_app
    (codes "debctl" ∷ codes "healthy" ∷ codes "--arch=amd64" ∷ word ∷ []))
    (codes "--budget=1" ∷ codes "--only=a" ∷ codes "--witness=a" ∷ codes "--essential"
    ∷ codes "--without=a" ∷ codes "--why" ∷ [])
    ≡ (kind.UnknownArgument ∷ []) ∷ (kind.UnknownArgument ∷ []) ∷ (kind.UnknownArgument ∷ [])
    ∷ (kind.UnknownArgument ∷ []) ∷ (kind.UnknownArgument ∷ []) ∷ (kind.UnknownArgument ∷ []) ∷ []
unfolding clap_on_literals
options_of_healthy = refl

second_path : fault_of debctl_app
    (installable_line (codes "--arch=amd64" ∷ codes "x" ∷ codes "y" ∷ []))
    ≡ kind.UnknownArgument ∷ []
unfolding clap_on_literals
second_path = refl

given_twice : map (λ words. fault_of debctl_app (installable_line words))
    ((codes "--arch=amd64" ∷ codes "--budget=1" ∷ codes "--budget=1" ∷ [])
    ∷ (codes "--arch=amd64" ∷ codes "--installed" ∷ codes "--installed" ∷ [])
    ∷ (codes "--arch=amd64" ∷ codes "--only=a" ∷ codes "--only=b" ∷ [])
    ∷ (codes "--arch=amd64" ∷ codes "--witness=a" ∷ codes "--witness=b" ∷ [])
    ∷ (codes "--arch=amd64" ∷ codes "--essential" ∷ codes "--essential" ∷ [])
    ∷ (codes "--arch=amd64" ∷ codes "--without=a" ∷ codes "--without=a" ∷ [])
    ∷ (codes "--arch=amd64" ∷ codes "--why" ∷ codes "--why" ∷ []) ∷ [])
    ≡ (kind.ArgumentConflict ∷ []) ∷ (kind.ArgumentConflict ∷ [])
    ∷ (kind.ArgumentConflict ∷ []) ∷ (kind.ArgumentConflict ∷ []) ∷ (kind.ArgumentConflict ∷ [])
    ∷ (kind.ArgumentConflict ∷ []) ∷ (kind.ArgumentConflict ∷ []) ∷ []
unfolding clap_on_literals
given_twice = refl
