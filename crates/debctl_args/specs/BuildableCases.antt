-- Worked cases of what the words of `installable` ask of source packages.
use Rattle.std.specs.Prelude.{◌≡◌, Bool, true, false, List, [], map, ◌∷◌, Option, Some, None, codes, refl}
use Rattle.std.specs.Fmt.{digits}
use Rattle.clap.proofs.OnLiterals.{clap_on_literals}
use Rattle.clap.specs.Faults.{fault_of}
use Rattle.clap.specs.Walk.{Text}
use Rattle.clap.specs.declared.error.kind.ErrorKind.TheVariants as kind
use Rattle.debctl_args.specs.Asked.{asked_of, asks, index_and_path, index_of_packages, names_of_sources, no_budget, other_kind, profiles_of_packages, sources_recommend, standard_input_twice, unknown_kind, Asked}
use Rattle.debctl_args.specs.AskedWords.{kind_asked}
use Rattle.debctl_args.specs.Commands.{debctl_app}
use Rattle.debctl_args.specs.Requests.{finds_unbuildable, finds_uninstallable, AskedTerms}
use Rattle.debctl_args.specs.declared.jobs.Members.{Members}
use Rattle.debctl_args.specs.declared.jobs.Members.TheVariants.{All, Installed}
use Rattle.debctl_args.specs.declared.jobs.SourceKind.{SourceKind}
use Rattle.debctl_args.specs.declared.jobs.SourceKind.TheVariants.{Sources, Source}
use Rattle.debctl_args.specs.declared.jobs.Strength.TheVariants.{Depends}

-- the program's name, `installable` for amd64, and the arguments after it
abbrev build_line : List Text → List Text
build_line words =
    codes "debctl" ∷ codes "installable" ∷ codes "--arch" ∷ codes "amd64" ∷ words

abbrev asked_with : List Text → Option Asked
asked_with words = asked_of (build_line words)

-- a set may contain any packages
abbrev no_terms : AskedTerms
no_terms = record { essential = false; without = [] }

-- what is asked of sources for amd64, without profiles and with the budget of no option
abbrev asks_buildable : Members → SourceKind → Text → Text → Option Asked
asks_buildable members sources index path =
    Some (asks (record {
      wanted = finds_unbuildable (codes "amd64") [] members sources no_terms 100000 false;
      first = Some index;
      second = Some path;
    }))

-- the index and the path in either order, and each may be standard input
kinds_of_sources : map asked_with
    ((codes "--kind" ∷ codes "sources" ∷ codes "--index" ∷ codes "x" ∷ codes "y" ∷ [])
    ∷ (codes "y" ∷ codes "--index=x" ∷ codes "-ksource" ∷ [])
    ∷ (codes "-k" ∷ codes "sources" ∷ codes "--index=-" ∷ codes "y" ∷ [])
    ∷ (codes "--kind=source" ∷ codes "--index=x" ∷ codes "-" ∷ codes "--installed" ∷ []) ∷ [])
    ≡ asks_buildable All Sources (codes "x") (codes "y")
    ∷ asks_buildable All Source (codes "x") (codes "y")
    ∷ asks_buildable All Sources (codes "-") (codes "y")
    ∷ asks_buildable Installed Source (codes "x") (codes "-") ∷ []
unfolding clap_on_literals kind_asked
kinds_of_sources = refl

profiles_and_budget : asked_with
    (codes "--profiles" ∷ codes "a,,b" ∷ codes "--budget=7" ∷ codes "--kind=sources"
    ∷ codes "--index=x" ∷ codes "x" ∷ [])
    ≡ Some (asks (record {
      wanted = finds_unbuildable (codes "amd64") (codes "a" ∷ [] ∷ codes "b" ∷ []) All Sources
          no_terms 7 false;
      first = Some (codes "x");
      second = Some (codes "x");
    }))
unfolding clap_on_literals kind_asked digits
profiles_and_budget = refl

-- what a set has to contain and may not, and why a source can't be built
abbrev asks_on_terms : AskedTerms → Bool → Option Asked
asks_on_terms terms reasons =
    Some (asks (record {
      wanted = finds_unbuildable (codes "amd64") [] All Sources terms 100000 reasons;
      first = Some (codes "x");
      second = Some (codes "y");
    }))

terms_and_reasons : map
    (λ words. asked_with (codes "--kind=sources" ∷ codes "--index=x" ∷ codes "y" ∷ words))
    ((codes "--essential" ∷ []) ∷ (codes "--without" ∷ codes "a,b" ∷ []) ∷ (codes "--why" ∷ [])
    ∷ (codes "--why" ∷ codes "--without=a" ∷ codes "--essential" ∷ []) ∷ [])
    ≡ asks_on_terms (record { essential = true; without = [] }) false
    ∷ asks_on_terms
    (record { essential = false; without = codes "a" ∷ codes "b" ∷ [] }) false
    ∷ asks_on_terms no_terms true
    ∷ asks_on_terms (record { essential = true; without = codes "a" ∷ [] }) true ∷ []
unfolding clap_on_literals kind_asked
terms_and_reasons = refl

-- the kind of packages may be named
named_packages : asked_with (codes "--kind=packages" ∷ codes "x" ∷ [])
    ≡ Some (asks (record {
      wanted = finds_uninstallable (codes "amd64") All Depends no_terms [] 100000 false;
      first = Some (codes "x");
      second = None;
    }))
unfolding clap_on_literals kind_asked
named_packages = refl

-- ---- mistakes

other_kinds : map (λ kind. asked_with (codes "--kind" ∷ kind ∷ codes "--index=x" ∷ codes "y" ∷ []))
    (codes "binary" ∷ codes "status" ∷ codes "any" ∷ codes "foo" ∷ [])
    ≡ Some other_kind ∷ Some other_kind ∷ Some other_kind ∷ Some unknown_kind ∷ []
unfolding clap_on_literals kind_asked
other_kinds = refl

-- packages take neither an index nor profiles: the index is named first
options_of_packages : map asked_with
    ((codes "--index=x" ∷ codes "y" ∷ []) ∷ (codes "--profiles=a" ∷ codes "y" ∷ [])
    ∷ (codes "--profiles=a" ∷ codes "--kind=packages" ∷ codes "--index=x" ∷ []) ∷ [])
    ≡ Some index_of_packages ∷ Some profiles_of_packages ∷ Some index_of_packages ∷ []
unfolding clap_on_literals kind_asked
options_of_packages = refl

-- sources take no Recommends and no names, and have to have an index and a path
options_of_sources : map (λ words. asked_with (codes "--kind=sources" ∷ words))
    ((codes "--recommends" ∷ codes "--index=x" ∷ codes "y" ∷ []) ∷ (codes "--recommends" ∷ [])
    ∷ (codes "--only=a" ∷ codes "--recommends" ∷ codes "--index=x" ∷ codes "y" ∷ [])
    ∷ (codes "--only=a" ∷ codes "--index=x" ∷ codes "y" ∷ [])
    ∷ (codes "--witness=a" ∷ codes "--index=x" ∷ codes "y" ∷ [])
    ∷ (codes "--only=a" ∷ codes "--witness=a" ∷ []) ∷ (codes "--index=x" ∷ [])
    ∷ (codes "y" ∷ []) ∷ [] ∷ [])
    ≡ Some sources_recommend ∷ Some sources_recommend ∷ Some sources_recommend
    ∷ Some names_of_sources ∷ Some names_of_sources ∷ Some names_of_sources
    ∷ Some index_and_path ∷ Some index_and_path ∷ Some index_and_path ∷ []
unfolding clap_on_literals kind_asked
options_of_sources = refl

-- the number is read after the files are known
files_and_budget : map (λ words. asked_with (codes "--kind=source" ∷ codes "--budget=0" ∷ words))
    ((codes "--index=-" ∷ codes "-" ∷ []) ∷ (codes "--index=x" ∷ codes "-" ∷ []) ∷ [])
    ≡ Some standard_input_twice ∷ Some no_budget ∷ []
unfolding clap_on_literals kind_asked digits
files_and_budget = refl

given_twice : map (λ words. fault_of debctl_app (build_line words))
    ((codes "--index=x" ∷ codes "--index=x" ∷ []) ∷ (codes "-ksource" ∷ codes "-ksource" ∷ [])
    ∷ (codes "--profiles=a" ∷ codes "--profiles=b" ∷ []) ∷ [])
    ≡ (kind.ArgumentConflict ∷ []) ∷ (kind.ArgumentConflict ∷ []) ∷ (kind.ArgumentConflict ∷ [])
    ∷ []
unfolding clap_on_literals
given_twice = refl
