-- Worked cases of what the words of `unmet` ask.
use Rattle.std.specs.Prelude.{◌≡◌, List, [], map, ◌∷◌, Option, Some, None, codes, refl}
use Rattle.clap.proofs.OnLiterals.{clap_on_literals}
use Rattle.clap.specs.Faults.{fault_of}
use Rattle.clap.specs.Walk.{Text}
use Rattle.clap.specs.declared.error.kind.ErrorKind.TheVariants as kind
use Rattle.debctl_args.specs.Asked.{all_for_of_sources, all_sources_of_packages, asked_of, asks, kind_of_path, no_recommends, no_relations, no_status, standard_input_twice, unknown_kind, Asked}
use Rattle.debctl_args.specs.AskedWords.{kind_asked}
use Rattle.debctl_args.specs.Commands.{debctl_app}
use Rattle.debctl_args.specs.Requests.{finds_unmet, wants, AskedFiles, AskedUnmet}
use Rattle.deb_base.specs.declared.version_text.VersionText.TheVariants.{Canonical, Spelled}
use Rattle.debctl_args.specs.declared.jobs.Dependents.{Dependents}
use Rattle.debctl_args.specs.declared.jobs.Dependents.TheVariants as dependents
use Rattle.debctl_args.specs.declared.jobs.Members.TheVariants as members
use Rattle.debctl_args.specs.declared.jobs.SourcesTried.TheVariants.{All, OfTarget}
use Rattle.debctl_args.specs.declared.jobs.Strength.TheVariants.{Depends, Recommends}

-- an `unmet` for amd64, with its other arguments
abbrev unmet_line : List Text → List Text
unmet_line words =
    codes "debctl" ∷ codes "unmet" ∷ codes "--arch" ∷ codes "amd64" ∷ words

abbrev asked_with : List Text → Option Asked
asked_with words = asked_of (unmet_line words)

abbrev asks_for : AskedUnmet → Option Asked
asks_for unmet = Some (asks (wants (finds_unmet unmet)))

-- one index and another file, without an old index
abbrev one_index : Text → Option Text → AskedFiles
one_index index path = record { unless = None; indexes = index ∷ []; path = path }

-- what is asked of these files with no other option
abbrev unmet_over : Dependents → AskedFiles → AskedUnmet
unmet_over dependents files = record {
  arch = codes "amd64";
  profiles = [];
  all_for = None;
  members = members.All;
  dependents = dependents;
  versions = Canonical;
  without = [];
  files = files;
}

-- the same of the index `x`, and of another file
abbrev unmet_of_x : Dependents → Option Text → AskedUnmet
unmet_of_x dependents path = unmet_over dependents (one_index (codes "x") path)

abbrev asks_unmet : Dependents → Option Text → Option Asked
asks_unmet dependents path = asks_for (unmet_of_x dependents path)

unmet_of_an_index : asked_with (codes "x" ∷ []) ≡ asks_unmet (dependents.Index Depends) None
unfolding clap_on_literals kind_asked
unmet_of_an_index = refl

unmet_of_another_index : asked_with (codes "x" ∷ codes "y" ∷ [])
    ≡ asks_unmet (dependents.Packages Depends) (Some (codes "y"))
unfolding clap_on_literals kind_asked
unmet_of_another_index = refl

unmet_with_recommends : asked_with
    (codes "x" ∷ codes "--recommends" ∷ codes "y" ∷ codes "-kbinary" ∷ [])
    ≡ asks_unmet (dependents.Binary Recommends) (Some (codes "y"))
unfolding clap_on_literals kind_asked
unmet_with_recommends = refl

unmet_of_sources_in_input : asked_with
    (codes "--kind" ∷ codes "sources" ∷ codes "x" ∷ codes "-" ∷ [])
    ≡ asks_unmet (dependents.Sources OfTarget) (Some (codes "-"))
unfolding clap_on_literals kind_asked
unmet_of_sources_in_input = refl

unmet_of_a_source : asked_with (codes "--kind=source" ∷ codes "x" ∷ codes "y" ∷ [])
    ≡ asks_unmet (dependents.Source OfTarget) (Some (codes "y"))
unfolding clap_on_literals kind_asked
unmet_of_a_source = refl

unmet_with_profiles : asked_with
    (codes "--profiles" ∷ codes "a,b" ∷ codes "-" ∷ codes "y" ∷ [])
    ≡ asks_for (record
    (unmet_over (dependents.Packages Depends) (one_index (codes "-") (Some (codes "y"))))
    { profiles = codes "a" ∷ codes "b" ∷ [] })
unfolding clap_on_literals kind_asked
unmet_with_profiles = refl

unmet_with_spelled_versions : asked_with (codes "--spelled" ∷ codes "x" ∷ [])
    ≡ asks_for (record (unmet_of_x (dependents.Index Depends) None) { versions = Spelled })
unfolding clap_on_literals kind_asked
unmet_with_spelled_versions = refl

-- the index is a status file, and the file beside it is of its own kind
unmet_of_installed_packages : map asked_with
    ((codes "--installed" ∷ codes "x" ∷ [])
    ∷ (codes "x" ∷ codes "y" ∷ codes "--installed" ∷ codes "-ksources" ∷ []) ∷ [])
    ≡ asks_for (record (unmet_of_x (dependents.Index Depends) None)
    { members = members.Installed })
    ∷ asks_for (record (unmet_of_x (dependents.Sources OfTarget) (Some (codes "y")))
    { members = members.Installed }) ∷ []
unfolding clap_on_literals kind_asked
unmet_of_installed_packages = refl

-- an index in itself that is standard input
unmet_of_an_index_in_input : asked_with (codes "-" ∷ [])
    ≡ asks_for (unmet_over (dependents.Index Depends) (one_index (codes "-") None))
unfolding clap_on_literals kind_asked
unmet_of_an_index_in_input = refl

-- an index is of packages; another kind is that of another file
kinds_of_an_index : map (λ kind. asked_with (codes "--kind" ∷ kind ∷ codes "x" ∷ []))
    (codes "packages" ∷ codes "binary" ∷ codes "sources" ∷ codes "source" ∷ codes "status"
    ∷ codes "any" ∷ codes "foo" ∷ [])
    ≡ asks_unmet (dependents.Index Depends) None ∷ Some kind_of_path ∷ Some kind_of_path
    ∷ Some kind_of_path ∷ Some no_status ∷ Some no_relations ∷ Some unknown_kind ∷ []
unfolding clap_on_literals kind_asked
kinds_of_an_index = refl

-- the index given again is another file, which is read as a file is
unmet_of_the_index_as_a_file : asked_with (codes "x" ∷ codes "x" ∷ [])
    ≡ asks_unmet (dependents.Packages Depends) (Some (codes "x"))
unfolding clap_on_literals kind_asked
unmet_of_the_index_as_a_file = refl

-- without `--recommends` no kind has Recommends
kinds_without_recommends : map
    (λ kind. asked_with (codes "--kind" ∷ kind ∷ codes "x" ∷ codes "y" ∷ []))
    (codes "packages" ∷ codes "binary" ∷ codes "sources" ∷ codes "source" ∷ [])
    ≡ asks_unmet (dependents.Packages Depends) (Some (codes "y"))
    ∷ asks_unmet (dependents.Binary Depends) (Some (codes "y"))
    ∷ asks_unmet (dependents.Sources OfTarget) (Some (codes "y"))
    ∷ asks_unmet (dependents.Source OfTarget) (Some (codes "y")) ∷ []
unfolding clap_on_literals kind_asked
kinds_without_recommends = refl

-- source packages have no Recommends
kinds_with_recommends : map (λ kind. asked_with
    (codes "--recommends" ∷ codes "--kind" ∷ kind ∷ codes "x" ∷ codes "y" ∷ []))
    (codes "packages" ∷ codes "sources" ∷ codes "source" ∷ codes "status" ∷ codes "any" ∷ [])
    ≡ asks_unmet (dependents.Packages Recommends) (Some (codes "y")) ∷ Some no_recommends
    ∷ Some no_recommends ∷ Some no_status ∷ Some no_relations ∷ []
unfolding clap_on_literals kind_asked
kinds_with_recommends = refl

-- ---- several indexes, an old one, and names that are left out

-- those of the option, in their order, and then the one among the words, wherever each stands
unmet_over_indexes : map asked_with
    ((codes "--index" ∷ codes "a" ∷ codes "x" ∷ [])
    ∷ (codes "x" ∷ codes "--index=b" ∷ codes "y" ∷ codes "--index=a" ∷ codes "--index" ∷ codes "b"
    ∷ []) ∷ (codes "--index=-" ∷ codes "-ksources" ∷ codes "x" ∷ codes "y" ∷ []) ∷ [])
    ≡ asks_for (unmet_over (dependents.Index Depends)
    (record { unless = None; indexes = codes "a" ∷ codes "x" ∷ []; path = None }))
    ∷ asks_for (unmet_over (dependents.Packages Depends) (record {
      unless = None;
      indexes = codes "b" ∷ codes "a" ∷ codes "b" ∷ codes "x" ∷ [];
      path = Some (codes "y");
    }))
    ∷ asks_for (unmet_over (dependents.Sources OfTarget) (record {
      unless = None;
      indexes = codes "-" ∷ codes "x" ∷ [];
      path = Some (codes "y");
    })) ∷ []
unfolding clap_on_literals kind_asked
unmet_over_indexes = refl

unmet_unless : map asked_with
    ((codes "--unless-in" ∷ codes "o" ∷ codes "x" ∷ [])
    ∷ (codes "--unless-in=-" ∷ codes "--index=a" ∷ codes "x" ∷ codes "y" ∷ []) ∷ [])
    ≡ asks_for (unmet_over (dependents.Index Depends)
    (record { unless = Some (codes "o"); indexes = codes "x" ∷ []; path = None }))
    ∷ asks_for (unmet_over (dependents.Packages Depends) (record {
      unless = Some (codes "-");
      indexes = codes "a" ∷ codes "x" ∷ [];
      path = Some (codes "y");
    })) ∷ []
unfolding clap_on_literals kind_asked
unmet_unless = refl

-- between commas any text is a name, and the empty text is one
unmet_without : map (λ word. asked_with (word ∷ codes "x" ∷ []))
    (codes "--without=a,,b" ∷ codes "--without=" ∷ [])
    ≡ asks_for (record (unmet_of_x (dependents.Index Depends) None)
    { without = codes "a" ∷ [] ∷ codes "b" ∷ [] })
    ∷ asks_for (record (unmet_of_x (dependents.Index Depends) None) { without = [] ∷ [] }) ∷ []
unfolding clap_on_literals kind_asked
unmet_without = refl

-- two of the files are standard input, whichever they are
standard_input_for_two_files : map asked_with
    ((codes "-" ∷ codes "-" ∷ []) ∷ (codes "-" ∷ codes "-" ∷ codes "--kind=sources" ∷ [])
    ∷ (codes "--index=-" ∷ codes "-" ∷ [])
    ∷ (codes "--index=-" ∷ codes "--index=-" ∷ codes "x" ∷ [])
    ∷ (codes "--unless-in=-" ∷ codes "-" ∷ [])
    ∷ (codes "--unless-in=-" ∷ codes "x" ∷ codes "-" ∷ [])
    ∷ (codes "--index=-" ∷ codes "x" ∷ codes "-" ∷ []) ∷ [])
    ≡ Some standard_input_twice ∷ Some standard_input_twice ∷ Some standard_input_twice
    ∷ Some standard_input_twice ∷ Some standard_input_twice ∷ Some standard_input_twice
    ∷ Some standard_input_twice ∷ []
unfolding clap_on_literals kind_asked
standard_input_for_two_files = refl

-- ---- all sources, and the target of packages for `all`

all_of_the_sources : map
    (λ kind. asked_with (codes "--all-sources" ∷ kind ∷ codes "x" ∷ codes "y" ∷ []))
    (codes "-ksources" ∷ codes "-ksource" ∷ codes "-kpackages" ∷ codes "-kbinary"
    ∷ codes "-kstatus" ∷ codes "-kany" ∷ [])
    ≡ asks_unmet (dependents.Sources All) (Some (codes "y"))
    ∷ asks_unmet (dependents.Source All) (Some (codes "y")) ∷ Some all_sources_of_packages
    ∷ Some all_sources_of_packages ∷ Some no_status ∷ Some no_relations ∷ []
unfolding clap_on_literals kind_asked
all_of_the_sources = refl

-- any text may be the target: the command checks it
target_of_all : map
    (λ kind. asked_with (codes "--all-for" ∷ codes "i386" ∷ kind ∷ codes "x" ∷ codes "y" ∷ []))
    (codes "-kpackages" ∷ codes "-kbinary" ∷ codes "-ksources" ∷ codes "-ksource" ∷ [])
    ≡ asks_for (record (unmet_of_x (dependents.Packages Depends) (Some (codes "y")))
    { all_for = Some (codes "i386") })
    ∷ asks_for (record (unmet_of_x (dependents.Binary Depends) (Some (codes "y")))
    { all_for = Some (codes "i386") })
    ∷ Some all_for_of_sources ∷ Some all_for_of_sources ∷ []
unfolding clap_on_literals kind_asked
target_of_all = refl

empty_target_of_all : asked_with (codes "--all-for=" ∷ codes "x" ∷ [])
    ≡ asks_for (record (unmet_of_x (dependents.Index Depends) None) { all_for = Some [] })
unfolding clap_on_literals kind_asked
empty_target_of_all = refl

-- which mistake is named of several
first_mistakes : map asked_with
    ((codes "-ksources" ∷ codes "--recommends" ∷ codes "--all-for=a" ∷ codes "-" ∷ codes "-" ∷ [])
    ∷ (codes "-ksource" ∷ codes "--all-for=a" ∷ codes "x" ∷ [])
    ∷ (codes "-kbinary" ∷ codes "--all-sources" ∷ codes "x" ∷ [])
    ∷ (codes "-kbinary" ∷ codes "--index=-" ∷ codes "-" ∷ [])
    ∷ (codes "--all-sources" ∷ codes "-" ∷ codes "-" ∷ [])
    ∷ (codes "-kfoo" ∷ codes "--all-sources" ∷ codes "-" ∷ codes "-" ∷ []) ∷ [])
    ≡ Some no_recommends ∷ Some all_for_of_sources ∷ Some all_sources_of_packages
    ∷ Some kind_of_path ∷ Some all_sources_of_packages ∷ Some unknown_kind ∷ []
unfolding clap_on_literals kind_asked
first_mistakes = refl

-- ---- words that `clap` refuses

missing_words : map (fault_of debctl_app)
    (unmet_line [] ∷ unmet_line (codes "--index=x" ∷ [])
    ∷ (codes "debctl" ∷ codes "unmet" ∷ codes "x" ∷ []) ∷ [])
    ≡ (kind.MissingRequiredArgument ∷ []) ∷ (kind.MissingRequiredArgument ∷ [])
    ∷ (kind.MissingRequiredArgument ∷ []) ∷ []
unfolding clap_on_literals
missing_words = refl

third_file : fault_of debctl_app (unmet_line (codes "x" ∷ codes "y" ∷ codes "z" ∷ []))
    ≡ kind.UnknownArgument ∷ []
unfolding clap_on_literals
third_file = refl

-- only the option for an index may be repeated
given_twice : map (λ word. fault_of debctl_app (unmet_line (word ∷ codes "x" ∷ word ∷ [])))
    (codes "--index=a" ∷ codes "--unless-in=a" ∷ codes "--without=a" ∷ codes "--all-sources"
    ∷ codes "--all-for=a" ∷ [])
    ≡ [] ∷ (kind.ArgumentConflict ∷ []) ∷ (kind.ArgumentConflict ∷ [])
    ∷ (kind.ArgumentConflict ∷ []) ∷ (kind.ArgumentConflict ∷ []) ∷ []
unfolding clap_on_literals
given_twice = refl
