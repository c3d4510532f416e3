-- Worked cases of what the words of `query` ask.
use Rattle.std.specs.Prelude.{◌≡◌, List, [], map, ◌∷◌, Option, Some, None, codes, refl}
use Rattle.clap.proofs.OnLiterals.{clap_on_literals}
use Rattle.clap.specs.Faults.{fault_of}
use Rattle.clap.specs.Walk.{Text}
use Rattle.clap.specs.declared.error.kind.ErrorKind.TheVariants as kind
use Rattle.debctl_args.specs.Asked.{asked_of, asks, relation_or_file, standard_input_twice, Asked}
use Rattle.debctl_args.specs.Commands.{debctl_app}
use Rattle.debctl_args.specs.Requests.{of_file, of_text, queries, queries_from, queries_over, wants, AskedRelation}
use Rattle.deb_base.specs.declared.version_text.VersionText.{VersionText}
use Rattle.deb_base.specs.declared.version_text.VersionText.TheVariants.{Canonical, Spelled}
use Rattle.debctl_args.specs.declared.jobs.Detail.{Detail}
use Rattle.debctl_args.specs.declared.jobs.Detail.TheVariants.{Verdicts, Reasons}
use Rattle.debctl_args.specs.declared.jobs.Members.{Members}
use Rattle.debctl_args.specs.declared.jobs.Members.TheVariants as members

-- a query for amd64, with its other arguments
abbrev query_line : List Text → List Text
query_line words =
    codes "debctl" ∷ codes "query" ∷ codes "--arch" ∷ codes "amd64" ∷ words

-- what is asked of `aa` for amd64
abbrev asks_of_aa : List Text → Option Text → Option Asked
asks_of_aa profiles path =
    Some (asks (record {
      wanted = queries (codes "amd64") profiles (codes "aa") members.All Verdicts Canonical;
      first = path;
      second = None;
    }))

query_with_profiles : asked_of
    (query_line (codes "--profiles" ∷ codes "a,b" ∷ codes "aa" ∷ codes "x" ∷ []))
    ≡ asks_of_aa (codes "a" ∷ codes "b" ∷ []) (Some (codes "x"))
unfolding clap_on_literals
query_with_profiles = refl

query_without_profiles : asked_of (query_line (codes "aa" ∷ codes "x" ∷ []))
    ≡ asks_of_aa [] (Some (codes "x"))
unfolding clap_on_literals
query_without_profiles = refl

query_with_empty_profile : asked_of
    (query_line (codes "--profiles" ∷ [] ∷ codes "aa" ∷ codes "x" ∷ []))
    ≡ asks_of_aa ([] ∷ []) (Some (codes "x"))
unfolding clap_on_literals
query_with_empty_profile = refl

query_without_path : asked_of (query_line (codes "--profiles=a,,x" ∷ codes "aa" ∷ []))
    ≡ asks_of_aa (codes "a" ∷ [] ∷ codes "x" ∷ []) None
unfolding clap_on_literals
query_without_path = refl

-- ---- a relation from a file

-- what is asked of the relation of a file, for amd64
abbrev asks_of_file : List Text → Text → Text → Option Asked
asks_of_file profiles path index =
    Some (asks (record {
      wanted = queries_from (codes "amd64") profiles members.All Verdicts Canonical;
      first = Some path;
      second = Some index;
    }))

query_of_a_file : asked_of (query_line (codes "--relation-from" ∷ codes "f" ∷ codes "x" ∷ []))
    ≡ asks_of_file [] (codes "f") (codes "x")
unfolding clap_on_literals
query_of_a_file = refl

query_of_a_file_without_index : asked_of
    (query_line (codes "--profiles=a,b" ∷ codes "--relation-from=f" ∷ []))
    ≡ asks_of_file (codes "a" ∷ codes "b" ∷ []) (codes "f") (codes "-")
unfolding clap_on_literals
query_of_a_file_without_index = refl

query_of_standard_input : asked_of
    (query_line (codes "x" ∷ codes "--relation-from" ∷ codes "-" ∷ []))
    ≡ asks_of_file [] (codes "-") (codes "x")
unfolding clap_on_literals
query_of_standard_input = refl

standard_input_for_relation_and_index : map (λ words. asked_of (query_line words))
    ((codes "--relation-from" ∷ codes "-" ∷ [])
    ∷ (codes "--relation-from" ∷ codes "-" ∷ codes "-" ∷ []) ∷ [])
    ≡ Some standard_input_twice ∷ Some standard_input_twice ∷ []
unfolding clap_on_literals
standard_input_for_relation_and_index = refl

query_of_nothing : asked_of (query_line []) ≡ Some relation_or_file
unfolding clap_on_literals
query_of_nothing = refl

-- for aa, and for the relation of the file f over x: of these packages, with this detail and these
-- texts of versions
abbrev asks_aa : Members → Detail → VersionText → Option Asked
asks_aa packages detail versions =
    Some (asks (record {
      wanted = queries (codes "amd64") [] (codes "aa") packages detail versions;
      first = None;
      second = None;
    }))

abbrev asks_f : Members → Detail → VersionText → Option Asked
asks_f packages detail versions =
    Some (asks (record {
      wanted = queries_from (codes "amd64") [] packages detail versions;
      first = Some (codes "f");
      second = Some (codes "x");
    }))

query_with_reasons : asked_of (query_line (codes "aa" ∷ codes "--why" ∷ []))
    ≡ asks_aa members.All Reasons Canonical
unfolding clap_on_literals
query_with_reasons = refl

query_of_a_file_with_reasons : asked_of
    (query_line (codes "--why" ∷ codes "--relation-from" ∷ codes "f" ∷ codes "x" ∷ []))
    ≡ asks_f members.All Reasons Canonical
unfolding clap_on_literals
query_of_a_file_with_reasons = refl

query_with_spelled_versions : asked_of (query_line (codes "--spelled" ∷ codes "aa" ∷ []))
    ≡ asks_aa members.All Verdicts Spelled
unfolding clap_on_literals
query_with_spelled_versions = refl

query_of_a_file_with_spelled_versions : asked_of (query_line
    (codes "--relation-from" ∷ codes "f" ∷ codes "--why" ∷ codes "x" ∷ codes "--spelled" ∷ []))
    ≡ asks_f members.All Reasons Spelled
unfolding clap_on_literals
query_of_a_file_with_spelled_versions = refl

query_of_installed_packages : map (λ words. asked_of (query_line words))
    ((codes "--installed" ∷ codes "aa" ∷ [])
    ∷ (codes "--relation-from=f" ∷ codes "x" ∷ codes "--installed" ∷ []) ∷ [])
    ≡ asks_aa members.Installed Verdicts Canonical
    ∷ asks_f members.Installed Verdicts Canonical ∷ []
unfolding clap_on_literals
query_of_installed_packages = refl

-- ---- several indexes

-- what is asked of these indexes, for amd64
abbrev asks_over : AskedRelation → List Text → Option Asked
asks_over relation indexes =
    Some (asks (wants (queries_over (record {
      arch = codes "amd64";
      profiles = [];
      relation = relation;
      members = members.All;
      detail = Verdicts;
      versions = Canonical;
      indexes = indexes;
    }))))

-- in their order; one may be named twice, and one may be standard input
query_of_two_indexes : map (λ words. asked_of (query_line (codes "aa" ∷ words)))
    ((codes "x" ∷ codes "y" ∷ []) ∷ (codes "y" ∷ codes "x" ∷ codes "y" ∷ [])
    ∷ (codes "x" ∷ codes "-" ∷ []) ∷ [])
    ≡ asks_over (of_text (codes "aa")) (codes "x" ∷ codes "y" ∷ [])
    ∷ asks_over (of_text (codes "aa")) (codes "y" ∷ codes "x" ∷ codes "y" ∷ [])
    ∷ asks_over (of_text (codes "aa")) (codes "x" ∷ codes "-" ∷ []) ∷ []
unfolding clap_on_literals
query_of_two_indexes = refl

-- one alone may be standard input too
query_of_standard_input_alone : asked_of (query_line (codes "aa" ∷ codes "-" ∷ []))
    ≡ asks_of_aa [] (Some (codes "-"))
unfolding clap_on_literals
query_of_standard_input_alone = refl

query_of_indexes_with_options : asked_of (query_line
    (codes "--why" ∷ codes "aa" ∷ codes "x" ∷ codes "--installed" ∷ codes "y"
    ∷ codes "--spelled" ∷ codes "--profiles=a,b" ∷ []))
    ≡ Some (asks (wants (queries_over (record {
      arch = codes "amd64";
      profiles = codes "a" ∷ codes "b" ∷ [];
      relation = of_text (codes "aa");
      members = members.Installed;
      detail = Reasons;
      versions = Spelled;
      indexes = codes "x" ∷ codes "y" ∷ [];
    }))))
unfolding clap_on_literals
query_of_indexes_with_options = refl

-- with a relation from a file all words are indexes
query_of_a_file_over_indexes : map (λ words. asked_of (query_line words))
    ((codes "--relation-from" ∷ codes "f" ∷ codes "x" ∷ codes "y" ∷ [])
    ∷ (codes "x" ∷ codes "y" ∷ codes "x" ∷ codes "--relation-from=-" ∷ [])
    ∷ (codes "--relation-from=f" ∷ codes "-" ∷ codes "y" ∷ []) ∷ [])
    ≡ asks_over (of_file (codes "f")) (codes "x" ∷ codes "y" ∷ [])
    ∷ asks_over (of_file (codes "-")) (codes "x" ∷ codes "y" ∷ codes "x" ∷ [])
    ∷ asks_over (of_file (codes "f")) (codes "-" ∷ codes "y" ∷ []) ∷ []
unfolding clap_on_literals
query_of_a_file_over_indexes = refl

standard_input_for_two_files : map (λ words. asked_of (query_line words))
    ((codes "aa" ∷ codes "-" ∷ codes "-" ∷ [])
    ∷ (codes "aa" ∷ codes "-" ∷ codes "x" ∷ codes "-" ∷ [])
    ∷ (codes "--relation-from=f" ∷ codes "-" ∷ codes "-" ∷ [])
    ∷ (codes "--relation-from=-" ∷ codes "x" ∷ codes "-" ∷ []) ∷ [])
    ≡ Some standard_input_twice ∷ Some standard_input_twice ∷ Some standard_input_twice
    ∷ Some standard_input_twice ∷ []
unfolding clap_on_literals
standard_input_for_two_files = refl

-- ---- words that `clap` refuses

missing_architecture : fault_of debctl_app
    (codes "debctl" ∷ codes "query" ∷ codes "aa" ∷ [])
    ≡ kind.MissingRequiredArgument ∷ []
unfolding clap_on_literals
missing_architecture = refl

relation_file_twice : fault_of debctl_app
    (query_line (codes "--relation-from=x" ∷ codes "--relation-from=x" ∷ []))
    ≡ kind.ArgumentConflict ∷ []
unfolding clap_on_literals
relation_file_twice = refl

architecture_twice : fault_of debctl_app
    (query_line (codes "--arch" ∷ codes "i386" ∷ codes "aa" ∷ []))
    ≡ kind.ArgumentConflict ∷ []
unfolding clap_on_literals
architecture_twice = refl
