-- Worked cases of what the jobs over indexes are asked and write: on arguments and an index of
-- several files that are written out.
use Rattle.std.specs.Prelude.{◌≡◌, [], ◌∷◌, map, None, String, codes, refl}
use Rattle.std.specs.Fmt.{digits}
use Rattle.std.specs.Str.{is_utf8, chars}
use Rattle.std.specs.declared.alloc.Global.{Global}
use lib.Utf8.{encode}
use Rattle.std.proofs.Common.{ap}
use Rattle.deb_base.specs.Literals.{string, vector}
use Rattle.deb_base.specs.declared.version_text.VersionText.{VersionText}
use Rattle.deb_base.specs.declared.version_text.VersionText.TheVariants.{Canonical, Spelled}
use Rattle.deb_relation.specs.Applying.{Environment}
use Rattle.deb_relation.specs.Meaning.{Relation}
use Rattle.deb_relation.specs.Texts.{group_text}
use Rattle.deb_index.specs.Alternatives.{alone}
use Rattle.deb_index.specs.Questions.{question}
use Rattle.deb_index.specs.Stores.{listed_in, spellings_in}
use Rattle.deb_index.specs.declared.index.Index.{Index}
use Rattle.deb_index.specs.declared.members.Members.TheVariants.{All, Installed}
use Rattle.deb_index.specs.declared.store.Store.{Store}
use Rattle.debctl_args.specs.declared.jobs.Dependents.TheVariants.{Source}
use Rattle.debctl_args.specs.declared.jobs.Detail.{Detail}
use Rattle.debctl_args.specs.declared.jobs.Detail.TheVariants.{Reasons, Verdicts}
use Rattle.debctl_args.specs.declared.jobs.Members.{Members as Asked}
use Rattle.debctl_args.specs.declared.jobs.Members.TheVariants as asked
use Rattle.debctl_args.specs.declared.jobs.QueryOver.{QueryOver}
use Rattle.debctl_args.specs.declared.jobs.RelationArgument.TheVariants.{From}
use Rattle.debctl_args.specs.declared.jobs.SourcesTried.TheVariants.{OfTarget}
use Rattle.debctl_args.specs.declared.jobs.Unmet.{Unmet}
use Rattle.debctl_commands.specs.QueryJob.{query_options}
use Rattle.debctl_commands.specs.QueryOver.{asked_over, index_text, members_over, options_over}
use Rattle.debctl_commands.specs.QueryOver.{paths_over, text_over}
use Rattle.debctl_commands.specs.UnmetJob.{members_given}

-- ---- the arguments

abbrev word : String Global
unfolding is_utf8 chars encode
word = string (codes "amd64") refl refl

abbrev other : String Global
unfolding is_utf8 chars encode
other = string (codes "b-") refl refl

-- a question over two indexes, with two profiles active
abbrev asked_for : Asked → Detail → VersionText → QueryOver
asked_for members detail versions =
    record {
      arch = word;
      profiles = vector (other ∷ word ∷ []) refl;
      relation = From other;
      members = members;
      detail = detail;
      versions = versions;
      indexes = vector (word ∷ other ∷ []) refl;
    }

question_over : asked_over (asked_for asked.All Verdicts Canonical) (codes "aa, ww")
    ≡ question (codes "amd64") (codes "b-" ∷ codes "amd64" ∷ []) (codes "aa, ww")
unfolding word other
question_over = refl

paths_of_indexes : paths_over (asked_for asked.All Verdicts Canonical)
    ≡ codes "amd64" ∷ codes "b-" ∷ []
unfolding word other
paths_of_indexes = refl

members_asked : map (λ members. members_over (asked_for members Verdicts Canonical))
    (asked.All ∷ asked.Installed ∷ [])
    ≡ All ∷ Installed ∷ []
members_asked = refl

options_asked : (options_over (asked_for asked.All Verdicts Spelled)
    ≡ record { detail = Verdicts; versions = Spelled })
    × (options_over (asked_for asked.All Reasons Canonical)
    ≡ record { detail = Reasons; versions = Canonical })
options_asked = (refl, refl)

abbrev unmet_of : Asked → Unmet
unmet_of members =
    record {
      arch = word;
      profiles = vector [] refl;
      all_for = None;
      members = members;
      dependents = Source OfTarget;
      versions = Spelled;
      without = vector [] refl;
      files = record { unless = None; indexes = vector (word ∷ []) refl; path = None };
    }

members_tried : map (λ members. members_given (unmet_of members))
    (asked.All ∷ asked.Installed ∷ [])
    ≡ All ∷ Installed ∷ []
members_tried = refl

-- ---- the report

-- two files: the first has no package and the second has ww, whose version it spells otherwise than
-- the canonical text does
abbrev two_files : Store
two_files =
    record {
      bytes = vector (codes "ww1.00:1.0all") refl;
      entries = vector [] refl;
      records = vector
          (record {
            start = 0;
            name_end = 2;
            version_end = 5;
            besides_end = 10;
            architecture_end = 13;
            first = 0;
            entries_end = 0;
            line = 1;
            multi_arch = None;
          } ∷ [])
          refl;
      files = vector (0 ∷ 1 ∷ []) refl;
    }

abbrev aa_and_ww : Relation
aa_and_ww = (alone (codes "aa") ∷ []) ∷ (alone (codes "ww") ∷ []) ∷ []

abbrev on_amd64 : Environment
on_amd64 = record { target = codes "amd64"; native = codes "amd64"; profiles = [] }

texts_of_index : (index : Index) → index.store ≡ two_files
    → map (λ options. index_text options index aa_and_ww on_amd64)
    (query_options Verdicts Canonical ∷ query_options Reasons Spelled ∷ [])
    ≡ codes "unmet aa\nmet ww\n 1 ww 1.0 all @2\n"
    ∷ codes "unmet aa\n aa: no package has this name\nmet ww\n 1 ww 0:1.0 all @2\n" ∷ []
unfolding digits group_text
texts_of_index index =
    ap (λ store. map
    (λ options. text_over options store.files.items (spellings_in store) (listed_in store)
    aa_and_ww on_amd64)
    (query_options Verdicts Canonical ∷ query_options Reasons Spelled ∷ []))
