-- From what the functions of the jobs report to what each job promises: their arguments are those of
-- the job.
use Rattle.std.proofs.Common.{◌≡◌, ℕ, List, map, Option, String, Vec, Global, refl, subst, sym, string_bytes}
use Rattle.std.specs.Prelude.{Bool, IsFalse}
use Rattle.deb_base.specs.declared.version_text.VersionText.{VersionText}
use Rattle.deb_index.specs.Questions.{Question, question}
use Rattle.debctl_commands.specs.JobDevices.{ReaderOfJob, WriterOfJob}
use Rattle.debctl_commands.specs.BuildJob.{AreRefusedSources, SourceWords, build_promise, can_be_asked}
use Rattle.debctl_commands.specs.DiffJob.{FindsChanges, form_asked}
use Rattle.debctl_commands.specs.Promises.{Ends, plain, sided, yes_or_no}
use Rattle.debctl_commands.specs.QueryFrom.{AreRefusedFrom, from_promise}
use Rattle.deb_index.specs.declared.members.Members.{Members as IndexMembers}
use Rattle.debctl_args.specs.declared.jobs.Members.{Members}
use Rattle.debctl_commands.specs.QueryJob.{AreRefused, QueriesFile, index_members, query_options}
use Rattle.debctl_commands.specs.Running.{IfRefusedRelation, IfRefusedWords, Reported, asked, asked_of_file, of_file, words_of_build}
use Rattle.debctl_commands.specs.declared.diff_job.DiffOptions.{DiffOptions}
use Rattle.debctl_commands.specs.declared.query_job.QueryOptions.{QueryOptions}
use Rattle.debctl_args.specs.declared.jobs.Detail.{Detail}
use Rattle.debctl_args.specs.declared.jobs.DiffDetail.{DiffDetail}
use Rattle.debctl_args.specs.declared.jobs.DiffKind.{DiffKind}
use Rattle.debctl_args.specs.declared.jobs.Job.{Job}
use Rattle.debctl_args.specs.declared.jobs.Job.TheVariants.{Buildable, Diff, Query, QueryFrom}
use Rattle.debctl_args.specs.declared.jobs.SourceKind.{SourceKind}
use Rattle.debctl_args.specs.declared.jobs.Terms.{Terms}

-- what is reported of a job is reported of an equal one
pub reported_as : {W E : Type 0} (job other : Job) → job ≡ other → (first second : ReaderOfJob) (out : WriterOfJob W) (err : WriterOfJob E) (status : ℕ) → Reported other first second out err status → Reported job first second out err status
reported_as job other is first second out err status reported = subst (λ (asked : Job). Reported asked first second out err status) (sym is) reported

-- the options of `diff` are those of its job
pub reported_diff : {W E : Type 0} (job : Job) (kind : DiffKind) (detail : DiffDetail) (versions : VersionText) → job ≡ Diff kind detail versions → (options : DiffOptions) → options ≡ record { kind = kind; form = form_asked detail versions }
    → (first second : ReaderOfJob) (out : WriterOfJob W) (err : WriterOfJob E) (status : ℕ) → Ends (sided yes_or_no (FindsChanges options.kind options.form)) first second out err status → Reported job first second out err status
reported_diff job kind detail versions is options options_are first second out err status reports =
    reported_as job (Diff kind detail versions) is first second out err status (subst (λ (given : DiffOptions). Ends (sided yes_or_no (FindsChanges given.kind given.form)) first second out err status) options_are reports)

-- the words of a query are those of its job
pub reported_query : {W E : Type 0} (job : Job) (arch : String Global) (profiles : Vec (String Global) Global) (relation : String Global) (members : Members) (detail : Detail) (versions : VersionText) → job ≡ Query arch profiles relation members detail versions
    → (target : List ℕ) (items : List (String Global)) (word : List ℕ) → target ≡ string_bytes arch → items ≡ profiles.items → word ≡ string_bytes relation → (chosen : IndexMembers) → chosen ≡ index_members members → (wanted : QueryOptions) → wanted ≡ query_options detail versions
    → (first second : ReaderOfJob) (out : WriterOfJob W) (err : WriterOfJob E) (status : ℕ) → Ends (plain yes_or_no (of_file (QueriesFile chosen wanted (question target (map string_bytes items) word)))) first second out err status → Reported job first second out err status
reported_query job arch profiles relation members detail versions is target items word target_is items_is word_is chosen chosen_is wanted wanted_is first second out err status reports =
    let question_is : question target (map string_bytes items) word ≡ asked arch profiles relation = rw (target_is, items_is, word_is) refl in
    reported_as job (Query arch profiles relation members detail versions) is first second out err status
    (subst (λ (q : Question). Ends (plain yes_or_no (of_file (QueriesFile (index_members members) (query_options detail versions) q))) first second out err status) question_is
    (subst (λ (options : QueryOptions). Ends (plain yes_or_no (of_file (QueriesFile (index_members members) options (question target (map string_bytes items) word)))) first second out err status) wanted_is
    (subst (λ (m : IndexMembers). Ends (plain yes_or_no (of_file (QueriesFile m wanted (question target (map string_bytes items) word)))) first second out err status) chosen_is reports)))

pub refused_words : (job : Job) (arch : String Global) (profiles : Vec (String Global) Global) (relation : String Global) (members : Members) (detail : Detail) (versions : VersionText) → job ≡ Query arch profiles relation members detail versions
    → (target : List ℕ) (items : List (String Global)) (word : List ℕ) → target ≡ string_bytes arch → items ≡ profiles.items → word ≡ string_bytes relation
    → (P : Type 0) → (AreRefused (question target (map string_bytes items) word) → P) → IfRefusedWords job P
refused_words job arch profiles relation members detail versions is target items word target_is items_is word_is P words =
    subst (λ (asked : Job). IfRefusedWords asked P) (sym is) (λ bad. words (rw (target_is, items_is, word_is) bad))

-- what is said of the question that words ask about the relation of a file is said of that of the job
of_words : (P : (List ℕ → Question) → Type 0) (arch : String Global) (profiles : Vec (String Global) Global) (target : List ℕ) (items : List (String Global)) → target ≡ string_bytes arch → items ≡ profiles.items
    → P (λ relation. question target (map string_bytes items) relation) → P (asked_of_file arch profiles)
of_words P arch profiles target items target_is items_is p =
    subst (λ w. P (λ relation. question w (map string_bytes profiles.items) relation)) target_is (subst (λ l. P (λ relation. question target (map string_bytes l) relation)) items_is p)

module _ (job : Job) (arch : String Global) (profiles : Vec (String Global) Global) (members : Members) (detail : Detail) (versions : VersionText) (is : job ≡ QueryFrom arch profiles members detail versions) (target : List ℕ) (items : List (String Global)) (target_is : target ≡ string_bytes arch) (items_is : items ≡ profiles.items) where
  -- what a refused relation leaves
  pub unread_index : (left : Option (List ℕ)) (P : Type 0) → (AreRefusedFrom (λ relation. question target (map string_bytes items) relation) left → P) → IfRefusedRelation job left P
  unread_index left P then =
      subst (λ (asked : Job). IfRefusedRelation asked left P) (sym is) (of_words (λ ask. AreRefusedFrom ask left → P) arch profiles target items target_is items_is then)

  -- the answer, and its report
  pub reported_from : {W E : Type 0} (first second : ReaderOfJob) (out : WriterOfJob W) (err : WriterOfJob E) (status : ℕ) (chosen : IndexMembers) → chosen ≡ index_members members → (wanted : QueryOptions) → wanted ≡ query_options detail versions
      → Ends (from_promise chosen wanted (λ relation. question target (map string_bytes items) relation)) first second out err status → Reported job first second out err status
  reported_from first second out err status chosen chosen_is wanted wanted_is reports =
      subst (λ (asked : Job). Reported asked first second out err status) (sym is)
      (of_words (λ ask. Ends (from_promise (index_members members) (query_options detail versions) ask) first second out err status) arch profiles target items target_is items_is
      (subst (λ d. Ends (from_promise (index_members members) d (λ relation. question target (map string_bytes items) relation)) first second out err status) wanted_is
      (subst (λ m. Ends (from_promise m wanted (λ relation. question target (map string_bytes items) relation)) first second out err status) chosen_is reports)))

module _ (job : Job) (arch : String Global) (profiles : Vec (String Global) Global) (members : Members) (sources : SourceKind) (terms : Terms) (budget : ℕ) (reasons : Bool) (is : job ≡ Buildable arch profiles members sources terms budget reasons) (given : SourceWords) (given_is : given ≡ words_of_build arch profiles members sources terms reasons) where
  -- what refused words of `installable` on source packages leave, and what a refused index does
  pub build_unread_index : (P : Type 0) → (IsFalse (can_be_asked given) → P) → IfRefusedWords job P
  build_unread_index P then =
      subst (λ (asked : Job). IfRefusedWords asked P) (sym is) (subst (λ w. IsFalse (can_be_asked w) → P) given_is then)

  pub build_unread_file : (left : Option (List ℕ)) (P : Type 0) → (AreRefusedSources given left → P) → IfRefusedRelation job left P
  build_unread_file left P then =
      subst (λ (asked : Job). IfRefusedRelation asked left P) (sym is) (subst (λ w. AreRefusedSources w left → P) given_is then)

  -- the answer, and its report
  pub build_reported : {W E : Type 0} (first second : ReaderOfJob) (out : WriterOfJob W) (err : WriterOfJob E) (status : ℕ) → Ends (build_promise given) first second out err status → Reported job first second out err status
  build_reported first second out err status reports =
      subst (λ (asked : Job). Reported asked first second out err status) (sym is) (subst (λ w. Ends (build_promise w) first second out err status) given_is reports)
