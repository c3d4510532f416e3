use Rattle.std.proofs.Common.{◌≡◌, ◌∙◌, ap, map, string_bytes}
use Rattle.deb_unmet.specs.declared.asked.Strength.TheVariants.{Depends}
use Rattle.debctl_commands.proofs.JobReports.{build_reported, build_unread_file, build_unread_index}
use Rattle.debctl_commands.specs.BuildJob.{kind_tried, source_words}
use Rattle.debctl_commands.specs.InstallJob.{terms_named}
use Rattle.debctl_commands.specs.QueryJob.{index_members}
use Rattle.debctl_commands.proofs.command.run_on_sources.Goals as goal

pub returns-clause-first_untouched_if_refused : goal.returns-clause-first_untouched_if_refused
returns-clause-first_untouched_if_refused g c =
    build_unread_index c.args.job.now c.in-Buildable.arch c.in-Buildable.profiles c.in-Buildable.members c.in-Buildable.sources c.in-Buildable.terms _ _ c.in-Buildable.is _
    (c.build_words-words.ensures ∙ ap (λ named. source_words (string_bytes c.in-Buildable.arch) (map string_bytes named) (index_members c.in-Buildable.members) (kind_tried c.in-Buildable.sources) (terms_named Depends c.in-Buildable.terms) c.in-Buildable.reasons) c.deref.ensures.value)
    (c.run_buildable.new.first ≡ c.args.first.now) c.run_buildable.ensures.first_untouched_if_refused

pub returns-clause-second_untouched_if_refused : goal.returns-clause-second_untouched_if_refused
returns-clause-second_untouched_if_refused g c =
    build_unread_file c.args.job.now c.in-Buildable.arch c.in-Buildable.profiles c.in-Buildable.members c.in-Buildable.sources c.in-Buildable.terms _ _ c.in-Buildable.is _
    (c.build_words-words.ensures ∙ ap (λ named. source_words (string_bytes c.in-Buildable.arch) (map string_bytes named) (index_members c.in-Buildable.members) (kind_tried c.in-Buildable.sources) (terms_named Depends c.in-Buildable.terms) c.in-Buildable.reasons) c.deref.ensures.value)
    (g.R.Source.left c.args.first.now) (c.run_buildable.new.second ≡ c.args.second.now) c.run_buildable.ensures.second_untouched_if_refused

pub returns-clause-reports_answer : goal.returns-clause-reports_answer
returns-clause-reports_answer g c =
    build_reported c.args.job.now c.in-Buildable.arch c.in-Buildable.profiles c.in-Buildable.members c.in-Buildable.sources c.in-Buildable.terms _ _ c.in-Buildable.is _
    (c.build_words-words.ensures ∙ ap (λ named. source_words (string_bytes c.in-Buildable.arch) (map string_bytes named) (index_members c.in-Buildable.members) (kind_tried c.in-Buildable.sources) (terms_named Depends c.in-Buildable.terms) c.in-Buildable.reasons) c.deref.ensures.value)
    _ _ _ _ c.run_buildable.result c.run_buildable.ensures.reports_answer
