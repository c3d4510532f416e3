use Rattle.std.proofs.Common.{◌≡◌, ◌∙◌}
use Rattle.debctl_commands.proofs.JobReports.{refused_words, reported_diff, reported_from, reported_query, unread_index}
use Rattle.debctl_commands.proofs.command.run_in_detail.Goals as goal

pub returns-in-Diff-clause-reports_answer : goal.returns-in-Diff-clause-reports_answer
returns-in-Diff-clause-reports_answer g c =
    reported_diff c.args.job.now c.in-Diff.kind c.in-Diff.detail c.in-Diff.versions c.in-Diff.is c.diff_options-options.result c.diff_options-options.ensures _ _ _ _ c.run_diff.result c.run_diff.ensures.reports_answer

pub returns-in-Query-clause-reports_answer : goal.returns-in-Query-clause-reports_answer
returns-in-Query-clause-reports_answer g c =
    reported_query c.args.job.now c.in-Query.arch c.in-Query.profiles c.in-Query.relation c.in-Query.members c.in-Query.detail c.in-Query.versions c.in-Query.is c.query_words-words.result.target.now c.query_words-words.result.profiles.now c.as_bytes.result.now
    c.query_words-words.ensures.target (c.query_words-words.ensures.profiles ∙ c.deref.ensures.value) c.as_bytes.ensures.value c.query_words-words.result.members c.query_words-words.ensures.members c.query_words-words.result.options c.query_words-words.ensures.options _ _ _ _ c.run_query.result c.run_query.ensures.reports_answer

pub returns-in-Query-clause-first_untouched_if_refused : goal.returns-in-Query-clause-first_untouched_if_refused
returns-in-Query-clause-first_untouched_if_refused g c =
    refused_words c.args.job.now c.in-Query.arch c.in-Query.profiles c.in-Query.relation c.in-Query.members c.in-Query.detail c.in-Query.versions c.in-Query.is c.query_words-words.result.target.now c.query_words-words.result.profiles.now c.as_bytes.result.now
    c.query_words-words.ensures.target (c.query_words-words.ensures.profiles ∙ c.deref.ensures.value) c.as_bytes.ensures.value (c.run_query.new.first ≡ c.args.first.now) c.run_query.ensures.first_untouched_if_refused

pub returns-in-QueryFrom-clause-second_untouched_if_refused : goal.returns-in-QueryFrom-clause-second_untouched_if_refused
returns-in-QueryFrom-clause-second_untouched_if_refused g c =
    unread_index c.args.job.now c.in-QueryFrom.arch c.in-QueryFrom.profiles c.in-QueryFrom.members c.in-QueryFrom.detail c.in-QueryFrom.versions c.in-QueryFrom.is c.query_words-words-in-QueryFrom.result.target.now c.query_words-words-in-QueryFrom.result.profiles.now c.query_words-words-in-QueryFrom.ensures.target (c.query_words-words-in-QueryFrom.ensures.profiles ∙ c.deref-in-QueryFrom.ensures.value)
    (g.R.Source.left c.args.first.now) (c.run_query_from.new.second ≡ c.args.second.now) c.run_query_from.ensures.second_untouched_if_refused

pub returns-in-QueryFrom-clause-reports_answer : goal.returns-in-QueryFrom-clause-reports_answer
returns-in-QueryFrom-clause-reports_answer g c =
    reported_from c.args.job.now c.in-QueryFrom.arch c.in-QueryFrom.profiles c.in-QueryFrom.members c.in-QueryFrom.detail c.in-QueryFrom.versions c.in-QueryFrom.is c.query_words-words-in-QueryFrom.result.target.now c.query_words-words-in-QueryFrom.result.profiles.now c.query_words-words-in-QueryFrom.ensures.target (c.query_words-words-in-QueryFrom.ensures.profiles ∙ c.deref-in-QueryFrom.ensures.value)
    _ _ _ _ c.run_query_from.result c.query_words-words-in-QueryFrom.result.members c.query_words-words-in-QueryFrom.ensures.members c.query_words-words-in-QueryFrom.result.options c.query_words-words-in-QueryFrom.ensures.options c.run_query_from.ensures.reports_answer
