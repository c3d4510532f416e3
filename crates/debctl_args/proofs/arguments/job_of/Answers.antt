use Rattle.std.proofs.Common.{◌≡◌, ◌∙◌, ap, map, [], string_bytes, sym, subst}
use Rattle.clap.specs.Simple.{app_of, is_simple}
use Rattle.clap.specs.Faults.{fault_of, is_simple_and_free}
use Rattle.clap.specs.Kinds.{HasKind}
use Rattle.clap.specs.Takes.{takes}
use Rattle.clap.specs.Words.{kind_of, subcommand_rows_of}
use Rattle.debctl_args.specs.Asked.{asked_of}
use Rattle.debctl_args.specs.Commands.{debctl_app}
use Rattle.debctl_args.proofs.Answering.{is_simple_app, is_free_app, is_taken, taken_means, words_are_answered, task_is_asked, asked_is_met, on_any_task, app_unmixed, kind_means, memory_is_reported}
use Rattle.debctl_args.proofs.arguments.job_of.Goals as goal

pub returns-in-Ok-clause-faultless : goal.returns-in-Ok-clause-faultless
returns-in-Ok-clause-faultless c =
    let is : app_of c.in_ok-command.command ≡ debctl_app = c.in_ok-command.ensures.is in
    on_any_task c.task_of.result _ (ap (λ a. fault_of a (map string_bytes c.args.words.now)) (sym is) ∙ c.in-Ok.ensures.kinds (ap is_simple_and_free is ∙ is_free_app))

pub returns-in-Ok-clause-clap_takes : goal.returns-in-Ok-clause-clap_takes
returns-in-Ok-clause-clap_takes c =
    let is : app_of c.in_ok-command.command ≡ debctl_app = c.in_ok-command.ensures.is in
    on_any_task c.task_of.result _ (is_taken (map string_bytes c.args.words.now) (ap (λ a. fault_of a (map string_bytes c.args.words.now)) (sym is) ∙ c.in-Ok.ensures.kinds (ap is_simple_and_free is ∙ is_free_app)))

pub returns-in-Ok-clause-refused : goal.returns-in-Ok-clause-refused
returns-in-Ok-clause-refused c =
    let is : app_of c.in_ok-command.command ≡ debctl_app = c.in_ok-command.ensures.is in
    let none : fault_of debctl_app (map string_bytes c.args.words.now) ≡ [] = ap (λ a. fault_of a (map string_bytes c.args.words.now)) (sym is) ∙ c.in-Ok.ensures.kinds (ap is_simple_and_free is ∙ is_free_app) in
    taken_means _ _ c.task_of.result none (words_are_answered (app_of c.in_ok-command.command) (map string_bytes c.args.words.now) (subcommand_rows_of c.in-Ok.matches) c.task_of.result is (c.in-Ok.ensures.matches (ap is_simple is ∙ is_simple_app)).1 c.task_of.ensures)

pub returns-in-Ok-clause-ok : goal.returns-in-Ok-clause-ok
returns-in-Ok-clause-ok c =
    let is : app_of c.in_ok-command.command ≡ debctl_app = c.in_ok-command.ensures.is in
    task_is_asked (asked_of (map string_bytes c.args.words.now)) c.task_of.result (words_are_answered (app_of c.in_ok-command.command) (map string_bytes c.args.words.now) (subcommand_rows_of c.in-Ok.matches) c.task_of.result is (c.in-Ok.ensures.matches (ap is_simple is ∙ is_simple_app)).1 c.task_of.ensures)

pub returns-in-Ok-clause-accepted : goal.returns-in-Ok-clause-accepted
returns-in-Ok-clause-accepted c taken request asked =
    let is : app_of c.in_ok-command.command ≡ debctl_app = c.in_ok-command.ensures.is in
    asked_is_met (asked_of (map string_bytes c.args.words.now)) request c.task_of.result (words_are_answered (app_of c.in_ok-command.command) (map string_bytes c.args.words.now) (subcommand_rows_of c.in-Ok.matches) c.task_of.result is (c.in-Ok.ensures.matches (ap is_simple is ∙ is_simple_app)).1 c.task_of.ensures) asked

pub returns-clause-refused : goal.returns-clause-refused
returns-clause-refused c =
    let is : app_of c.in_ok-command.command ≡ debctl_app = c.in_ok-command.ensures.is in
    let has : HasKind (fault_of debctl_app (map string_bytes c.args.words.now)) c.in-Err.error = subst (λ a. HasKind (fault_of a (map string_bytes c.args.words.now)) c.in-Err.error) is (c.in-Err.ensures.kinds (ap is_simple_and_free is ∙ is_free_app)) in
    kind_means _ _ c.in-Err.error c.refusal_of.result (app_unmixed (map string_bytes c.args.words.now)) has c.refusal_of.ensures

pub returns-clause-accepted : goal.returns-clause-accepted
returns-clause-accepted c taken request asked =
    let is : app_of c.in_ok-command.command ≡ debctl_app = c.in_ok-command.ensures.is in
    memory_is_reported (kind_of c.in-Err.error) c.refusal_of.result c.refusal_of.ensures (c.in-Err.ensures.passes (ap (λ a. takes a (map string_bytes c.args.words.now)) is ∙ taken))
