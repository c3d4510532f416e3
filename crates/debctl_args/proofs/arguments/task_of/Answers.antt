use Rattle.std.proofs.Common.{◌≡◌, List, Option, Some, None, option_map, rules, subst, sym}
use Rattle.std.specs.Prelude.{Box}
use Rattle.std.specs.Box.{box_value}
use Rattle.clap.specs.Simple.{subcommand_rows, subcommand_rows_of}
use Rattle.clap.specs.Walk.{Row, Text}
use Rattle.clap.specs.Words.{found_of, rows_of, subcommand_name_of}
use Rattle.clap.specs.declared.parser.matches.ArgMatches.TheViews.{out-ArgMatches, out-SubCommand}
use Rattle.clap.specs.declared.parser.matches.SubCommand.{SubCommand}
use Rattle.debctl_args.specs.Asked.{asked_in}
use Rattle.debctl_args.specs.Fitting.{AnswersMet}
use Rattle.debctl_args.proofs.arguments.task_of.Goals as goal

-- the name and the rows of a command that was met are those two that were told
met_is : {Z : Type 0} (met : Option (Box SubCommand Z)) (name : Text) (rows : List Row) → Some name ≡ option_map (λ b. (out-SubCommand (box_value b)).name.now) met
    → Some rows ≡ option_map (λ p. p.1) (subcommand_rows met) → subcommand_rows met ≡ Some (name, rows)
met_is None name rows is_name is_rows = cc
met_is (Some b) name rows is_name is_rows = cc

pub returns : goal.returns
returns c =
    let is_name : Some c.in-Some.name.now ≡ subcommand_name_of c.args.matches.now = search rules in
    let is_rows : Some (rows_of (found_of c.in-Some.found.now)) ≡ option_map (λ p. p.1) (subcommand_rows_of c.args.matches.now) = search rules in
    let met = met_is (out-ArgMatches c.args.matches.now).subcommand c.in-Some.name.now (rows_of (found_of c.in-Some.found.now)) is_name is_rows in
    subst (λ m. AnswersMet (asked_in m) c.task_by.result) (sym met) c.task_by.ensures
