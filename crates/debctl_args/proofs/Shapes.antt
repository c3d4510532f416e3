-- A command with one more argument, and the program with one more command, is what `clap` reads so; and so are those
-- that a walk over the rows has made so far.
use Rattle.std.proofs.Common.{◌≡◌, ◌∙◌, ◌<◌, ◌+◌, ◌++◌, ◌∷◌, ◌||◌, ℕ, IfOk, List, [], Result, Ok, Err, false, ap, ap₂, append_assoc, get_or, length, map, refl, subst, sym, take}
use Rattle.std.proofs.lemmas.List.{map-append, take_more}
use Rattle.clap.specs.Built.{AddsArg, AddsSubcommand}
use Rattle.clap.specs.Simple.{App, Shape, with_rule, with_subcommand}
use Rattle.clap.specs.Walk.{Rule, Text, rule_of}
use Rattle.clap.specs.declared.builder.arg.Arg.{Arg}
use Rattle.clap.specs.declared.builder.command.Command.{Command}
use Rattle.debctl_args.specs.Commands.{CommandRow, app_of_row, app_with, debctl_app, file_commands, package_commands, program_of, program_with, row_in, rule_in, IsShaped}
use Rattle.debctl_args.specs.declared.options.Argument.{Argument}
use Rattle.debctl_args.specs.declared.rows.Row.{Row}

shaped_with_rule : (above : App) (rule : Rule) (old new : Command) (added : Arg) → IsShaped above old → rule_of added ≡ rule → added.global ≡ false → AddsArg old added new → IsShaped (with_rule above rule) new
shaped_with_rule above rule old new added was is local adds = record {
  is = adds.shape local ∙ ap₂ with_rule was.is is;
  local = adds.globals ∙ ap₂ (λ x y. x || y) was.local local;
}

shaped_with : (above below : App) (old added new : Command) → IsShaped above old → IsShaped below added → AddsSubcommand old added new → IsShaped (with_subcommand above below.top) new
shaped_with above below old added new was is adds = record {
  is = adds.shape is.local ∙ ap₂ with_subcommand was.is (ap (λ (a : App). a.top) is.is);
  local = adds.globals ∙ ap₂ (λ x y. x || y) was.local is.local;
}

-- what is made of one more of some things
one_more : {X Y : Type 0} (f : X → Y) (xs : List X) (i : ℕ) (d : X) → i < length xs → map f (take (i + 1) xs) ≡ map f (take i xs) ++ f (get_or xs i d) ∷ []
one_more f xs i d within = ap (map f) (take_more xs i d within) ∙ map-append f (take i xs) (get_or xs i d ∷ [])

-- the arguments of a command up to this one
pub shaped_argument : (name : Text) (arguments : List Argument) (i : ℕ) (d : Argument) (old new : Command) (added : Arg) → i < length arguments → IsShaped (app_with name (map rule_in (take i arguments))) old
    → rule_of added ≡ rule_in (get_or arguments i d) → added.global ≡ false → AddsArg old added new → IsShaped (app_with name (map rule_in (take (i + 1) arguments))) new
shaped_argument name arguments i d old new added within was is local adds =
    subst (λ rules. IsShaped (app_with name rules) new) (sym (one_more rule_in arguments i d within)) (shaped_with_rule _ (rule_in (get_or arguments i d)) old new added was is local adds)

-- the program with one more command has commands
program_more : (commands : List Shape) (more : Shape) → with_subcommand (program_with commands) more ≡ program_with (commands ++ more ∷ [])
program_more [] more = refl
program_more (command ∷ commands) more = refl

-- the program with the commands of the rows up to this one
pub shaped_command : (before : List CommandRow) (rows : List Row) (i : ℕ) (d : Row) (old added new : Command) → i < length rows → IsShaped (program_of (before ++ map row_in (take i rows))) old
    → IsShaped (app_of_row (row_in (get_or rows i d))) added → AddsSubcommand old added new → IsShaped (program_of (before ++ map row_in (take (i + 1) rows))) new
shaped_command before rows i d old added new within was is adds =
    let top : CommandRow → Shape = λ row. (app_of_row row).top in
    let last = row_in (get_or rows i d) in
    let so_far : List CommandRow = before ++ map row_in (take i rows) in
    let more : map top (before ++ map row_in (take (i + 1) rows)) ≡ map top so_far ++ top last ∷ [] =
    ap (λ rs. map top (before ++ rs)) (one_more row_in rows i d within) ∙ ap (map top) (sym (append_assoc before (map row_in (take i rows)) (last ∷ []))) ∙ map-append top so_far (last ∷ []) in
    let one = shaped_with _ (app_of_row last) old added new was is adds in
    subst (λ app. IsShaped app new) (program_more (map top so_far) (top last) ∙ ap program_with (sym more)) one

-- the program with the commands of both tables
pub shaped_program : {E : Type 0} (rows : List Row) (between : Command) (result : Result Command E) → map row_in rows ≡ package_commands → IsShaped (program_of file_commands) between
    → IfOk result (λ made. (before : List CommandRow) → IsShaped (program_of before) between → IsShaped (program_of (before ++ map row_in rows)) made) → IfOk result (IsShaped debctl_app)
shaped_program rows between (Ok made) is files extends = subst (λ more. IsShaped (program_of (file_commands ++ more)) made) is (extends file_commands files)
shaped_program rows between (Err error) is files extends = tt
