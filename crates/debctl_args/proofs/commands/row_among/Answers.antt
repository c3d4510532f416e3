use Rattle.std.proofs.Common.{◌≡◌, ◌∙◌, ◌||◌, Bool, Bor, List, [], ◌∷◌, Option, Some, None, ap, cond, false, is_some, map, option_map, refl, rules, tests, true}
use Rattle.std.specs.Prelude.{find}
use Rattle.std.specs.Str.{bytes_eq}
use Rattle.std.proofs.lemmas.Iterator.{YieldsList-from_slice}
use Rattle.std.proofs.lemmas.Iterator.Search.{find_from_yields_List}
use Rattle.clap.specs.Walk.{Text}
use Rattle.debctl_args.specs.Commands.{has_row, row_in}
use Rattle.debctl_args.specs.declared.rows.Row.{Row}
use Rattle.debctl_args.proofs.commands.row_among.Goals as goal

is_there : {X Y : Type 0} (f : X → Y) (found : Option X) → is_some found ≡ is_some (option_map f found)
is_there f None = refl
is_there f (Some x) = refl

found_is_there : (name : Text) (rows : List Row) → is_some (find (λ (row : Row). bytes_eq row.name.now name) rows) ≡ has_row name (map row_in rows)
found_is_there name [] = refl
found_is_there name (row ∷ rows) =
    elim (bytes_eq row.name.now name) as (λ t. is_some (cond t (Some row) (find (λ (r : Row). bytes_eq r.name.now name) rows)) ≡ (t || has_row name (map row_in rows))) [
      | true ↦ refl
      | false ↦ found_is_there name rows
    ]

pub returns : goal.returns
returns c =
    let test : Row → Bool = λ row. bytes_eq row.name.now c.args.name.now in
    is_there (λ (row : Bor Row). row.now) c.find.result
    ∙ ap is_some (find_from_yields_List test _ _ c.find.result c.find.ensures.ran (YieldsList-from_slice c.args.rows.now cc) (λ x b q k. search (rules, tests)))
    ∙ found_is_there c.args.name.now c.args.rows.now
