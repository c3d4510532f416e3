use Rattle.deb_syntax.proofs.Newlines.{counted}
use Rattle.std.proofs.Common.{◌==◌}
use Rattle.std.proofs.lemmas.Bool.{eqb-true}
use Rattle.std.proofs.lemmas.Simd.{run_in_chunk_fails, run_in_chunk_le, run_in_chunk_stops}
use Rattle.deb_syntax.proofs.newline.front_len.Goals as goal

pub returns-clause-most : goal.returns-clause-most
returns-clause-most c =
    run_in_chunk_le (λ b. b == 10) c.args.text.now c.args.at 32 _ 0 c.requires (counted c.args.text.now c.args.at _ c.requires c.first_set.ensures)

pub returns-clause-before : goal.returns-clause-before
returns-clause-before c =
    run_in_chunk_fails (λ b. b == 10) c.args.text.now c.args.at 32 _ 0 c.requires (counted c.args.text.now c.args.at _ c.requires c.first_set.ensures)

pub returns-clause-here : goal.returns-clause-here
returns-clause-here c short =
    eqb-true _ _ (run_in_chunk_stops (λ b. b == 10) c.args.text.now c.args.at 32 _ 0 c.requires (counted c.args.text.now c.args.at _ c.requires c.first_set.ensures) short)
