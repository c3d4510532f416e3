use Rattle.std.proofs.Common.{ℕ, bit_or, refl}
use Rattle.std.proofs.lemmas.Simd.{zip2_splat, zip2_of_maps, length-chunk}
use lib.Lanes.{chunk}
use Rattle.deb_relation.proofs.NameRuns.{lanes_run}
use Rattle.deb_field.specs.WordCuts.{is_other}
use Rattle.deb_field.proofs.words.front_len.Goals as goal

pub returns : goal.returns
returns c =
    let v = chunk 0 16 c.args.text.now in
    let long = length-chunk 0 16 c.args.text.now c.requires in
    let space_or_newline = zip2_of_maps bit_or _ _ v (zip2_splat {Y = ℕ} _ v 16 32 long) (zip2_splat {Y = ℕ} _ v 16 10 long) in
    lanes_run is_other c.args.text.now _ _ c.requires c.type_inv.text c.first_set.ensures _
    (zip2_of_maps bit_or _ _ v space_or_newline (zip2_splat {Y = ℕ} _ v 16 9 long)) refl
