use Rattle.std.proofs.Common.{ℕ, leb, cond, bit_and, bit_or, refl}
use Rattle.std.proofs.lemmas.Simd.{zip2_splat, zip2_of_maps, splat_is_map, length-chunk}
use lib.Lanes.{chunk}
use Rattle.deb_base.specs.PackageNames.{is_package_byte}
use Rattle.deb_relation.proofs.NameRuns.{lanes_run}
use Rattle.deb_relation.proofs.name_run.front_len.Goals as goal

pub returns : goal.returns
returns c =
    let v = chunk 0 16 c.args.text.now in
    let long = length-chunk 0 16 c.args.text.now c.requires in
    let least : ℕ → ℕ → ℕ = λ a b. cond (leb a b) 255 0 in
    let no_letter = zip2_of_maps least _ _ v (splat_is_map v 16 26 long) (zip2_splat {Y = ℕ} _ v 16 97 long) in
    let no_digit = zip2_of_maps least _ _ v (splat_is_map v 16 13 long) (zip2_splat {Y = ℕ} _ v 16 45 long) in
    lanes_run is_package_byte c.args.text.now _ _ c.requires c.type_inv.text c.first_set.ensures _
    (zip2_of_maps bit_and _ _ v (zip2_of_maps bit_and _ _ v no_letter (zip2_of_maps bit_or _ _ v no_digit (zip2_splat {Y = ℕ} _ v 16 47 long))) (zip2_splat {Y = ℕ} _ v 16 43 long)) refl
