use Rattle.std.proofs.Common.{◌<◌, length, arith}
use Rattle.deb_base.proofs.FieldLookups.{length_of_table}
use Rattle.deb_base.proofs.NearRows.{near_row}
use Rattle.deb_base.proofs.known_fields.row_near_front.Goals as goal

pub returns : goal.returns
returns c =
    let table = c.fields-2.result.now in
    let is = c.fields-2.ensures in
    let within : c.from-index.result < length table = omega (arith, c.if-index-fields.false, length_of_table table is, length_of_table c.fields.result.now c.fields.ensures) in
    near_row table is c.from-index.result _ within c.args.text.now c.same_len.result c.args.row c.from-index.ensures c.requires c.same_len.ensures.most c.if-same_len-len.false c.same_len.ensures.same
