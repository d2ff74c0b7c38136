use Rattle.std.proofs.Common.{◌≡◌, length, rules}
use Rattle.bank_format.proofs.FieldNameLaws.{field_names}
use Rattle.bank_format.proofs.names.name_of.Goals as goal

pub unwrap-requires : goal.unwrap-requires
unwrap-requires c =
    let size : length c.args.field.now ≡ 20 = search rules in
    field_names c.args.field.now c.from_bytes.result size (rw c.before_zero.ensures at c.from_bytes.ensures.too_long)
    (rw c.before_zero.ensures at c.from_bytes.ensures.zero_byte)
