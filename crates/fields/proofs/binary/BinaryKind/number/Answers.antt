-- Bytes are places in base 256, and up to four make a field's number.
use Rattle.std.proofs.Common.{◌≡◌, length, ap, ◌∙◌, arith}
use Rattle.fields.specs.BigBytes.{each_from, four}
use Rattle.fields.specs.BinaryKinds.{taken_by}
use Rattle.fields.proofs.binary.BinaryKind.number.Goals as goal

pub value-requires-clause-held : goal.value-requires-clause-held
value-requires-clause-held c = each_from c.args.field.now (λ i. (c.type_inv.field i).fits)

pub value-requires-clause-few : goal.value-requires-clause-few
value-requires-clause-few c =
    let w = c.in-Unsigned.field-0 in
    let l : length c.args.field.now ≡ w.bytes = c.requires ∙ ap taken_by c.in-Unsigned.is in
    omega (arith, four (length c.args.field.now) (omega (arith, w.range.1)))

pub number-requires : goal.number-requires
number-requires c =
    let w = c.in-Unsigned.field-0 in
    let l : length c.args.field.now ≡ w.bytes = c.requires ∙ ap taken_by c.in-Unsigned.is in
    omega (arith, c.value.ensures.below, four (length c.args.field.now) (omega (arith, w.range.1)))

pub value-requires-in-Signed-clause-held : goal.value-requires-in-Signed-clause-held
value-requires-in-Signed-clause-held c = each_from c.args.field.now (λ i. (c.type_inv.field i).fits)

pub value-requires-in-Signed-clause-few : goal.value-requires-in-Signed-clause-few
value-requires-in-Signed-clause-few c =
    let w = c.in-Signed.width in
    let l : length c.args.field.now ≡ w.bytes = c.requires ∙ ap taken_by c.in-Signed.is in
    omega (arith, four (length c.args.field.now) (omega (arith, w.range.1)))
