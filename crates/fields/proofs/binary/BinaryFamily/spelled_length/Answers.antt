-- A number of a fixed count of bytes.
use Rattle.std.proofs.Common.{◌^◌, length, Some, unsigned_abs, sym, ap, ◌∙◌}
use Rattle.fields.specs.BigBytes.{length_octets}
use Rattle.fields.specs.BinaryKinds.{means_as}
use Rattle.fields.specs.Octets.{of_twos}
use Rattle.fields.proofs.binary.BinaryFamily.spelled_length.Goals as goal

pub returns-in-Some-Unsigned : goal.returns-in-Some-Unsigned
returns-in-Some-Unsigned c =
    let i = c.in-Some-Unsigned in
    let z = c.args.number in
    c.from.ensures
    ∙ sym (length_octets i.width.bytes (unsigned_abs z))
    ∙ sym (ap (λ k. length ((means_as (Some k)).spells z)) i.field-0-is)
    ∙ sym (ap (λ k. length ((means_as k).spells z)) i.is)
    ∙ ap (λ m. length (m.spells z)) c.of.ensures.means

pub returns-in-Some-Signed : goal.returns-in-Some-Signed
returns-in-Some-Signed c =
    let i = c.in-Some-Signed in
    let z = c.args.number in
    c.from-in-Some-Signed.ensures
    ∙ sym (length_octets i.width.bytes (of_twos (256 ^ i.width.bytes) z))
    ∙ sym (ap (λ k. length ((means_as (Some k)).spells z)) i.field-0-is)
    ∙ sym (ap (λ k. length ((means_as k).spells z)) i.is)
    ∙ ap (λ m. length (m.spells z)) c.of.ensures.means
