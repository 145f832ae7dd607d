-- Packing and unpacking nodes are inverse.
use Rattle.std.proofs.Common.{◌≡◌, ℕ, true, List, length, Some, None, sym, refl, ap, ◌∙◌, mod-eq_of_lt}
use Rattle.std.proofs.lemmas.Bool.{cond-true}
use Rattle.std.proofs.lemmas.Option.{cond_some}
use Rattle.fields.specs.Laws.{Bytes}
use Rattle.packed.specs.declared.record.NodeRecord.{NodeRecord}
use Rattle.packed.specs.Octets.{big, octets}
use Rattle.packed.specs.BitFields.{split, joined, fitting}
use Rattle.packed.specs.NodeForm.{widths, fields_of, of_fields, unpacked, packed, PackLaws}
use Rattle.packed.proofs.EightBytes.{big_below, big_octets, octets_big}
use Rattle.packed.proofs.FieldLaws.{joined_below, split_joined, fitting_split, joined_split}

-- the fields that bytes say fit their bits
pub unpacked_fits : (bytes : List ℕ) → fitting widths (fields_of (unpacked bytes)) ≡ true
unpacked_fits bytes = fitting_split widths (big bytes)

repacked : (bytes : List ℕ) → Bytes bytes → length bytes ≡ 8 → packed (unpacked bytes) ≡ Some bytes
repacked bytes h e =
    let n = big bytes in
    cond-true (fitting widths (split widths n)) (Some (octets (joined widths (split widths n)))) None (fitting_split widths n)
    ∙ ap (λ m. Some (octets m)) (joined_split widths n ∙ mod-eq_of_lt (big_below bytes h e))
    ∙ ap Some (octets_big bytes h e)

restored : (r : NodeRecord) (bytes : List ℕ) → packed r ≡ Some bytes → unpacked bytes ≡ r
restored r bytes h =
    let fs = fields_of r in
    let t = cond_some (fitting widths fs) (octets (joined widths fs)) bytes h in
    let n : big bytes ≡ joined widths fs = ap big (sym t.1) ∙ big_octets (joined widths fs) (joined_below widths fs t.0) in
    ap (λ m. of_fields (split widths m)) n ∙ ap of_fields (split_joined widths fs refl t.0)

pub pack_laws : PackLaws
pack_laws = record { repacked = repacked; restored = restored }
