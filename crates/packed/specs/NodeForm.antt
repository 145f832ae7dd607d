-- The packed form of a node: its fields side by side in the number that eight bytes make.
use Rattle.std.specs.Prelude.{◌≡◌, ℕ, cond, List, [], ◌∷◌, length, Some, None, Option, slice_index}
use Rattle.fields.specs.Laws.{Bytes}
use Rattle.packed.specs.declared.record.NodeRecord.{NodeRecord}
use Rattle.packed.specs.Octets.{big, octets}
use Rattle.packed.specs.BitFields.{split, joined, fitting}

-- the bits of shape, kind, parameter, column, child, next and rest
abbrev pub widths : List ℕ
widths = 4 ∷ 6 ∷ 8 ∷ 6 ∷ 8 ∷ 8 ∷ 24 ∷ []

-- a node's fields in that order, and the node that has them
abbrev pub fields_of : NodeRecord → List ℕ
fields_of r = r.shape ∷ r.kind ∷ r.parameter ∷ r.column ∷ r.child ∷ r.next ∷ r.rest ∷ []

abbrev pub of_fields : List ℕ → NodeRecord
of_fields fs = record {
  shape = slice_index fs 0;
  kind = slice_index fs 1;
  parameter = slice_index fs 2;
  column = slice_index fs 3;
  child = slice_index fs 4;
  next = slice_index fs 5;
  rest = slice_index fs 6;
}

-- the node that eight bytes say
abbrev pub unpacked : List ℕ → NodeRecord
unpacked bytes = of_fields (split widths (big bytes))

-- the eight bytes of a node, where every field fits its bits
abbrev pub packed : NodeRecord → Option (List ℕ)
packed r = cond (fitting widths (fields_of r)) (Some (octets (joined widths (fields_of r)))) None

-- packing and unpacking are inverse
pub record PackLaws : Type 0 where
  -- every eight bytes say a node that is packed into them again
  pub repacked : (bytes : List ℕ) → Bytes bytes → length bytes ≡ 8 → packed (unpacked bytes) ≡ Some bytes
  -- the bytes of a node say that node
  pub restored : (r : NodeRecord) (bytes : List ℕ) → packed r ≡ Some bytes → unpacked bytes ≡ r
