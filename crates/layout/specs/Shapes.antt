-- What the numbers of a packed node say, and where they are out of order.
use Rattle.std.specs.Prelude.{◌≡◌, ℕ, ◌-◌, Bool, true, false, cond, not, ◌&&◌, ◌||◌, List, [], ◌∷◌, map, Some, None, Option, ◌==◌, nat_le, nat_lt}
use Rattle.std.specs.Option.{unwrap_or}
use Rattle.std.specs.List.{AllByRecursion}
use Rattle.fields.specs.Meanings.{Meaning}
use Rattle.fields.specs.declared.cause.Sort.{Sort}
use Rattle.fields.specs.declared.cause.Sort.TheVariants.{Unknown, Numeric, Kept}
use Rattle.packed.specs.declared.record.NodeRecord.{NodeRecord}
use Rattle.layout.specs.declared.node.Relation.{Relation}
use Rattle.layout.specs.declared.node.Relation.TheVariants.{Equal, Unequal, Less, AtMost}
use Rattle.layout.specs.declared.node.Side.{Side}
use Rattle.layout.specs.declared.node.Side.TheVariants.{Column, Constant}
use Rattle.layout.specs.declared.node.Shape.{Shape}
use Rattle.layout.specs.declared.node.Shape.TheVariants.{Field, Mark, Sequence, Choice, Optional, Check}
use Rattle.layout.specs.declared.node.Node.{Node}
use Rattle.layout.specs.Links.{Arity, none, one, several, Link, is_set}
use Rattle.layout.specs.Trees.{some_number, child_number, next_number}

-- 1 equal, 2 unequal, 3 less, 4 at most; no other is accepted
abbrev pub relation_of : ℕ → Relation
relation_of k = cond (k == 1) Equal (cond (k == 2) Unequal (cond (k == 3) Less AtMost))

-- from 64 on a constant, counted from 0; below that a column
abbrev pub side_of : ℕ → Side
side_of p = cond (nat_le 64 p) (Constant (p - 64)) (Column p)

-- 1 field, 2 mark, 3 sequence, 4 choice, 5 option, 7 check; any other number is no shape
abbrev pub shape_of : NodeRecord → Option Shape
shape_of r =
    cond (r.shape == 1) (Some (Field (record { code = r.kind; parameter = r.parameter }) (some_number r.column)))
    (cond (r.shape == 2) (Some (Mark r.parameter))
    (cond (r.shape == 3) (Some (Sequence r.child))
    (cond (r.shape == 4) (Some (Choice r.child))
    (cond (r.shape == 5) (Some (Optional r.child))
    (cond (r.shape == 7) (Some (Check (relation_of r.kind) r.column (side_of r.parameter))) None)))))

-- the node of a record; a record without a shape is not accepted, and stands for a blank mark
abbrev pub node_of : NodeRecord → Node
node_of r = record { shape = unwrap_or (shape_of r) (Mark 0); next = some_number r.next }

-- a number that names no node, since nodes count from 1
abbrev pub names_none : Option ℕ → Bool
names_none None = false
names_none (Some n) = n == 0

-- one of these numbers is not zero
abbrev pub any_set : List ℕ → Bool
any_set [] = false
any_set (n ∷ ns) = is_set n || any_set ns

-- the shape is unknown, or a number that it does not name is not zero, the closing bits among them
abbrev pub stray_by : Option Shape → NodeRecord → Bool
stray_by None r = true
stray_by (Some (Field kind column)) r = any_set (r.child ∷ r.rest ∷ [])
stray_by (Some (Mark byte)) r = any_set (r.kind ∷ r.column ∷ r.child ∷ r.rest ∷ [])
stray_by (Some (Sequence child)) r = any_set (r.kind ∷ r.parameter ∷ r.column ∷ r.rest ∷ [])
stray_by (Some (Choice child)) r = any_set (r.kind ∷ r.parameter ∷ r.column ∷ r.rest ∷ [])
stray_by (Some (Optional child)) r = any_set (r.kind ∷ r.parameter ∷ r.column ∷ r.rest ∷ [])
stray_by (Some (Check relation left right)) r = any_set (r.child ∷ r.rest ∷ [])

abbrev pub stray : NodeRecord → Bool
stray r = stray_by (shape_of r) r

abbrev pub arity_of : Shape → Arity
arity_of (Field kind column) = none
arity_of (Mark byte) = none
arity_of (Sequence child) = several
arity_of (Choice child) = several
arity_of (Optional child) = one
arity_of (Check relation left right) = none

-- how a node hangs in its table
abbrev pub link_of : Node → Link
link_of n = record { arity = arity_of n.shape; child = child_number n.shape; next = next_number n }

-- the same of a record, whatever its shape
abbrev pub link_in : NodeRecord → Link
link_in r = record { arity = arity_of (node_of r).shape; child = r.child; next = r.next }

abbrev pub links : List Node → List Link
links ns = map link_of ns

abbrev pub links_in : List NodeRecord → List Link
links_in rs = map link_in rs

abbrev pub is_unknown : Sort → Bool
is_unknown Unknown = true
is_unknown Numeric = false
is_unknown Kept = false

-- what a family makes of each kind with its parameter, where `means` is what the family means
abbrev pub sorts : (ℕ → ℕ → Meaning) → ℕ → ℕ → Sort
sorts means kind parameter = (means kind parameter).sort

-- a field whose kind with its parameter is unknown
abbrev pub unknown_by : (ℕ → ℕ → Sort) → Option Shape → Bool
unknown_by sorts None = false
unknown_by sorts (Some (Field kind column)) = is_unknown (sorts kind.code kind.parameter)
unknown_by sorts (Some (Mark byte)) = false
unknown_by sorts (Some (Sequence child)) = false
unknown_by sorts (Some (Choice child)) = false
unknown_by sorts (Some (Optional child)) = false
unknown_by sorts (Some (Check relation left right)) = false

abbrev pub unknown : (ℕ → ℕ → Sort) → NodeRecord → Bool
unknown sorts r = unknown_by sorts (shape_of r)

abbrev pub within : ℕ → ℕ → ℕ → Bool
within low high n = nat_le low n && nat_le n high

-- a right side: a column, or one of k constants, written from 64 on
abbrev pub is_side : ℕ → ℕ → ℕ → Bool
is_side columns k p = within 1 columns p || (within 64 127 p && nat_lt (p - 64) k)

-- a field's column, which may be 0; a check's relation, its left column and its right side
abbrev pub outside_by : ℕ → ℕ → Option Shape → NodeRecord → Bool
outside_by columns k None r = false
outside_by columns k (Some (Field kind column)) r = nat_lt columns r.column
outside_by columns k (Some (Mark byte)) r = false
outside_by columns k (Some (Sequence child)) r = false
outside_by columns k (Some (Choice child)) r = false
outside_by columns k (Some (Optional child)) r = false
outside_by columns k (Some (Check relation left right)) r =
    not (within 1 4 r.kind) || (not (within 1 columns r.column) || not (is_side columns k r.parameter))

abbrev pub outside : ℕ → ℕ → NodeRecord → Bool
outside columns k r = outside_by columns k (shape_of r) r

-- the same of a node: a field's column, a check's left column and its right side
abbrev pub misplaced_column : ℕ → Option ℕ → Bool
misplaced_column columns None = false
misplaced_column columns (Some c) = not (within 1 columns c)

abbrev pub misplaced_side : ℕ → ℕ → Side → Bool
misplaced_side columns k (Column c) = not (within 1 columns c)
misplaced_side columns k (Constant c) = not (nat_lt c k)

abbrev pub misplaced : ℕ → ℕ → Shape → Bool
misplaced columns k (Field kind column) = misplaced_column columns column
misplaced columns k (Mark byte) = false
misplaced columns k (Sequence child) = false
misplaced columns k (Choice child) = false
misplaced columns k (Optional child) = false
misplaced columns k (Check relation left right) = not (within 1 columns left) || misplaced_side columns k right

-- a field's kind with its parameter is not unknown; other shapes have no kind
abbrev pub KnownShape : (ℕ → ℕ → Sort) → Shape → Type 0
KnownShape sorts (Field kind column) = sorts kind.code kind.parameter ≡ Unknown → ⊥
KnownShape sorts (Mark byte) = Unit {0}
KnownShape sorts (Sequence child) = Unit {0}
KnownShape sorts (Choice child) = Unit {0}
KnownShape sorts (Optional child) = Unit {0}
KnownShape sorts (Check relation left right) = Unit {0}

-- every kind in the table is known
abbrev pub Known : (ℕ → ℕ → Sort) → List Node → Type 0
Known sorts ns = AllByRecursion (λ n. KnownShape sorts n.shape) ns
