-- The tree that a table of nodes stands for.
use Rattle.std.specs.Prelude.{◌≡◌, ℕ, zero, suc, ◌+◌, ◌-◌, ◌<◌, ◌≤◌, max, cond, List, [], ◌∷◌, ◌++◌, length, get_or, ℤ, pos, Some, None, Option, ◌==◌, slice_index_or}
use Rattle.std.specs.Option.{unwrap_or}
use Rattle.layout.specs.declared.node.Relation.{Relation}
use Rattle.layout.specs.declared.node.Side.{Side}
use Rattle.layout.specs.declared.node.Side.TheVariants.{Column, Constant}
use Rattle.layout.specs.declared.node.Shape.{Shape}
use Rattle.layout.specs.declared.node.Shape.TheVariants.{Field, Mark, Sequence, Choice, Optional, Check}
use Rattle.layout.specs.declared.node.Node.{Node}
use Rattle.layout.specs.declared.node.Entry.{Entry}
use Rattle.layout.specs.Links.{one_if}

-- the right side of a check: what stands in a column, or a number
pub data Operand : Type 0 where
  column_value : (column : ℕ) → Operand
  number : (value : ℤ) → Operand

-- A part is a node with what is below it; `node` is its number. An optional part has one part below it.
mutual
  pub data Part : Type 0 where
    field : (node kind parameter : ℕ) (column : Option ℕ) → Part
    mark : (node byte : ℕ) → Part
    check : (node : ℕ) (relation : Relation) (left : ℕ) (right : Operand) → Part
    sequence choice optional : (node : ℕ) → Parts → Part

  -- siblings in order
  pub data Parts : Type 0 where
    end : Parts
    ◌then◌ : Part → Parts → Parts

infixr 40 ◌then◌
-- the number of a node or a column where there is one: 0 is none
abbrev pub some_number : ℕ → Option ℕ
some_number n = cond (n == 0) None (Some n)

-- that number, and 0 for none
abbrev pub or_zero : Option ℕ → ℕ
or_zero o = unwrap_or o 0

-- a mark of byte 00 without a next
abbrev pub blank : Node
blank = record { shape = Mark 0; next = None }

-- node number i, from 1; past the table a blank mark, and 0 is taken for 1
abbrev pub node_at : List Node → ℕ → Node
node_at nodes i = get_or nodes (i - 1) blank

-- the first node below, of a shape that has parts
abbrev pub child_of : Shape → Option ℕ
child_of (Field kind column) = None
child_of (Mark byte) = None
child_of (Sequence child) = Some child
child_of (Choice child) = Some child
child_of (Optional child) = Some child
child_of (Check relation left right) = None

-- its number, and that of the following sibling, 0 for none
abbrev pub child_number : Shape → ℕ
child_number s = or_zero (child_of s)

abbrev pub next_number : Node → ℕ
next_number n = or_zero n.next

abbrev pub operand_of : List ℤ → Side → Operand
operand_of constants (Column c) = column_value c
operand_of constants (Constant k) = number (slice_index_or constants k (pos 0))

-- node i as a part, with the parts below it
abbrev pub part_of : List ℤ → ℕ → Shape → Parts → Part
part_of constants i (Field kind column) below = field i kind.code kind.parameter column
part_of constants i (Mark byte) below = mark i byte
part_of constants i (Sequence child) below = sequence i below
part_of constants i (Choice child) below = choice i below
part_of constants i (Optional child) below = optional i below
part_of constants i (Check relation left right) below = check i relation left (operand_of constants right)

-- node i and its later siblings, each with what is below it, to the depth and breadth that `fuel` allows
abbrev pub parts_in : List Node → List ℤ → ℕ → ℕ → Parts
parts_in nodes constants zero i = end
parts_in nodes constants (suc fuel) zero = end
parts_in nodes constants (suc fuel) (suc j) =
    let n = node_at nodes (suc j) in
    part_of constants (suc j) n.shape (parts_in nodes constants fuel (child_number n.shape)) then parts_in nodes constants fuel (next_number n)

-- links rise, so that the number of nodes is fuel enough
abbrev pub parts_at : List Node → List ℤ → ℕ → Parts
parts_at nodes constants i = parts_in nodes constants (suc (length nodes)) i

-- node i with what is below it, without its siblings
abbrev pub part_at : List Node → List ℤ → ℕ → Part
part_at nodes constants i = part_of constants i (node_at nodes i).shape (parts_at nodes constants (child_number (node_at nodes i).shape))

-- the tree of a table: its root
abbrev pub tree_of : List Node → List ℤ → Part
tree_of nodes constants = part_at nodes constants 1

-- Node i and its later siblings, each with what is below it, are these parts; 0 is no node.
pub data Stands (nodes : List Node) (constants : List ℤ) : ℕ → Parts → Type 0 where
  nothing : Stands nodes constants 0 end
  siblings : {i : ℕ} {below rest : Parts} → 0 < i → i ≤ length nodes → Stands nodes constants (child_number (node_at nodes i).shape) below → Stands nodes constants (next_number (node_at nodes i)) rest → Stands nodes constants i (part_of constants i (node_at nodes i).shape below then rest)

-- the numbers of the nodes, each before those below it
abbrev mutual
  pub numbers : Part → List ℕ
  numbers (field i kind parameter column) = i ∷ []
  numbers (mark i byte) = i ∷ []
  numbers (check i relation left right) = i ∷ []
  numbers (sequence i below) = i ∷ numbers_of below
  numbers (choice i below) = i ∷ numbers_of below
  numbers (optional i below) = i ∷ numbers_of below

  pub numbers_of : Parts → List ℕ
  numbers_of end = []
  numbers_of (q then qs) = numbers q ++ numbers_of qs

abbrev pub entry : ℕ → ℕ → Entry
entry i d = record { number = i; depth = d }

-- the nodes as they are read, each before those below it, with their depths; d is the depth of the part
abbrev mutual
  pub outline : ℕ → Part → List Entry
  outline d (field i kind parameter column) = entry i d ∷ []
  outline d (mark i byte) = entry i d ∷ []
  outline d (check i relation left right) = entry i d ∷ []
  outline d (sequence i below) = entry i d ∷ outline_of (d + 1) below
  outline d (choice i below) = entry i d ∷ outline_of (d + 1) below
  outline d (optional i below) = entry i d ∷ outline_of (d + 1) below

  pub outline_of : ℕ → Parts → List Entry
  outline_of d end = []
  outline_of d (q then qs) = outline d q ++ outline_of d qs

-- how many levels there are
abbrev mutual
  pub height : Part → ℕ
  height (field i kind parameter column) = 1
  height (mark i byte) = 1
  height (check i relation left right) = 1
  height (sequence i below) = 1 + height_of below
  height (choice i below) = 1 + height_of below
  height (optional i below) = 1 + height_of below

  pub height_of : Parts → ℕ
  height_of end = 0
  height_of (q then qs) = max (height q) (height_of qs)

abbrev pub SomePart : Parts → Type 0
SomePart end = ⊥
SomePart (q then qs) = Unit {0}

abbrev pub OnePart : Parts → Type 0
OnePart end = ⊥
OnePart (q then end) = Unit {0}
OnePart (q then (r then qs)) = ⊥

-- a sequence and a choice have parts, and an option has one
abbrev mutual
  pub Filled : Part → Type 0
  Filled (field i kind parameter column) = Unit {0}
  Filled (mark i byte) = Unit {0}
  Filled (check i relation left right) = Unit {0}
  Filled (sequence i below) = SomePart below × AllFilled below
  Filled (choice i below) = SomePart below × AllFilled below
  Filled (optional i below) = OnePart below × AllFilled below

  pub AllFilled : Parts → Type 0
  AllFilled end = Unit {0}
  AllFilled (q then qs) = Filled q × AllFilled qs

-- how often k stands in a list
abbrev pub times : ℕ → List ℕ → ℕ
times k [] = 0
times k (x ∷ xs) = one_if (x == k) + times k xs

-- A table stands for one tree and no other. Each node occurs in it exactly once, and nothing else does; its levels are no more than `most`.
pub record TreeOf (most : ℕ) (nodes : List Node) (constants : List ℤ) : Type 0 where
  pub stands : Stands nodes constants 1 (tree_of nodes constants then end)
  pub alone : (ps : Parts) → Stands nodes constants 1 ps → ps ≡ (tree_of nodes constants then end)
  pub once : (k : ℕ) → 1 ≤ k → k ≤ length nodes → times k (numbers (tree_of nodes constants)) ≡ 1
  pub below : times 0 (numbers (tree_of nodes constants)) ≡ 0
  pub above : (k : ℕ) → length nodes < k → times k (numbers (tree_of nodes constants)) ≡ 0
  pub shallow : height (tree_of nodes constants) ≤ most
  pub filled : Filled (tree_of nodes constants)
