-- Layouts whose kinds the family knows.
use Rattle.std.specs.Prelude.{ℕ, List}
use Rattle.fields.specs.Meanings.{Meaning}
use Rattle.layout.specs.declared.node.Shape.{Shape}
use Rattle.layout.specs.declared.node.Node.{Node}
use Rattle.layout.specs.Shapes as layouts

-- every kind in the table is known to a family that means this
abbrev pub Known : (ℕ → ℕ → Meaning) → List Node → Type 0
Known means nodes = layouts.Known (layouts.sorts means) nodes

abbrev pub KnownShape : (ℕ → ℕ → Meaning) → Shape → Type 0
KnownShape means s = layouts.KnownShape (layouts.sorts means) s
