-- What loading a layout file says and leaves.
use Rattle.std.specs.Prelude.{◌≡◌, ℕ, List, ℤ, Ok, Err, Result, vec_capacity}
use Rattle.fields.specs.declared.cause.Sort.{Sort}
use Rattle.layout.specs.declared.node.Node.{Node}
use Rattle.layout.specs.declared.refusal.Refusal.{Refusal}
use Rattle.layout.specs.declared.refusal.Refusal.TheVariants.{Size, Bits, Links, Stranded, Kind, Range, Depth}
use Rattle.layout.specs.declared.table.Layout.{Layout}
use Rattle.layout.specs.Links.{Depths, Shallow, Deep}
use Rattle.layout.specs.Shapes.{links_in, Known}
use Rattle.layout.specs.Files.{records_in, nodes_in, constants_in}

-- an accepted file: the table is the one that its bytes stand for, and the family knows its kinds
pub record Loaded (sorts : ℕ → ℕ → Sort) (bytes : List ℕ) (nodes : List Node) (constants : List ℤ) : Type 0 where
  pub nodes_are : nodes ≡ nodes_in bytes
  pub constants_are : constants ≡ constants_in bytes
  pub known : Known sorts nodes

-- the memory of a table is that of before
abbrev pub RoomStays : Layout → Layout → Type 0
RoomStays old new = (vec_capacity new.nodes ≡ vec_capacity old.nodes) × (vec_capacity new.constants ≡ vec_capacity old.constants)

-- the refusal of the depth, among files that meet no earlier one: exactly where some node lies deeper than 16
abbrev pub DepthTold : List ℕ → Result (Unit {0}) Refusal → Type 0
DepthTold bytes (Ok _) = Depths (links_in (records_in bytes)) × Shallow 16 (links_in (records_in bytes))
DepthTold bytes (Err Size) = Unit {0}
DepthTold bytes (Err Bits) = Unit {0}
DepthTold bytes (Err Links) = Unit {0}
DepthTold bytes (Err Stranded) = Unit {0}
DepthTold bytes (Err Kind) = Unit {0}
DepthTold bytes (Err Range) = Unit {0}
DepthTold bytes (Err Depth) = Depths (links_in (records_in bytes)) × Deep 16 (links_in (records_in bytes))
