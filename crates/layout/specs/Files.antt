-- The layout file: a byte that counts the nodes, one that counts the constants, then the nodes and the constants of eight bytes each, and nothing else.
use Rattle.std.specs.Prelude.{◌≡◌, ℕ, ◌+◌, ◌*◌, ◌≤◌, Bool, false, not, ◌||◌, List, map, length, take, drop, ℤ, Some, None, Ok, Err, Option, Result, ◌==◌, nat_lt, slice_index}
use Rattle.fields.specs.declared.cause.Sort.{Sort}
use Rattle.packed.specs.Pieces.{records}
use Rattle.packed.specs.NodeForm.{unpacked}
use Rattle.packed.specs.Constants.{constant_of}
use Rattle.packed.specs.declared.record.NodeRecord.{NodeRecord}
use Rattle.layout.specs.declared.node.Node.{Node}
use Rattle.layout.specs.declared.refusal.Refusal.{Refusal}
use Rattle.layout.specs.declared.refusal.Refusal.TheVariants.{Size}
use Rattle.layout.specs.Refusals.{or_else}
use Rattle.layout.specs.Shapes.{within, node_of}
use Rattle.layout.specs.Judged.{limits, judged}

-- the counts that the file gives
abbrev pub node_count : List ℕ → ℕ
node_count bytes = slice_index bytes 0

abbrev pub constant_count : List ℕ → ℕ
constant_count bytes = slice_index bytes 1

-- the counts are missing or out of range, or the length is not theirs
abbrev pub wrong_size : ℕ → ℕ → List ℕ → Bool
wrong_size most_nodes most_constants bytes =
    nat_lt (length bytes) 2
    || (not (within 1 most_nodes (node_count bytes))
    || (nat_lt most_constants (constant_count bytes) || not (length bytes == 2 + 8 * node_count bytes + 8 * constant_count bytes)))

-- a file whose counts are in range and whose length is theirs
pub record Sized (bytes : List ℕ) (nodes constants : ℕ) : Type 0 where
  pub right : wrong_size 200 64 bytes ≡ false
  pub nodes_are : nodes ≡ node_count bytes
  pub constants_are : constants ≡ constant_count bytes
  pub some : 1 ≤ nodes
  pub few : nodes ≤ 200
  pub few_constants : constants ≤ 64
  pub long : length bytes ≡ 2 + 8 * nodes + 8 * constants

abbrev pub records_in : List ℕ → List NodeRecord
records_in bytes = records unpacked (take (8 * node_count bytes) (drop 2 bytes))

-- the nodes and constants that an accepted file stands for
abbrev pub nodes_in : List ℕ → List Node
nodes_in bytes = map node_of (records_in bytes)

abbrev pub constants_in : List ℕ → List ℤ
constants_in bytes = records constant_of (drop (2 + 8 * node_count bytes) bytes)

-- the first refusal that a file meets: 1 to 200 nodes, at most 64 constants, and what is judged of the table
abbrev pub refusal : (ℕ → ℕ → Sort) → List ℕ → Option Refusal
refusal sorts bytes = or_else (wrong_size 200 64 bytes) Size (judged limits sorts (constant_count bytes) (records_in bytes))

-- done, or the refusal
abbrev pub answer : Option Refusal → Result (Unit {0}) Refusal
answer None = Ok tt
answer (Some e) = Err e
