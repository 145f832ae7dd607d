-- The nodes of the records so far.
use Rattle.std.proofs.Common.{◌≡◌, map, take, vec_items, vec_len, vec_capacity}
use Rattle.layout.specs.Shapes.{node_of}
use Rattle.layout.proofs.table.loading.put_nodes.Given as goal

abbrev pub invariant-loop-record : goal.invariant-loop-record
invariant-loop-record l = (vec_items l.out ≡ map node_of (take l.record-index l.records)) × (vec_len l.out ≡ l.record-index) × (vec_capacity l.out ≡ vec_capacity l.initial.out)
