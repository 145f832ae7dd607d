-- The items so far.
use Rattle.std.proofs.Common.{◌≡◌, take, vec_items, vec_len, vec_capacity}
use Rattle.layout.proofs.table.loading.refill.Given as goal

abbrev pub invariant-loop-item : goal.invariant-loop-item
invariant-loop-item g l = (vec_items l.out ≡ take l.item-index l.items) × (vec_len l.out ≡ l.item-index) × (vec_capacity l.out ≡ vec_capacity l.initial.out)
