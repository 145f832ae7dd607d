-- The number of the places so far.
use Rattle.std.proofs.Common.{◌≡◌, ◌≤◌, length, take}
use Rattle.fields.specs.Places.{number_from}
use Rattle.fields.proofs.digits.value.Given as goal

abbrev pub invariant-loop-byte : goal.invariant-loop-byte
invariant-loop-byte g l = (l.byte-index ≤ length l.bytes) × (l.n ≡ number_from g.row.BASE g.row.FIRST 0 (take l.byte-index l.bytes))
