-- The digits so far, and their number as long as it is of use.
use Rattle.std.proofs.Common.{◌≡◌, ◌≤◌, take}
use Rattle.fields.specs.Digits.{run, value}
use Rattle.fields.proofs.digits.leading.Given as goal

abbrev pub invariant-loop-byte : goal.invariant-loop-byte
invariant-loop-byte l = (l.len ≡ l.byte-index) × (l.len ≤ run l.bytes) × (l.len ≤ 12 → l.n ≡ value (take l.len l.bytes))
