-- The bytes so far are added, and there is room as before.
use Rattle.std.proofs.Common.{◌≡◌, ◌++◌, ◌+◌, take, vec_items, vec_len, vec_capacity}
use Rattle.reader.proofs.reader.keeping.add.Given as goal

abbrev pub invariant-loop-byte : goal.invariant-loop-byte
invariant-loop-byte l =
    (vec_items l.text ≡ vec_items l.initial.text ++ take l.byte-index l.bytes)
    × (vec_len l.text ≡ vec_len l.initial.text + l.byte-index)
    × (vec_capacity l.text ≡ vec_capacity l.initial.text)
