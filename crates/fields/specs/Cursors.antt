-- Where a cursor stands in the bytes of a row.
use Rattle.std.specs.Prelude.{◌≡◌, ℕ, ◌+◌, List, drop}
use Rattle.fields.specs.declared.cursor.Cursor.{Cursor}
use Rattle.fields.specs.Meanings.{Reading, moved}

-- the bytes from the place on: none where it is past the end
abbrev pub unread : Cursor → List ℕ
unread c = drop c.place c.bytes.now

-- the cursor after it moved on by n bytes of its row
pub record Ahead (n : ℕ) (before after : Cursor) : Type 0 where
  pub place : after.place ≡ before.place + n
  pub row : after.bytes ≡ before.bytes

-- the cursor after a reading: behind the field, or, where it faults, as it was
pub record Moved (r : Reading) (before after : Cursor) : Type 0 where
  pub place : after.place ≡ moved before.place r
  pub row : after.bytes ≡ before.bytes
