-- Rows and a tail as values: what a file is cut into, and the frames of rows put together again.
use Rattle.std.specs.Prelude.{◌≡◌, ℕ, ◌+◌, ◌<◌, ◌≤◌, List, [], ◌∷◌, length, map, take, drop, slice_index}
use Rattle.std.specs.List.{flat_map}
use Rattle.rows.specs.declared.piece.Mark.{Mark}

-- a row: where it starts in the file, its bytes, and its mark
pub record RowAt : Type 0 where
  pub start : ℕ
  pub bytes : List ℕ
  pub mark : Mark

-- the tail: the bytes that belong to no row
pub record TailAt : Type 0 where
  pub start : ℕ
  pub bytes : List ℕ

-- rows in order, and the tail
pub record Cut : Type 0 where
  pub rows : List RowAt
  pub tail : TailAt

-- a row without its place
pub record Text : Type 0 where
  pub bytes : List ℕ
  pub mark : Mark

abbrev pub text : RowAt → Text
text r = record { bytes = r.bytes; mark = r.mark }

abbrev pub texts : List RowAt → List Text
texts rs = map text rs

-- the frames of rows in order, one after another
abbrev pub frames : (List ℕ → Mark → List ℕ) → List Text → List ℕ
frames frame ts = flat_map (λ t. frame t.bytes t.mark) ts

-- every row of a list, one after another, since the proofs take a list apart (std's `All` speaks of indices)
abbrev pub Each : (RowAt → Type 0) → List RowAt → Type 0
Each P [] = Unit {0}
Each P (r ∷ rs) = P r × Each P rs

-- some bytes are that part of the file which begins at a place
abbrev pub PartOf : List ℕ → ℕ → List ℕ → Type 0
PartOf file start bytes = (start + length bytes ≤ length file) × (bytes ≡ take (length bytes) (drop start file))

-- a list of bytes
abbrev pub Bytes : List ℕ → Type 0
Bytes bs = (i : ℕ) → slice_index bs i < 256

-- a file: bytes, and no more than 16,777,216 of them
pub record File (file : List ℕ) : Type 0 where
  pub bytes : Bytes file
  pub fits : length file ≤ 16777216
