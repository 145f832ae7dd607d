-- What a piece tells, and which piece comes next of the rows still to come and the tail.
use Rattle.std.specs.Prelude.{◌≡◌, ℕ, min, List, [], ◌∷◌, length, drop}
use Rattle.rows.specs.declared.piece.Piece.{Piece}
use Rattle.rows.specs.declared.piece.Piece.TheVariants.{Row, Tail}
use Rattle.rows.specs.Cuts.{RowAt, TailAt, Cut, PartOf}

-- a row, or the tail
pub data Told : Type 0 where
  row : RowAt → Told
  tail : TailAt → Told

abbrev pub told : Piece → Told
told (Row start bytes mark) = row (record { start = start; bytes = bytes.now; mark = mark })
told (Tail start bytes) = tail (record { start = start; bytes = bytes.now })

-- the first row to come, or else the tail
abbrev pub first_piece : List RowAt → TailAt → Told
first_piece [] t = tail t
first_piece (r ∷ rs) t = row r

abbrev pub piece_of : Cut → Told
piece_of c = first_piece c.rows c.tail

-- the rows after the first
abbrev pub rest : List RowAt → List RowAt
rest [] = []
rest (r ∷ rs) = rs

-- what is still to come once the first row, if any, is handed out: that row alone is gone
abbrev pub behind : Cut → Cut
behind c = record { rows = rest c.rows; tail = c.tail }

-- a told piece is that part of the file
abbrev pub Of : List ℕ → Told → Type 0
Of file (row r) = PartOf file r.start r.bytes
Of file (tail t) = PartOf file t.start t.bytes

-- a row is handed out: it is the first to come, and that row alone is then gone
pub record HandsOut (c : Cut) (r : RowAt) (d : Cut) : Type 0 where
  pub tells : row r ≡ piece_of c
  pub leaves : d ≡ behind c
  pub some : c.rows ≡ [] → ⊥

-- no row is to come: the tail is told
pub record TellsTail (c : Cut) (t : Told) : Type 0 where
  pub tells : t ≡ piece_of c
  pub leaves : c ≡ behind c

-- the tail that begins at a place, or at the file's end where that comes first
abbrev pub rest_at : ℕ → List ℕ → Told
rest_at p file = tail (record { start = min p (length file); bytes = drop (min p (length file)) file })
