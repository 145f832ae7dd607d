-- The first rows of a rule below, and a tail from where their frames end.
use Rattle.std.specs.Prelude.{◌≡◌, ℕ, ◌+◌, min, List, [], length, take, drop, IfSome, Option, MatchOption}
use Rattle.rows.specs.Cuts.{Cut, texts, frames}
use Rattle.rows.specs.Rules.{Meaning}
use Rattle.rows.specs.Told.{told, Of, piece_of, behind, rest_at}
use Rattle.rows.specs.declared.piece.Mark.{Mark}
use Rattle.rows.specs.declared.piece.Piece.{Piece}

-- where the frames of the first n rows to come end, if the first begins at a place; never past the file
abbrev pub frames_end : (List ℕ → Mark → List ℕ) → ℕ → ℕ → List ℕ → Cut → ℕ
frames_end frame n p file below = min (p + length (frames frame (texts (take n below.rows)))) (length file)

-- the first n rows to come, whose frames begin at a place
abbrev pub sample_from : (List ℕ → Mark → List ℕ) → ℕ → ℕ → List ℕ → Cut → Cut
sample_from frame n p file below = record {
  rows = take n below.rows;
  tail = record { start = frames_end frame n p file below; bytes = drop (frames_end frame n p file below) file };
}

-- frames and carried rows are those below
abbrev pub sampled : ℕ → Meaning → Meaning
sampled n m = record { cut = λ file. sample_from m.frame n 0 file (m.cut file); frame = m.frame; carries = m.carries }

-- A row is handed on from below, or none: what was ahead tells it, or else the tail at a place; where no row was ahead, nothing changes.
pub record HandedOn (file : List ℕ) (handed : Option Piece) (place : ℕ) (before after : List ℕ → Cut) : Type 0 where
  pub tells : MatchOption handed (rest_at place file ≡ piece_of (before file)) (λ p. told p ≡ piece_of (before file))
  pub part : IfSome handed (λ p. Of file (told p))
  pub leaves : after file ≡ behind (before file)
  pub stays : (before file).rows ≡ [] → (other : List ℕ) → after other ≡ before other
