-- What finding a row answers: a row in the file, which is handed out, and where the rule goes on.
use Rattle.std.specs.Prelude.{ℕ, List, Option, MatchOption}
use Rattle.rows.specs.Cuts.{RowAt, Cut, PartOf}
use Rattle.rows.specs.Told.{HandsOut, TellsTail, rest_at}
use Rattle.rows.specs.declared.piece.Found.{Found}

abbrev pub row_of : Found → RowAt
row_of f = record { start = f.start; bytes = f.bytes.now; mark = f.mark }

pub record FoundAt (file : List ℕ) (c : Cut) (f : Found) (from : ℕ → List ℕ → Cut) : Type 0 where
  pub within : PartOf file f.start f.bytes.now
  pub hands : HandsOut c (row_of f) (from f.next file)

-- a row at a place, or none and the tail begins there
abbrev pub Finds : (ℕ → List ℕ → Cut) → ℕ → List ℕ → Option Found → Type 0
Finds from place file found = MatchOption found (TellsTail (from place file) (rest_at place file)) (λ f. FoundAt file (from place file) f from)
