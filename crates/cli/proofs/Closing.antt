-- The last row so far is the closing row at the end.
use Rattle.std.proofs.Common.{◌≡◌, ℕ, ◌+◌, List, [], ◌∷◌, length, Option, Some, None, refl, arith}
use Rattle.rows.specs.Cuts.{RowAt, Cut}
use Rattle.rows.specs.Words.{last_unended}
use Rattle.rows.specs.declared.piece.Mark.{Mark}
use Rattle.cli.specs.Listings.{last_after, closes_unended, listing, lines_left}
use Rattle.cli.specs.declared.listing.Stage.TheVariants.{Rows}

-- the last row of all decides
last_is : (o : Option Mark) (r : RowAt) (rs : List RowAt) → closes_unended (last_after o (r ∷ rs)) ≡ last_unended (r ∷ rs)
last_is o r [] = refl
last_is o r (s ∷ rs) = last_is (Some r.mark) s rs

pub closing : (rs : List RowAt) → closes_unended (last_after None rs) ≡ last_unended rs
closing [] = refl
closing (r ∷ rs) = last_is None r rs

-- before its first line, a listing has all lines to come
pub whole_listing : (c : Cut) (size : ℕ) → lines_left (Rows 0 None) c size ≡ listing c size
whole_listing c size =
    let count : 0 + length c.rows ≡ length c.rows = omega arith in
    rw (count, closing c.rows)
