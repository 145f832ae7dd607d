-- Going over the rows of two imports side by side, as a match does.
use Rattle.std.specs.Prelude.{◌≡◌, ◌≢◌, ◌⊎◌, ℕ, ◌+◌, List, map, length, Some, None, Option, Ok, Err, Result}
use Rattle.rows.specs.declared.piece.Mark as marks
use Rattle.report.specs.Reports as reports
use Rattle.import.specs.declared.answer.Difference.TheVariants.{Report, Mark, Tail}
use Rattle.import.specs.declared.answer.Matched.{Matched}
use Rattle.import.specs.declared.answer.Matched.TheVariants.{Same, Differs}
use Rattle.import.specs.declared.answer.Unmatched.{Unmatched}
use Rattle.import.specs.Models.{Model}
use Rattle.import.specs.Scans.{Ready}
use Rattle.import.specs.Matching.{told_of, RowsTold}

-- what is answered of the rows that two imports have to come
abbrev pub Walked : ℕ → Model → Model → Result Matched Unmatched → Type 0
Walked n a b res = RowsTold res n (map (told_of a.setting) a.ahead.rows) a.ahead.tail.bytes (map (told_of b.setting) b.ahead.rows) b.ahead.tail.bytes

-- the tails behind all rows
abbrev pub TailsCompared : ℕ → List ℕ → List ℕ → Matched → Type 0
TailsCompared n t u m = ((t ≢ u) × (m ≡ Differs n Tail)) ⊎ ((t ≡ u) × (m ≡ Same))

-- two rows whose reports stand: how they differ, if they do
abbrev pub RowsCompared : ℕ → reports.Report → marks.Mark → reports.Report → marks.Mark → Option Matched → Type 0
RowsCompared n r k q l None = (r ≡ q) × (k ≡ l)
RowsCompared n r k q l (Some m) = ((r ≢ q) × (m ≡ Differs n Report)) ⊎ ((r ≡ q) × (k ≢ l) × (m ≡ Differs n Mark))

-- one row of each is the same, and both go on
pub record GoesOn (f g : List ℕ) (n : ℕ) (a a' b b' : Model) : Type 0 where
  pub first_ready : Ready f a'
  pub resent_ready : Ready g b'
  pub fewer : length a.ahead.rows ≡ length a'.ahead.rows + 1
  pub carries : (res : Result Matched Unmatched) → Walked (n + 1) a' b' res → Walked n a b res

-- an answer, or both go on
abbrev pub Compares : List ℕ → List ℕ → ℕ → Model → Model → Model → Model → Result (Option Matched) Unmatched → Type 0
Compares f g n a a' b b' (Ok None) = GoesOn f g n a a' b b'
Compares f g n a a' b b' (Ok (Some m)) = Walked n a b (Ok m)
Compares f g n a a' b b' (Err why) = Walked n a b (Err why)
