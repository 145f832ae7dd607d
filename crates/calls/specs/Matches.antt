-- What matching two exports leaves, in the numbers of the C library.
use Rattle.std.specs.Prelude.{◌≡◌, ◌⊎◌, ℕ, List, Ok, Err, Result}
use Rattle.import.specs.declared.answer.Difference.{Difference}
use Rattle.import.specs.declared.answer.Difference.TheVariants.{Report, Mark, MissingInFirst, MissingInResent, Tail}
use Rattle.import.specs.declared.answer.Side.{Side}
use Rattle.import.specs.declared.answer.Side.TheVariants.{First, Resent}
use Rattle.import.specs.declared.answer.Matched.{Matched}
use Rattle.import.specs.declared.answer.Matched.TheVariants.{Same, Differs}
use Rattle.import.specs.declared.answer.Unmatched.{Unmatched}
use Rattle.import.specs.declared.answer.Unmatched.TheVariants.{NotTaken, Unread}
use Rattle.import.specs.declared.refusal.Refusal.{Refusal}
use Rattle.import.specs.Matching.{Export, Told}
use Rattle.calls.specs.declared.matching.Answer.{Answer}
use Rattle.calls.specs.declared.matching.RefusedAt.{RefusedAt}
use Rattle.calls.specs.declared.status.Status.{Status}
use Rattle.calls.specs.declared.status.Status.TheVariants.{Done, Refused, NoMemory}

abbrev pub how_number : Difference → ℕ
how_number Report = 1
how_number Mark = 2
how_number MissingInFirst = 3
how_number MissingInResent = 4
how_number Tail = 5

abbrev pub side_number : Side → ℕ
side_number First = 1
side_number Resent = 2

-- the same is 0 of row 0
abbrev pub answer_of : Matched → Answer
answer_of Same = record { how = 0; row = 0 }
answer_of (Differs n how) = record { how = how_number how; row = n }

-- row 0 of an export that is not taken
abbrev pub place_of : Unmatched → RefusedAt
place_of (NotTaken side why) = record { side = side_number side; row = 0 }
place_of (Unread side n why) = record { side = side_number side; row = n }

abbrev pub why_of : Unmatched → Refusal
why_of (NotTaken side why) = why
why_of (Unread side n why) = why

-- the status, the answer, and where a match is refused
abbrev pub Left : Type 0
Left = Status × Answer × RefusedAt

abbrev pub match_left : Result Matched Unmatched → Answer → RefusedAt → Left
match_left (Ok m) a r = (Done, answer_of m, r)
match_left (Err why) a r = (Refused (why_of why), a, place_of why)

-- what is left is that of the match's answer, unless memory ends, which changes nothing
abbrev pub Matches : List ℕ → Export → Export → Left → Answer → RefusedAt → Type 0
Matches layout one other left a r = ((res : Result Matched Unmatched) × Told layout one other res × (left ≡ match_left res a r)) ⊎ (left ≡ (NoMemory, a, r))
