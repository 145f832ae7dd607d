-- The words for what became of rows. Each is a list of rows in order, and a function of the calls and their answers alone.
use Rattle.std.specs.Prelude.{Bool, true, false, not, List, [], ◌∷◌, ◌++◌}
use Rattle.std.specs.List.{list_any, filter, flat_map}
use Rattle.import.specs.declared.slip.Slip.{Slip}
use Rattle.import.specs.declared.stage.How.{How}
use Rattle.import.specs.declared.stage.How.TheVariants.{Kept, SetAside}
use Rattle.import.specs.declared.answer.Opened.{Opened}
use Rattle.import.specs.Slips.{among, slips, rows_of}
use Rattle.import.specs.Calls.{Call, read, file, Answer, row, none, done}
use Rattle.import.specs.Runs.{Said}

abbrev pub rows_in : Answer → List Opened
rows_in (row o) = o ∷ []
rows_in a = []

-- opened, or handed out: the rows of the slips that next answered
abbrev pub opened_rows : List Said → List Opened
opened_rows h = flat_map (λ s. rows_in s.answer) h

-- the slip that an accepted call filed, if it filed it so
abbrev pub slip_filed : How → Answer → Call → List Slip
slip_filed Kept done (file Kept s) = s ∷ []
slip_filed SetAside done (file SetAside s) = s ∷ []
slip_filed how a c = []

abbrev pub slips_filed : How → List Said → List Slip
slips_filed how h = flat_map (λ s. slip_filed how s.answer s.call) h

-- the same, however it was filed
abbrev pub slip_spent : Answer → Call → List Slip
slip_spent done (file h s) = s ∷ []
slip_spent a c = []

abbrev pub slips_spent : List Said → List Slip
slips_spent h = flat_map (λ s. slip_spent s.answer s.call) h

-- kept, set aside: the rows whose slip an accepted call of that name filed
abbrev pub filed_rows : How → List Said → List Opened
filed_rows how h = rows_of (slips_filed how h) (opened_rows h)

abbrev pub kept_rows : List Said → List Opened
kept_rows h = filed_rows Kept h

abbrev pub set_aside_rows : List Said → List Opened
set_aside_rows h = filed_rows SetAside h

-- open: opened, and not filed
abbrev pub open_of : List Slip → List Opened → List Opened
open_of spent os = filter (λ o. not (among o.slip spent)) os

abbrev pub open_rows : List Said → List Opened
open_rows h = open_of (slips_spent h) (opened_rows h)

-- an accepted read is a read of the row that is open
abbrev pub rows_read : List Opened → Answer → Call → List Opened
rows_read open_now done read = open_now
rows_read open_now a c = []

abbrev pub read_from : List Said → List Said → List Opened
read_from before [] = []
read_from before (s ∷ rest) = rows_read (open_rows before) s.answer s.call ++ read_from (before ++ s ∷ []) rest

-- read: a read at the row was accepted
abbrev pub read_rows : List Said → List Opened
read_rows h = read_from [] h

-- open and unread
abbrev pub unread_rows : List Said → List Opened
unread_rows h = open_of (slips (read_rows h)) (open_rows h)

-- open and read
abbrev pub ready_rows : List Said → List Opened
ready_rows h = rows_of (slips (read_rows h)) (open_rows h)

abbrev pub last_of : List Opened → List Opened
last_of [] = []
last_of (o ∷ []) = o ∷ []
last_of (o ∷ p ∷ os) = last_of (p ∷ os)

-- reported: the row that was opened last, if it was read; its report stands
abbrev pub reported_rows : List Said → List Opened
reported_rows h = rows_of (slips (read_rows h)) (last_of (opened_rows h))

abbrev pub is_none : Answer → Bool
is_none none = true
is_none a = false

-- next has said none
abbrev pub has_ended : List Said → Bool
has_ended h = list_any (λ s. is_none s.answer) h
