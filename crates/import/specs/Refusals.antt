-- The number of each refusal, and what it means in words.
use Rattle.std.specs.Prelude.{ℕ, List, codes}
use Rattle.rows.specs.Refusals as rows
use Rattle.rows.specs.declared.refusal.Refusal.TheVariants.{FileTooLong as FileTooLong', BufferTooShort as BufferTooShort'}
use Rattle.layout.specs.Refusals as layouts
use Rattle.reader.specs.Refusals as reading
use Rattle.reader.specs.declared.refusal.Refusal as readers
use Rattle.reader.specs.declared.refusal.Refusal.TheVariants.{RowTooLong as RowTooLong', TooManyLines}
use Rattle.import.specs.declared.refusal.Refusal.{Refusal}
use Rattle.import.specs.declared.refusal.Refusal.TheVariants.{Layout, FileTooLong, OtherLength, RowTooLong, ReachTooFar, WrongMoment, OtherRow, RowHasFaults, BufferTooShort}

abbrev pub number_of : Refusal → ℕ
number_of (Layout why) = layouts.number_of why
number_of FileTooLong = 8
number_of OtherLength = 8
number_of RowTooLong = 9
number_of ReachTooFar = 10
number_of WrongMoment = 12
number_of OtherRow = 13
number_of RowHasFaults = 14
number_of BufferTooShort = 15

-- what is printed of each: the words of the layout, the reader and the rules for theirs
abbrev pub text_of : Refusal → List ℕ
text_of (Layout why) = layouts.text_of why
text_of FileTooLong = rows.reason FileTooLong'
text_of OtherLength = codes "the file has another length than the one that was taken"
text_of RowTooLong = reading.text_of RowTooLong'
text_of ReachTooFar = reading.text_of TooManyLines
text_of WrongMoment = codes "the call comes at the wrong moment"
text_of OtherRow = codes "the slip is another row's"
text_of RowHasFaults = codes "a row with faults is not kept"
text_of BufferTooShort = rows.reason BufferTooShort'

-- the reader's refusals
abbrev pub of_reading : readers.Refusal → Refusal
of_reading RowTooLong' = RowTooLong
of_reading TooManyLines = ReachTooFar
