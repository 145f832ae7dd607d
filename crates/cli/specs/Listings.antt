-- What `neskvaru rows` writes: a line for each row in order, one for the tail, a summary, and a notice where the closing row is unended.
use Rattle.std.specs.Prelude.{ℕ, ◌+◌, Bool, false, cond, List, [], ◌∷◌, ◌++◌, length, Some, None, codes, decimal, Option, ◌==◌}
use Rattle.rows.specs.Cuts.{RowAt, TailAt, Cut}
use Rattle.rows.specs.Words.{word, unended, last_unended}
use Rattle.rows.specs.declared.piece.Mark.{Mark}
use Rattle.rows.specs.declared.rule.RowRule.{Ghosts}
use Rattle.cli.specs.declared.listing.Listing.{Listing}
use Rattle.cli.specs.declared.listing.Stage.{Stage}
use Rattle.cli.specs.declared.listing.Stage.TheVariants.{Rows, Summary, Notice, Done}
use Rattle.cli.specs.declared.texts.ListingLine.{ListingLine}
use Rattle.cli.specs.declared.texts.ListingLine.TheVariants.{Row as row_of, Tail as tail_of, Summary as summary_of, Notice as notice_of}

abbrev pub row_line : ℕ → ℕ → ℕ → Mark → List ℕ
row_line number start len mark = codes "row " ++ (decimal number ++ (codes ": start " ++ (decimal start ++ (codes ", length " ++ (decimal len ++ (codes ", " ++ word mark))))))

-- an empty tail needs no words, and any other has bytes that no row has
abbrev pub tail_words : ℕ → List ℕ
tail_words len = cond (len == 0) [] (codes ": these bytes belong to no row")

abbrev pub tail_line : ℕ → ℕ → List ℕ
tail_line start len = codes "tail: start " ++ (decimal start ++ (codes ", length " ++ (decimal len ++ tail_words len)))

-- `1 row`, `2 rows`
abbrev pub ending : ℕ → List ℕ
ending n = cond (n == 1) [] (codes "s")

abbrev pub plural : ℕ → List ℕ → List ℕ
plural n noun = decimal n ++ (codes " " ++ (noun ++ ending n))

abbrev pub summary_line : ℕ → ℕ → List ℕ
summary_line count size = plural count (codes "row") ++ (codes "; the file has " ++ plural size (codes "byte"))

abbrev pub notice_line : ℕ → List ℕ
notice_line number = codes "notice: the closing row, row " ++ (decimal number ++ codes ", has no newline at its end; it is a row like the others and is counted")

-- how a line of the program is written
abbrev pub line_text : ListingLine → List ℕ
line_text (row_of number start len mark) = row_line number start len mark
line_text (tail_of start len) = tail_line start len
line_text (summary_of count size) = summary_line count size
line_text (notice_of number) = notice_line number

-- the lines of rows, numbered on from n
abbrev pub row_lines : ℕ → List RowAt → List (List ℕ)
row_lines n [] = []
row_lines n (r ∷ rs) = row_line (n + 1) r.start (length r.bytes) r.mark ∷ row_lines (n + 1) rs

-- the notice, if the closing row is unended
abbrev pub notice_if : Bool → ℕ → List (List ℕ)
notice_if last n = cond last (notice_line n ∷ []) []

-- what stands behind the rows
abbrev pub closing_lines : TailAt → Bool → ℕ → ℕ → List (List ℕ)
closing_lines tail last count size = tail_line tail.start (length tail.bytes) ∷ summary_line count size ∷ notice_if last count

-- the whole listing: a file's cut, and how many bytes the file has
abbrev pub listing : Cut → ℕ → List (List ℕ)
listing c size = row_lines 0 c.rows ++ closing_lines c.tail (last_unended c.rows) (length c.rows) size

-- the mark of the last row, behind rows whose last had the mark `last`
abbrev pub last_after : Option Mark → List RowAt → Option Mark
last_after last [] = last
last_after last (r ∷ rs) = last_after (Some r.mark) rs

-- a last row is unended, if there is one
abbrev pub closes_unended : Option Mark → Bool
closes_unended None = false
closes_unended (Some m) = unended m

-- the lines still to come: after so many rows, the last of them with the mark `last`
abbrev pub lines_left : Stage → Cut → ℕ → List (List ℕ)
lines_left (Rows n last) c size = row_lines n c.rows ++ closing_lines c.tail (closes_unended (last_after last c.rows)) (n + length c.rows) size
lines_left (Summary n last) c size = summary_line n size ∷ notice_if (closes_unended last) n
lines_left (Notice n) c size = notice_line n ∷ []
lines_left Done c size = []

-- the lines still to come of a listing, by what its rule has ahead
abbrev pub left : {R : Type 0} {rule : Ghosts R} → (R → List ℕ → Cut) → Listing R rule → List (List ℕ)
left ahead l = lines_left l.stage (ahead l.rule l.file.now) (length l.file.now)
