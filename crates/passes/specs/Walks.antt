-- A step over an import whose rows to come are well cut: the first of them, in the words of that row.
use Rattle.std.specs.Prelude.{ℕ, ◌+◌, cond, List, [], ◌∷◌, length, Some, None, Option, nat_le}
use Rattle.rows.specs.Cuts.{RowAt, TailAt}
use Rattle.import.specs.declared.stage.Stage.TheVariants.{Between, End}
use Rattle.import.specs.declared.stage.How.{How}
use Rattle.import.specs.Models.{Setting, Standing, Model}
use Rattle.import.specs.Calls.{Answer, refused}
use Rattle.import.specs.Steps.{opened_one, report_of, filed_one}
use Rattle.import.specs.Tells.{read_says}
use Rattle.passes.specs.Passes.{Pass, ended, over, how_filed}

-- the report that stands behind a row that was read, under the row's mark; none stands behind one that was not
abbrev pub stands_if : Answer → Standing → Option Standing
stands_if (refused why) r = None
stands_if a r = Some r

abbrev pub stands_behind : Setting → RowAt → Option Standing
stands_behind s r = stands_if (read_says s r.bytes) (record { report = report_of s r.bytes; mark = r.mark })

abbrev pub files : Setting → RowAt → How
files s r = how_filed (stands_behind s r)

-- the tail as the import tells it: once as many rows were opened as the file has bytes, it is the empty one at the file's end
abbrev pub tail_told : ℕ → ℕ → TailAt → TailAt
tail_told size opened t = cond (nat_le size opened) (record { start = size; bytes = [] }) t

abbrev pub told_by : Model → TailAt
told_by m = tail_told m.size m.counts.opened m.ahead.tail

-- the import behind its last row, and behind the first of its rows to come
abbrev pub at_end : Model → Model
at_end m = record m { stage = End (told_by m).start (length (told_by m).bytes) }

abbrev pub behind_row : Model → RowAt → List RowAt → Model
behind_row m r rs = record m {
  stage = Between;
  counts = filed_one (files m.setting r) (opened_one m.counts);
  ahead = record { rows = rs; tail = m.ahead.tail };
  standing = stands_behind m.setting r;
}

abbrev pub walk_over : Model → List RowAt → Pass
walk_over m [] = (ended, at_end m)
walk_over m (r ∷ rs) = (over (m.counts.opened + 1) r.start (length r.bytes) r.mark (read_says m.setting r.bytes) (files m.setting r), behind_row m r rs)

abbrev pub walk : Model → Pass
walk m = walk_over m m.ahead.rows

-- the import behind the last of its rows to come
abbrev pub walked : Model → List RowAt → Model
walked m [] = at_end m
walked m (r ∷ rs) = walked (behind_row m r rs) rs
