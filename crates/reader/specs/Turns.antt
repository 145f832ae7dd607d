-- One turn of the reading loop, over a list of open nodes with the innermost first: what that node does next.
use Rattle.std.specs.Prelude.{ℕ, ◌+◌, ◌-◌, max, if◌then◌else◌, Bool, true, false, ◌&&◌, List, [], ◌∷◌, ◌++◌, length, take, drop, ℤ, pos, Some, None, Ok, Err, Option, slice_set}
use Rattle.fields.specs.Causes.{number_of}
use Rattle.fields.specs.Meanings.{Meaning, Reading}
use Rattle.layout.specs.declared.node.Node.{Node}
use Rattle.layout.specs.Trees.{Part, Parts, field, mark, check, sequence, choice, optional, end, ◌then◌}
use Rattle.report.specs.declared.outcome.Outcome.{Outcome}
use Rattle.report.specs.declared.outcome.Outcome.TheVariants.{Good, SyntaxFault, Absent}
use Rattle.report.specs.declared.line.Line.{Line}
use Rattle.report.specs.Outcomes.{role_of, is_fault}
use Rattle.report.specs.Lines.{line, begun, skipped, faults, overall}
use Rattle.report.specs.Values.{values}
use Rattle.report.specs.Checks.{checked}
use Rattle.report.specs.Leaves.{mark_reads, first_from}
use Rattle.report.specs.Recovery.{node_of, byte_of, found}
use Rattle.reader.specs.declared.open.Way.{Way}
use Rattle.reader.specs.declared.open.Way.TheVariants.{Sequence, Tried, Choice, Optional}
use Rattle.reader.specs.declared.open.Told.{Told}
use Rattle.reader.specs.declared.open.Told.TheVariants.{Begin, Clean, Fault, Seek, Skip}

-- An open node: how its parts are read, its number, which line is its own, where it begins, the part that was read last, the parts still to come, and how many branches were begun.
pub record Pending : Type 0 where
  pub way : Way
  pub node : ℕ
  pub at : ℕ
  pub start : ℕ
  pub last : Part
  pub rest : Parts
  pub branch : ℕ

-- f, whose part q is read, with the parts qs and the branch n
abbrev pub moved : Pending → Part → Parts → ℕ → Pending
moved f q qs n = record { way = f.way; node = f.node; at = f.at; start = f.start; last = q; rest = qs; branch = n }

-- The open nodes, the lines that stand, the place in the row, what the innermost open node is told, and the most lines that stood so far.
pub record State : Type 0 where
  pub stack : List Pending
  pub lines : List Line
  pub place : ℕ
  pub told : Told
  pub reach : ℕ

abbrev pub state : List Pending → List Line → ℕ → Told → ℕ → State
state fs ls p t r = record { stack = fs; lines = ls; place = p; told = t; reach = r }

-- the reach when n lines more were written
abbrev pub raised : List Line → ℕ → ℕ → ℕ
raised ls n r = max r (length ls + n)

-- a field or a mark is read, or faults
abbrev pub leaf_begun : ℕ → List Pending → List Line → ℕ → ℕ → Reading → State
leaf_begun i fs ls p r (Ok x) = state fs (ls ++ line i Good p x.0 x.1 ∷ []) (p + x.0) Clean (raised ls 1 r)
leaf_begun i fs ls p r (Err c) = state fs (ls ++ line i SyntaxFault p 0 (pos (number_of c)) ∷ []) p Fault (raised ls 1 r)

-- a check is decided; in a trial (t) one that fails gives up
abbrev pub check_begun : Bool → ℕ → List Pending → List Line → ℕ → ℕ → Outcome → State
check_begun t i fs ls p r o =
    state fs (ls ++ line i o p 0 (pos 0) ∷ []) p (if t && is_fault (role_of o) then Fault else Clean) (raised ls 1 r)

-- a node with parts is opened
abbrev pub opened : Way → ℕ → Part → Parts → List Pending → List Line → ℕ → ℕ → State
opened w i q ps fs ls p r =
    state (record { way = w; node = i; at = length ls; start = p; last = q; rest = ps; branch = 0 } ∷ fs) (ls ++ begun i p ∷ []) p Begin (raised ls 1 r)

-- a sequence in a trial (t), or open
abbrev pub sequence_way : Bool → Way
sequence_way t = if t then Tried else Sequence

-- the open node's own line is completed
abbrev pub completed : Pending → List Line → ℕ → Outcome → ℤ → List Line
completed f ls p o z = slice_set ls f.at (line f.node o f.start (p - f.start) z)

-- that of a sequence, which tells whether a fault is below it
abbrev pub shut : Pending → List Line → ℕ → List Line
shut f ls p = completed f ls p (overall (faults (drop (f.at + 1) ls))) (pos 0)

-- what was read under f is taken back, for a line of its own
abbrev pub undone : Pending → List Line → Outcome → ℤ → List Line
undone f ls o z = take f.at ls ++ line f.node o f.start 0 z ∷ []

-- the mark i, sought for f, is found at j, or it is nowhere
abbrev pub sought : ℕ → Pending → Pending → List Pending → List Line → ℕ → ℕ → Option ℕ → State
sought i f met fs ls p r None = state (f ∷ fs) ls p Skip r
sought i f met fs ls p r (Some j) = state (met ∷ fs) (ls ++ found i p j) (j + 1) Clean (raised ls (length (found i p j)) r)

module _ (means : ℕ → ℕ → Meaning) (nodes : List Node) (row : List ℕ) where
  -- a part is begun, in a trial (t) or open
  abbrev pub begin : Bool → Part → List Pending → List Line → ℕ → ℕ → State
  begin t (field i kind parameter column) fs ls p r = leaf_begun i fs ls p r ((means kind parameter).reads (drop p row))
  begin t (mark i byte) fs ls p r = leaf_begun i fs ls p r (mark_reads byte (drop p row))
  begin t (check i relation left right) fs ls p r = check_begun t i fs ls p r (checked relation left right (values nodes ls))
  begin t (sequence i parts) fs ls p r = opened (sequence_way t) i (sequence i parts) parts fs ls p r
  begin t (choice i parts) fs ls p r = opened Choice i (choice i parts) parts fs ls p r
  begin t (optional i parts) fs ls p r = opened Optional i (optional i parts) parts fs ls p r

  -- in a trial: the next part, or the end under the number z
  abbrev pub next_tried : ℤ → Pending → List Pending → List Line → ℕ → ℕ → Parts → State
  next_tried z f fs ls p r end = state fs (completed f ls p Good z) p Clean r
  next_tried z f fs ls p r (q then qs) = begin true q (moved f q qs f.branch ∷ fs) ls p r

  -- the next branch, where all that the last one wrote is gone; with none left the choice is a fault
  abbrev pub next_branch : Pending → List Pending → List Line → ℕ → Parts → State
  next_branch f fs ls r end = state fs (undone f ls SyntaxFault (pos 5)) f.start Fault r
  next_branch f fs ls r (q then qs) = begin true q (moved f q qs (f.branch + 1) ∷ fs) ls f.start r

  -- the next child of an open sequence, or its end
  abbrev pub next_child : Pending → List Pending → List Line → ℕ → ℕ → Parts → State
  next_child f fs ls p r end = state fs (shut f ls p) p Clean r
  next_child f fs ls p r (q then qs) = begin false q (moved f q qs f.branch ∷ fs) ls p r

  -- the child that was read last broke: if it is a mark, it is sought
  abbrev pub mended : Pending → List Pending → List Line → ℕ → ℕ → Option ℕ → State
  mended f fs ls p r None = state (f ∷ fs) ls p Seek r
  mended f fs ls p r (Some b) = sought (node_of f.last) f f fs ls p r (first_from row b p)

  -- the child q is passed over
  abbrev pub passed : Told → Pending → List Pending → List Line → ℕ → ℕ → Part → Parts → State
  passed t f fs ls p r q qs = state (moved f q qs f.branch ∷ fs) (ls ++ skipped (node_of q) p ∷ []) p t (raised ls 1 r)

  -- a mark is sought: it may be the child q
  abbrev pub hunted : Pending → List Pending → List Line → ℕ → ℕ → Part → Parts → Option ℕ → State
  hunted f fs ls p r q qs None = passed Seek f fs ls p r q qs
  hunted f fs ls p r q qs (Some b) = sought (node_of q) f (moved f q qs f.branch) fs ls p r (first_from row b p)

  -- the next child while a mark is sought, or the sequence breaks
  abbrev pub next_sought : Pending → List Pending → List Line → ℕ → ℕ → Parts → State
  next_sought f fs ls p r end = state fs (shut f ls p) p Fault r
  next_sought f fs ls p r (q then qs) = hunted f fs ls p r q qs (byte_of q)

  -- the next child once the sought mark was nowhere, or the sequence breaks
  abbrev pub next_skipped : Pending → List Pending → List Line → ℕ → ℕ → Parts → State
  next_skipped f fs ls p r end = state fs (shut f ls p) p Fault r
  next_skipped f fs ls p r (q then qs) = passed Skip f fs ls p r q qs

  abbrev pub in_sequence : Pending → List Pending → List Line → ℕ → ℕ → Told → State
  in_sequence f fs ls p r Begin = next_child f fs ls p r f.rest
  in_sequence f fs ls p r Clean = next_child f fs ls p r f.rest
  in_sequence f fs ls p r Fault = mended f fs ls p r (byte_of f.last)
  in_sequence f fs ls p r Seek = next_sought f fs ls p r f.rest
  in_sequence f fs ls p r Skip = next_skipped f fs ls p r f.rest

  abbrev pub in_trial : Pending → List Pending → List Line → ℕ → ℕ → Told → State
  in_trial f fs ls p r Begin = next_tried (pos 0) f fs ls p r f.rest
  in_trial f fs ls p r Clean = next_tried (pos 0) f fs ls p r f.rest
  in_trial f fs ls p r Fault = state fs ls p Fault r
  in_trial f fs ls p r Seek = state fs ls p Fault r
  in_trial f fs ls p r Skip = state fs ls p Fault r

  abbrev pub in_choice : Pending → List Pending → List Line → ℕ → ℕ → Told → State
  in_choice f fs ls p r Begin = next_branch f fs (take (f.at + 1) ls) r f.rest
  in_choice f fs ls p r Clean = state fs (completed f ls p Good (pos f.branch)) p Clean r
  in_choice f fs ls p r Fault = next_branch f fs (take (f.at + 1) ls) r f.rest
  in_choice f fs ls p r Seek = next_branch f fs (take (f.at + 1) ls) r f.rest
  in_choice f fs ls p r Skip = next_branch f fs (take (f.at + 1) ls) r f.rest

  abbrev pub in_option : Pending → List Pending → List Line → ℕ → ℕ → Told → State
  in_option f fs ls p r Begin = next_tried (pos 1) f fs ls p r f.rest
  in_option f fs ls p r Clean = next_tried (pos 1) f fs ls p r f.rest
  in_option f fs ls p r Fault = state fs (undone f ls Absent (pos 0)) f.start Clean r
  in_option f fs ls p r Seek = state fs (undone f ls Absent (pos 0)) f.start Clean r
  in_option f fs ls p r Skip = state fs (undone f ls Absent (pos 0)) f.start Clean r

  abbrev pub turn_by : Way → Pending → List Pending → List Line → ℕ → ℕ → Told → State
  turn_by Sequence f fs ls p r t = in_sequence f fs ls p r t
  turn_by Tried f fs ls p r t = in_trial f fs ls p r t
  turn_by Choice f fs ls p r t = in_choice f fs ls p r t
  turn_by Optional f fs ls p r t = in_option f fs ls p r t
