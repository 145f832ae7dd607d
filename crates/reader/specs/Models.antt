-- What a reader's open nodes stand for.
use Rattle.std.specs.Prelude.{ℕ, ◌+◌, ◌≤◌, Bool, true, false, List, [], ◌∷◌, map, reverse, take, ℤ, Some, None, Option, vec_items}
use Rattle.fields.specs.declared.family.Family.{Ghosts}
use Rattle.fields.specs.Meanings.{Meaning}
use Rattle.layout.specs.declared.node.Node.{Node}
use Rattle.layout.specs.Trees.{Part, Parts, end, ◌then◌, next_number, node_at, parts_at, part_at, tree_of}
use Rattle.report.specs.declared.line.Line.{Line}
use Rattle.report.specs.Recovery.{OpenReading, gave, byte_of}
use Rattle.report.specs.Readings.{open_reading}
use Rattle.report.specs.Reports.{whole_read}
use Rattle.reader.specs.declared.open.Open.{Open}
use Rattle.reader.specs.declared.open.Told.{Told}
use Rattle.reader.specs.declared.open.Told.TheVariants.{Begin, Clean, Fault, Seek, Skip}
use Rattle.reader.specs.declared.reader.Reader.{Reader}
use Rattle.reader.specs.declared.source.Source.{Source}
use Rattle.reader.specs.Turns.{Pending, State, state, moved, sought, begin, next_tried, next_branch, next_child, mended, passed, next_sought, next_skipped, in_sequence, in_trial, in_choice, in_option, turn_by}
use Rattle.reader.specs.Nesting.{Good}

module _ (nodes : List Node) (constants : List ℤ) where
  -- the node of a number and its later siblings
  abbrev pub parts_from : Option ℕ → Parts
  parts_from None = end
  parts_from (Some i) = part_at nodes constants i then parts_at nodes constants (next_number (node_at nodes i))

  abbrev pub pending_of : Open → Pending
  pending_of f =
      record {
        way = f.way;
        node = f.node;
        at = f.at;
        start = f.start;
        last = part_at nodes constants f.last;
        rest = parts_from f.rest;
        branch = f.branch;
      }

  -- the innermost first
  abbrev pub stack_of : List Open → List Pending
  stack_of fs = map pending_of (reverse fs)

  abbrev pub stack_in : Reader → List Pending
  stack_in m = stack_of (vec_items m.stack)

  abbrev pub state_of : Reader → List Line → State
  state_of m ls = state (stack_in m) ls m.place m.told m.reach

-- a state whose innermost open node is held beside the others
abbrev pub under_node : Pending → State → State
under_node f x = state (f ∷ x.stack) x.lines x.place x.told x.reach

-- what is read: a source's nodes, constants and row, and a reader's state over it
module _ {F : Type 0} where
  abbrev pub nodes_of : Source F → List Node
  nodes_of s = vec_items s.layout.now.nodes

  abbrev pub constants_of : Source F → List ℤ
  constants_of s = vec_items s.layout.now.constants

  abbrev pub node_in : Source F → Open → Pending
  node_in s f = pending_of (nodes_of s) (constants_of s) f

  abbrev pub part_in : Source F → ℕ → Part
  part_in s i = part_at (nodes_of s) (constants_of s) i

  abbrev pub later_in : Source F → ℕ → Parts
  later_in s i = parts_at (nodes_of s) (constants_of s) (next_number (node_at (nodes_of s) i))

  abbrev pub rest_in : Source F → Open → Parts
  rest_in s f = parts_from (nodes_of s) (constants_of s) f.rest

  abbrev pub state_in : Source F → Reader → List Line → State
  state_in s m ls = state_of (nodes_of s) (constants_of s) m ls

  -- a state with the innermost open node that was handed out; with none, no node is open
  abbrev pub innermost_in : Source F → Option Open → State → State
  innermost_in s None x = state [] x.lines x.place x.told x.reach
  innermost_in s (Some f) x = under_node (node_in s f) x

  -- there is room for what a turn does, at these open nodes
  pub record Ready (s : Source F) (fs : List Pending) (m : Reader) (ls : List Line) (capacity : ℕ) : Type 0 where
    pub good : Good s.row.now fs ls m.place m.reach
    pub few : m.reach ≤ 512
    pub room : 514 ≤ capacity

  -- at the open nodes as they are, and at f, which was taken from them
  abbrev pub ReadyIn : Source F → Reader → List Line → ℕ → Type 0
  ReadyIn s m ls capacity = Ready s (state_in s m ls).stack m ls capacity

  abbrev pub ReadyFor : Source F → Open → Reader → List Line → ℕ → Type 0
  ReadyFor s f m ls capacity = Ready s (node_in s f ∷ (state_in s m ls).stack) m ls capacity

  -- what f's turn makes of a state, by what it is told
  module _ (family : Ghosts F) (s : Source F) where
    abbrev means : ℕ → ℕ → Meaning
    means = family.means s.family.now

    abbrev pub begun_in : Bool → ℕ → State → State
    begun_in t i x = begin means (nodes_of s) s.row.now t (part_in s i) x.stack x.lines x.place x.reach

    abbrev pub advanced_in : Bool → Open → ℕ → ℕ → State → State
    advanced_in t f i n x = begin means (nodes_of s) s.row.now t (part_in s i) (moved (node_in s f) (part_in s i) (later_in s i) n ∷ x.stack) x.lines x.place x.reach

    abbrev pub tried_in : ℤ → Open → State → State
    tried_in z f x = next_tried means (nodes_of s) s.row.now z (node_in s f) x.stack x.lines x.place x.reach (rest_in s f)

    abbrev pub branched_in : Open → State → State
    branched_in f x = next_branch means (nodes_of s) s.row.now (node_in s f) x.stack (take (f.at + 1) x.lines) x.reach (rest_in s f)

    abbrev pub child_in : Open → State → State
    child_in f x = next_child means (nodes_of s) s.row.now (node_in s f) x.stack x.lines x.place x.reach (rest_in s f)

    abbrev pub mended_in : Open → State → State
    mended_in f x = mended means (nodes_of s) s.row.now (node_in s f) x.stack x.lines x.place x.reach (byte_of (part_in s f.last))

    abbrev pub passed_in : Told → Open → ℕ → State → State
    passed_in t f i x = passed means (nodes_of s) s.row.now t (node_in s f) x.stack x.lines x.place x.reach (part_in s i) (later_in s i)

    abbrev pub sought_in : Open → State → State
    sought_in f x = next_sought means (nodes_of s) s.row.now (node_in s f) x.stack x.lines x.place x.reach (rest_in s f)

    abbrev pub skipped_in : Open → State → State
    skipped_in f x = next_skipped means (nodes_of s) s.row.now (node_in s f) x.stack x.lines x.place x.reach (rest_in s f)

    abbrev pub sequence_in : Open → State → State
    sequence_in f x = in_sequence means (nodes_of s) s.row.now (node_in s f) x.stack x.lines x.place x.reach x.told

    abbrev pub trial_in : Open → State → State
    trial_in f x = in_trial means (nodes_of s) s.row.now (node_in s f) x.stack x.lines x.place x.reach x.told

    abbrev pub choice_in : Open → State → State
    choice_in f x = in_choice means (nodes_of s) s.row.now (node_in s f) x.stack x.lines x.place x.reach x.told

    abbrev pub option_in : Open → State → State
    option_in f x = in_option means (nodes_of s) s.row.now (node_in s f) x.stack x.lines x.place x.reach x.told

    abbrev pub turned_in : Open → State → State
    turned_in f x = turn_by means (nodes_of s) s.row.now f.way (node_in s f) x.stack x.lines x.place x.reach x.told

    -- the reading of the root, open, from the row's beginning
    abbrev pub root_in : OpenReading
    root_in = open_reading means (nodes_of s) s.row.now (tree_of (nodes_of s) (constants_of s)) [] 0

    -- the reading of the whole row
    abbrev pub whole_in : OpenReading
    whole_in = whole_read means (nodes_of s) (constants_of s) s.row.now

  -- the mark of node i, sought for f at o, where reading goes on with g
  abbrev pub marked_in : Source F → ℕ → Open → Open → Option ℕ → State → State
  marked_in s i f g o x = sought i (node_in s f) (node_in s g) x.stack x.lines x.place x.reach o

-- that the innermost node's part broke, or was given up
abbrev pub broke : Told → Bool
broke Begin = false
broke Clean = false
broke Fault = true
broke Seek = true
broke Skip = true

-- what a reader has read that has no open node
abbrev pub read_in : Reader → List Line → OpenReading
read_in m ls = gave ls m.place (broke m.told) m.reach
