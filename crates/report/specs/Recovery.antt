-- What an open reading gives, and how a sequence goes on after a break.
use Rattle.std.specs.Prelude.{ℕ, ◌+◌, max, Bool, true, false, List, [], ◌∷◌, ◌++◌, length, pos, Some, None, Option}
use Rattle.layout.specs.Trees.{Part, Parts, field, mark, check, sequence, choice, optional, end, ◌then◌}
use Rattle.report.specs.declared.outcome.Outcome.TheVariants.{Good}
use Rattle.report.specs.declared.line.Line.{Line}
use Rattle.report.specs.Lines.{line, skipped, scrap}
use Rattle.report.specs.Leaves.{first_from}

-- The lines of an open reading, the place behind it, whether it broke, and its reach: the most lines that stood at one time, those before it counted.
pub record OpenReading : Type 0 where
  pub lines : List Line
  pub place : ℕ
  pub broke : Bool
  pub reach : ℕ

abbrev pub gave : List Line → ℕ → Bool → ℕ → OpenReading
gave ls p b r = record { lines = ls; place = p; broke = b; reach = r }

-- lines that are written one after another, and all stay
abbrev pub wrote : List Line → List Line → ℕ → Bool → OpenReading
wrote pre ls p b = gave ls p b (length pre + length ls)

-- what is read behind lines `pre` from a place on
abbrev pub Rest : Type 0
Rest = List Line → ℕ → OpenReading

abbrev pub joins : OpenReading → OpenReading → OpenReading
joins r s = gave (r.lines ++ s.lines) s.place s.broke (max r.reach s.reach)

-- one reading, and then another
abbrev pub next : List Line → OpenReading → Rest → OpenReading
next pre r rest = joins r (rest (pre ++ r.lines) r.place)

-- the number of a part's node
abbrev pub node_of : Part → ℕ
node_of (field i kind parameter column) = i
node_of (mark i byte) = i
node_of (check i relation left right) = i
node_of (sequence i parts) = i
node_of (choice i parts) = i
node_of (optional i parts) = i

-- the byte of a part that is a mark
abbrev pub byte_of : Part → Option ℕ
byte_of (field i kind parameter column) = None
byte_of (mark i byte) = Some byte
byte_of (check i relation left right) = None
byte_of (sequence i parts) = None
byte_of (choice i parts) = None
byte_of (optional i parts) = None

-- one line for each part that is passed over
abbrev pub skips : Parts → ℕ → List Line
skips end p = []
skips (q then qs) p = skipped (node_of q) p ∷ skips qs p

-- the mark i, sought from p on and found at j: the bytes before it are scrap, and the mark is good
abbrev pub found : ℕ → ℕ → ℕ → List Line
found i p j = scrap i p j ++ line i Good j 1 (pos 0) ∷ []

-- reading goes on behind the sought mark where its byte is found; else the children `later` are passed over, and the sequence breaks
abbrev pub sought_at : ℕ → Parts → List Line → ℕ → Option ℕ → Rest → OpenReading
sought_at i later pre p None go_on = wrote pre (skips later p) p true
sought_at i later pre p (Some j) go_on = next pre (wrote pre (found i p j) (j + 1) false) go_on

-- After a break of the child q with the children qs behind it: q is the sought mark if it is a mark, else it is sought among qs.
abbrev pub broken : List ℕ → Option ℕ → Part → Parts → Rest → Rest → Rest
broken row None q qs go_on seek_on pre p = seek_on pre p
broken row (Some b) q qs go_on seek_on pre p = sought_at (node_of q) qs pre p (first_from row b p) go_on

-- While a mark is sought, the child q with the children qs behind it: it is passed over unless it is a mark.
abbrev pub sought : List ℕ → Option ℕ → Part → Parts → Rest → Rest → Rest
sought row None q qs go_on seek_on pre p = next pre (wrote pre (skipped (node_of q) p ∷ []) p false) seek_on
sought row (Some b) q qs go_on seek_on pre p = sought_at (node_of q) (q then qs) pre p (first_from row b p) go_on

-- behind the child q, which broke or not
abbrev pub after_child : List ℕ → Part → Parts → Bool → Rest → Rest → Rest
after_child row q qs true go_on seek_on pre p = broken row (byte_of q) q qs go_on seek_on pre p
after_child row q qs false go_on seek_on pre p = go_on pre p

-- the child q as it was read, and what follows
abbrev pub child_then : List ℕ → Part → Parts → List Line → OpenReading → Rest → Rest → OpenReading
child_then row q qs pre r go_on seek_on = next pre r (after_child row q qs r.broke go_on seek_on)
