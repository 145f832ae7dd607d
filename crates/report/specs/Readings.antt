-- Reading a part open, so that every byte of the row comes to stand in some line.
use Rattle.std.specs.Prelude.{ℕ, ◌+◌, ◌-◌, true, false, List, [], ◌∷◌, ◌++◌, length, drop, pos, Ok, Err}
use Rattle.fields.specs.Causes.{number_of}
use Rattle.fields.specs.Meanings.{Meaning, Reading}
use Rattle.layout.specs.declared.node.Node.{Node}
use Rattle.layout.specs.Trees.{Part, Parts, field, mark, check, sequence, choice, optional, end, ◌then◌}
use Rattle.report.specs.declared.outcome.Outcome.{Outcome}
use Rattle.report.specs.declared.outcome.Outcome.TheVariants.{Good, SyntaxFault, Absent}
use Rattle.report.specs.declared.line.Line.{Line}
use Rattle.report.specs.Lines.{line, begun, faults, overall}
use Rattle.report.specs.Values.{values}
use Rattle.report.specs.Checks.{checked}
use Rattle.report.specs.Leaves.{mark_reads}
use Rattle.report.specs.Trials.{Trial, clean, given_up, under, trials, branches}
use Rattle.report.specs.Recovery.{OpenReading, gave, wrote, byte_of, child_then, sought}

-- a field or a mark: a cause is a fault with the cause as number, takes nothing, and breaks
abbrev pub leaf_read : ℕ → List Line → ℕ → Reading → OpenReading
leaf_read i pre p (Ok x) = wrote pre (line i Good p x.0 x.1 ∷ []) (p + x.0) false
leaf_read i pre p (Err c) = wrote pre (line i SyntaxFault p 0 (pos (number_of c)) ∷ []) p true

-- a check never breaks
abbrev pub check_read : ℕ → List Line → ℕ → Outcome → OpenReading
check_read i pre p o = wrote pre (line i o p 0 (pos 0) ∷ []) p false

-- a choice with no clean branch is a fault with the number 5, and breaks
abbrev pub choice_read : ℕ → ℕ → Trial → OpenReading
choice_read i p (clean ls q r) = gave ls q false r
choice_read i p (given_up r) = gave (line i SyntaxFault p 0 (pos 5) ∷ []) p true r

-- an option whose part is given up is absent, and never breaks
abbrev pub option_read : ℕ → ℕ → Trial → OpenReading
option_read i p (clean ls q r) = gave ls q false r
option_read i p (given_up r) = gave (line i Absent p 0 (pos 0) ∷ []) p false r

-- a sequence's own line covers what its children took, and tells whether a fault is below it
abbrev pub sequence_read : ℕ → ℕ → OpenReading → OpenReading
sequence_read i p r = gave (line i (overall (faults r.lines)) p (r.place - p) (pos 0) ∷ r.lines) r.place r.broke r.reach

module _ (means : ℕ → ℕ → Meaning) (nodes : List Node) (row : List ℕ) where
  -- A part at place p, and `pre` are the lines that stand before: those of its parents are begun.
  abbrev mutual
    pub open_reading : Part → List Line → ℕ → OpenReading
    open_reading (field i kind parameter column) pre p = leaf_read i pre p ((means kind parameter).reads (drop p row))
    open_reading (mark i byte) pre p = leaf_read i pre p (mark_reads byte (drop p row))
    open_reading (check i relation left right) pre p = check_read i pre p (checked relation left right (values nodes pre))
    open_reading (sequence i parts) pre p = sequence_read i p (children parts (pre ++ begun i p ∷ []) p)
    open_reading (choice i parts) pre p = choice_read i p (branches means nodes row parts i 1 (pre ++ begun i p ∷ []) p)
    open_reading (optional i parts) pre p = option_read i p (under i p (pos 1) (trials means nodes row parts (pre ++ begun i p ∷ []) p))

    -- the children of a sequence in order; after a break a mark is sought
    pub children : Parts → List Line → ℕ → OpenReading
    children end pre p = gave [] p false (length pre)
    children (q then qs) pre p = child_then row q qs pre (open_reading q pre p) (λ pre' p'. children qs pre' p') (λ pre' p'. seeking qs pre' p')

    -- the children of a sequence while a mark is sought; with none left the sequence breaks
    pub seeking : Parts → List Line → ℕ → OpenReading
    seeking end pre p = gave [] p true (length pre)
    seeking (q then qs) pre p = sought row (byte_of q) q qs (λ pre' p'. children qs pre' p') (λ pre' p'. seeking qs pre' p') pre p
