-- The kept text of a report's lines, and what printing makes of lines and kept text.
use Rattle.std.specs.Prelude.{ℕ, List, [], ◌∷◌, ◌++◌, take, drop, ℤ}
use Rattle.fields.specs.declared.cause.Sort.{Sort}
use Rattle.fields.specs.declared.cause.Sort.TheVariants.{Unknown, Numeric, Kept}
use Rattle.fields.specs.Meanings.{Meaning}
use Rattle.layout.specs.declared.node.Shape.{Shape}
use Rattle.layout.specs.declared.node.Shape.TheVariants.{Field, Mark, Sequence, Choice, Optional, Check}
use Rattle.layout.specs.declared.node.Node.{Node}
use Rattle.layout.specs.Trees.{node_at}
use Rattle.report.specs.declared.line.Line.{Line}
use Rattle.report.specs.Outcomes.{Role, what_was_read, a_fault, loose_bytes, a_note, role_of}

-- where the bytes of a line come from
pub data Source : Type 0 where
  -- it has none
  nothing : Source
  -- a mark gives its byte
  the_byte : (byte : ℕ) → Source
  -- a number is spelled
  spelling : (kind parameter : ℕ) → Source
  -- the next of the kept text, as many as the line is long
  kept_text : Source

-- a field that was read
abbrev pub field_source : Sort → ℕ → ℕ → Source
field_source Unknown kind parameter = nothing
field_source Numeric kind parameter = spelling kind parameter
field_source Kept kind parameter = kept_text

-- how many bytes of the kept text a line of this length takes
abbrev pub share : Source → ℕ → ℕ
share nothing n = 0
share (the_byte byte) n = 0
share (spelling kind parameter) n = 0
share kept_text n = n

module _ (means : ℕ → ℕ → Meaning) where
  -- a node that was read
  abbrev pub shape_source : Shape → Source
  shape_source (Field kind column) = field_source (means kind.code kind.parameter).sort kind.code kind.parameter
  shape_source (Mark byte) = the_byte byte
  shape_source (Sequence child) = nothing
  shape_source (Choice child) = nothing
  shape_source (Optional child) = nothing
  shape_source (Check relation left right) = nothing

  abbrev pub source_by : Role → Shape → Source
  source_by what_was_read s = shape_source s
  source_by a_fault s = nothing
  source_by loose_bytes s = kept_text
  source_by a_note s = nothing

  -- the bytes of a line with this number and this share of the kept text
  abbrev pub bytes_from : Source → ℤ → List ℕ → List ℕ
  bytes_from nothing z text = []
  bytes_from (the_byte byte) z text = byte ∷ []
  bytes_from (spelling kind parameter) z text = (means kind parameter).spells z
  bytes_from kept_text z text = text

module _ (means : ℕ → ℕ → Meaning) (nodes : List Node) where
  abbrev pub source_of : Line → Source
  source_of l = source_by means (role_of l.outcome) (node_at nodes l.node).shape

  -- how many bytes of the kept text are a line's
  abbrev pub share_of : Line → ℕ
  share_of l = share (source_of l) l.length

  -- the bytes of good kept fields and of scrap in the row, in line order
  abbrev pub kept : List ℕ → List Line → List ℕ
  kept row [] = []
  kept row (l ∷ ls) = take (share_of l) (drop l.start row) ++ kept row ls

  -- lines in order, from the kept text
  abbrev pub printed : List Line → List ℕ → List ℕ
  printed [] text = []
  printed (l ∷ ls) text = bytes_from means (source_of l) l.number (take (share_of l) text) ++ printed ls (drop (share_of l) text)
