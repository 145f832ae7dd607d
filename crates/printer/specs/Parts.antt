-- The parts of a printed report, one for each line.
use Rattle.std.specs.Prelude.{ℕ, List, take, drop}
use Rattle.fields.specs.Meanings.{Meaning}
use Rattle.layout.specs.declared.node.Node.{Node}
use Rattle.report.specs.declared.line.Line.{Line}
use Rattle.report.specs.Printing as defined
use Rattle.report.specs.Printing.{bytes_from, source_of, share_of}
use Rattle.printer.specs.declared.source.Source.{Source}
use Rattle.printer.specs.declared.source.Source.TheVariants.{Nothing, Byte, Spelling, KeptText}
use Rattle.printer.specs.declared.part.Part.{Part}

-- the definition's source for the code's
abbrev pub told : Source → defined.Source
told Nothing = defined.nothing
told (Byte byte) = defined.the_byte byte
told (Spelling kind) = defined.spelling kind.code kind.parameter
told KeptText = defined.kept_text

-- the bytes of a part
abbrev pub bytes_of : (ℕ → ℕ → Meaning) → Part → List ℕ
bytes_of means p = bytes_from means (told p.source) p.number p.text.now

module _ (means : ℕ → ℕ → Meaning) (nodes : List Node) where
  -- the bytes of a line, where this is the kept text from it on
  abbrev pub line_bytes : Line → List ℕ → List ℕ
  line_bytes l text = bytes_from means (source_of means nodes l) l.number (take (share_of means nodes l) text)

  -- the kept text from the next line on
  abbrev pub text_behind : Line → List ℕ → List ℕ
  text_behind l text = drop (share_of means nodes l) text
