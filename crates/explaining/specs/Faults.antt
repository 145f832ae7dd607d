-- What is said of a part that a row is at fault in.
use Rattle.std.specs.Prelude.{ℕ, List, ◌++◌, ℤ, codes, decimal}
use Rattle.fields.specs.declared.cause.Cause.{Cause}
use Rattle.fields.specs.declared.cause.Cause.TheVariants.{Short, Form, Range, SecondSpelling}
use Rattle.fields.specs.Causes.{number_of, reason}
use Rattle.layout.specs.declared.node.Shape.{Shape}
use Rattle.layout.specs.declared.node.Shape.TheVariants.{Field, Mark, Sequence, Choice, Optional, Check}
use Rattle.cli.specs.declared.families.FamilyWords.{FamilyWords}
use Rattle.cli.specs.Kinds.{kind_name}
use Rattle.outlines.specs.Words.{shape_words}
use Rattle.explaining.specs.Causes.{cause_of}
use Rattle.explaining.specs.Shown.{shown_byte}

-- a field by what the family calls its kind, a mark with its byte
abbrev pub part_name : FamilyWords → List ℤ → Shape → List ℕ
part_name family constants (Field kind column) = kind_name family kind.code
part_name family constants (Mark byte) = codes "mark '" ++ (shown_byte byte ++ codes "'")
part_name family constants (Sequence child) = shape_words family constants (Sequence child)
part_name family constants (Choice child) = shape_words family constants (Choice child)
part_name family constants (Optional child) = shape_words family constants (Optional child)
part_name family constants (Check relation left right) = shape_words family constants (Check relation left right)

abbrev pub cause_words : Cause → List ℕ
cause_words c = reason c ++ (codes " (cause " ++ (decimal (number_of c) ++ codes ")"))

-- a mark's causes are that the row ends, and that it does not
abbrev pub mark_words : Cause → List ℕ
mark_words Short = codes "the row ends here"
mark_words Form = codes "another byte stands here"
mark_words Range = codes "another byte stands here"
mark_words SecondSpelling = codes "another byte stands here"

-- by the number of the fault's line; sequences and options are never at fault themselves
abbrev pub fault_words : Shape → ℤ → List ℕ
fault_words (Field kind column) z = cause_words (cause_of z)
fault_words (Mark byte) z = mark_words (cause_of z)
fault_words (Sequence child) z = codes "not read"
fault_words (Choice child) z = codes "no branch fits"
fault_words (Optional child) z = codes "not read"
fault_words (Check relation left right) z = codes "this does not hold"
