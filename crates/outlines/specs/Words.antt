-- What a node of a layout is, in words.
use Rattle.std.specs.Prelude.{ℕ, ◌-◌, ◌*◌, ◌/◌, ◌%◌, true, List, [], ◌∷◌, ◌++◌, replicate, ℤ, pos, Some, None, Option, codes, decimal, slice_index_or}
use Rattle.std.specs.Fmt.{signed_decimal, digit_glyph}
use Rattle.layout.specs.declared.node.Relation.{Relation}
use Rattle.layout.specs.declared.node.Relation.TheVariants.{Equal, Unequal, Less, AtMost}
use Rattle.layout.specs.declared.node.Side.{Side}
use Rattle.layout.specs.declared.node.Side.TheVariants.{Column, Constant}
use Rattle.layout.specs.declared.node.Shape.{Shape}
use Rattle.layout.specs.declared.node.Shape.TheVariants.{Field, Mark, Sequence, Choice, Optional, Check}
use Rattle.cli.specs.declared.families.FamilyWords.{FamilyWords}
use Rattle.cli.specs.Kinds.{kind_name}

-- two spaces for each level above a node
abbrev pub indent : ℕ → List ℕ
indent depth = replicate (2 * (depth - 1)) 32

-- a byte as two hexadecimal digits
abbrev pub hex : ℕ → List ℕ
hex byte = digit_glyph true (byte / 16) ∷ digit_glyph true (byte % 16) ∷ []

-- the column of a field
abbrev pub column_words : Option ℕ → List ℕ
column_words None = codes "no column"
column_words (Some c) = codes "column " ++ decimal c

abbrev pub relation_words : Relation → List ℕ
relation_words Equal = codes "is equal to"
relation_words Unequal = codes "is unequal to"
relation_words Less = codes "is less than"
relation_words AtMost = codes "is at most"

-- the right side of a check: a column, or a constant with its value
abbrev pub side_words : List ℤ → Side → List ℕ
side_words constants (Column c) = codes "column " ++ decimal c
side_words constants (Constant k) = codes "constant " ++ (decimal k ++ (codes ", which is " ++ signed_decimal (slice_index_or constants k (pos 0))))

-- a field by what the family calls its kind
abbrev pub shape_words : FamilyWords → List ℤ → Shape → List ℕ
shape_words family constants (Field kind column) =
    kind_name family kind.code ++ (codes ", kind " ++ (decimal kind.code ++ (codes ", parameter " ++ (decimal kind.parameter ++ (codes ", " ++ column_words column)))))
shape_words family constants (Mark byte) = codes "mark, byte " ++ hex byte
shape_words family constants (Sequence child) = codes "sequence"
shape_words family constants (Choice child) = codes "choice"
shape_words family constants (Optional child) = codes "option"
shape_words family constants (Check relation left right) =
    codes "check, column " ++ (decimal left ++ (codes " " ++ (relation_words relation ++ (codes " " ++ side_words constants right))))
