-- The number of each refusal, and the first of several that apply.
use Rattle.std.specs.Prelude.{ℕ, Bool, true, false, List, Some, Option, codes}
use Rattle.layout.specs.declared.refusal.Refusal.{Refusal}
use Rattle.layout.specs.declared.refusal.Refusal.TheVariants.{Size, Bits, Links, Stranded, Kind, Range, Depth}

abbrev pub number_of : Refusal → ℕ
number_of Size = 1
number_of Bits = 2
number_of Links = 3
number_of Stranded = 4
number_of Kind = 5
number_of Range = 6
number_of Depth = 7

-- what is printed of each
abbrev pub text_of : Refusal → List ℕ
text_of Size = codes "the length or the counts are wrong"
text_of Bits = codes "a shape is unknown, or a bit is set that should not be"
text_of Links = codes "a child or a next leads nowhere or back, is missing, or should not be there"
text_of Stranded = codes "a node is not child or next of exactly one"
text_of Kind = codes "a kind is unknown to the family"
text_of Range = codes "a column, a relation or a right side is out of range"
text_of Depth = codes "a node lies too deep"

-- where the test holds, that refusal; else what the later ones say
abbrev pub or_else : Bool → Refusal → Option Refusal → Option Refusal
or_else true e later = Some e
or_else false e later = later
