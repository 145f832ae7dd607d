-- Lines behind which nothing is left to do: none of them is a fault, and none keeps text.
use Rattle.std.specs.Prelude.{◌≡◌, ℕ, Bool, true, false, List, [], ◌∷◌}
use Rattle.fields.specs.declared.cause.Sort.{Sort}
use Rattle.fields.specs.declared.cause.Sort.TheVariants.{Unknown, Numeric, Kept}
use Rattle.fields.specs.declared.family.Family.{Ghosts}
use Rattle.fields.specs.Meanings.{Meaning}
use Rattle.layout.specs.declared.node.Node.{Node}
use Rattle.report.specs.declared.line.Line.{Line}
use Rattle.report.specs.Outcomes.{role_of, is_fault}
use Rattle.report.specs.Printing.{share_of}
use Rattle.reader.specs.declared.source.Source.{Source}
use Rattle.reader.specs.Models.{nodes_of}

-- whether the bytes of such a field are kept
abbrev pub keeps : Sort → Bool
keeps Unknown = false
keeps Numeric = false
keeps Kept = true

module _ (means : ℕ → ℕ → Meaning) (nodes : List Node) where
  pub record PlainLine (l : Line) : Type 0 where
    pub sound : is_fault (role_of l.outcome) ≡ false
    pub textless : share_of means nodes l ≡ 0

  abbrev pub Plain : List Line → Type 0
  Plain [] = Unit {0}
  Plain (l ∷ ls) = PlainLine l × Plain ls

-- the same of a source
abbrev pub PlainIn : {F : Type 0} → Ghosts F → Source F → List Line → Type 0
PlainIn family s ls = Plain (family.means s.family.now) (nodes_of s) ls
