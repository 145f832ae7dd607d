-- Which refusal a table of records meets first, each tried on all nodes before the next.
use Rattle.std.specs.Prelude.{ℕ, List, None, Option}
use Rattle.std.specs.List.{list_any}
use Rattle.fields.specs.declared.cause.Sort.{Sort}
use Rattle.packed.specs.declared.record.NodeRecord.{NodeRecord}
use Rattle.layout.specs.declared.refusal.Refusal.{Refusal}
use Rattle.layout.specs.declared.refusal.Refusal.TheVariants.{Bits, Links, Stranded, Kind, Range, Depth}
use Rattle.layout.specs.Refusals.{or_else}
use Rattle.layout.specs.Links.{any_node, ill_linked, stranded, too_deep}
use Rattle.layout.specs.Shapes.{stray, link_in, links_in, unknown, outside}

-- how many columns there are, and how deep a node may lie
pub record Limits : Type 0 where
  pub columns : ℕ
  pub depth : ℕ

-- `sorts` says what the family makes of a kind with its parameter; k is the number of constants
abbrev pub judged : Limits → (ℕ → ℕ → Sort) → ℕ → List NodeRecord → Option Refusal
judged most sorts k rs =
    or_else (list_any stray rs) Bits
    (or_else (any_node (λ i r. ill_linked (links_in rs) i (link_in r)) rs) Links
    (or_else (any_node (λ i r. stranded (links_in rs) i (link_in r)) rs) Stranded
    (or_else (list_any (unknown sorts) rs) Kind
    (or_else (list_any (outside most.columns k) rs) Range
    (or_else (too_deep most.depth (links_in rs)) Depth None)))))

-- 32 columns, depth 16
abbrev pub limits : Limits
limits = record { columns = 32; depth = 16 }
