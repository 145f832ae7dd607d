-- How nodes hang together by their numbers: children, siblings and depths.
use Rattle.std.specs.Prelude.{◌≡◌, ℕ, zero, suc, ◌+◌, ◌-◌, ◌<◌, ◌≤◌, Bool, false, cond, not, ◌&&◌, ◌||◌, List, [], ◌∷◌, length, ◌==◌, nat_le, nat_lt, slice_index_or}
use Rattle.std.specs.List.{list_any, enumerate_from}

-- what may stand below a node: nothing, one part, or several
pub data Arity : Type 0 where
  none one several : Arity

-- a node's arity, the number of its child and that of its next; 0 is no node
pub record Link : Type 0 where
  pub arity : Arity
  pub child : ℕ
  pub next : ℕ

-- the link of a node on which nothing hangs
abbrev pub no_link : Link
no_link = record { arity = none; child = 0; next = 0 }

-- the link of node i, from 1
abbrev pub link_at : List Link → ℕ → Link
link_at ls i = slice_index_or ls (i - 1) no_link

abbrev pub is_set : ℕ → Bool
is_set n = not (n == 0)

-- some node has the property, which sees its number, from 1
abbrev pub any_node : {X : Type 0} → (ℕ → X → Bool) → List X → Bool
any_node f xs = list_any (λ p. f (p.0 + 1) p.1) (enumerate_from 0 xs)

-- a link of node i, of n nodes, that is set and not above i, or above n
abbrev pub astray : ℕ → ℕ → ℕ → Bool
astray n i link = is_set link && (nat_le link i || nat_lt n link)

-- a node that should have a child has none
abbrev pub childless : Arity → ℕ → Bool
childless none child = false
childless one child = child == 0
childless several child = child == 0

-- a node that may have one child only has one with a next
abbrev pub crowded : Arity → ℕ → Bool
crowded none next = false
crowded one next = is_set next
crowded several next = false

-- what is below a node is not as it should be
abbrev pub ill_filled : List Link → Arity → ℕ → Bool
ill_filled ls arity child = childless arity child || crowded arity (link_at ls child).next

-- node i is ill linked: its child or next is astray, it is the root and has a next, its child is missing, or its only child has a next
abbrev pub ill_linked : List Link → ℕ → Link → Bool
ill_linked ls i l =
    (astray (length ls) i l.child || astray (length ls) i l.next)
    || ((i == 1 && is_set l.next) || ill_filled ls l.arity l.child)

abbrev pub one_if : Bool → ℕ
one_if b = cond b 1 0

-- how often a node has k as child or next
abbrev pub leads : ℕ → Link → ℕ
leads k l = one_if (l.child == k) + one_if (l.next == k)

-- how often node k is child or next of a node
abbrev pub links_to : ℕ → List Link → ℕ
links_to k [] = 0
links_to k (l ∷ ls) = leads k l + links_to k ls

-- node i is not the root, and is not child or next of exactly one
abbrev pub stranded : List Link → ℕ → Link → Bool
stranded ls i l = nat_lt 1 i && not (links_to i ls == 1)

-- The depth of node i: the root's is 1, a child's one more than its parent's, a sibling's the same.
pub data Depth (ls : List Link) : ℕ → ℕ → Type 0 where
  at_root : Depth ls 1 1
  at_child : {i d : ℕ} → Depth ls i d → 0 < (link_at ls i).child → Depth ls (link_at ls i).child (d + 1)
  at_next : {i d : ℕ} → Depth ls i d → 0 < (link_at ls i).next → Depth ls (link_at ls i).next d

-- node i lies at the depth d; then some node, i or what hangs on it, lies deeper than `most` (`fuel` bounds the walk)
abbrev pub deeper : ℕ → List Link → ℕ → ℕ → ℕ → Bool
deeper most ls zero d i = false
deeper most ls (suc fuel) d zero = false
deeper most ls (suc fuel) d (suc j) =
    nat_lt most d || (deeper most ls fuel (d + 1) (link_at ls (suc j)).child || deeper most ls fuel d (link_at ls (suc j)).next)

-- the root lies at depth 1; links rise, so that the number of nodes is fuel enough
abbrev pub too_deep : ℕ → List Link → Bool
too_deep most ls = deeper most ls (length ls) 1 1

-- the nodes hang together as one tree, no deeper than `most`
abbrev pub hang_ill : ℕ → List Link → Bool
hang_ill most ls = any_node (ill_linked ls) ls || (any_node (stranded ls) ls || too_deep most ls)

-- every node has a depth, and one only
pub record Depths (ls : List Link) : Type 0 where
  pub each : (i : ℕ) → 1 ≤ i → i ≤ length ls → (d : ℕ) × Depth ls i d
  pub only : (i d e : ℕ) → Depth ls i d → Depth ls i e → d ≡ e

-- no node lies deeper than `most`, or some node does
abbrev pub Shallow : ℕ → List Link → Type 0
Shallow most ls = (i d : ℕ) → Depth ls i d → d ≤ most

abbrev pub Deep : ℕ → List Link → Type 0
Deep most ls = (i : ℕ) × (d : ℕ) × Depth ls i d × (most < d)
