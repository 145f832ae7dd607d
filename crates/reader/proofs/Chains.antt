-- Open nodes, each in the next, when more is read.
use Rattle.std.proofs.Common.{ℕ, ◌≤◌, List, [], ◌∷◌, arith}
use Rattle.reader.specs.Turns.{Pending}
use Rattle.reader.specs.Nesting.{Chain, Began}

pub chain_more : (fs : List Pending) (m n : ℕ) → m ≤ n → Chain fs m → Chain fs n
chain_more [] m n h c = tt
chain_more (f ∷ fs) m n h c = (omega (arith, c.0), c.1, c.2)

pub began_more : (fs : List Pending) (p q : ℕ) → p ≤ q → Began fs p → Began fs q
began_more [] p q h b = tt
began_more (f ∷ fs) p q h b = (omega (arith, b.0), b.1)

-- the open nodes around the innermost one
pub outer : (f : Pending) (fs : List Pending) (n : ℕ) → Chain (f ∷ fs) n → Chain fs n
outer f fs n c = chain_more fs f.at n (omega (arith, c.0)) c.2
