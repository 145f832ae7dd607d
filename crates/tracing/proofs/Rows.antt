-- What a pass over a row to come, or past the last, is known to be.
use Rattle.std.proofs.Common.{◌≡◌, ◌<◌, ℕ, ◌+◌, List, [], ◌∷◌, length, Some, None, Ok, Err, refl, sym, ap, subst, arith}
use Rattle.rows.specs.Cuts.{RowAt}
use Rattle.import.specs.declared.refusal.Refusal.{Refusal}
use Rattle.import.specs.Models.{Model}
use Rattle.import.specs.Scans.{Ready}
use Rattle.import.specs.Tells.{read_says}
use Rattle.passes.specs.declared.pass.Passed.{Passed}
use Rattle.passes.specs.Passes.{Went, Pass, over, said_pass}
use Rattle.passes.specs.Walks.{files, at_end, behind_row, walk_over, walk}
use Rattle.passes.proofs.WalkLaws.{ready_behind}

-- the first row to come was gone over
pub record OneRow (m n : Model) (w : Went) : Type 0 where
  pub row : RowAt
  pub rest : List RowAt
  pub is : m.ahead.rows ≡ row ∷ rest
  pub told : w ≡ over (m.counts.opened + 1) row.start (length row.bytes) row.mark (read_says m.setting row.bytes) (files m.setting row)
  pub left : n ≡ behind_row m row rest

module _ (m n : Model) where
  by_rows : (rs : List RowAt) (p : Passed) → m.ahead.rows ≡ rs → (said_pass (Ok (Some p)), n) ≡ walk_over m rs → OneRow m n (said_pass (Ok (Some p)))
  by_rows [] p e f = let z = ap (λ (x : Pass). x.0) f in absurd cc
  by_rows (r ∷ rs) p e f = record { row = r; rest = rs; is = e; told = ap (λ (x : Pass). x.0) f; left = ap (λ (x : Pass). x.1) f }

  pub one_row : (p : Passed) → (said_pass (Ok (Some p)), n) ≡ walk m → OneRow m n (said_pass (Ok (Some p)))
  one_row p f = by_rows m.ahead.rows p refl f

  none_by : (rs : List RowAt) → m.ahead.rows ≡ rs → (said_pass (Ok None), n) ≡ walk_over m rs → (m.ahead.rows ≡ []) × (n ≡ at_end m)
  none_by [] e f = (e, ap (λ (x : Pass). x.1) f)
  none_by (r ∷ rs) e f = let z = ap (λ (x : Pass). x.0) f in absurd cc

  pub no_row : (said_pass (Ok None), n) ≡ walk m → (m.ahead.rows ≡ []) × (n ≡ at_end m)
  no_row f = none_by m.ahead.rows refl f

  never_by : (why : Refusal) (rs : List RowAt) → (said_pass (Err why), n) ≡ walk_over m rs → ⊥
  never_by why [] f = let z = ap (λ (x : Pass). x.0) f in absurd cc
  never_by why (r ∷ rs) f = let z = ap (λ (x : Pass). x.0) f in absurd cc

  pub never_stops : (why : Refusal) → (said_pass (Err why), n) ≡ walk m → ⊥
  never_stops why f = never_by why m.ahead.rows f

  module _ (w : Went) (h : OneRow m n w) where
    pub fewer : length n.ahead.rows < length m.ahead.rows
    fewer = omega (arith, ap (λ (x : Model). length x.ahead.rows) h.left, ap length h.is)

    pub still_ready : (bytes : List ℕ) → Ready bytes m → Ready bytes n
    still_ready bytes r = subst (Ready bytes) (sym h.left) (ready_behind bytes m r h.row h.rest h.is)
