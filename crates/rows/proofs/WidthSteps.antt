-- What a fixed width hands out, and what is then to come.
use Rattle.std.proofs.Common.{◌≡◌, ℕ, suc, ◌+◌, ◌-◌, ◌*◌, ◌/◌, ◌<◌, ◌≤◌, min, List, [], ◌∷◌, length, take, drop, sym, ap, ◌∙◌, add-zero, suc-mul, zero-mul, add-one, arith}
use native.Mathlib.Nat.{div-eq_of_lt, div-eq-sub-div}
use Rattle.std.proofs.lemmas.List.{drop-drop}
use Rattle.rows.specs.Cuts.{TailAt}
use Rattle.rows.specs.Told.{HandsOut, TellsTail, rest_at}
use Rattle.rows.specs.Widths.{slabs, fixed_count, fixed_from, fixed_at}
use Rattle.rows.specs.declared.piece.Mark.TheVariants.{Ended}
use Rattle.rows.specs.CutLaws.{hands_out, tells_tail}

abbrev tail_of : ℕ → ℕ → ℕ → List ℕ → TailAt
tail_of n w p file = record { start = p + n * w; bytes = drop (p + n * w) file }

module _ (w p : ℕ) (file : List ℕ) where
  -- fewer than w bytes are left
  short_ahead : length file - p < w → ((fixed_from w p file).rows ≡ []) × (record { start = p; bytes = drop p file } ≡ (fixed_from w p file).tail)
  short_ahead h =
      let z : p + 0 * w ≡ p = ap (λ k. p + k) (zero-mul w) ∙ add-zero p in
      (ap (λ n. slabs n w p (drop p file)) (div-eq_of_lt h), ap (λ k. record { start = k; bytes = drop k file }) (sym z) ∙ ap (λ n. tail_of n w p file) (sym (div-eq_of_lt h)))

  -- w bytes are left, or more
  module _ (some : 1 ≤ w) (h : w ≤ length file - p) where
    fewer : fixed_count w p file ≡ suc (fixed_count w (p + w) file)
    fewer =
        let e : (length file - p) - w ≡ length file - (p + w) = omega arith in
        div-eq-sub-div some h ∙ add-one _ ∙ ap (λ n. suc (n / w)) e

    row_ahead : (fixed_from w p file).rows ≡ record { start = p; bytes = take w (drop p file); mark = Ended } ∷ (fixed_from w (p + w) file).rows
    row_ahead =
        ap (λ n. slabs n w p (drop p file)) fewer
        ∙ ap (λ x. record { start = p; bytes = take w (drop p file); mark = Ended } ∷ slabs (fixed_count w (p + w) file) w (p + w) x) (drop-drop w p file)

    same_tail : (fixed_from w (p + w) file).tail ≡ (fixed_from w p file).tail
    same_tail =
        let m = fixed_count w (p + w) file in
        let k : p + w + m * w ≡ p + suc m * w = omega (arith, suc-mul m w) in
        ap (λ a. record { start = a; bytes = drop a file }) k ∙ ap (λ n. tail_of n w p file) (sym fewer)

-- what a place that may be past the file's end has ahead
module _ (w at : ℕ) (file : List ℕ) (start : ℕ) (is : start ≡ min at (length file)) where
  here : fixed_from w start file ≡ fixed_at w at file
  here = ap (λ p. fixed_from w p file) is

  pub tail_at : length file - start < w → TellsTail (fixed_at w at file) (rest_at at file)
  tail_at h =
      let short = short_ahead w start file h in
      tells_tail (fixed_at w at file) _ (ap (λ c. c.rows) (sym here) ∙ short.0) (ap (λ p. record { start = p; bytes = drop p file }) (sym is) ∙ short.1 ∙ ap (λ c. c.tail) here)

  pub row_at : 1 ≤ w → w ≤ length file - start → HandsOut (fixed_at w at file) (record { start = start; bytes = take w (drop start file); mark = Ended }) (fixed_at w (start + w) file)
  row_at some h =
      let c = fixed_at w at file in
      let next = fixed_from w (start + w) file in
      let rows : c.rows ≡ record { start = start; bytes = take w (drop start file); mark = Ended } ∷ next.rows = ap (λ c. c.rows) (sym here) ∙ row_ahead w start file some h in
      let same : fixed_at w (start + w) file ≡ record { rows = next.rows; tail = c.tail } =
      ap (λ p. fixed_from w p file) (let e : min (start + w) (length file) ≡ start + w = omega arith in e) ∙ ap (λ t. record { rows = next.rows; tail = t }) (same_tail w start file some h ∙ ap (λ c. c.tail) here) in
      rw same (hands_out c _ _ rows)
