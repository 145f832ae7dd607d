-- Digits among the first bytes.
use Rattle.std.proofs.Common.{◌≡◌, ℕ, zero, suc, ◌+◌, ◌≤◌, ◌<◌, Bool, true, false, cond, List, [], ◌∷◌, length, take, nat_eq, nat_le, arith, ◌∙◌}
use Rattle.std.proofs.lemmas.Bool.Decides.{nat_tests}
use Rattle.std.proofs.lemmas.List.{length-take-le}
use Rattle.fields.specs.Digits.{is_digit, run}
use Rattle.fields.specs.Runs.{run_le, run_take}

longer : (u : Bool) (a b : ℕ) → a ≤ b → cond u (1 + a) 0 ≤ cond u (1 + b) 0
longer true a b h = omega (arith, h)
longer false a b h = omega arith

run_first : (n : ℕ) (bs : List ℕ) → run (take n bs) ≤ run bs
run_first zero bs = omega arith
run_first (suc n) [] = omega arith
run_first (suc n) (b ∷ bs) = longer (is_digit b) (run (take n bs)) (run bs) (run_first n bs)

-- fewer bytes than that
pub too_few : (n : ℕ) (bs : List ℕ) → length bs < n → false ≡ nat_le n (run bs)
too_few n bs h = let l = run_le bs in grind (arith, nat_tests, h, l)

same_test : (n r k : ℕ) → (r ≡ n → n ≤ k) → (n ≤ k → r ≡ n) → nat_eq r n ≡ nat_le n k
same_test n r k f g = grind (arith, nat_tests, f, g)

-- so many digits, if the run of the first so many bytes has them all
pub first_digits : (n : ℕ) (bs : List ℕ) (r : ℕ) → n ≤ length bs → r ≡ run (take n bs) → nat_eq r n ≡ nat_le n (run bs)
first_digits n bs r h e =
    same_test n r (run bs) (λ d. omega (arith, e, d, run_first n bs)) (λ l. e ∙ run_take n bs l ∙ length-take-le n bs h)
