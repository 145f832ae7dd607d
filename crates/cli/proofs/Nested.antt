-- A sample of a sample is one sample.
use Rattle.std.proofs.Common.{◌≡◌, ℕ, zero, suc, ◌+◌, min, List, [], ◌∷◌, length, take, drop, ap, arith}
use mathlib.Core.Path.{fun_ext}
use Rattle.rows.specs.Cuts.{RowAt, texts, frames}
use Rattle.rows.specs.Rules.{Meaning}
use Rattle.rows.specs.Samples.{sampled}

take_least : (n k : ℕ) (rs : List RowAt) → take (min n k) rs ≡ take n (take k rs)
take_least zero k rs = let e : min 0 k ≡ 0 = omega arith in rw e
take_least (suc n) zero rs = let e : min (suc n) 0 ≡ 0 = omega arith in rw e
take_least (suc n) (suc k) [] = let e : min (suc n) (suc k) ≡ suc (min n k) = omega arith in rw e
take_least (suc n) (suc k) (r ∷ rs) = let e : min (suc n) (suc k) ≡ suc (min n k) = omega arith in rw (e, take_least n k rs)

pub least_sample : (n k : ℕ) (m : Meaning) → sampled (min n k) m ≡ sampled n (sampled k m)
least_sample n k m =
    let here : (file : List ℕ) → (sampled (min n k) m).cut file ≡ (sampled n (sampled k m)).cut file =
    λ file. ap (λ rs. record {
      rows = rs;
      tail = record { start = min (0 + length (frames m.frame (texts rs))) (length file); bytes = drop (min (0 + length (frames m.frame (texts rs))) (length file)) file };
    }) (take_least n k (m.cut file).rows) in
    ap (λ c. record { cut = c; frame = m.frame; carries = m.carries }) (fun_ext here)
