-- An amount's sign, digits and fraction, written one after the other.
use Rattle.std.proofs.Common.{◌≡◌, ℕ, zero, suc, ◌+◌, ◌/◌, ◌%◌, ◌^◌, ◌<◌, ◌≤◌, List, [], ◌∷◌, length, ℤ, decimal, unsigned_abs, refl, sym, ap, ◌∙◌, append_assoc, mod-eq_of_lt, mod-lt, arith}
use Rattle.fields.specs.Digits.{padded}
use Rattle.fields.specs.Amounts.{amount_spells, minus_of, point_of}
use Rattle.fields.specs.Buffers.{laid, over}
use Rattle.fields.specs.Writes.{Wrote, wrote_more, over_over}
use Rattle.fields.specs.AmountLaw.{pow_pos}

-- the point and the digits behind it, written one after the other
pub point_over : (p n at : ℕ) (out : List ℕ) → 0 < p → n < 10 ^ p → at ≤ length out → over (at + 1) (padded p n) (over at (46 ∷ []) out) ≡ over at (point_of p n) out
point_over zero n at out h k l = absurd (omega arith)
point_over (suc p) n at out h k l = over_over at (46 ∷ []) (padded (suc p) n) out l ∙ ap (λ m. over at (46 ∷ padded (suc p) m) out) (sym (mod-eq_of_lt k))

-- the digits behind the point, from a number and from what stands behind its point
pub point_part : (p n : ℕ) → point_of p (n % 10 ^ p) ≡ point_of p n
point_part zero n = refl
point_part (suc p) n = ap (λ m. 46 ∷ padded (suc p) m) (mod-eq_of_lt (mod-lt n (pow_pos (suc p))))

-- the sign, the digits before the point, and what follows, written one after the other
pub amount_over : (p : ℕ) (z : ℤ) (e o1 o2 o3 : List ℕ) (s m : ℕ) → s ≡ length (minus_of z) → m ≡ s + length (decimal (unsigned_abs z / 10 ^ p)) →
    o1 ≡ over 0 (minus_of z) e → o2 ≡ over s (decimal (unsigned_abs z / 10 ^ p)) o1 → o3 ≡ over m (point_of p (unsigned_abs z)) o2 → o3 ≡ laid (amount_spells p z) e
amount_over p z e o1 o2 o3 s m hs hm h1 h2 h3 =
    let n = unsigned_abs z in
    let w1 : Wrote (minus_of z) e o1 s = record { len = hs; after = h1 } in
    let w2 = wrote_more (decimal (n / 10 ^ p)) o2 m w1 hm h2 in
    let w3 = wrote_more (point_of p n) o3 (m + length (point_of p n)) w2 refl h3 in
    w3.after ∙ ap (λ x. laid x e) (append_assoc (minus_of z) (decimal (n / 10 ^ p)) (point_of p n))
