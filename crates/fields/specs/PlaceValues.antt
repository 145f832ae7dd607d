-- Numbers written with places in a base: the bytes that were read are the bytes that are written.
use Rattle.std.specs.Prelude.{◌≡◌, ℕ, zero, suc, ◌+◌, ◌-◌, ◌*◌, ◌/◌, ◌%◌, ◌^◌, ◌<◌, ◌≤◌, List, [], ◌∷◌, ◌++◌, length, take, drop, slice_index, slice_set, refl}
use Rattle.std.proofs.Common.{sym, ap, subst, ◌∙◌, pow-suc, mod-lt, mul-le-mul_right, suc-mul, div-add-mod', div-lt_iff_lt-mul, add-zero, mod-eq_of_lt, arith}
use Rattle.std.proofs.Math.Nat.{pow-zero, mul-add-div_right, mul-add-mod_self_right, div-eq_of_lt}
use Rattle.std.proofs.lemmas.List.{append_assoc, append-nil, length_push, drop_all, drop-set}
use Rattle.fields.specs.Places.{number_on, places}

-- two numbers side by side in a base, and apart again
pub joined_front : (a b base : ℕ) → b < base → (a * base + b) / base ≡ a
joined_front a b base h = mul-add-div_right (omega arith) a b ∙ ap (λ x. a + x) (div-eq_of_lt h) ∙ add-zero a

pub joined_back : (a b base : ℕ) → b < base → (a * base + b) % base ≡ b
joined_back a b base h = mul-add-mod_self_right a base b ∙ mod-eq_of_lt h

module _ (base : ℕ) (worth byte : ℕ → ℕ) where
  -- every byte is a place of the base
  abbrev pub Each : List ℕ → Type 0
  Each [] = Unit {0}
  Each (b ∷ bs) = ((worth b < base) × (byte (worth b) ≡ b)) × Each bs

  pub number_push : (n : ℕ) (bs : List ℕ) (b : ℕ) → number_on base worth n (bs ++ b ∷ []) ≡ number_on base worth n bs * base + worth b
  number_push n [] b = refl
  number_push n (c ∷ bs) b = number_push (n * base + worth c) bs b

  -- below the base to the power of the count of places
  pub number_below : (n m : ℕ) (bs : List ℕ) → Each bs → n < base ^ m → number_on base worth n bs < base ^ (m + length bs)
  number_below n m [] h k = rw add-zero k
  number_below n m (b ∷ bs) h k =
      let l : m + suc (length bs) ≡ suc m + length bs = omega arith in
      let e = pow-suc base m in
      let s : suc n * base ≤ base ^ m * base = mul-le-mul_right base k in
      let t = suc-mul n base in
      rw l (number_below (n * base + worth b) (suc m) bs h.1 (omega (arith, h.0.0)))

  pub number_small : (bs : List ℕ) → Each bs → number_on base worth 0 bs < base ^ length bs
  number_small bs h =
      let l : 0 + length bs ≡ length bs = omega arith in
      subst (λ k. number_on base worth 0 bs < base ^ k) l (number_below 0 0 bs h (omega (arith, pow-zero base)))

  pub each_take : (n : ℕ) (bs : List ℕ) → Each bs → Each (take n bs)
  each_take zero bs h = tt
  each_take (suc n) [] h = tt
  each_take (suc n) (b ∷ bs) h = (h.0, each_take n bs h.1)

  -- each byte by its place in the list
  pub each_at : (bs : List ℕ) (i : ℕ) → Each bs → i < length bs → (worth (slice_index bs i) < base) × (byte (worth (slice_index bs i)) ≡ slice_index bs i)
  each_at [] i h k = absurd (omega arith)
  each_at (b ∷ bs) zero h k = h.0
  each_at (b ∷ bs) (suc i) h k = each_at bs i h.1 (omega arith)

  pub length_places : (w n : ℕ) → length (places base byte w n) ≡ w
  length_places zero n = refl
  length_places (suc w) n = length_push (places base byte w (n / base)) (byte (n % base)) ∙ omega (arith, length_places w (n / base))

  pub places_on : (w n : ℕ) (bs : List ℕ) → Each bs → places base byte (w + length bs) (number_on base worth n bs) ≡ places base byte w n ++ bs
  places_on w n [] h = rw add-zero (sym (append-nil (places base byte w n)))
  places_on w n (b ∷ bs) h =
      let m = n * base + worth b in
      let l : w + suc (length bs) ≡ suc w + length bs = omega arith in
      ap (λ k. places base byte k (number_on base worth m bs)) l
      ∙ places_on (suc w) m bs h.1
      ∙ ap (λ k. (places base byte w k ++ (byte (m % base) ∷ [])) ++ bs) (joined_front n (worth b) base h.0.0)
      ∙ ap (λ k. (places base byte w n ++ (k ∷ [])) ++ bs) (ap byte (joined_back n (worth b) base h.0.0) ∙ h.0.1)
      ∙ append_assoc (places base byte w n) (b ∷ []) bs

  pub places_number : (bs : List ℕ) → Each bs → places base byte (length bs) (number_on base worth 0 bs) ≡ bs
  places_number bs h =
      let l : length bs ≡ 0 + length bs = omega arith in
      ap (λ k. places base byte k (number_on base worth 0 bs)) l ∙ places_on 0 0 bs h

  -- the number of the places of a number that they can hold
  pub number_places : ((d : ℕ) → d < base → worth (byte d) ≡ d) → 0 < base → (w n : ℕ) → n < base ^ w → number_on base worth 0 (places base byte w n) ≡ n
  number_places back some zero n h = omega (arith, pow-zero base)
  number_places back some (suc w) n h =
      let k : n / base < base ^ w = (div-lt_iff_lt-mul some).1 (subst (λ x. n < x) (pow-suc base w) h) in
      number_push 0 (places base byte w (n / base)) (byte (n % base))
      ∙ ap (λ x. x * base + worth (byte (n % base))) (number_places back some w (n / base) k)
      ∙ ap (λ x. n / base * base + x) (back (n % base) (mod-lt n some))
      ∙ div-add-mod' n base

  -- writing from the last place on: nothing yet, and one place more before those that stand
  pub fill_none : (n : ℕ) (out : List ℕ) → places base byte (length out) n ≡ places base byte (length out) n ++ drop (length out) out
  fill_none n out = sym (ap (λ x. places base byte (length out) n ++ x) (drop_all (length out) out (omega arith)) ∙ append-nil _)

  pub fill_more : (i n : ℕ) (out : List ℕ) → 0 < i → i ≤ length out → places base byte i n ++ drop i out ≡ places base byte (i - 1) (n / base) ++ drop (i - 1) (slice_set out (i - 1) (byte (n % base)))
  fill_more i n out h k =
      let j = i - 1 in
      let e : i ≡ suc j = omega arith in
      let f : j + 1 ≡ i = omega arith in
      ap (λ m. places base byte m n ++ drop i out) e
      ∙ append_assoc (places base byte j (n / base)) (byte (n % base) ∷ []) (drop i out)
      ∙ ap (λ x. places base byte j (n / base) ++ x) (sym (drop-set out j (byte (n % base)) (omega arith) ∙ ap (λ m. byte (n % base) ∷ drop m out) f))

-- bytes that follow one another from `first` on
abbrev pub EachFrom : ℕ → ℕ → List ℕ → Type 0
EachFrom base first = Each base (λ b. b - first) (λ d. first + d)
