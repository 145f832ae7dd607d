-- A line that stands at the end of others is rewritten, or taken back.
use Rattle.std.proofs.Common.{◌≡◌, ℕ, zero, suc, ◌+◌, ◌<◌, ◌≤◌, List, [], ◌∷◌, ◌++◌, length, take, drop, set, sym, refl, ap, ◌∙◌, arith}

step : (a : ℕ) → a + 1 ≡ suc a
step a = omega arith

module _ {X : Type 0} where
  again_at : (a : ℕ) (xs ms : List X) (l : X) → a < length xs → set (take (suc a) xs ++ ms) a l ≡ take a (take (suc a) xs) ++ l ∷ ms
  again_at a [] ms l h = absurd (omega arith)
  again_at zero (x ∷ xs) ms l h = refl
  again_at (suc a) (x ∷ xs) ms l h = ap (λ (r : List X). x ∷ r) (again_at a xs ms l (omega arith))

  pub again : (a : ℕ) (xs ms : List X) (l : X) → a < length xs → set (take (a + 1) xs ++ ms) a l ≡ take a (take (a + 1) xs) ++ l ∷ ms
  again a xs ms l h =
      ap (λ k. set (take k xs ++ ms) a l) (step a) ∙ again_at a xs ms l h ∙ ap (λ k. take a (take k xs) ++ l ∷ ms) (sym (step a))

  all_at : (ls : List X) (a : X) → take (suc (length ls)) (ls ++ a ∷ []) ≡ ls ++ a ∷ []
  all_at [] a = refl
  all_at (x ∷ ls) a = ap (λ (l : List X). x ∷ l) (all_at ls a)

  -- all of it
  pub all : (ls : List X) (a : X) → take (length ls + 1) (ls ++ a ∷ []) ≡ ls ++ a ∷ []
  all ls a = ap (λ k. take k (ls ++ a ∷ [])) (step (length ls)) ∙ all_at ls a

  -- all that stood before
  pub front : (ls : List X) (a : X) → take (length ls) (ls ++ a ∷ []) ≡ ls
  front [] a = refl
  front (x ∷ ls) a = ap (λ (l : List X). x ∷ l) (front ls a)

  pub header : (ls ms : List X) (a b : X) → set ((ls ++ a ∷ []) ++ ms) (length ls) b ≡ ls ++ b ∷ ms
  header [] ms a b = refl
  header (x ∷ ls) ms a b = ap (λ (l : List X). x ∷ l) (header ls ms a b)

  past_at : (ls ms : List X) (a : X) → drop (suc (length ls)) ((ls ++ a ∷ []) ++ ms) ≡ ms
  past_at [] ms a = refl
  past_at (x ∷ ls) ms a = past_at ls ms a

  -- what stands behind it
  pub past : (ls ms : List X) (a : X) → drop (length ls + 1) ((ls ++ a ∷ []) ++ ms) ≡ ms
  past ls ms a = ap (λ k. drop k ((ls ++ a ∷ []) ++ ms)) (step (length ls)) ∙ past_at ls ms a

  pub append_assoc : (xs ys zs : List X) → (xs ++ ys) ++ zs ≡ xs ++ (ys ++ zs)
  append_assoc [] ys zs = refl
  append_assoc (x ∷ xs) ys zs = ap (λ (l : List X). x ∷ l) (append_assoc xs ys zs)

  -- what is added to a list does not change its beginning
  pub take_less : (a : ℕ) (xs ys : List X) → a ≤ length xs → take a (xs ++ ys) ≡ take a xs
  take_less zero xs ys h = refl
  take_less (suc a) [] ys h = absurd (omega arith)
  take_less (suc a) (x ∷ xs) ys h = ap (λ (l : List X). x ∷ l) (take_less a xs ys (omega arith))
