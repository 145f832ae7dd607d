-- A property that some element of a list has, or some node of a table.
use Rattle.std.proofs.Common.{◌≡◌, ℕ, ◌+◌, ◌-◌, ◌<◌, ◌≤◌, Bool, false, ◌||◌, List, [], ◌∷◌, map, length, get_or, refl, ap, subst, inl, inr, arith}
use Rattle.std.specs.List.{list_any, enumerate_from}
use Rattle.std.proofs.lemmas.Bool.{both_ways, cases_Bool}
use Rattle.std.proofs.lemmas.List.Folds.{list_any_at}
use Rattle.std.proofs.lemmas.List.FromFn.{length-enumerate_from, get_or-enumerate_from}
use Rattle.layout.specs.Links.{any_node}

-- where none has it, each lacks it
pub lacks : {X : Type 0} (p : X → Bool) (xs : List X) → list_any p xs ≡ false → (k : ℕ) (d : X) → k < length xs → p (get_or xs k d) ≡ false
lacks p xs h k d l = elim (cases_Bool (p (get_or xs k d))) [ inl e ↦ absurd (both_ways (list_any p xs) h (list_any_at p xs k d l e)) | inr e ↦ e ]

-- where no node has it, the node of each number lacks it
pub node_lacks : {X : Type 0} (f : ℕ → X → Bool) (xs : List X) → any_node f xs ≡ false → (i : ℕ) (d : X) → 0 < i → i ≤ length xs → f i (get_or xs (i - 1) d) ≡ false
node_lacks f xs h i d o l =
    let back : 0 + (i - 1) + 1 ≡ i = omega arith in
    let here = lacks (λ p. f (p.0 + 1) p.1) (enumerate_from 0 xs) h (i - 1) (0, d) (omega (arith, length-enumerate_from 0 xs)) in
    subst (λ k. f k (get_or xs (i - 1) d) ≡ false) back (subst (λ p. f (p.0 + 1) p.1 ≡ false) (get_or-enumerate_from 0 xs (i - 1) (0, d) (omega arith)) here)

-- the same of another view of each element
pub any_map : {X Y : Type 0} (f : ℕ → Y → Bool) (g : X → Y) (i : ℕ) (xs : List X) → list_any (λ p. f (p.0 + 1) p.1) (enumerate_from i (map g xs)) ≡ list_any (λ p. f (p.0 + 1) (g p.1)) (enumerate_from i xs)
any_map f g i [] = refl
any_map f g i (x ∷ xs) = ap (λ b. f (i + 1) (g x) || b) (any_map f g (i + 1) xs)
