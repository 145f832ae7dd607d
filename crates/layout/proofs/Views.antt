-- A list seen through a function, and the links of records.
use Rattle.std.proofs.Common.{◌≡◌, ℕ, Bool, eqb, zero, suc, ◌+◌, ◌-◌, List, [], ◌∷◌, map, get_or, refl, ap, ap₂, ◌∙◌, arith}
use Rattle.std.specs.List.{count_by}
use Rattle.std.proofs.lemmas.List.Recursion.{is_sum_by}
use Rattle.packed.specs.declared.record.NodeRecord.{NodeRecord}
use Rattle.layout.specs.Links.{link_at, one_if, links_to}
use Rattle.layout.specs.Shapes.{link_in, links_in}

pub get_view : {X Y : Type 0} (f : X → Y) (xs : List X) (i : ℕ) (d : X) → get_or (map f xs) i (f d) ≡ f (get_or xs i d)
get_view f [] i d = refl
get_view f (x ∷ xs) zero d = refl
get_view f (x ∷ xs) (suc i) d = get_view f xs i d

-- a record of zeros
abbrev pub blank : NodeRecord
blank = record { shape = 0; kind = 0; parameter = 0; column = 0; child = 0; next = 0; rest = 0 }

-- the link of node i is that of its record
pub link_in_lem : (rs : List NodeRecord) (i : ℕ) → link_at (links_in rs) i ≡ link_in (get_or rs (i - 1) blank)
link_in_lem rs i = get_view link_in rs (i - 1) blank

pub link_next : (rs : List NodeRecord) (i : ℕ) → link_at (links_in rs) (i + 1) ≡ link_in (get_or rs i blank)
link_next rs i = let e : i + 1 - 1 ≡ i = omega arith in link_in_lem rs (i + 1) ∙ ap (λ n. link_in (get_or rs n blank)) e

-- how many elements pass a test
abbrev tally : {X : Type 0} → (X → Bool) → List X → ℕ
tally p [] = 0
tally p (x ∷ xs) = one_if (p x) + tally p xs

-- links are counted by child and by next
pub links_counted : (k : ℕ) (rs : List NodeRecord) → links_to k (links_in rs) ≡ count_by (λ r. eqb r.child k) rs + count_by (λ r. eqb r.next k) rs
links_counted k rs =
    by_both rs
    ∙ ap₂ ◌+◌ (is_sum_by (tally (λ r. eqb r.child k)) (λ r. one_if (eqb r.child k)) refl (λ _ _. refl) rs) (is_sum_by (tally (λ r. eqb r.next k)) (λ r. one_if (eqb r.next k)) refl (λ _ _. refl) rs)
  where
    by_both : (qs : List NodeRecord) → links_to k (links_in qs) ≡ tally (λ r. eqb r.child k) qs + tally (λ r. eqb r.next k) qs
    by_both [] = refl
    by_both (q ∷ qs) = omega (arith, by_both qs)
