-- The first of the places whose byte passes a test is the first place that does.
use Rattle.std.proofs.Common.{◌≡◌, ℕ, zero, suc, ◌+◌, ◌-◌, Bool, true, false, List, [], ◌∷◌, Option, None, Some, length, MatchOption, slice_index, sym, refl, ap, subst, ◌∙◌, inl, inr, arith}
use Rattle.std.proofs.lemmas.Bool.{false≢true, cases_eq}
use Rattle.std.specs.Prelude.{if◌then◌else◌}
use Rattle.memchr.specs.Find.{IsFirstByte, NoneBefore, Nowhere, Passes, places, places_from}

module _ (test : ℕ → Bool) (hay : List ℕ) where
  -- one place more, which does not pass
  not_here : (i q : ℕ) → test (slice_index hay i) ≡ false → q ≡ i → Passes test hay q → ⊥
  not_here i q f same p = false≢true (sym f ∙ ap (λ k. test (slice_index hay k)) (sym same) ∙ p)

  none_more : (i n : ℕ) (t : Bool) (later : List ℕ) → test (slice_index hay i) ≡ t → (later ≡ [] → Nowhere (Passes test hay) (i + 1) (i + 1 + n)) → (if t then i ∷ later else later) ≡ [] → Nowhere (Passes test hay) i (i + suc n)
  none_more i n true later f on e = let z : ◌≡◌ {A = ℕ} 0 1 = cc in absurd (omega arith)
  none_more i n false later f on e = λ q a b p. elim (cases_eq q i) [ inl same ↦ not_here i q f same p | inr other ↦ on e q (omega arith) (omega arith) p ]

  none_from : (i n : ℕ) → places_from test hay i n ≡ [] → Nowhere (Passes test hay) i (i + n)
  unfolding places_from
  none_from i zero e = λ q a b p. absurd (omega arith)
  none_from i (suc n) e = none_more i n (test (slice_index hay i)) (places_from test hay (i + 1) n) refl (none_from (i + 1) n) e

  found_more : (i n k : ℕ) (ks : List ℕ) (t : Bool) (later : List ℕ) → test (slice_index hay i) ≡ t → (later ≡ k ∷ ks → NoneBefore (Passes test hay) (i + 1) (i + 1 + n) k × Passes test hay k) → (if t then i ∷ later else later) ≡ k ∷ ks → NoneBefore (Passes test hay) i (i + suc n) k × Passes test hay k
  found_more i n k ks true later f on e =
      let h : i ≡ k = cc in
      (record { low = omega arith; high = omega arith; before = λ q a b p. absurd (omega arith) }, subst (Passes test hay) h f)
  found_more i n k ks false later f on e =
      let r = on e in
      (record { low = omega (arith, r.0.low); high = omega (arith, r.0.high); before = λ q a b p. elim (cases_eq q i) [ inl same ↦ not_here i q f same p | inr other ↦ r.0.before q (omega arith) b p ] }, r.1)

  found_from : (i n k : ℕ) (ks : List ℕ) → places_from test hay i n ≡ k ∷ ks → NoneBefore (Passes test hay) i (i + n) k × Passes test hay k
  unfolding places_from
  found_from i zero k ks e = let z : ◌≡◌ {A = ℕ} 0 1 = cc in absurd (omega arith)
  found_from i (suc n) k ks e = found_more i n k ks (test (slice_index hay i)) (places_from test hay (i + 1) n) refl (found_from (i + 1) n k ks) e

  -- what the first step over the places answers
  pub first_place : (r : Option ℕ) (it rest : List ℕ) → it ≡ places test hay → MatchOption r ((it ≡ []) × (rest ≡ [])) (λ k. it ≡ k ∷ rest) → IsFirstByte test hay r
  first_place None it rest e h =
      let all : 0 + (length hay - 0) ≡ length hay = omega arith in
      subst (Nowhere (Passes test hay) 0) all (none_from 0 (length hay - 0) (sym e ∙ h.0))
  first_place (Some k) it rest e h =
      let all : 0 + (length hay - 0) ≡ length hay = omega arith in
      subst (λ n. NoneBefore (Passes test hay) 0 n k × Passes test hay k) all (found_from 0 (length hay - 0) k rest (sym e ∙ h))
