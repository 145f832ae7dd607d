-- A binary number is read exactly where its bytes stand.
use Rattle.std.proofs.Common.{◌≡◌, ℕ, suc, ◌-◌, ◌*◌, ◌^◌, ◌<◌, ◌≤◌, ltb, List, ◌++◌, length, take, ℤ, pos, negsuc, nat_abs, Ok, sym, refl, ap, ◌∙◌, subst, arith, length-append, ◌+◌}
use Rattle.std.proofs.lemmas.List.{take_at, length-take-le}
use Rattle.std.proofs.lemmas.Bool.{ltb-true, ltb-false, lt-ltb, le-ltb, cond-true, cond-false, cond_both}
use Rattle.fields.specs.Meanings.{Reading}
use Rattle.fields.specs.Laws.{Bytes}
use Rattle.fields.specs.Octets.{big, octets, twos, of_twos, lacking, unsigned, complement}
use Rattle.fields.specs.Spellings.{ReadsSpelling, Unsigned, Complement, Anywhere}
use Rattle.fields.specs.PlaceValues.{number_places}
use Rattle.fields.specs.Fairs.{good}
use Rattle.fields.specs.BigBytes.{length_octets, each_from, each_take, big_small, unsigned_lawful, complement_lawful}
use Rattle.fields.proofs.Stand.{tried_inv, stands}

-- the bytes of a number that they can hold, before other bytes
big_before : (p n : ℕ) (rest : List ℕ) → n < 256 ^ p → (p ≤ length (octets p n ++ rest)) × (big (take p (octets p n ++ rest)) ≡ n)
big_before p n rest h = (
  omega (arith, length-append (octets p n) rest, length_octets p n),
  ap big (take_at (octets p n) rest p (length_octets p n)) ∙ number_places 256 (λ b. b - 0) (λ d. 0 + d) (λ d k. omega arith) (omega arith) p n h,
)

-- what was read is below the power of 256
below : (p : ℕ) (bs : List ℕ) → Bytes bs → p ≤ length bs → big (take p bs) < 256 ^ p
below p bs b h = big_small p (take p bs) (each_take p bs (each_from bs b)) (length-take-le p bs h)

pub unsigned_rule : (p : ℕ) → 1 ≤ p → p ≤ 4 → ReadsSpelling (unsigned p) (Unsigned p) Anywhere
unsigned_rule p one few = record {
  only = λ bs n z b e.
      let t = tried_inv (lacking p bs) (p, pos (big (take p bs))) (n, z) e in
      let v : pos (big (take p bs)) ≡ z = ap (λ x. x.1) t.1 in
      let h = below p bs b (ltb-false (length bs) p t.0.0) in
      stands (unsigned p) (Unsigned p) Anywhere (unsigned_lawful p few) refl bs n z b e (sym v ∙ ap pos (ap nat_abs v), subst (λ x. nat_abs x < 256 ^ p) v h) tt;
  each = λ bs n z s.
      let cs = octets p (nat_abs z) ++ s.rest in
      let h = big_before p (nat_abs z) s.rest s.number.1 in
      let r : ◌≡◌ {A = Reading} (Ok (p, pos (big (take p cs)))) ((unsigned p).reads cs) = good (lacking p cs) (p, pos (big (take p cs))) (le-ltb (length cs) p h.0, tt) in
      ap (unsigned p).reads s.begins ∙ sym r ∙ ap (λ v. Ok (p, pos v)) h.1 ∙ ap (λ y. Ok (p, y)) (sym s.number.0) ∙ ap (λ k. Ok (k, z)) (sym (s.long ∙ length_octets p (nat_abs z)));
}

-- two's complement holds what it gives, and gives what it holds
twos_holds : (p n : ℕ) → n < 256 ^ p → Complement p (twos (256 ^ p) n)
twos_holds p n h = cond_both (ltb (2 * n) (256 ^ p)) (pos n) (negsuc (256 ^ p - suc n)) (Complement p) (λ e. ltb-true (2 * n) (256 ^ p) e) (λ e. omega (arith, ltb-false (2 * n) (256 ^ p) e))

held : (p : ℕ) (z : ℤ) → Complement p z → (of_twos (256 ^ p) z < 256 ^ p) × (twos (256 ^ p) (of_twos (256 ^ p) z) ≡ z)
held p (pos n) h = (omega arith, cond-true (ltb (2 * n) (256 ^ p)) _ _ (lt-ltb (2 * n) (256 ^ p) h))
held p (negsuc n) h =
    let full = 256 ^ p in
    let m = full - suc n in
    let e : full - suc m ≡ n = omega arith in
    (omega arith, cond-false (ltb (2 * m) full) _ _ (le-ltb (2 * m) full (omega arith)) ∙ ap negsuc e)

pub complement_rule : (p : ℕ) → 1 ≤ p → p ≤ 4 → ReadsSpelling (complement p) (Complement p) Anywhere
complement_rule p one few = record {
  only = λ bs n z b e.
      let t = tried_inv (lacking p bs) (p, twos (256 ^ p) (big (take p bs))) (n, z) e in
      let v : twos (256 ^ p) (big (take p bs)) ≡ z = ap (λ x. x.1) t.1 in
      let h = below p bs b (ltb-false (length bs) p t.0.0) in
      stands (complement p) (Complement p) Anywhere (complement_lawful p few) refl bs n z b e (subst (Complement p) v (twos_holds p (big (take p bs)) h)) tt;
  each = λ bs n z s.
      let w = of_twos (256 ^ p) z in
      let cs = octets p w ++ s.rest in
      let k = held p z s.number in
      let h = big_before p w s.rest k.0 in
      let r : ◌≡◌ {A = Reading} (Ok (p, twos (256 ^ p) (big (take p cs)))) ((complement p).reads cs) = good (lacking p cs) (p, twos (256 ^ p) (big (take p cs))) (le-ltb (length cs) p h.0, tt) in
      ap (complement p).reads s.begins ∙ sym r ∙ ap (λ v. Ok (p, twos (256 ^ p) v)) h.1 ∙ ap (λ y. Ok (p, y)) k.1 ∙ ap (λ j. Ok (j, z)) (sym (s.long ∙ length_octets p w));
}
