-- Numbers of a fixed count of bytes are written with the bytes that they were read from.
use Rattle.std.specs.Prelude.{◌≡◌, ℕ, suc, ◌-◌, ◌*◌, ◌^◌, ◌<◌, ◌≤◌, Bool, true, ◌&&◌, List, [], ◌∷◌, length, take, pos, negsuc, ◌==◌, nat_le, nat_lt, unsigned_abs, refl, ◌+◌}
use Rattle.std.proofs.Common.{sym, ap, subst, ◌∙◌, arith}
use Rattle.std.proofs.Math.Nat.{pow-le-pow_right}
use Rattle.std.proofs.lemmas.List.{length-take-le}
use Rattle.std.proofs.lemmas.Bool.{ltb-false, leb-true, and_parts, cond_both}
use Rattle.fields.specs.declared.cause.Sort.TheVariants.{Numeric, Kept}
use Rattle.fields.specs.Laws.{Bytes, Lawful}
use Rattle.fields.specs.Octets.{big, octets, twos, of_twos, lacking, unsigned, complement, stored, few, binary_means}
use Rattle.fields.specs.PlaceValues.{EachFrom, each_take as take_each, number_small, places_number, length_places}
use Rattle.fields.specs.Fairs.{kind_lawful, unknown_lawful}

-- every one is a byte, element by element
abbrev pub Octets : List ℕ → Type 0
Octets bs = EachFrom 256 0 bs

pub each_from : (bs : List ℕ) → Bytes bs → Octets bs
each_from [] h = tt
each_from (b ∷ bs) h = ((omega (arith, h 0), omega arith), each_from bs (λ i. h (suc i)))

pub each_take : (n : ℕ) (bs : List ℕ) → Octets bs → Octets (take n bs)
each_take n bs h = take_each 256 (λ b. b - 0) (λ d. 0 + d) n bs h

-- below 256 to the power of their count
pub big_small : (p : ℕ) (bs : List ℕ) → Octets bs → length bs ≡ p → big bs < 256 ^ p
big_small p bs h e = subst (λ k. big bs < 256 ^ k) e (number_small 256 (λ b. b - 0) (λ d. 0 + d) bs h)

octets_big : (p : ℕ) (bs : List ℕ) → Octets bs → length bs ≡ p → octets p (big bs) ≡ bs
octets_big p bs h e = ap (λ k. octets k (big bs)) (sym e) ∙ places_number 256 (λ b. b - 0) (λ d. 0 + d) bs h

pub twos_back : (full n : ℕ) → n < full → of_twos full (twos full n) ≡ n
twos_back full n h = cond_both (nat_lt (2 * n) full) (pos n) (negsuc (full - suc n)) (λ z. of_twos full z ≡ n) (λ _. refl) (λ _. omega arith)

twos_small : (full n : ℕ) → n < full → unsigned_abs (twos full n) ≤ full
twos_small full n h = cond_both (nat_lt (2 * n) full) (pos n) (negsuc (full - suc n)) (λ z. unsigned_abs z ≤ full) (λ _. omega arith) (λ _. omega arith)

pub four : (p : ℕ) → p ≤ 4 → 256 ^ p ≤ 4294967296
four p h = pow-le-pow_right {n = 256} (omega arith) h

pub unsigned_lawful : (p : ℕ) → p ≤ 4 → Lawful (unsigned p)
unsigned_lawful p few = kind_lawful Numeric (lacking p) (λ bs. (p, pos (big (take p bs)))) (λ z. octets p (unsigned_abs z)) λ bs r h.
    let long : p ≤ length bs = ltb-false (length bs) p h.0 in
    let l = length-take-le p bs long in
    let b = each_take p bs (each_from bs r) in
    (long, omega (arith, big_small p (take p bs) b l, four p few), octets_big p (take p bs) b l)

pub complement_lawful : (p : ℕ) → p ≤ 4 → Lawful (complement p)
complement_lawful p few = kind_lawful Numeric (lacking p) (λ bs. (p, twos (256 ^ p) (big (take p bs)))) (λ z. octets p (of_twos (256 ^ p) z)) λ bs r h.
    let long : p ≤ length bs = ltb-false (length bs) p h.0 in
    let l = length-take-le p bs long in
    let b = each_take p bs (each_from bs r) in
    let s = big_small p (take p bs) b l in
    (long, omega (arith, twos_small (256 ^ p) (big (take p bs)) s, four p few), ap (octets p) (twos_back (256 ^ p) (big (take p bs)) s) ∙ octets_big p (take p bs) b l)

pub stored_lawful : (p : ℕ) → p ≤ 255 → Lawful (stored p)
stored_lawful p few = kind_lawful Kept (lacking p) (λ _. (p, pos p)) (λ _. []) λ bs r h. (ltb-false (length bs) p h.0, omega arith, refl)

up_to : (a b c : Bool) (p n : ℕ) → c ≡ nat_le p n → (a && (b && c)) ≡ true → p ≤ n
up_to a b c p n e h = leb-true p n (sym e ∙ (and_parts b c (and_parts a (b && c) h).1).1)

pub binary_lawful : (k p : ℕ) → Lawful (binary_means k p)
binary_lawful k p =
    cond_both (k == 1 && few p) _ _ Lawful (λ e. unsigned_lawful p (up_to (k == 1) (nat_le 1 p) (nat_le p 4) p 4 refl e))
    (λ _. cond_both (k == 2 && few p) _ _ Lawful (λ e. complement_lawful p (up_to (k == 2) (nat_le 1 p) (nat_le p 4) p 4 refl e))
    (λ _. cond_both (k == 3 && (nat_le 1 p && nat_le p 255)) _ _ Lawful (λ e. stored_lawful p (up_to (k == 3) (nat_le 1 p) (nat_le p 255) p 255 refl e)) (λ _. unknown_lawful)))

pub length_octets : (w n : ℕ) → length (octets w n) ≡ w
length_octets w n = length_places 256 (λ b. b - 0) (λ d. 0 + d) w n

-- one to four bytes hold a field's number
pub small_field : (p n l : ℕ) → p ≤ 4 → l ≡ p → n < 256 ^ l → (n < 256 ^ p) × (256 ^ p ≤ 4294967296)
small_field p n l h e k = (subst (λ j. n < 256 ^ j) e k, four p h)
