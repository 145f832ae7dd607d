-- A date is spelled with the ten bytes that it was read from.
use Rattle.std.specs.Prelude.{◌≡◌, ℕ, ◌+◌, ◌*◌, ◌/◌, ◌%◌, ◌^◌, ◌<◌, ◌≤◌, true, false, List, [], ◌∷◌, ◌++◌, length, take, drop, Ok, Err, nat_le, slice_index, slice_index_or, refl}
use Rattle.std.proofs.Common.{sym, ap, ◌∙◌, ⊎_elim, arith, take-add}
use Rattle.std.proofs.lemmas.List.{length-take-le, drop_more}
use Rattle.std.proofs.lemmas.Bool.{eqb-true, ltb-false, leb-true, and_parts, and_from, not-false, not_from_true, not_from_false, eq-eqb, le-ltb, cases_Bool}
use Rattle.fields.specs.declared.cause.Cause.TheVariants.{Form, Range}
use Rattle.fields.specs.declared.cause.Sort.TheVariants.{Numeric}
use Rattle.fields.specs.Laws.{Lawful}
use Rattle.fields.specs.Meanings.{Reading}
use Rattle.fields.specs.Digits.{run, value, padded, digits_at, all_at}
use Rattle.fields.specs.Calendar.{is_date}
use Rattle.fields.specs.Dates.{formed, year, month, day, date_tests, date_gives, date_spells, date}
use Rattle.fields.specs.Fairs.{kind_lawful, refused, good}
use Rattle.fields.specs.Runs.{padded_value, run_le, run_take, value_take, first_of, part_at}

take_one : (i : ℕ) (bs : List ℕ) → i < length bs → take 1 (drop i bs) ≡ slice_index bs i ∷ []
take_one i bs h = ap (take 1) (drop_more bs i 0 h)

-- n digits at a place
pub record Digits (at n : ℕ) (bs : List ℕ) : Type 0 where
  pub len : length (digits_at at n bs) ≡ n
  pub many : n ≤ run (drop at bs)
  pub small : value (digits_at at n bs) < 10 ^ n
  pub back : padded n (value (digits_at at n bs)) ≡ digits_at at n bs

pub digits_at_lem : (at n : ℕ) (bs : List ℕ) → all_at at n bs ≡ true → Digits at n bs
digits_at_lem at n bs e =
    let ds = digits_at at n bs in
    let m : n ≤ run (drop at bs) = leb-true n (run (drop at bs)) e in
    let l : length ds ≡ n = length-take-le n (drop at bs) (omega (arith, run_le (drop at bs))) in
    record { len = l; many = m; small = value_take n n (drop at bs) m (omega arith); back = ap (λ k. padded k (value ds)) (sym l) ∙ padded_value ds (run_take n (drop at bs) m) }

-- a date's form, in its parts
pub record Formed (bs : List ℕ) : Type 0 where
  pub years : Digits 0 4 bs
  pub first : slice_index_or bs 4 0 ≡ 45
  pub months : Digits 5 2 bs
  pub second : slice_index_or bs 7 0 ≡ 45
  pub days_of : Digits 8 2 bs

pub formed_parts : (bs : List ℕ) → formed bs ≡ true → Formed bs
formed_parts bs f =
    let a = and_parts _ _ f in
    let b = and_parts _ _ a.1 in
    let c = and_parts _ _ b.1 in
    let d = and_parts _ _ c.1 in
    record {
      years = digits_at_lem 0 4 bs a.0;
      first = eqb-true (slice_index bs 4) 45 b.0;
      months = digits_at_lem 5 2 bs c.0;
      second = eqb-true (slice_index bs 7) 45 d.0;
      days_of = digits_at_lem 8 2 bs d.1;
    }

pub date_lawful : Lawful date
date_lawful = kind_lawful Numeric date_tests date_gives date_spells λ bs r h.
    let long : 10 ≤ length bs = ltb-false (length bs) 10 h.0 in
    let f = formed_parts bs (not-false _ h.1.0) in
    let n = 10000 * year bs + 100 * month bs + day bs in
    let sy : year bs < 10000 = f.years.small in
    let sm : month bs < 100 = f.months.small in
    let sd : day bs < 100 = f.days_of.small in
    let ey : n / 10000 ≡ year bs = omega arith in
    let em : n / 100 % 100 ≡ month bs = omega arith in
    let ed : n % 100 ≡ day bs = omega arith in
    let py : padded 4 (n / 10000) ≡ take 4 bs = ap (padded 4) ey ∙ f.years.back in
    let p1 : 45 ∷ [] ≡ take 1 (drop 4 bs) = ap (λ b. b ∷ []) (sym f.first) ∙ sym (take_one 4 bs (omega arith)) in
    let pm : padded 2 (n / 100 % 100) ≡ take 2 (drop 5 bs) = ap (padded 2) em ∙ f.months.back in
    let p2 : 45 ∷ [] ≡ take 1 (drop 7 bs) = ap (λ b. b ∷ []) (sym f.second) ∙ sym (take_one 7 bs (omega arith)) in
    let pd : padded 2 (n % 100) ≡ take 2 (drop 8 bs) = ap (padded 2) ed ∙ f.days_of.back in
    let t : take 10 bs ≡ take 4 bs ++ take 1 (drop 4 bs) ++ take 2 (drop 5 bs) ++ take 1 (drop 7 bs) ++ take 2 (drop 8 bs) =
    take-add 8 2 bs ∙ ap (λ x. x ++ take 2 (drop 8 bs)) (take-add 7 1 bs ∙ ap (λ x. x ++ take 1 (drop 7 bs)) (take-add 5 2 bs ∙ ap (λ x. x ++ take 2 (drop 5 bs)) (take-add 4 1 bs))) in
    (long, omega arith, cc)

pub not_formed : (bs : List ℕ) → (Formed bs → ⊥) → formed bs ≡ false
not_formed bs h = ⊎_elim (λ t. absurd (h (formed_parts bs t))) (λ f. f) (cases_Bool (formed bs))

-- ways that a reading ends
pub no_form : (bs : List ℕ) → 10 ≤ length bs → formed bs ≡ false → ◌≡◌ {A = Reading} (Err Form) (date.reads bs)
no_form bs l h = refused 1 (date_tests bs) (date_gives bs) Form (le-ltb (length bs) 10 l, (not_from_false (formed bs) h, refl))

pub no_date : (bs : List ℕ) → 10 ≤ length bs → formed bs ≡ true → is_date (year bs) (month bs) (day bs) ≡ false → ◌≡◌ {A = Reading} (Err Range) (date.reads bs)
no_date bs l h d = refused 2 (date_tests bs) (date_gives bs) Range (le-ltb (length bs) 10 l, (not_from_true (formed bs) h, (not_from_false _ d, refl)))

pub good_date : (bs : List ℕ) → 10 ≤ length bs → formed bs ≡ true → is_date (year bs) (month bs) (day bs) ≡ true → ◌≡◌ {A = Reading} (Ok (date_gives bs)) (date.reads bs)
good_date bs l h d = good (date_tests bs) (date_gives bs) (le-ltb (length bs) 10 l, (not_from_true (formed bs) h, (not_from_true _ d, tt)))

-- the parts of a date at their places
pub all_at_lem : (bs : List ℕ) (start k n at : ℕ) → at ≡ start + k → all_at at n bs ≡ all_at k n (drop start bs)
all_at_lem bs start k n at e = ap (λ x. nat_le n (run x)) (part_at bs start k at e)

pub value_at : (bs : List ℕ) (start k n at : ℕ) → at ≡ start + k → value (digits_at at n bs) ≡ value (digits_at k n (drop start bs))
value_at bs start k n at e = ap (λ x. value (take n x)) (part_at bs start k at e)

-- the parts of a date, where they stand
pub record Parts (bs : List ℕ) (y m d : ℕ) : Type 0 where
  pub form : formed bs ≡ true
  pub years : y ≡ year bs
  pub months : m ≡ month bs
  pub days_of : d ≡ day bs

pub parts_at : (bs b c d e : List ℕ) (y m k : ℕ) → b ≡ drop 4 bs → c ≡ drop 5 bs → d ≡ drop 7 bs → e ≡ drop 8 bs → (all_at 0 4 bs ≡ true) × (y ≡ value (take 4 bs)) → slice_index b 0 ≡ 45 →
    (all_at 0 2 c ≡ true) × (m ≡ value (take 2 c)) → slice_index d 0 ≡ 45 → (all_at 0 2 e ≡ true) × (k ≡ value (take 2 e)) → Parts bs y m k
parts_at bs b c d e y m k hb hc hd he hy h1 hm h2 hk = record {
  form = and_from _ _ hy.0 (and_from _ _ (eq-eqb _ _ (first_of bs b 4 hb ∙ h1)) (and_from _ _ (sym (ap (λ x. nat_le 2 (run x)) hc) ∙ hm.0) (and_from _ _ (eq-eqb _ _ (first_of bs d 7 hd ∙ h2)) (sym (ap (λ x. nat_le 2 (run x)) he) ∙ hk.0))));
  years = hy.1;
  months = hm.1 ∙ ap (λ x. value (take 2 x)) hc;
  days_of = hk.1 ∙ ap (λ x. value (take 2 x)) he;
}
