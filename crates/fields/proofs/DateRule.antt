-- A date is read exactly where its ten bytes stand.
use Rattle.std.proofs.Common.{◌≡◌, ℕ, ◌+◌, ◌*◌, ◌/◌, ◌%◌, ◌^◌, ◌<◌, ◌≤◌, true, leb, List, ◌∷◌, ◌++◌, take, ℤ, pos, Ok, sym, refl, ap, ◌∙◌, arith}
use Rattle.std.proofs.lemmas.List.{take_at}
use Rattle.std.proofs.lemmas.Bool.{and_from, and_parts, le-leb, leb-true, not-false}
use Rattle.std.proofs.lemmas.Bool.Decides.{nat_tests}
use Rattle.fields.specs.Digits.{run, value, padded}
use Rattle.fields.specs.Calendar.{days, is_date}
use Rattle.fields.specs.Dates.{formed, year, month, day, date_tests, date_gives, date_spells, date}
use Rattle.fields.specs.Spellings.{Stands, ReadsSpelling, DateNumber, Anywhere}
use Rattle.fields.specs.Runs.{length_padded}
use Rattle.fields.specs.DateLaw.{date_lawful, good_date}
use Rattle.fields.proofs.Stand.{tried_inv, stands, run_append, pure_padded, value_padded}

-- a month that has days is one of twelve, and none has more than 31
months : (y m : ℕ) → 1 ≤ days y m → (m ≤ 12) × (days y m ≤ 31)
months y m h = (grind (arith, nat_tests), grind (arith, nat_tests))

-- digits of a fixed width before other bytes
record Digits (w n : ℕ) (bs : List ℕ) : Type 0 where
  many : leb w (run (padded w n ++ bs)) ≡ true
  worth : value (take w (padded w n ++ bs)) ≡ n

digits_before : (w n : ℕ) (bs : List ℕ) → n < 10 ^ w → Digits w n bs
digits_before w n bs h =
    let l = length_padded w n in
    record { many = le-leb w _ (omega (arith, run_append (padded w n) bs (pure_padded w n))); worth = ap value (take_at (padded w n) bs w l) ∙ value_padded w n h }

-- the ten bytes of a date, and what follows
abbrev laid_out : ℕ → ℕ → ℕ → List ℕ → List ℕ
laid_out y m d end = padded 4 y ++ (45 ∷ (padded 2 m ++ (45 ∷ (padded 2 d ++ end))))

date_at : (y m d : ℕ) (end : List ℕ) → y < 10 ^ 4 → m < 10 ^ 2 → d < 10 ^ 2 → is_date y m d ≡ true → date.reads (laid_out y m d end) ≡ Ok (10, pos (10000 * y + 100 * m + d))
date_at y m d end hy hm hd h =
    let cs = laid_out y m d end in
    let fy = digits_before 4 y (45 ∷ (padded 2 m ++ (45 ∷ (padded 2 d ++ end)))) hy in
    let fm = digits_before 2 m (45 ∷ (padded 2 d ++ end)) hm in
    let fd = digits_before 2 d end hd in
    let ey : year cs ≡ y = fy.worth in
    let em : month cs ≡ m = fm.worth in
    let ed : day cs ≡ d = fd.worth in
    let f : formed cs ≡ true = and_from _ _ fy.many (and_from _ _ refl (and_from _ _ fm.many (and_from _ _ refl fd.many))) in
    let i : is_date (year cs) (month cs) (day cs) ≡ true = ap (λ k. is_date k (month cs) (day cs)) ey ∙ ap (λ k. is_date y k (day cs)) em ∙ ap (is_date y m) ed ∙ h in
    sym (good_date cs (omega arith) f i) ∙ ap (λ k. Ok (10, pos k)) (omega arith)

date_each : (bs : List ℕ) (n : ℕ) (z : ℤ) → Stands date DateNumber Anywhere bs n z → date.reads bs ≡ Ok (n, z)
date_each bs n z s =
    let t = s.number in
    let y = t.year in
    let m = t.month in
    let d = t.day in
    let k = months y m (omega (arith, t.days_of)) in
    let i : is_date y m d ≡ true = and_from _ _ (and_from _ _ (le-leb 1900 y t.years.0) (le-leb y 2199 t.years.1)) (and_from _ _ (le-leb 1 d t.days_of.0) (le-leb d (days y m) t.days_of.1)) in
    let v = 10000 * y + 100 * m + d in
    let ey : v / 10000 ≡ y = omega arith in
    let em : v / 100 % 100 ≡ m = omega arith in
    let ed : v % 100 ≡ d = omega arith in
    let e : date_spells z ++ s.rest ≡ laid_out y m d s.rest =
    ap (λ x. date_spells x ++ s.rest) t.is ∙ ap (λ x. laid_out x (v / 100 % 100) (v % 100) s.rest) ey ∙ ap (λ x. laid_out y x (v % 100) s.rest) em ∙ ap (λ x. laid_out y m x s.rest) ed in
    ap date.reads (s.begins ∙ e) ∙ date_at y m d s.rest (omega arith) (omega arith) (omega arith) i ∙ ap (λ x. Ok (10, x)) (sym t.is) ∙ ap (λ j. Ok (j, z)) (sym s.long)

date_number : (bs : List ℕ) (n : ℕ) (z : ℤ) → date.reads bs ≡ Ok (n, z) → DateNumber z
date_number bs n z e =
    let t = tried_inv (date_tests bs) (date_gives bs) (n, z) e in
    let i = and_parts _ _ (not-false _ t.0.1.1.0) in
    let y = and_parts _ _ i.0 in
    let d = and_parts _ _ i.1 in
    record {
      year = year bs;
      month = month bs;
      day = day bs;
      is = sym (ap (λ x. x.1) t.1);
      years = (leb-true 1900 (year bs) y.0, leb-true (year bs) 2199 y.1);
      days_of = (leb-true 1 (day bs) d.0, leb-true (day bs) (days (year bs) (month bs)) d.1);
    }

pub date_rule : ReadsSpelling date DateNumber Anywhere
date_rule = record {
  only = λ bs n z b e. stands date DateNumber Anywhere date_lawful refl bs n z b e (date_number bs n z e) tt;
  each = date_each;
}
