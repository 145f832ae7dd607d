-- A whole number is spelled with the digits that it was read from.
use Rattle.std.specs.Prelude.{◌≡◌, ℕ, ◌<◌, ◌≤◌, false, List, length, take, decimal, slice_index_or}
use Rattle.std.proofs.Common.{arith}
use Rattle.std.proofs.lemmas.List.{length-take-le, get_or-take}
use Rattle.std.proofs.lemmas.Bool.{eqb-false, ltb-false}
use Rattle.std.proofs.lemmas.Bool.Decides.{nat_tests}
use Rattle.std.proofs.lemmas.Fmt.{decimal-digits_value}
use Rattle.fields.specs.declared.cause.Sort.TheVariants.{Numeric}
use Rattle.fields.specs.Laws.{Lawful}
use Rattle.fields.specs.Digits.{run, value}
use Rattle.fields.specs.Wholes.{leads, whole, whole_tests, whole_gives, whole_spells}
use Rattle.fields.specs.Fairs.{kind_lawful}
use Rattle.fields.specs.Runs.{own, run_le, run_take, value_take}

-- a run of up to twelve digits without a leading zero is what its number is written with
pub run_decimal : (bs : List ℕ) → 0 < run bs → run bs ≤ 12 → leads bs ≡ false → decimal (value (take (run bs) bs)) ≡ take (run bs) bs
run_decimal bs h k l =
    let n = run bs in
    let len : length (take n bs) ≡ n = length-take-le n bs (run_le bs) in
    let first : slice_index_or (take n bs) 0 0 ≡ slice_index_or bs 0 0 = get_or-take n bs 0 0 h in
    let lone : slice_index_or (take n bs) 0 0 ≡ 48 → length (take n bs) ≡ 1 = λ e. grind (arith, nat_tests) in
    decimal-digits_value own (take n bs) (run_take n bs (omega arith)) (omega arith) lone (omega (arith, value_take n 12 bs (omega arith) k))

pub whole_lawful : Lawful whole
whole_lawful = kind_lawful Numeric whole_tests whole_gives whole_spells λ bs r h.
    let some = eqb-false (run bs) 0 h.1.0 in
    let few = ltb-false 12 (run bs) h.1.1.0 in
    (run_le bs, omega (arith, value_take (run bs) 12 bs (omega arith) few), run_decimal bs (omega (arith, some)) few h.1.1.1.0)
