-- An amount, read in its parts: each way that it ends.
use Rattle.std.proofs.Common.{◌≡◌, ℕ, ◌+◌, ◌-◌, ◌*◌, ◌^◌, ◌<◌, ◌≤◌, Bool, true, false, ◌&&◌, ◌||◌, cond, eqb, List, length, take, drop, Ok, sym, ap, ◌∙◌, arith, w64, FitsSigned, rules}
use Rattle.std.proofs.lemmas.List.{length-drop, take_all}
use Rattle.std.proofs.lemmas.Int.{to_z-of_z}
use Rattle.std.proofs.lemmas.Bool.{and_left, and_right, or_from, ne_eqb}
use Rattle.fields.specs.Cursors.{unread}
use Rattle.fields.specs.Digits.{run, value}
use Rattle.fields.specs.Wholes.{leads}
use Rattle.fields.specs.Amounts.{minus, sign, body, pointed, point_len, formed, units, signed}
use Rattle.fields.specs.AmountLaw.{Split, formed_at, units_at, body_parts, second_spelling, good_amount}
use Rattle.fields.specs.Runs.{run_le}
use Rattle.fields.proofs.amount.Decimals.read.Goals as goal
use Rattle.fields.proofs.amount.Decimals.read.Goals.{After-point_len, Else-whole-from, at-in_units-n-requires, at-with_sign-requires, at-returns-then-is_led-clause-answer, at-returns-clause-answer, else-minus-via-then-minus+else-n-eq0, else-minus-via-else-minus}

-- what follows the sign, its first run, and what follows that
placed : (bs r front : List ℕ) (whole : ℕ) → r ≡ bs → front ≡ body r → whole ≡ run front → Split bs front (drop whole front) whole
placed bs r front whole e f w =
    let b : front ≡ body bs = f ∙ ap body e in
    let l : whole ≡ run (body bs) = w ∙ ap run b in
    record { body_is = b; whole_is = l; rest_is = ap (drop whole) b ∙ ap (λ k. drop k (body bs)) l }

-- all of what follows
all_behind : (front : List ℕ) (k : ℕ) → take (length front - k) (drop k front) ≡ drop k front
all_behind front k = take_all (length front - k) (drop k front) (omega (arith, length-drop k front))

-- the amount's form, its digits and its number without the sign, once all is found
record Whole (p : ℕ) (bs front : List ℕ) (whole n : ℕ) : Type 0 where
  some : length bs ≡ 0 → ⊥
  form : formed p (body bs) ≡ true
  few : run (body bs) + p ≤ 12
  is : n ≡ units p (body bs)
  small : n < 10 ^ 12
  split : Split bs front (drop whole front) whole

found : (p : ℕ) (bs r front : List ℕ) (whole v f : ℕ) → p ≤ 4 → r ≡ bs → (length r ≡ 0 → ⊥) → front ≡ body r → whole ≡ run front → (whole ≡ 0 → ⊥) → whole ≤ 12 - p → (whole ≤ 12 → v ≡ value (take whole front)) →
    (pointed p (take (length front - whole) (drop whole front)) ≡ true) × (f ≡ value (take p (drop 1 (take (length front - whole) (drop whole front))))) → Whole p bs front whole (v * 10 ^ p + f)
found p bs r front whole v f hp e some hf hw filled few hv h =
    let s = placed bs r front whole e hf hw in
    let a = all_behind front whole in
    let t = formed_at p bs front (drop whole front) whole s filled (sym (ap (pointed p) a) ∙ h.0) in
    let w : run (body bs) + p ≤ 12 = omega (arith, s.whole_is) in
    let u = units_at p bs front (drop whole front) whole v f s (hv (omega arith)) (h.1 ∙ ap (λ x. value (take p (drop 1 x))) a) in
    record { some = λ z. some (ap length e ∙ z); form = t; few = w; is = u; small = omega (arith, (body_parts p (body bs) t).small w); split = s }

full : (c : Else-whole-from) → Whole c.args.self.count (unread c.args.cursor.now) c.sign_split-minus.result.1.now c.leading-whole.result.0 (c.leading-whole.result.1 * 10 ^ c.args.self.count + c.in-Some.fraction)
full c =
    let some : length c.rest-rest.result.now ≡ 0 → ⊥ = search rules in
    found c.args.self.count (unread c.args.cursor.now) c.rest-rest.result.now _ c.leading-whole.result.0 c.leading-whole.result.1 c.in-Some.fraction c.args.self.few c.rest-rest.ensures some c.sign_split-minus.ensures.rest c.leading-whole.ensures.len c.if-whole-eq0.false (omega (arith, c.if-whole-from.false, c.from-2.ensures)) c.leading-whole.ensures.is c.in-Some.ensures

-- the run lies in the row
record Inside (place whole one : ℕ) (bytes : List ℕ) : Type 0 where
  sign_le : one ≤ 1
  run_in : whole ≤ length bytes

one_le : (t : Bool) → cond t 1 0 ≤ 1
one_le true = omega arith
one_le false = omega arith

inside : (place whole one : ℕ) (bytes r front : List ℕ) (t : Bool) → one ≡ cond t 1 0 → r ≡ drop place bytes → front ≡ body r → whole ≡ run front → Inside place whole one bytes
inside place whole one bytes r front t ho hr hf hw =
    record { sign_le = omega (arith, ho, one_le t); run_in = omega (arith, hw, run_le front, ap length hf, length-drop (sign r) r, ap length hr, length-drop place bytes) }

pub overflow_add-len : goal.overflow_add-len
overflow_add-len c =
    let o : c.from.result ≡ cond c.sign_split-minus.result.0 1 0 = search rules in
    let i = inside c.args.cursor.now.place c.leading-whole.result.0 c.from.result c.args.cursor.now.bytes.now _ _ _ o c.rest-rest.ensures c.sign_split-minus.ensures.rest c.leading-whole.ensures.len in
    omega (arith, i.sign_le, i.run_in)

pub overflow_add-len-2 : goal.overflow_add-len-2
overflow_add-len-2 c =
    let o : c.from.result ≡ cond c.sign_split-minus.result.0 1 0 = search rules in
    let i = inside c.args.cursor.now.place c.leading-whole.result.0 c.from.result c.args.cursor.now.bytes.now _ _ _ o c.rest-rest.ensures c.sign_split-minus.ensures.rest c.leading-whole.ensures.len in
    omega (arith, i.sign_le, i.run_in, c.point_len.ensures.few)

pub in_units-n-requires : goal.in_units-n-requires
in_units-n-requires c = let f = full (at-in_units-n-requires c).Else-whole-from in f.small

pub returns-then-is_led-clause-answer : goal.returns-then-is_led-clause-answer
returns-then-is_led-clause-answer c = let f = full (at-returns-then-is_led-clause-answer c).Else-whole-from in
    let l : leads (body (unread c.args.cursor.now)) ≡ true = sym (ap leads f.split.body_is) ∙ sym c.is_led.ensures ∙ c.if-is_led.true in
    second_spelling c.args.self.count (unread c.args.cursor.now) f.some f.form f.few (ap (λ t. t || (minus (unread c.args.cursor.now) && eqb (units c.args.self.count (body (unread c.args.cursor.now))) 0)) l)

pub with_sign-requires : goal.with_sign-requires
with_sign-requires c = let f = full (at-with_sign-requires c).Else-whole-from in omega (arith, f.small, c.in_units-n.ensures)

pub returns-clause-answer : goal.returns-clause-answer
returns-clause-answer c =
    let f = full (at-returns-clause-answer c).Else-whole-from in
    let bs = unread c.args.cursor.now in
    let p = c.args.self.count in
    let n = c.in_units-n.result in
    let z = c.with_sign.result in
    let t = c.sign_split-minus.result.0 in
    let fits : FitsSigned w64 z = search rules in
    let l : leads (body bs) ≡ false = sym (ap leads f.split.body_is) ∙ sym c.is_led.ensures ∙ c.if-is_led.false in
    let u : n ≡ units p (body bs) = c.in_units-n.ensures ∙ f.is in
    let m : t ≡ minus bs = c.sign_split-minus.ensures.minus ∙ ap minus c.rest-rest.ensures in
    let k : (t && eqb n 0) ≡ false = elim c.else-minus.branch [
      | else-minus-via-then-minus+else-n-eq0 w ↦ and_right t (eqb n 0) (ne_eqb n 0 w.if-n-eq0.false)
      | else-minus-via-else-minus w ↦ and_left t (eqb n 0) w.if-minus.false
    ] in
    let o : (minus bs && eqb (units p (body bs)) 0) ≡ false = sym (ap (λ x. x && eqb n 0) m ∙ ap (λ j. minus bs && eqb j 0) u) ∙ k in
    let s : c.from.result ≡ cond t 1 0 = search rules in
    let q : cond t 1 0 ≡ sign bs = ap (λ x. cond x 1 0) m in
    let len : c.from.result + c.leading-whole.result.0 + c.point_len.result ≡ sign bs + (run (body bs) + point_len p) = omega (arith, s, q, f.split.whole_is, c.point_len.ensures.is) in
    ap (λ x. Ok (c.from.result + c.leading-whole.result.0 + c.point_len.result, x)) (to_z-of_z w64 z fits ∙ c.with_sign.ensures ∙ ap (λ x. signed x n) m ∙ ap (signed (minus bs)) u)
    ∙ ap (λ j. Ok (j, signed (minus bs) (units p (body bs)))) len
    ∙ good_amount p bs f.some f.form f.few (or_from _ _ l o)
