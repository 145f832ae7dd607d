-- A kind's law, from what each of its readings owes.
use Rattle.std.specs.Prelude.{◌≡◌, ℕ, zero, suc, ◌≤◌, Bool, true, false, List, [], ◌∷◌, length, take, ℤ, pos, IfOk, Ok, Err, unsigned_abs, refl}
use Rattle.std.proofs.Common.{sym, ap, subst, ◌∙◌}
use Rattle.fields.specs.declared.cause.Cause.{Cause}
use Rattle.fields.specs.declared.cause.Sort.{Sort}
use Rattle.fields.specs.declared.cause.Sort.TheVariants.{Unknown, Numeric, Kept}
use Rattle.fields.specs.Meanings.{Reading, Meaning, refuse, tried, kind, unknown}
use Rattle.fields.specs.Laws.{Bytes, Lawful, Owed}

-- what a length and a number owe, by sort
abbrev pub Told : Sort → (ℤ → List ℕ) → List ℕ → ℕ → ℤ → Type 0
Told Unknown f bs n z = Unit {0}
Told Numeric f bs n z = f z ≡ take n bs
Told Kept f bs n z = z ≡ pos n

abbrev pub Fair : Sort → (ℤ → List ℕ) → List ℕ → Reading → Type 0
Fair s f bs (Ok x) = (x.0 ≤ length bs) × (unsigned_abs x.1 ≤ 999999999999) × Told s f bs x.0 x.1
Fair s f bs (Err c) = Unit {0}

-- every test was left
abbrev pub Passed : List (Bool × Cause) → Type 0
Passed [] = Unit {0}
Passed (t ∷ ts) = (t.0 ≡ false) × Passed ts

refuse_fair : (s : Sort) (f : ℤ → List ℕ) (bs : List ℕ) (t : Bool) (c : Cause) (r : Reading) → (t ≡ false → Fair s f bs r) → Fair s f bs (refuse t c r)
refuse_fair s f bs true c r h = tt
refuse_fair s f bs false c r h = h refl

tried_fair : (s : Sort) (f : ℤ → List ℕ) (bs : List ℕ) (ts : List (Bool × Cause)) (x : ℕ × ℤ) → (Passed ts → Fair s f bs (Ok x)) → Fair s f bs (tried ts x)
tried_fair s f bs [] x h = h tt
tried_fair s f bs (t ∷ ts) x h = refuse_fair s f bs t.0 t.1 (tried ts x) (λ e. tried_fair s f bs ts x (λ p. h (e, p)))

pub lawful_from : (m : Meaning) → ((bs : List ℕ) → Bytes bs → Fair m.sort m.spells bs (m.reads bs)) → Lawful m
lawful_from m fair =
    let at : (bs : List ℕ) (n : ℕ) (z : ℤ) → Bytes bs → m.reads bs ≡ Ok (n, z) → Fair m.sort m.spells bs (Ok (n, z)) = λ bs n z h e. subst (Fair m.sort m.spells bs) e (fair bs h) in
    record {
      within = λ bs n z h e. (at bs n z h e).0;
      small = λ bs n z h e. (at bs n z h e).1;
      spelled = λ bs n z h e t. subst (λ q. Told q m.spells bs n z) t (at bs n z h e).2;
      kept = λ bs n z h e t. subst (λ q. Told q m.spells bs n z) t (at bs n z h e).2;
    }

pub unknown_lawful : Lawful unknown
unknown_lawful = lawful_from unknown (λ _ _. tt)

-- a kind that is read by tests is lawful if what passes them all is fair
pub kind_lawful : (s : Sort) (tests : List ℕ → List (Bool × Cause)) (gives : List ℕ → ℕ × ℤ) (f : ℤ → List ℕ) →
    ((bs : List ℕ) → Bytes bs → Passed (tests bs) → Fair s f bs (Ok (gives bs))) → Lawful (kind s tests gives f)
kind_lawful s tests gives f h = lawful_from (kind s tests gives f) (λ bs r. tried_fair s f bs (tests bs) (gives bs) (h bs r))

-- the test of that number, from 0, is the first that holds, and has that cause
abbrev pub Holds : ℕ → List (Bool × Cause) → Cause → Type 0
Holds zero [] c = ⊥
Holds zero (t ∷ ts) c = (t.0 ≡ true) × (t.1 ≡ c)
Holds (suc n) [] c = ⊥
Holds (suc n) (t ∷ ts) c = (t.0 ≡ false) × Holds n ts c

pub refused : (n : ℕ) (ts : List (Bool × Cause)) (x : ℕ × ℤ) (c : Cause) → Holds n ts c → Err c ≡ tried ts x
refused zero [] x c h = absurd h
refused zero (t ∷ ts) x c h = ap Err (sym h.1) ∙ sym (ap (λ b. refuse b t.1 (tried ts x)) h.0)
refused (suc n) [] x c h = absurd h
refused (suc n) (t ∷ ts) x c h = refused n ts x c h.1 ∙ sym (ap (λ b. refuse b t.1 (tried ts x)) h.0)

pub good : (ts : List (Bool × Cause)) (x : ℕ × ℤ) → Passed ts → Ok x ≡ tried ts x
good [] x h = refl
good (t ∷ ts) x h = good ts x h.1 ∙ sym (ap (λ b. refuse b t.1 (tried ts x)) h.0)

-- the law, at one reading
pub owed : (m : Meaning) → Lawful m → (bs : List ℕ) → Bytes bs → (r : Reading) → r ≡ m.reads bs → IfOk r (λ x. Owed m bs x.0 x.1)
owed m law bs b (Ok x) e =
    let h : m.reads bs ≡ Ok (x.0, x.1) = sym e in
    record { within = law.within bs _ _ b h; small = law.small bs _ _ b h; spelled = law.spelled bs _ _ b h; kept = law.kept bs _ _ b h }
owed m law bs b (Err c) e = tt
