-- The header rule keeps its laws.
use Rattle.std.specs.Prelude.{◌≡◌, ℕ, zero, suc, ◌≤◌, Bool, true, false, List, [], ◌∷◌, ◌++◌, length, drop, replicate, ◌==◌, ◌≢◌, refl}
use Rattle.std.proofs.Common.{sym, ap, ◌∙◌, arith, eqb-true}
use Rattle.std.proofs.lemmas.List.{append-nil}
use Rattle.std.proofs.lemmas.Bool.{and_parts}
use Rattle.rows.specs.Cuts.{Text, texts, Each}
use Rattle.rows.specs.Rules.{Lawful, Parts, joined, swapped}
use Rattle.rows.specs.declared.piece.Mark.TheVariants.{Ended}
use Rattle.rows.specs.CutLaws.{rest_part, cons_not_nil}
use Rattle.headed.specs.Heads.{header, begins, cut_if, headed_cut, headed_frame, headed_meaning}

-- what begins with n bytes 00 is these bytes and the rest
begins_split : (n : ℕ) (bs : List ℕ) → begins n bs ≡ true → replicate n 0 ++ drop n bs ≡ bs
begins_split zero bs h = refl
begins_split (suc n) [] h = absurd (cc)
begins_split (suc n) (b ∷ bs) h =
    let p = and_parts (b == 0) (begins n bs) h in
    ap (λ x. x ∷ (replicate n 0 ++ drop n bs)) (sym (eqb-true b 0 p.0)) ∙ ap (λ x. b ∷ x) (begins_split n bs p.1)

pub begins_long : (n : ℕ) (bs : List ℕ) → begins n bs ≡ true → n ≤ length bs
begins_long zero bs h = omega arith
begins_long (suc n) [] h = absurd (cc)
begins_long (suc n) (b ∷ bs) h = let i = begins_long n bs (and_parts (b == 0) (begins n bs) h).1 in omega arith

parts_if : (t : Bool) (file : List ℕ) → begins 4 file ≡ t → Parts file (cut_if t file)
parts_if true file h = ((rest_part file 4 (begins_long 4 file h), tt), (omega arith, refl))
parts_if false file h = (tt, rest_part file 0 (omega arith))

no_empty_if : (t : Bool) (file : List ℕ) → Each (λ r. headed_frame r.bytes r.mark ≢ []) (cut_if t file).rows
no_empty_if true file = (cons_not_nil 0 _, tt)
no_empty_if false file = tt

covers_if : (t : Bool) (file : List ℕ) → begins 4 file ≡ t → joined headed_meaning (texts (cut_if t file).rows) (cut_if t file).tail.bytes ≡ file
covers_if true file h = append-nil _ ∙ append-nil _ ∙ begins_split 4 file h
covers_if false file h = refl

none : (before after : List Text) (old : Text) → [] ≢ before ++ old ∷ after
none [] after old e = cons_not_nil old after (sym e)
none (b ∷ before) after old e = cons_not_nil b _ (sym e)

-- one row is the row exchanged, and there is no other
alone : (t : Text) (before after : List Text) (old : Text) → t ∷ [] ≡ before ++ old ∷ after → (before ≡ []) × (old ≡ t) × (after ≡ [])
alone t [] after old e = (refl, cc, cc)
alone t (b ∷ before) after old e = absurd (none before after old (cc))

exchange_if :
    (t : Bool) (file : List ℕ) (before after : List Text) (old : Text) (new other : List ℕ) →
    texts (cut_if t file).rows ≡ before ++ old ∷ after →
    other ≡ joined headed_meaning (before ++ swapped old new ∷ after) (cut_if t file).tail.bytes →
    (texts (headed_cut other).rows ≡ before ++ swapped old new ∷ after) × ((headed_cut other).tail.bytes ≡ (cut_if t file).tail.bytes)
exchange_if true file before after old new other e oe =
    let k = alone _ before after old e in
    let m : old.mark ≡ Ended = ap (λ o. o.mark) k.1 in
    let ts : before ++ swapped old new ∷ after ≡ record { bytes = new; mark = Ended } ∷ [] =
    ap (λ x. x ++ swapped old new ∷ after) k.0 ∙ ap (λ x. swapped old new ∷ x) k.2 ∙ ap (λ x. record { bytes = new; mark = x } ∷ []) m in
    let o : other ≡ header ++ new = oe ∙ ap (λ x. joined headed_meaning x []) ts ∙ append-nil _ ∙ append-nil _ in
    (ap (λ x. texts (headed_cut x).rows) o ∙ sym ts, ap (λ x. (headed_cut x).tail.bytes) o)
exchange_if false file before after old new other e oe = absurd (none before after old e)

pub headed_lawful : Lawful headed_meaning
headed_lawful = record {
  parts = λ file _. parts_if (begins 4 file) file refl;
  no_empty = λ file _. no_empty_if (begins 4 file) file;
  covers = λ file _. covers_if (begins 4 file) file refl;
  exchange = λ file _ before after old new other e _ _ oe _. exchange_if (begins 4 file) file before after old new other e oe;
}
