-- Laws of rows, frames and parts of a file, for every rule.
use Rattle.std.specs.Prelude.{◌≡◌, ℕ, zero, suc, ◌+◌, ◌-◌, ◌≤◌, List, [], ◌∷◌, ◌++◌, length, take, drop, ◌≢◌, refl}
use Rattle.std.proofs.Common.{sym, ap, subst, ◌∙◌, arith}
use Rattle.std.proofs.lemmas.Grind.{flat_map-append}
use Rattle.std.proofs.lemmas.List.{map-append, length-append, length-drop, length-take-le, take-append-drop, take_rest}
use Rattle.rows.specs.Cuts.{RowAt, TailAt, Cut, Text, text, texts, frames, Each, PartOf, File}
use Rattle.rows.specs.Rules.{Meaning, Lawful}
use Rattle.rows.specs.Told.{row, tail, first_piece, piece_of, rest, behind, HandsOut, TellsTail}
use Rattle.rows.specs.declared.piece.Mark.{Mark}

pub cons_not_nil : {X : Type 0} (x : X) (xs : List X) → x ∷ xs ≢ []
cons_not_nil x xs e = let y : suc (length xs) ≡ 0 = ap length e in omega arith

pub frames_append : (f : List ℕ → Mark → List ℕ) (a b : List Text) → frames f (a ++ b) ≡ frames f a ++ frames f b
frames_append f a b = flat_map-append (λ t. f t.bytes t.mark) a b

pub texts_split : (n : ℕ) (rs : List RowAt) → texts (take n rs) ++ texts (drop n rs) ≡ texts rs
texts_split n rs = sym (map-append text (take n rs) (drop n rs)) ∙ ap texts (take-append-drop n rs)

pub each_take : (P : RowAt → Type 0) (n : ℕ) (rs : List RowAt) → Each P rs → Each P (take n rs)
each_take P zero rs h = tt
each_take P (suc n) [] h = tt
each_take P (suc n) (r ∷ rs) h = (h.0, each_take P n rs h.1)

pub each_map : (P Q : RowAt → Type 0) → ((r : RowAt) → P r → Q r) → (rs : List RowAt) → Each P rs → Each Q rs
each_map P Q f [] h = tt
each_map P Q f (r ∷ rs) h = (f r h.0, each_map P Q f rs h.1)

-- a slice of the file, and the file from a place on, are parts of it
pub slice_part : (file : List ℕ) (p n : ℕ) → p + n ≤ length file → PartOf file p (take n (drop p file))
slice_part file p n h =
    let l : length (take n (drop p file)) ≡ n = length-take-le n (drop p file) (simp length-drop (omega arith)) in
    (omega arith, rw l refl)

pub rest_part : (file : List ℕ) (p : ℕ) → p ≤ length file → PartOf file p (drop p file)
rest_part file p h = subst (PartOf file p) (take_rest file p) (slice_part file p (length file - p) (omega arith))

-- a rule that hands out the first row: what it tells, and what is then to come
module _ (c : Cut) (r : RowAt) (rs : List RowAt) (is : c.rows ≡ r ∷ rs) where
  pub row_told : row r ≡ piece_of c
  row_told = ap (λ x. first_piece x c.tail) (sym is)

  pub row_gone : record { rows = rs; tail = c.tail } ≡ behind c
  row_gone = ap (λ x. record { rows = rest x; tail = c.tail }) (sym is)

  pub row_there : c.rows ≡ [] → ⊥
  row_there z = cons_not_nil r rs (sym is ∙ z)

  pub hands_out : HandsOut c r (record { rows = rs; tail = c.tail })
  hands_out = record { tells = row_told; leaves = row_gone; some = row_there }

-- a rule that tells the tail
pub tail_told : (c : Cut) (t : TailAt) → c.rows ≡ [] → t ≡ c.tail → tail t ≡ piece_of c
tail_told c t e k = ap tail k ∙ ap (λ x. first_piece x c.tail) (sym e)

pub tail_stays : (c : Cut) → c.rows ≡ [] → c ≡ behind c
tail_stays c e = ap (λ x. record { rows = x; tail = c.tail }) (e ∙ sym (ap rest e))

pub tells_tail : (c : Cut) (t : TailAt) → c.rows ≡ [] → t ≡ c.tail → TellsTail c (tail t)
tells_tail c t e k = record { tells = tail_told c t e k; leaves = tail_stays c e }

-- a row that was told was the first to come
pub was_row : (rs : List RowAt) (t : TailAt) (r : RowAt) → row r ≡ first_piece rs t → rs ≡ r ∷ rest rs
was_row [] t r e = cc
was_row (q ∷ rs) t r e = let z : q ≡ r = cc in ap (λ y. y ∷ rs) z

pub was_tail : (rs : List RowAt) (t u : TailAt) → tail u ≡ first_piece rs t → (rs ≡ []) × (u ≡ t)
was_tail [] t u e = (refl, cc)
was_tail (q ∷ rs) t u e = absurd cc

-- a lawful rule cuts no more rows than there are bytes
not_nil : (xs : List ℕ) → (xs ≢ []) → 1 ≤ length xs
not_nil [] h = absurd (h refl)
not_nil (x ∷ xs) h = omega arith

few_frames : (frame : List ℕ → Mark → List ℕ) (rs : List RowAt) → Each (λ r. frame r.bytes r.mark ≢ []) rs → length rs ≤ length (frames frame (texts rs))
few_frames frame [] h = omega arith
few_frames frame (r ∷ rs) h =
    let a = not_nil (frame r.bytes r.mark) h.0 in
    let b = few_frames frame rs h.1 in
    simp length-append (omega arith)

pub rows_few : (m : Meaning) → Lawful m → (file : List ℕ) → File file → length (m.cut file).rows ≤ length file
rows_few m law file f =
    let a = few_frames m.frame (m.cut file).rows (law.no_empty file f) in
    let l : length (frames m.frame (texts (m.cut file).rows)) + length (m.cut file).tail.bytes ≡ length file = sym (length-append (frames m.frame (texts (m.cut file).rows)) (m.cut file).tail.bytes) ∙ ap length (law.covers file f) in
    omega arith
