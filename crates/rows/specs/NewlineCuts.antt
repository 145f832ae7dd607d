-- What byte 0A cuts, put together again: the newline rule keeps its laws.
use Rattle.std.specs.Prelude.{◌≡◌, ℕ, suc, ◌+◌, ◌<◌, ◌≤◌, Bool, true, false, not, List, [], ◌∷◌, ◌++◌, length, take, drop, ◌==◌, ◌≢◌, refl}
use Rattle.std.proofs.Common.{sym, ap, subst, ◌∙◌, arith, eqb-true, ne_eqb}
use Rattle.std.proofs.lemmas.List.{append_assoc, append-nil, length-append, drop_at, drop_all}
use Rattle.std.proofs.lemmas.Bool.{and_parts, and_from, not-true, not_from_false}
use Rattle.rows.specs.Cuts.{RowAt, Text, texts, frames, Each, PartOf}
use Rattle.rows.specs.Rules.{Lawful, ExchangeLeavesTheRest, swapped}
use Rattle.rows.specs.Newlines.{put, lines, lacks, some, newline_frame, newline_carries, newline_meaning}
use Rattle.rows.specs.declared.piece.Mark.{Mark}
use Rattle.rows.specs.declared.piece.Mark.TheVariants.{Ended, Unended}
use Rattle.rows.specs.CutLaws.{cons_not_nil, each_map, rest_part}

-- the frames are the bytes
put_frame : (b : ℕ) (bytes : List ℕ) (m : Mark) (more : List ℕ) → newline_frame (b ∷ bytes) m ++ more ≡ b ∷ (newline_frame bytes m ++ more)
put_frame b bytes Ended more = refl
put_frame b bytes Unended more = refl

put_cover : (t : Bool) (p b : ℕ) (rs : List RowAt) → (b == 10) ≡ t → frames newline_frame (texts (put t p b rs)) ≡ b ∷ frames newline_frame (texts rs)
put_cover true p b rs e = ap (λ x. x ∷ frames newline_frame (texts rs)) (sym (eqb-true b 10 e))
put_cover false p b [] e = refl
put_cover false p b (r ∷ rs) e = put_frame b r.bytes r.mark (frames newline_frame (texts rs))

pub lines_cover : (p : ℕ) (bs : List ℕ) → frames newline_frame (texts (lines p bs)) ≡ bs
lines_cover p [] = refl
lines_cover p (b ∷ bs) = put_cover (b == 10) p b (lines (p + 1) bs) refl ∙ ap (λ x. b ∷ x) (lines_cover (p + 1) bs)

-- no row has an empty frame
abbrev Framed : RowAt → Type 0
Framed r = newline_frame r.bytes r.mark ≡ [] → ⊥

frame_not_empty : (b : ℕ) (bytes : List ℕ) (m : Mark) → newline_frame (b ∷ bytes) m ≢ []
frame_not_empty b bytes Ended = cons_not_nil b (bytes ++ (10 ∷ []))
frame_not_empty b bytes Unended = cons_not_nil b bytes

put_not_empty : (t : Bool) (p b : ℕ) (rs : List RowAt) → Each Framed rs → Each Framed (put t p b rs)
put_not_empty true p b rs h = (cons_not_nil 10 [], h)
put_not_empty false p b [] h = (cons_not_nil b [], tt)
put_not_empty false p b (r ∷ rs) h = (frame_not_empty b r.bytes r.mark, h.1)

pub lines_not_empty : (p : ℕ) (bs : List ℕ) → Each Framed (lines p bs)
lines_not_empty p [] = tt
lines_not_empty p (b ∷ bs) = put_not_empty (b == 10) p b (lines (p + 1) bs) (lines_not_empty (p + 1) bs)

-- each row is a part of the file, and the first begins at the place
abbrev pub StartsAt : ℕ → List RowAt → Type 0
StartsAt p [] = Unit {0}
StartsAt p (r ∷ rs) = r.start ≡ p

put_starts : (t : Bool) (p b : ℕ) (rs : List RowAt) → StartsAt p (put t p b rs)
put_starts true p b rs = refl
put_starts false p b [] = refl
put_starts false p b (r ∷ rs) = refl

pub lines_starts : (p : ℕ) (bs : List ℕ) → StartsAt p (lines p bs)
lines_starts p [] = tt
lines_starts p (b ∷ bs) = put_starts (b == 10) p b (lines (p + 1) bs)

abbrev Part : List ℕ → RowAt → Type 0
Part file r = PartOf file r.start r.bytes

part_more : (file : List ℕ) (p q b : ℕ) (x : List ℕ) → drop p file ≡ b ∷ drop (p + 1) file → q ≡ p + 1 → PartOf file q x → PartOf file p (b ∷ x)
part_more file p q b x e s k =
    let f : p + suc (length x) ≤ length file = omega (arith, k.0) in
    let g : x ≡ take (length x) (drop (p + 1) file) = k.1 ∙ ap (λ i. take (length x) (drop i file)) s in
    (f, ap (λ y. b ∷ y) g ∙ ap (take (suc (length x))) (sym e))

part_one : (file : List ℕ) (p b : ℕ) → p < length file → drop p file ≡ b ∷ drop (p + 1) file → PartOf file p (b ∷ [])
part_one file p b h e = (omega arith, rw e refl)

-- a row is a part of the file, and so is its frame
abbrev FramedPart : List ℕ → RowAt → Type 0
FramedPart file r = Part file r × PartOf file r.start (newline_frame r.bytes r.mark)

frame_more : (b : ℕ) (bytes : List ℕ) (m : Mark) → newline_frame (b ∷ bytes) m ≡ b ∷ newline_frame bytes m
frame_more b bytes Ended = refl
frame_more b bytes Unended = refl

put_parts : (t : Bool) (file : List ℕ) (p b : ℕ) (rs : List RowAt) → (b == 10) ≡ t → p < length file → drop p file ≡ b ∷ drop (p + 1) file → StartsAt (p + 1) rs → Each (FramedPart file) rs → Each (FramedPart file) (put t p b rs)
put_parts true file p b rs t h e s k = (((omega arith, refl), subst (λ x. PartOf file p (x ∷ [])) (eqb-true b 10 t) (part_one file p b h e)), k)
put_parts false file p b [] t h e s k = ((part_one file p b h e, part_one file p b h e), tt)
put_parts false file p b (r ∷ rs) t h e s k =
    ((part_more file p r.start b r.bytes e s k.0.0, subst (PartOf file p) (sym (frame_more b r.bytes r.mark)) (part_more file p r.start b (newline_frame r.bytes r.mark) e s k.0.1)), k.1)

lines_parts : (pre bs : List ℕ) → Each (FramedPart (pre ++ bs)) (lines (length pre) bs)
lines_parts pre [] = tt
lines_parts pre (b ∷ bs) =
    let a : (pre ++ (b ∷ [])) ++ bs ≡ pre ++ (b ∷ bs) = append_assoc pre (b ∷ []) bs in
    let l : length (pre ++ (b ∷ [])) ≡ length pre + 1 = length-append pre (b ∷ []) in
    let d : drop (length pre) (pre ++ (b ∷ bs)) ≡ b ∷ bs = drop_at pre (b ∷ bs) (length pre) refl in
    let d' : drop (length pre + 1) (pre ++ (b ∷ bs)) ≡ bs = ap (drop (length pre + 1)) (sym a) ∙ drop_at (pre ++ (b ∷ [])) bs (length pre + 1) l in
    let i : Each (FramedPart (pre ++ (b ∷ bs))) (lines (length pre + 1) bs) = rw (← a, ← l) (lines_parts (pre ++ (b ∷ [])) bs) in
    put_parts (b == 10) (pre ++ (b ∷ bs)) (length pre) b (lines (length pre + 1) bs) refl (simp length-append (omega arith)) (d ∙ ap (λ x. b ∷ x) (sym d')) (lines_starts (length pre + 1) bs) i

pub frames_parts : (file : List ℕ) → Each (λ r. PartOf file r.start (newline_frame r.bytes r.mark)) (lines 0 file)
frames_parts file = each_map (FramedPart file) _ (λ r h. h.1) (lines 0 file) (lines_parts [] file)

-- rows that stand in a file: each carried, and all but the last ended
abbrev pub Good : List Text → Type 0
Good [] = Unit {0}
Good (t ∷ []) = newline_carries t.bytes t.mark ≡ true
Good (t ∷ u ∷ ts) = (newline_carries t.bytes t.mark ≡ true) × (t.mark ≡ Ended) × Good (u ∷ ts)

some_more : (b : ℕ) (bytes : List ℕ) → some (b ∷ bytes) ≡ true
some_more b bytes = ap not (ne_eqb (suc (length bytes)) 0 (λ z. omega arith))

carries_more : (b : ℕ) (bytes : List ℕ) (m : Mark) → (b == 10) ≡ false → newline_carries bytes m ≡ true → newline_carries (b ∷ bytes) m ≡ true
carries_more b bytes Ended n h = and_from (not (b == 10)) (lacks bytes) (not_from_false (b == 10) n) h
carries_more b bytes Unended n h =
    let k = and_parts (lacks bytes) (some bytes) h in
    and_from (lacks (b ∷ bytes)) (some (b ∷ bytes)) (and_from (not (b == 10)) (lacks bytes) (not_from_false (b == 10) n) k.0) (some_more b bytes)

put_good : (t : Bool) (p b : ℕ) (rs : List RowAt) → (b == 10) ≡ t → Good (texts rs) → Good (texts (put t p b rs))
put_good true p b [] e h = refl
put_good true p b (r ∷ rs) e h = (refl, refl, h)
put_good false p b [] e h = rw e refl
put_good false p b (r ∷ []) e h = carries_more b r.bytes r.mark e h
put_good false p b (r ∷ q ∷ rs) e h = (carries_more b r.bytes r.mark e h.0, h.1, h.2)

pub lines_good : (p : ℕ) (bs : List ℕ) → Good (texts (lines p bs))
lines_good p [] = tt
lines_good p (b ∷ bs) = put_good (b == 10) p b (lines (p + 1) bs) refl (lines_good (p + 1) bs)

good_swap : (before : List Text) (old : Text) (after : List Text) (new : List ℕ) → newline_carries new old.mark ≡ true → Good (before ++ old ∷ after) → Good (before ++ swapped old new ∷ after)
good_swap [] old [] new h k = h
good_swap [] old (u ∷ after) new h k = (h, k.1, k.2)
good_swap (t ∷ []) old after new h k = (k.0, k.1, good_swap [] old after new h k.2)
good_swap (t ∷ u ∷ before) old after new h k = (k.0, k.1, good_swap (u ∷ before) old after new h k.2)

-- one step: a row that 0A ends, and then the rows of the rest
lacks_first : (b : ℕ) (bs : List ℕ) → lacks (b ∷ bs) ≡ true → ((b == 10) ≡ false) × (lacks bs ≡ true)
lacks_first b bs h = let k = and_parts (not (b == 10)) (lacks bs) h in (not-true (b == 10) k.0, k.1)

pub line_ended : (p : ℕ) (bs more : List ℕ) → lacks bs ≡ true → lines p (bs ++ 10 ∷ more) ≡ record { start = p; bytes = bs; mark = Ended } ∷ lines (p + length bs + 1) more
line_ended p [] more h = ap (λ q. record { start = p; bytes = []; mark = Ended } ∷ lines (q + 1) more) (omega arith)
line_ended p (b ∷ bs) more h =
    let k = lacks_first b bs h in
    ap (λ t. put t p b (lines (p + 1) (bs ++ 10 ∷ more))) k.0
    ∙ ap (put false p b) (line_ended (p + 1) bs more k.1)
    ∙ ap (λ q. record { start = p; bytes = b ∷ bs; mark = Ended } ∷ lines q more) (omega arith)

-- one step: a last row that nothing ends
pub line_unended : (p b : ℕ) (bs : List ℕ) → lacks (b ∷ bs) ≡ true → lines p (b ∷ bs) ≡ record { start = p; bytes = b ∷ bs; mark = Unended } ∷ []
line_unended p b [] h = ap (λ t. put t p b []) (lacks_first b [] h).0
line_unended p b (a ∷ bs) h =
    let k = lacks_first b (a ∷ bs) h in
    ap (λ t. put t p b (lines (p + 1) (a ∷ bs))) k.0 ∙ ap (put false p b) (line_unended (p + 1) a bs k.1)

unended_back : (p : ℕ) (bs : List ℕ) → newline_carries bs Unended ≡ true → texts (lines p bs) ≡ record { bytes = bs; mark = Unended } ∷ []
unended_back p [] h = absurd (cc)
unended_back p (b ∷ bs) h = ap texts (line_unended p b bs (and_parts (lacks (b ∷ bs)) (some (b ∷ bs)) h).0)

ended_back : (p : ℕ) (bs more : List ℕ) → lacks bs ≡ true → texts (lines p ((bs ++ (10 ∷ [])) ++ more)) ≡ record { bytes = bs; mark = Ended } ∷ texts (lines (p + length bs + 1) more)
ended_back p bs more h = ap (λ x. texts (lines p x)) (append_assoc bs (10 ∷ []) more) ∙ ap texts (line_ended p bs more h)

last_back : (p : ℕ) (bs : List ℕ) (m : Mark) → newline_carries bs m ≡ true → texts (lines p (newline_frame bs m ++ [])) ≡ record { bytes = bs; mark = m } ∷ []
last_back p bs Ended h = ended_back p bs [] h
last_back p bs Unended h = ap (λ x. texts (lines p x)) (append-nil bs) ∙ unended_back p bs h

first_back : (p : ℕ) (bs : List ℕ) (m : Mark) (more : List ℕ) (ts : List Text) → newline_carries bs m ≡ true → m ≡ Ended → ((q : ℕ) → texts (lines q more) ≡ ts) → texts (lines p (newline_frame bs m ++ more)) ≡ record { bytes = bs; mark = m } ∷ ts
first_back p bs Ended more ts h e k = ended_back p bs more h ∙ ap (λ x. record { bytes = bs; mark = Ended } ∷ x) (k (p + length bs + 1))
first_back p bs Unended more ts h e k = absurd (cc)

-- carried rows, all but the last ended, are cut again from their frames
pub lines_back : (p : ℕ) (ts : List Text) → Good ts → texts (lines p (frames newline_frame ts)) ≡ ts
lines_back p [] h = refl
lines_back p (t ∷ []) h = last_back p t.bytes t.mark h
lines_back p (t ∷ u ∷ ts) h = first_back p t.bytes t.mark (frames newline_frame (u ∷ ts)) (u ∷ ts) h.0 h.1 (λ q. lines_back q (u ∷ ts) h.2)

newline_exchange : (file : List ℕ) → ExchangeLeavesTheRest newline_meaning file
newline_exchange file before after old new other e _ h oe _ =
    let ts : List Text = before ++ swapped old new ∷ after in
    let good : Good ts = good_swap before old after new h (subst Good e (lines_good 0 file)) in
    (ap (λ x. texts (lines 0 x)) (oe ∙ append-nil (frames newline_frame ts)) ∙ lines_back 0 ts good, refl)

pub newline_lawful : Lawful newline_meaning
newline_lawful = record {
  parts = λ file _. (each_map (FramedPart file) (Part file) (λ r h. h.0) (lines 0 file) (lines_parts [] file), subst (PartOf file (length file)) (drop_all (length file) file (omega arith)) (rest_part file (length file) (omega arith)));
  no_empty = λ file _. lines_not_empty 0 file;
  covers = λ file _. append-nil (frames newline_frame (texts (lines 0 file))) ∙ lines_cover 0 file;
  exchange = λ file _. newline_exchange file;
}
