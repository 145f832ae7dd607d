-- What a fixed width cuts, put together again: the fixed width rule keeps its laws.
use Rattle.std.specs.Prelude.{◌≡◌, ℕ, zero, suc, ◌+◌, ◌-◌, ◌*◌, ◌/◌, ◌<◌, ◌≤◌, true, List, [], ◌∷◌, ◌++◌, length, take, drop, ◌≢◌, refl}
use Rattle.std.proofs.Common.{sym, ap, subst, ◌∙◌, zero-mul, zero-add, suc-mul, add_comm, div-mul-le_self, add-zero, arith, eqb-true}
use Rattle.std.proofs.Math.Path.{fun_ext}
use Rattle.std.proofs.Math.Nat.{lt-div-mul-add, mul-add-div_right, div-eq_of_lt, sub-zero}
use Rattle.std.proofs.lemmas.List.{append_assoc, take-append-drop, drop-drop, length-drop, length-append, length-take-le, take_at, drop_at}
use Rattle.rows.specs.Cuts.{RowAt, Text, texts, frames, Each, PartOf}
use Rattle.rows.specs.Rules.{Meaning, Lawful, ExchangeLeavesTheRest, swapped}
use Rattle.rows.specs.Widths.{slabs, fixed_count, fixed_from, fixed_at, fixed_frame, fixed_carries, fixed_meaning}
use Rattle.rows.specs.declared.piece.Mark.{Mark}
use Rattle.rows.specs.declared.piece.Mark.TheVariants.{Ended, Unended}
use Rattle.rows.specs.Words.{Stacked, FixedRows}
use Rattle.rows.specs.CutLaws.{slice_part, rest_part}

pub drop_suc : (n w : ℕ) (bs : List ℕ) → drop (suc n * w) bs ≡ drop (n * w) (drop w bs)
drop_suc n w bs =
    let e : suc n * w ≡ w + n * w = suc-mul n w ∙ add_comm (n * w) w in
    rw e (sym (drop-drop (n * w) w bs))

slabs_cover : (n w p : ℕ) (bs : List ℕ) → frames fixed_frame (texts (slabs n w p bs)) ++ drop (n * w) bs ≡ bs
slabs_cover zero w p bs = rw zero-mul refl
slabs_cover (suc n) w p bs =
    append_assoc (take w bs) _ (drop (suc n * w) bs)
    ∙ ap (λ x. take w bs ++ (frames fixed_frame (texts (slabs n w (p + w) (drop w bs))) ++ x)) (drop_suc n w bs)
    ∙ ap (λ x. take w bs ++ x) (slabs_cover n w (p + w) (drop w bs))
    ∙ take-append-drop w bs

slabs_parts : (n w p : ℕ) (file : List ℕ) → p + n * w ≤ length file → Each (λ r. PartOf file r.start r.bytes) (slabs n w p (drop p file))
slabs_parts zero w p file h = tt
slabs_parts (suc n) w p file h =
    let e : suc n * w ≡ n * w + w = suc-mul n w in
    (slice_part file p w (omega arith), rw drop-drop (slabs_parts n w (p + w) file (omega arith)))

slabs_not_empty : (n w p : ℕ) (bs : List ℕ) → 1 ≤ w → n * w ≤ length bs → Each (λ r. fixed_frame r.bytes r.mark ≢ []) (slabs n w p bs)
slabs_not_empty zero w p bs h k = tt
slabs_not_empty (suc n) w p bs h k =
    let e : suc n * w ≡ n * w + w = suc-mul n w in
    let l : length (take w bs) ≡ w = length-take-le w bs (omega arith) in
    ((λ z. let y : length (take w bs) ≡ 0 = ap length z in omega arith), slabs_not_empty n w (p + w) (drop w bs) h (simp length-drop (omega arith)))

-- rows of w bytes, all ended
abbrev pub Wide : ℕ → List Text → Type 0
Wide w [] = Unit {0}
Wide w (t ∷ ts) = (length t.bytes ≡ w) × (t.mark ≡ Ended) × Wide w ts

slabs_wide : (n w p : ℕ) (bs : List ℕ) → n * w ≤ length bs → Wide w (texts (slabs n w p bs))
slabs_wide zero w p bs k = tt
slabs_wide (suc n) w p bs k =
    let e : suc n * w ≡ n * w + w = suc-mul n w in
    (length-take-le w bs (omega arith), refl, slabs_wide n w (p + w) (drop w bs) (simp length-drop (omega arith)))

carried_width : (w : ℕ) (new : List ℕ) (m : Mark) → fixed_carries w new m ≡ true → length new ≡ w
carried_width w new Ended h = eqb-true (length new) w h
carried_width w new Unended h = absurd (cc)

wide_swap : (w : ℕ) (before : List Text) (old : Text) (after : List Text) (new : List ℕ) → length new ≡ w → Wide w (before ++ old ∷ after) → Wide w (before ++ swapped old new ∷ after)
wide_swap w [] old after new h k = (h, k.1, k.2)
wide_swap w (t ∷ before) old after new h k = (k.0, k.1, wide_swap w before old after new h k.2)

wide_length : (w : ℕ) (ts : List Text) → Wide w ts → length (frames fixed_frame ts) ≡ length ts * w
wide_length w [] k = sym (zero-mul w)
wide_length w (t ∷ ts) k =
    let e : suc (length ts) * w ≡ length ts * w + w = suc-mul (length ts) w in
    let i = wide_length w ts k.2 in
    simp length-append (omega (arith, k.0))

-- rows of w bytes are cut again from their frames
slabs_back : (w p : ℕ) (ts : List Text) (t : List ℕ) → Wide w ts → texts (slabs (length ts) w p (frames fixed_frame ts ++ t)) ≡ ts
slabs_back w p [] t k = refl
slabs_back w p (x ∷ ts) t k =
    let a : (x.bytes ++ frames fixed_frame ts) ++ t ≡ x.bytes ++ (frames fixed_frame ts ++ t) = append_assoc x.bytes _ t in
    let f : take w ((x.bytes ++ frames fixed_frame ts) ++ t) ≡ x.bytes = ap (take w) a ∙ take_at x.bytes _ w k.0 in
    let g : drop w ((x.bytes ++ frames fixed_frame ts) ++ t) ≡ frames fixed_frame ts ++ t = ap (drop w) a ∙ drop_at x.bytes _ w k.0 in
    let i : texts (slabs (length ts) w (p + w) (drop w ((x.bytes ++ frames fixed_frame ts) ++ t))) ≡ ts = rw g (slabs_back w (p + w) ts t k.2) in
    ap (λ b. record { bytes = b; mark = Ended } ∷ texts (slabs (length ts) w (p + w) (drop w ((x.bytes ++ frames fixed_frame ts) ++ t)))) f
    ∙ ap (λ y. record { bytes = x.bytes; mark = y } ∷ texts (slabs (length ts) w (p + w) (drop w ((x.bytes ++ frames fixed_frame ts) ++ t)))) (sym k.1)
    ∙ ap (λ r. x ∷ r) i

-- the rows to come take no more than there is, and less than w is left
pub count_fits : (w p : ℕ) (file : List ℕ) → p ≤ length file → p + fixed_count w p file * w ≤ length file
count_fits w p file h = omega (arith, div-mul-le_self (length file - p) w)

pub count_all : (w : ℕ) (file : List ℕ) → fixed_count w 0 file ≡ length file / w
count_all w file = ap (λ n. n / w) (sub-zero (length file))

module _ (w : ℕ) (some : 1 ≤ w) where
  little_left : (file : List ℕ) → length (fixed_from w 0 file).tail.bytes < w
  little_left file = simp (length-drop, count_all) (omega (arith, lt-div-mul-add {a = length file} {b = w} some, div-mul-le_self (length file) w))

  whole_tail : (file : List ℕ) → (fixed_from w 0 file).tail.bytes ≡ drop (length file / w * w) file
  whole_tail file = ap (λ n. drop (0 + n * w) file) (count_all w file) ∙ ap (λ k. drop k file) (zero-add _)

  whole_rows : (file : List ℕ) → (fixed_from w 0 file).rows ≡ slabs (length file / w) w 0 file
  whole_rows file = ap (λ n. slabs n w 0 file) (count_all w file)

  whole_wide : (file : List ℕ) → Wide w (texts (fixed_from w 0 file).rows)
  whole_wide file = subst (λ rs. Wide w (texts rs)) (sym (whole_rows file)) (slabs_wide (length file / w) w 0 file (div-mul-le_self (length file) w))

  -- the meaning with no place past the end in sight
  abbrev plain : Meaning
  plain = record { cut = fixed_from w 0; frame = fixed_frame; carries = fixed_carries w }

  from_start : (file : List ℕ) → fixed_from w 0 file ≡ fixed_at w 0 file
  from_start file = ap (λ p. fixed_from w p file) (omega arith)

  same_meaning : plain ≡ fixed_meaning w
  same_meaning = ap (λ c. record { cut = c; frame = fixed_frame; carries = fixed_carries w }) (fun_ext from_start)

  fixed_exchange : (file : List ℕ) → ExchangeLeavesTheRest plain file
  fixed_exchange file before after old new other e _ h oe _ =
      let ts : List Text = before ++ swapped old new ∷ after in
      let t = (fixed_from w 0 file).tail.bytes in
      let wide : Wide w ts = wide_swap w before old after new (carried_width w new old.mark h) (subst (Wide w) e (whole_wide file)) in
      let short : length t < w = little_left file in
      let long = wide_length w ts wide in
      let count : length other / w ≡ length ts =
      ap (λ x. length x / w) oe ∙ ap (λ x. x / w) (length-append (frames fixed_frame ts) t ∙ ap (λ x. x + length t) long) ∙ mul-add-div_right some (length ts) (length t) ∙ ap (λ x. length ts + x) (div-eq_of_lt short) ∙ add-zero (length ts) in (
        ap texts (whole_rows other ∙ ap (λ n. slabs n w 0 other) count ∙ ap (slabs (length ts) w 0) oe) ∙ slabs_back w 0 ts t wide,
        whole_tail other ∙ ap (λ n. drop (n * w) other) count ∙ ap (drop (length ts * w)) oe ∙ drop_at (frames fixed_frame ts) t (length ts * w) long,
      )

  plain_lawful : Lawful plain
  plain_lawful = record {
    parts = λ file _. (slabs_parts (fixed_count w 0 file) w 0 file (count_fits w 0 file (omega arith)), rest_part file (0 + fixed_count w 0 file * w) (count_fits w 0 file (omega arith)));
    no_empty = λ file _. slabs_not_empty (fixed_count w 0 file) w 0 file some (omega (arith, count_fits w 0 file (omega arith)));
    covers = λ file _. ap (λ k. frames fixed_frame (texts (slabs (fixed_count w 0 file) w 0 file)) ++ drop k file) (zero-add _) ∙ slabs_cover (fixed_count w 0 file) w 0 file;
    exchange = λ file _. fixed_exchange file;
  }

  pub fixed_lawful : Lawful (fixed_meaning w)
  fixed_lawful = subst Lawful same_meaning plain_lawful

wide_each : (w : ℕ) (rs : List RowAt) → Wide w (texts rs) → Each (λ r. (length r.bytes ≡ w) × (r.mark ≡ Ended)) rs
wide_each w [] k = tt
wide_each w (r ∷ rs) k = ((k.0, k.1), wide_each w rs k.2)

slabs_stacked : (n w p : ℕ) (bs : List ℕ) → Stacked w p (slabs n w p bs)
slabs_stacked zero w p bs = tt
slabs_stacked (suc n) w p bs = (refl, slabs_stacked n w (p + w) (drop w bs))

pub fixed_words : (w : ℕ) → 1 ≤ w → (file : List ℕ) → FixedRows w file
fixed_words w some file =
    let here = from_start w some file in
    record {
      wide = subst (λ c. Each (λ r. (length r.bytes ≡ w) × (r.mark ≡ Ended)) c.rows) here (wide_each w (fixed_from w 0 file).rows (whole_wide w some file));
      stacked = subst (λ c. Stacked w 0 c.rows) here (slabs_stacked (fixed_count w 0 file) w 0 file);
      short_tail = subst (λ c. length c.tail.bytes < w) here (little_left w some file);
    }
