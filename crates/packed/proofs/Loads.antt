-- What a loaded slice holds, record by record and as a whole.
use Rattle.std.proofs.Common.{◌≡◌, ℕ, zero, suc, ◌+◌, ◌*◌, ◌/◌, ◌<◌, min, List, [], ◌∷◌, ◌++◌, length, get_or, take, drop, set, sym, refl, ap, ◌∙◌, ⊎_elim, mul-suc, arith}
use Rattle.std.specs.Simd.{first_chunks}
use Rattle.std.proofs.lemmas.List.{append_assoc, append-nil, length-map, length-take-le, drop_more, drop-drop, drop_all, set_at, take_more, take_all, get_or-map}
use Rattle.std.proofs.lemmas.Bool.{cases_lt}
use Rattle.packed.specs.Pieces.{pieces, records, loaded}

length_chunked : {X : Type 0} (n k : ℕ) (xs : List X) → length (first_chunks n k xs) ≡ k
length_chunked n zero xs = refl
length_chunked n (suc k) xs = ap (λ j. suc j) (length_chunked n k (drop n xs))

get_chunked : {X : Type 0} (n k : ℕ) (xs : List X) (i : ℕ) → i < k → get_or (first_chunks n k xs) i [] ≡ take n (drop (n * i) xs)
get_chunked n zero xs i h = absurd (omega arith)
get_chunked n (suc k) xs zero h = let e : 0 ≡ n * 0 = omega arith in ap (λ j. take n (drop j xs)) e
get_chunked n (suc k) xs (suc i) h =
    let e : n + n * i ≡ n * suc i = omega (arith, mul-suc n i) in
    get_chunked n k (drop n xs) i (omega arith)
    ∙ ap (take n) (drop-drop (n * i) n xs)
    ∙ ap (λ j. take n (drop j xs)) e

pub length_pieces : (bytes : List ℕ) → length (pieces bytes) ≡ length bytes / 8
length_pieces bytes = length_chunked 8 (length bytes / 8) bytes

module _ {R : Type 0} (decode : List ℕ → R) (bytes : List ℕ) where
  -- as many records as there are eight bytes
  pub length_records : length (records decode bytes) ≡ length bytes / 8
  length_records = length-map (pieces bytes) decode ∙ length_pieces bytes

  -- record k stands in the eight bytes from 8 * k on
  pub get_records : (k : ℕ) (d : R) → k < length bytes / 8 → get_or (records decode bytes) k d ≡ decode (take 8 (drop (8 * k) bytes))
  get_records k d h =
      let l : k < length (pieces bytes) = omega (arith, length_pieces bytes) in
      get_or-map decode (pieces bytes) k [] d l ∙ ap decode (get_chunked 8 (length bytes / 8) bytes k h)

  -- a record that was unpacked from the piece at its place
  pub record_at : (ps : List (List ℕ)) (i : ℕ) (r : R) → ps ≡ pieces bytes → i < length ps → r ≡ decode (get_or ps i []) → r ≡ get_or (records decode bytes) i r
  record_at ps i r e h u =
      let l : i < length (pieces bytes) = omega (arith, ap length e) in
      u ∙ ap (λ x. decode (get_or x i [])) e ∙ sym (get_or-map decode (pieces bytes) i [] r l)

  -- where the bytes are those of the slice's records, and no more, the slice holds the records
  pub length_exact : (out : List R) → length bytes ≡ 8 * length out → length (records decode bytes) ≡ length out
  length_exact out h = length_records ∙ omega arith

  pub loaded_exact : (out : List R) → length bytes ≡ 8 * length out → loaded (records decode bytes) out ≡ records decode bytes
  loaded_exact out h =
      let rs = records decode bytes in
      let e = length_exact out h in
      ap (λ x. take (length out) rs ++ x) (drop_all (length rs) out (omega arith))
      ∙ append-nil (take (length out) rs)
      ∙ take_all (length out) rs (omega arith)

  pub get_exact : (out : List R) → length bytes ≡ 8 * length out → (k : ℕ) (d : R) → k < length out → get_or (records decode bytes) k d ≡ decode (take 8 (drop (8 * k) bytes))
  get_exact out h k d l = get_records k d (omega arith)

module _ {R : Type 0} (rs out : List R) where
  -- one record more
  pub loaded_more : (i : ℕ) (r : R) → i < length rs → i < length out → r ≡ get_or rs i r → set (take i rs ++ drop i out) i r ≡ take (i + 1) rs ++ drop (i + 1) out
  loaded_more i r h k e =
      ap (λ x. set (take i rs ++ x) i r) (drop_more out i r k)
      ∙ set_at (take i rs) (get_or out i r) (drop (i + 1) out) r i (length-take-le i rs (omega arith))
      ∙ ap (λ y. take i rs ++ y ∷ drop (i + 1) out) e
      ∙ sym (append_assoc (take i rs) (get_or rs i r ∷ []) (drop (i + 1) out))
      ∙ ap (λ x. x ++ drop (i + 1) out) (sym (take_more rs i r h))

  -- all that both have
  pub loaded_all : (i : ℕ) → i ≡ min (length rs) (length out) → take i rs ++ drop i out ≡ loaded rs out
  loaded_all i h =
      ⊎_elim
      (λ l.
      let e : i ≡ length rs = omega arith in
      ap (λ x. x ++ drop i out) (take_all i rs (omega arith) ∙ sym (take_all (length out) rs (omega arith)))
      ∙ ap (λ j. take (length out) rs ++ drop j out) e)
      (λ l.
      let e : i ≡ length out = omega arith in
      ap (λ x. take i rs ++ x) (drop_all i out (omega arith) ∙ sym (drop_all (length rs) out (omega arith)))
      ∙ ap (λ j. take j rs ++ drop (length rs) out) e)
      (cases_lt (length rs) (length out))
