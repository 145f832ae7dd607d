-- Moving a row four places up and writing the header before it makes its frame.
use Rattle.std.proofs.Common.{◌≡◌, ℕ, ◌+◌, ◌-◌, ◌≤◌, List, ◌++◌, length, take, drop, Ok, sym, ap, ◌∙◌, arith}
use Rattle.std.proofs.lemmas.List.{append_assoc, length-drop, length-take-le, take-take, drop_at}
use Rattle.rows.specs.Frames.{framed}
use Rattle.rows.proofs.FrameLaws.{fits}
use Rattle.headed.specs.Heads.{header}

-- the beginning of a buffer, its last four bytes brought to the front
abbrev pub turned : List ℕ → List ℕ
turned xs = drop (length xs - 4) xs ++ take (length xs - 4) xs

module _ (n end : ℕ) (b : List ℕ) (is : end ≡ n + 4) (room : end ≤ length b) where
  -- behind the first four bytes come the row and what stood past its frame
  row_up : drop 4 (turned (take end b) ++ drop end b) ≡ take n b ++ drop end b
  row_up =
      let l : length (take end b) ≡ end = length-take-le end b room in
      let k : length (take end b) - 4 ≡ n = omega arith in
      let four : length (drop n (take end b)) ≡ 4 = simp length-drop (omega arith) in
      ap (λ i. drop 4 ((drop i (take end b) ++ take i (take end b)) ++ drop end b)) k
      ∙ ap (λ x. drop 4 ((drop n (take end b) ++ x) ++ drop end b)) (take-take n end b (omega arith))
      ∙ ap (drop 4) (append_assoc (drop n (take end b)) (take n b) (drop end b))
      ∙ drop_at (drop n (take end b)) (take n b ++ drop end b) 4 four

  framed_row : (Ok end, header ++ (take n b ++ drop end b)) ≡ framed (λ row. header ++ row) n b
  framed_row =
      let l : length (take n b) ≡ n = length-take-le n b (omega arith) in
      let k : length (header ++ take n b) ≡ end = omega arith in
      ap (λ i. (Ok i, (header ++ take n b) ++ drop i b)) (sym k) ∙ sym (fits (λ row. header ++ row) n b (omega arith) (omega arith))

  pub row_behind : (moved filled : List ℕ) → moved ≡ turned (take end b) → filled ≡ header → (Ok end, filled ++ drop 4 (moved ++ drop end b)) ≡ framed (λ row. header ++ row) n b
  row_behind moved filled m f = rw (f, m, row_up) framed_row
