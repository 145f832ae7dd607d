-- The kept text of a report is no longer than its row.
use Rattle.std.proofs.Common.{◌≡◌, ℕ, ◌+◌, ◌-◌, ◌<◌, ◌≤◌, Bool, true, false, cond, ltb, List, [], ◌∷◌, ◌++◌, length, take, drop, min, ℤ, pos, Some, None, Ok, Option, sym, refl, ap, ◌∙◌, subst, arith, append_assoc, length-append, append-nil, get_or}
use Rattle.std.proofs.lemmas.Bool.{ltb-true}
use Rattle.std.proofs.lemmas.List.{length-take, take_more, take-append-drop}
use Rattle.fields.specs.declared.cause.Sort.{Sort}
use Rattle.fields.specs.declared.cause.Sort.TheVariants.{Unknown, Numeric, Kept}
use Rattle.fields.specs.Laws.{Bytes, Lawful}
use Rattle.fields.specs.Meanings.{Meaning}
use Rattle.layout.specs.declared.node.Shape.{Shape}
use Rattle.layout.specs.declared.node.Shape.TheVariants.{Field, Mark, Sequence, Choice, Optional, Check}
use Rattle.layout.specs.declared.node.Node.{Node}
use Rattle.layout.specs.Trees.{node_at, operand_of, tree_of}
use Rattle.report.specs.declared.outcome.Outcome.TheVariants.{Good, SyntaxFault, Scrap}
use Rattle.report.specs.declared.line.Line.{Line}
use Rattle.report.specs.Lines.{line, scrap}
use Rattle.report.specs.Values.{values}
use Rattle.report.specs.Checks.{checked}
use Rattle.report.specs.Recovery.{OpenReading}
use Rattle.report.specs.Readings.{open_reading}
use Rattle.report.specs.Printing.{Source, nothing, the_byte, spelling, kept_text, field_source, share, shape_source, source_of, share_of, kept}
use Rattle.report.specs.Reports.{ends_early, row_lines, row_read, report}
use Rattle.report.proofs.Tables.{tree_fits}
use Rattle.report.proofs.Steps.{Steps, reading_keeps}
use Rattle.report.proofs.PlaceLaws.{Forth, forth}
use Rattle.report.proofs.PrintLaws.{inner_quiet}

module _ (means : ℕ → ℕ → Meaning) (nodes : List Node) (row : List ℕ) where
  abbrev text : List Line → List ℕ
  text ls = kept means nodes row ls

  -- the lines from p to q keep no more bytes than there are between
  pub record Few (ls : List Line) (p q : ℕ) : Type 0 where
    pub few : length (text ls) + p ≤ q

  pub kept_append : (xs ys : List Line) → text (xs ++ ys) ≡ text xs ++ text ys
  kept_append [] ys = refl
  kept_append (x ∷ xs) ys =
      let t = take (share_of means nodes x) (drop x.start row) in
      ap (λ k. t ++ k) (kept_append xs ys) ∙ sym (append_assoc t (text xs) (text ys))

  share_short : (s : Source) (n : ℕ) → share s n ≤ n
  share_short nothing n = omega arith
  share_short (the_byte byte) n = omega arith
  share_short (spelling kind parameter) n = omega arith
  share_short kept_text n = omega arith

  -- a line before others keeps no more than its length
  one_few : (l : Line) (ls : List Line) (p q : ℕ) → Few ls (p + l.length) q → Few (l ∷ ls) p q
  one_few l ls p q h =
      let t = take (share_of means nodes l) (drop l.start row) in
      record { few = omega (arith, h.few, length-append t (text ls), length-take (share_of means nodes l) (drop l.start row), share_short (source_of means nodes l) l.length) }

  -- nor does one that has no text
  quiet_few : (l : Line) (ls : List Line) (p q : ℕ) → share_of means nodes l ≡ 0 → Few ls p q → Few (l ∷ ls) p q
  quiet_few l ls p q e h =
      let t = take (share_of means nodes l) (drop l.start row) in
      record { few = omega (arith, h.few, length-append t (text ls), length-take (share_of means nodes l) (drop l.start row), e) }

  none_few : (p q : ℕ) → p ≤ q → Few [] p q
  none_few p q h = record { few = omega arith }

  scrap_few : (i p j : ℕ) → p ≤ j → Few (scrap i p j) p j
  scrap_few i p j h = go (ltb p j)
    where
      go : (b : Bool) → Few (cond b (line i Scrap p (j - p) (pos 0) ∷ []) []) p j
      go true = one_few (line i Scrap p (j - p) (pos 0)) [] p j (none_few (p + (j - p)) j (omega arith))
      go false = none_few p j h

  join_few : (ls ms : List Line) (p q r : ℕ) → Few ls p q → Few ms q r → Few (ls ++ ms) p r
  join_few ls ms p q r h k = record { few = omega (arith, h.few, k.few, ap length (kept_append ls ms), length-append (text ls) (text ms)) }

  early_few : (b : Bool) (p : ℕ) → Few (ends_early b p (length row)) p p
  early_few true p = none_few p p (omega arith)
  early_few false p = go (ltb p (length row))
    where
      go : (b : Bool) → Few (cond b (line 0 SyntaxFault p 0 (pos 6) ∷ []) []) p p
      go true = quiet_few (line 0 SyntaxFault p 0 (pos 6)) [] p p refl (none_few p p (omega arith))
      go false = none_few p p (omega arith)

  -- no more of lines are kept than of those and others behind them
  pub kept_front : (xs ys : List Line) → length (text xs) ≤ length (text (xs ++ ys))
  kept_front xs ys = omega (arith, ap length (kept_append xs ys), length-append (text xs) (text ys))

  -- the text of one line more
  pub kept_more : (ls : List Line) (i : ℕ) (d : Line) → i < length ls → text (take (i + 1) ls) ≡ text (take i ls) ++ take (share_of means nodes (get_or ls i d)) (drop (get_or ls i d).start row)
  kept_more ls i d h =
      let l = get_or ls i d in
      ap text (take_more ls i d h) ∙ kept_append (take i ls) (l ∷ []) ∙ ap (λ t. text (take i ls) ++ t) (append-nil (take (share_of means nodes l) (drop l.start row)))

  -- the first lines keep no more than all
  pub kept_first : (ls : List Line) (i : ℕ) → length (text (take i ls)) ≤ length (text ls)
  kept_first ls i = omega (arith, kept_front (take i ls) (drop i ls), ap (λ l. length (text l)) (take-append-drop i ls))

module _ (means : ℕ → ℕ → Meaning) (nodes : List Node) (constants : List ℤ) (row : List ℕ) (lawful : (k p : ℕ) → Lawful (means k p)) (bytes : Bytes row) where
  steps : Steps means nodes constants row (λ pre p ls q. Few means nodes row ls p q)
  steps = record {
    none = λ pre p. none_few means nodes row p p (omega arith);
    join = λ pre ls ms p q r a b. join_few means nodes row ls ms p q r a b;
    good_field = λ i k a c pre p n z h e. one_few means nodes row (line i Good p n z) [] p (p + n) (none_few means nodes row (p + n) (p + n) (omega arith));
    good_mark = λ i b pre p h e. one_few means nodes row (line i Good p 1 (pos 0)) [] p (p + 1) (none_few means nodes row (p + 1) (p + 1) (omega arith));
    fault = λ i pre p z h. quiet_few means nodes row (line i SyntaxFault p 0 z) [] p p refl (none_few means nodes row p p (omega arith));
    check_line = λ i r a s pre p h.
        let o = checked r a (operand_of constants s) (values nodes pre) in
        one_few means nodes row (line i o p 0 (pos 0)) [] p p (none_few means nodes row (p + 0) p (omega arith));
    absent = λ i c pre p h. one_few means nodes row _ [] p p (none_few means nodes row (p + 0) p (omega arith));
    passed = λ i pre p. one_few means nodes row _ [] p p (none_few means nodes row (p + 0) p (omega arith));
    loose = λ i b pre p j h le e. scrap_few means nodes row i p j le;
    own = λ i pre ls p q z h k. quiet_few means nodes row (line i Good p (q - p) z) ls p q (ap (λ s. share s (q - p)) (inner_quiet means nodes row (node_at nodes i).shape h)) k;
    own_faulty = λ i pre ls p q h k. quiet_few means nodes row _ ls p q refl k;
  }

  -- the whole row
  pub kept_short : length (report means nodes constants row).text ≤ length row
  kept_short =
      let d = open_reading means nodes row (tree_of nodes constants) [] 0 in
      let root = reading_keeps means nodes constants row (λ pre p ls q. Few means nodes row ls p q) steps (tree_of nodes constants) [] 0 (tree_fits nodes constants) in
      let inside = (reading_keeps means nodes constants row (λ pre p ls q. Forth row p q) (forth means nodes constants row lawful bytes) (tree_of nodes constants) [] 0 (tree_fits nodes constants)).within (omega arith) in
      let rest = join_few means nodes row (ends_early d.broke d.place (length row)) _ d.place d.place (length row) (early_few means nodes row d.broke d.place) (scrap_few means nodes row 0 d.place (length row) inside) in
      omega (arith, (join_few means nodes row d.lines _ 0 d.place (length row) root rest).few)
