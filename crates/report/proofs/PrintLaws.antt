-- The lines of a reading, printed with their kept text, are the bytes that it took; of a whole row, the row.
use Rattle.std.proofs.Common.{◌≡◌, ℕ, zero, suc, ◌+◌, ◌-◌, ◌<◌, ◌≤◌, Bool, true, false, cond, ltb, List, [], ◌∷◌, ◌++◌, length, get_or, take, drop, ℤ, pos, Some, None, Option, sym, refl, ap, ◌∙◌, subst, ap₂, append_assoc, append-nil, zero-le, add-zero, arith, length-append, length-drop, take-append-drop, get_or-drop, drop-drop}
use Rattle.std.specs.List.{AllByRecursion}
use Rattle.std.proofs.ByRecursion.{All-append}
use Rattle.std.proofs.lemmas.List.{drop_all, take_at, drop_at, length-take-le}
use Rattle.std.proofs.lemmas.Bool.{ltb-false}
use Rattle.fields.specs.declared.cause.Sort.{Sort}
use Rattle.fields.specs.declared.cause.Sort.TheVariants.{Unknown, Numeric, Kept}
use Rattle.fields.specs.Laws.{Bytes, Lawful}
use Rattle.fields.specs.Meanings.{Meaning}
use Rattle.layout.specs.declared.node.Relation.{Relation}
use Rattle.layout.specs.declared.node.Shape.{Shape}
use Rattle.layout.specs.declared.node.Shape.TheVariants.{Field, Mark, Sequence, Choice, Optional, Check}
use Rattle.layout.specs.declared.node.Node.{Node}
use Rattle.layout.specs.Trees.{blank, node_at, operand_of, tree_of}
use Rattle.report.specs.declared.outcome.Outcome.TheVariants.{Good, SyntaxFault, CheckFault, Absent, FaultBelow, Scrap}
use Rattle.report.specs.declared.line.Line.{Line}
use Rattle.report.specs.Outcomes.{role_of}
use Rattle.report.specs.Lines.{line, skipped, scrap}
use Rattle.report.specs.Values.{values, latest}
use Rattle.report.specs.Checks.{holds, side_value, compared, checked}
use Rattle.report.specs.Recovery.{OpenReading}
use Rattle.report.specs.Readings.{open_reading}
use Rattle.report.specs.Printing.{nothing, the_byte, spelling, kept_text, field_source, share, shape_source, source_by, bytes_from, source_of, share_of, kept, printed}
use Rattle.report.specs.Reports.{ends_early, row_lines, row_read, whole_read, report, print}
use Rattle.report.proofs.Fits.{Has}
use Rattle.report.specs.Known.{KnownShape, Known}
use Rattle.report.proofs.Tables.{tree_fits}
use Rattle.report.proofs.Marks.{Stands, stands_below}
use Rattle.report.proofs.Steps.{Inner, Steps, reading_keeps}

-- a node that is known wherever it is looked up
known_at : (means : ℕ → ℕ → Meaning) (d : Node) → KnownShape means d.shape → (nodes : List Node) → Known means nodes → (i : ℕ) → KnownShape means (get_or nodes i d).shape
known_at means d h [] k i = h
known_at means d h (n ∷ ns) k zero = k.0
known_at means d h (n ∷ ns) k (suc i) = known_at means d h ns k.1 i

module _ (means : ℕ → ℕ → Meaning) (nodes : List Node) (row : List ℕ) where
  -- the bytes that a line stands for, and that lines stand for
  abbrev stand : Line → List ℕ
  stand l = bytes_from means (source_of means nodes l) l.number (take (share_of means nodes l) (drop l.start row))

  abbrev stands : List Line → List ℕ
  stands [] = []
  stands (l ∷ ls) = stand l ++ stands ls

  -- the row has the text that a line keeps
  abbrev Sound : Line → Type 0
  Sound l = share_of means nodes l ≤ length (drop l.start row)

  stands_append : (xs ys : List Line) → stands (xs ++ ys) ≡ stands xs ++ stands ys
  stands_append [] ys = refl
  stands_append (x ∷ xs) ys = ap (λ t. stand x ++ t) (stands_append xs ys) ∙ sym (append_assoc (stand x) (stands xs) (stands ys))

  -- printing takes each line's text where the kept text has it
  printed_kept : (ls : List Line) (more : List ℕ) → AllByRecursion Sound ls → printed means nodes ls (kept means nodes row ls ++ more) ≡ stands ls
  printed_kept [] more h = refl
  printed_kept (l ∷ ls) more h =
      let n = share_of means nodes l in
      let text = take n (drop l.start row) in
      let rest = kept means nodes row ls ++ more in
      let long : length text ≡ n = length-take-le n (drop l.start row) h.0 in
      ap (printed means nodes (l ∷ ls)) (append_assoc text (kept means nodes row ls) more)
      ∙ ap₂ (λ a b. bytes_from means (source_of means nodes l) l.number a ++ printed means nodes ls b) (take_at text rest n long) (drop_at text rest n long)
      ∙ ap (λ t. stand l ++ t) (printed_kept ls more h.1)

  -- each line starts where the bytes before it end, the first at p
  abbrev StartFrom : ℕ → List Line → Type 0
  StartFrom p [] = Unit {0}
  StartFrom p (l ∷ ls) = (l.start ≡ p) × StartFrom (p + length (stand l)) ls

  join_starts : (ls ms : List Line) (p q : ℕ) → q ≡ p + length (stands ls) → StartFrom p ls → StartFrom q ms → StartFrom p (ls ++ ms)
  join_starts [] ms p q e h k = subst (λ n. StartFrom n ms) (e ∙ add-zero p) k
  join_starts (l ∷ ls) ms p q e h k =
      (h.0, join_starts ls ms (p + length (stand l)) q (omega (arith, e, length-append (stand l) (stands ls))) h.1 k)

  start_at : (above : List Line) (l : Line) (below : List Line) (p : ℕ) → StartFrom p (above ++ l ∷ below) → l.start ≡ p + length (stands above)
  start_at [] l below p h = h.0 ∙ sym (add-zero p)
  start_at (a ∷ above) l below p h =
      start_at above l below (p + length (stand a)) h.1 ∙ omega (arith, length-append (stand a) (stands above))

  sound_front : (above below : List Line) → AllByRecursion Sound (above ++ below) → AllByRecursion Sound above
  sound_front [] below h = tt
  sound_front (a ∷ above) below h = (h.0, sound_front above below h.1)

  -- lines that stand for the bytes from p to q
  record Covers (ls : List Line) (p q : ℕ) : Type 0 where
    from : p ≤ length row
    starts : StartFrom p ls
    same : stands ls ++ drop q row ≡ drop p row
    sound : AllByRecursion Sound ls
    within : q ≤ length row

  -- one line
  one_covers : (l : Line) (p q : ℕ) → l.start ≡ p → stand l ++ drop q row ≡ drop p row → Sound l → p ≤ length row → q ≤ length row → Covers (l ∷ []) p q
  one_covers l p q b e s f w = record { from = f; starts = (b, tt); same = ap (λ t. t ++ drop q row) (append-nil (stand l)) ∙ e; sound = (s, tt); within = w }

  -- a line without bytes, before lines that cover
  quiet_covers : (l : Line) (ls : List Line) (p q : ℕ) → l.start ≡ p → source_of means nodes l ≡ nothing → Covers ls p q → Covers (l ∷ ls) p q
  quiet_covers l ls p q b e c =
      let none : length (stand l) ≡ 0 = ap (λ s. length (bytes_from means s l.number (take (share s l.length) (drop l.start row)))) e in
      record {
        from = c.from;
        starts = (b, subst (λ n. StartFrom n ls) (let z : p ≡ p + length (stand l) = omega (arith, none) in z) c.starts);
        same = ap (λ s. (bytes_from means s l.number (take (share s l.length) (drop l.start row)) ++ stands ls) ++ drop q row) e ∙ c.same;
        sound = (subst (λ s. share s l.length ≤ length (drop l.start row)) (sym e) zero-le, c.sound);
        within = c.within;
      }

  join_covers : (ls ms : List Line) (p q r : ℕ) → Covers ls p q → Covers ms q r → Covers (ls ++ ms) p r
  join_covers ls ms p q r c d =
      let n : q ≡ p + length (stands ls) = omega (arith, c.from, c.within, length-append (stands ls) (drop q row), ap length c.same, length-drop p row, length-drop q row) in
      record {
        from = c.from;
        starts = join_starts ls ms p q n c.starts d.starts;
        same = ap (λ t. t ++ drop r row) (stands_append ls ms) ∙ append_assoc (stands ls) (stands ms) (drop r row) ∙ ap (λ t. stands ls ++ t) d.same ∙ c.same;
        sound = All-append Sound ls ms c.sound d.sound;
        within = d.within;
      }

  none_covers : (p : ℕ) → p ≤ length row → Covers [] p p
  none_covers p h = record { from = h; starts = tt; same = refl; sound = tt; within = h }

  -- n bytes from p on
  part_of : (p n : ℕ) → take n (drop p row) ++ drop (p + n) row ≡ drop p row
  part_of p n = ap (λ t. take n (drop p row) ++ t) (sym (drop-drop n p row)) ∙ take-append-drop n (drop p row)

  text_covers : (l : Line) (p n : ℕ) → l.start ≡ p → stand l ≡ take n (drop p row) → Sound l → n ≤ length (drop p row) → p ≤ length row → Covers (l ∷ []) p (p + n)
  text_covers l p n b e s w h =
      one_covers l p (p + n) b (ap (λ t. t ++ drop (p + n) row) e ∙ part_of p n) s h (omega (arith, length-drop p row))

  scrap_covers : (i p j : ℕ) → p ≤ j → j ≤ length row → Covers (scrap i p j) p j
  scrap_covers i p j h w = go (ltb p j) refl
    where
      go : (b : Bool) → ltb p j ≡ b → Covers (cond b (line i Scrap p (j - p) (pos 0) ∷ []) []) p j
      go true e =
          subst (λ k. Covers (line i Scrap p (j - p) (pos 0) ∷ []) p k) (let z : p + (j - p) ≡ j = omega arith in z)
          (text_covers (line i Scrap p (j - p) (pos 0)) p (j - p) refl refl (omega (arith, length-drop p row)) (omega (arith, length-drop p row)) (omega arith))
      go false e = subst (λ k. Covers [] p k) (let z : p ≡ j = omega (arith, ltb-false p j e) in z) (none_covers p (omega arith))

  mark_covers : (i b p : ℕ) → Has nodes i (Mark b) → Stands row b p → Covers (line i Good p 1 (pos 0) ∷ []) p (p + 1)
  mark_covers i b p h e =
      let s : source_of means nodes (line i Good p 1 (pos 0)) ≡ the_byte b = ap (shape_source means) h in
      one_covers (line i Good p 1 (pos 0)) p (p + 1) refl
      (ap (λ x. bytes_from means x (pos 0) (take (share x 1) (drop p row)) ++ drop (p + 1) row) s ∙ sym e)
      (subst (λ x. share x 1 ≤ length (drop p row)) (sym s) zero-le) (omega (arith, stands_below row b p e)) (omega (arith, stands_below row b p e))

  -- a field that was read, by the sort of its kind
  field_covers : (i kind parameter : ℕ) (column : Option ℕ) (p n : ℕ) (z : ℤ) → Has nodes i (Field (record { code = kind; parameter = parameter }) column) → p ≤ length row → n ≤ length (drop p row) →
      ((means kind parameter).sort ≡ Numeric → (means kind parameter).spells z ≡ take n (drop p row)) →
      ((means kind parameter).sort ≡ Unknown → ⊥) → Covers (line i Good p n z ∷ []) p (p + n)
  field_covers i kind parameter column p n z h w fits spelled known = go (means kind parameter).sort refl
    where
      go : (s : Sort) → (means kind parameter).sort ≡ s → Covers (line i Good p n z ∷ []) p (p + n)
      go Unknown e = absurd (known e)
      go Numeric e =
          let s : source_of means nodes (line i Good p n z) ≡ spelling kind parameter = ap (shape_source means) h ∙ ap (λ t. field_source t kind parameter) e in
          text_covers (line i Good p n z) p n refl (ap (λ x. bytes_from means x z (take (share x n) (drop p row))) s ∙ spelled e)
          (subst (λ x. share x n ≤ length (drop p row)) (sym s) zero-le) fits w
      go Kept e =
          let s : source_of means nodes (line i Good p n z) ≡ kept_text = ap (shape_source means) h ∙ ap (λ t. field_source t kind parameter) e in
          text_covers (line i Good p n z) p n refl (ap (λ x. bytes_from means x z (take (share x n) (drop p row))) s)
          (subst (λ x. share x n ≤ length (drop p row)) (sym s) fits) fits w

  -- nodes with others below them, and checks, have no bytes of their own
  pub inner_quiet : (s : Shape) → Inner s → shape_source means s ≡ nothing
  inner_quiet (Field kind column) h = absurd h
  inner_quiet (Mark byte) h = absurd h
  inner_quiet (Sequence child) h = refl
  inner_quiet (Choice child) h = refl
  inner_quiet (Optional child) h = refl
  inner_quiet (Check relation left right) h = absurd h

  check_quiet : (r : Relation) (x y : Option ℤ) (s : Shape) → shape_source means s ≡ nothing → source_by means (role_of (compared r x y)) s ≡ nothing
  check_quiet r None y s h = refl
  check_quiet r (Some x) None s h = refl
  check_quiet r (Some x) (Some y) s h = go (holds r x y)
    where
      go : (b : Bool) → source_by means (role_of (cond b Good CheckFault)) s ≡ nothing
      go true = h
      go false = refl

  early_covers : (b : Bool) (p : ℕ) → p ≤ length row → Covers (ends_early b p (length row)) p p
  early_covers true p h = none_covers p h
  early_covers false p h = go (ltb p (length row))
    where
      go : (b : Bool) → Covers (cond b (line 0 SyntaxFault p 0 (pos 6) ∷ []) []) p p
      go true = quiet_covers (line 0 SyntaxFault p 0 (pos 6)) [] p p refl refl (none_covers p h)
      go false = none_covers p h

  row_covers : (d : OpenReading) → Covers d.lines 0 d.place → Covers (row_read row d).lines 0 (length row)
  row_covers d c =
      join_covers d.lines (row_lines d.broke d.place (length row)) 0 d.place (length row) c
      (join_covers (ends_early d.broke d.place (length row)) (scrap 0 d.place (length row)) d.place d.place (length row)
      (early_covers d.broke d.place c.within) (scrap_covers 0 d.place (length row) c.within (omega arith)))

  -- lines that cover the whole row print it
  covers_print : (ls : List Line) → Covers ls 0 (length row) → printed means nodes ls (kept means nodes row ls) ≡ row
  covers_print ls c =
      ap (printed means nodes ls) (sym (append-nil (kept means nodes row ls)))
      ∙ printed_kept ls [] c.sound
      ∙ sym (append-nil (stands ls))
      ∙ ap (λ t. stands ls ++ t) (sym (drop_all (length row) row (omega arith)))
      ∙ c.same

module _ (means : ℕ → ℕ → Meaning) (nodes : List Node) (constants : List ℤ) (row : List ℕ) (lawful : (k p : ℕ) → Lawful (means k p)) (known : Known means nodes) (bytes : Bytes row) where
  bytes_from_lem : (p : ℕ) → Bytes (drop p row)
  bytes_from_lem p i = subst (λ b. b < 256) (sym (get_or-drop p row i 0)) (bytes (p + i))

  known_node : (i : ℕ) → KnownShape means (node_at nodes i).shape
  known_node i = known_at means blank tt nodes known (i - 1)

  steps : Steps means nodes constants row (λ pre p ls q. p ≤ length row → Covers means nodes row ls p q)
  steps = record {
    none = λ pre p h. none_covers means nodes row p h;
    join = λ pre ls ms p q r c d h. join_covers means nodes row ls ms p q r (c h) (d (c h).within);
    good_field = λ i k a c pre p n z h e w.
        field_covers means nodes row i k a c p n z h w ((lawful k a).within (drop p row) n z (bytes_from_lem p) e) ((lawful k a).spelled (drop p row) n z (bytes_from_lem p) e)
        (subst (KnownShape means) h (known_node i));
    good_mark = λ i b pre p h e w. mark_covers means nodes row i b p h e;
    fault = λ i pre p z h w. quiet_covers means nodes row (line i SyntaxFault p 0 z) [] p p refl refl (none_covers means nodes row p w);
    check_line = λ i r a s pre p h w.
        let vs = values nodes pre in
        let o = checked r a (operand_of constants s) vs in
        quiet_covers means nodes row (line i o p 0 (pos 0)) [] p p refl
        (check_quiet means nodes row r (latest a vs) (side_value (operand_of constants s) vs) (node_at nodes i).shape (ap (shape_source means) h))
        (none_covers means nodes row p w);
    absent = λ i c pre p h w. quiet_covers means nodes row (line i Absent p 0 (pos 0)) [] p p refl refl (none_covers means nodes row p w);
    passed = λ i pre p w. quiet_covers means nodes row (skipped i p) [] p p refl refl (none_covers means nodes row p w);
    loose = λ i b pre p j h le e w. scrap_covers means nodes row i p j le (omega (arith, stands_below row b j e));
    own = λ i pre ls p q z h c w. quiet_covers means nodes row (line i Good p (q - p) z) ls p q refl (inner_quiet means nodes row (node_at nodes i).shape h) (c w);
    own_faulty = λ i pre ls p q h c w. quiet_covers means nodes row (line i FaultBelow p (q - p) (pos 0)) ls p q refl refl (c w);
  }

  whole_covers : Covers means nodes row (whole_read means nodes constants row).lines 0 (length row)
  whole_covers =
      row_covers means nodes row (open_reading means nodes row (tree_of nodes constants) [] 0)
      (reading_keeps means nodes constants row _ steps (tree_of nodes constants) [] 0 (tree_fits nodes constants) zero-le)

  pub prints_row : print means nodes (report means nodes constants row) ≡ row
  prints_row = covers_print means nodes row (whole_read means nodes constants row).lines whole_covers

  -- a line starts where those above it, printed, end
  pub line_starts : (above below : List Line) (l : Line) → (report means nodes constants row).lines ≡ above ++ l ∷ below →
      l.start ≡ length (printed means nodes above (kept means nodes row above))
  line_starts above below l e =
      let c : Covers means nodes row (above ++ l ∷ below) 0 (length row) = subst (λ ls. Covers means nodes row ls 0 (length row)) e whole_covers in
      start_at means nodes row above l below 0 c.starts
      ∙ omega (arith, ap length (sym (printed_kept means nodes row above [] (sound_front means nodes row above (l ∷ below) c.sound)) ∙ ap (printed means nodes above) (append-nil (kept means nodes row above))))
