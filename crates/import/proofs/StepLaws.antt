-- Each call keeps what holds at every moment.
use Rattle.std.proofs.Common.{◌≡◌, ℕ, suc, ◌+◌, ◌≤◌, Bool, true, false, cond, not, List, [], ◌∷◌, ◌++◌, length, Some, None, Option, ◌==◌, ◌≢◌, nat_le, refl, sym, ap, subst, ◌∙◌, arith, append-nil, append_assoc}
use Rattle.std.proofs.lemmas.List.{map-append, length-append, length_push}
use Rattle.std.proofs.lemmas.Bool.{leb-true, eqb-true, or_right, not-false}
use Rattle.std.specs.List.{AllByRecursion}
use Rattle.rows.specs.Cuts.{RowAt, Cut, texts, frames, Each, PartOf, File}
use Rattle.rows.specs.Rules as rules
use Rattle.rows.specs.declared.piece.Mark.{Mark}
use Rattle.report.specs.Reports.{fault_count}
use Rattle.import.specs.declared.slip.Slip.{Slip}
use Rattle.import.specs.declared.stage.Stage.{Stage}
use Rattle.import.specs.declared.stage.Stage.TheVariants.{Empty, Between, Unread, Read, End}
use Rattle.import.specs.declared.stage.How.{How}
use Rattle.import.specs.declared.stage.How.TheVariants.{Kept, SetAside}
use Rattle.import.specs.declared.answer.Opened.{Opened}
use Rattle.import.specs.declared.refusal.Refusal.{Refusal}
use Rattle.import.specs.declared.refusal.Refusal.TheVariants.{WrongMoment}
use Rattle.import.specs.Slips.{slip, same_slip, among, slips_from, slips, rows_of, part, row_at, rows_at}
use Rattle.import.specs.Models.{Setting, Standing, Model}
use Rattle.import.specs.Calls.{Call, next, read, print, line, file, counts, closing, Answer, refused, row, none, done, wrote, found, counted}
use Rattle.import.specs.Steps.{Out, no, unless, tried, other_length, no_room, end_at, first_to_come, next_row, step_next, unreadable, report_of, read_row, step_read, frame_of, step_print, line_of, step_line, open_slip, faulty, unfit, file_row, file_unread, step_file, step_counts, step_closing, step}
use Rattle.import.specs.Stages.{open_at}
use Rattle.import.specs.Words.{open_of, last_of}
use Rattle.import.specs.Tells.{tail_of, defined}
use Rattle.import.proofs.SlipLaws.{same_equal, Unheard, unheard_later, unheard_push, unheard_from, from_more, Before, numbered_before, all_push, rows_without, rows_with, last_open, last_is, slips_push, pushed}
use Rattle.import.proofs.Heard.{Words, heard, same_words, unchanged, or_none}
use Rattle.import.proofs.Moments.{OneOpen, NoneOpen, UnreadAt, ReadRow, BetweenRows, Moment, standing_of, Stands}

-- what a lawful rule makes of a file: rows and tail are parts of it, and there is room for one byte a row beside the tail
pub record Ground (bytes : List ℕ) (c : Cut) : Type 0 where
  pub parts : Each (λ r. PartOf bytes r.start r.bytes) c.rows
  pub tail_part : PartOf bytes c.tail.start c.tail.bytes
  pub few : length c.rows + length c.tail.bytes ≤ length bytes

not_nil : (bs : List ℕ) → (bs ≢ []) → 1 ≤ length bs
not_nil [] h = absurd (h refl)
not_nil (b ∷ bs) h = omega arith

few_frames : (frame : List ℕ → Mark → List ℕ) (rs : List RowAt) → Each (λ r. frame r.bytes r.mark ≢ []) rs → length rs ≤ length (frames frame (texts rs))
few_frames frame [] h = omega arith
few_frames frame (r ∷ rs) h =
    let a = not_nil (frame r.bytes r.mark) h.0 in
    let b = few_frames frame rs h.1 in
    simp length-append (omega arith)

pub grounded : (m : rules.Meaning) → rules.Lawful m → (bytes : List ℕ) → File bytes → Ground bytes (m.cut bytes)
grounded m law bytes f =
    let a = few_frames m.frame (m.cut bytes).rows (law.no_empty bytes f) in
    let l : length (frames m.frame (texts (m.cut bytes).rows)) + length (m.cut bytes).tail.bytes ≡ length bytes = sym (length-append (frames m.frame (texts (m.cut bytes).rows)) (m.cut bytes).tail.bytes) ∙ ap length (law.covers bytes f) in
    record { parts = (law.parts bytes f).0; tail_part = (law.parts bytes f).1; few = omega arith }

pub each_at : (P : RowAt → Type 0) (xs : List RowAt) (r : RowAt) (rs : List RowAt) → Each P (xs ++ r ∷ rs) → P r
each_at P [] r rs h = h.0
each_at P (x ∷ xs) r rs h = each_at P xs r rs h.1

pub no_rows : (rs : List RowAt) → length rs ≤ 0 → rs ≡ []
no_rows [] h = refl
no_rows (r ∷ rs) h = absurd (omega arith)

no_bytes : (bs : List ℕ) → length bs ≤ 0 → bs ≡ []
no_bytes [] h = refl
no_bytes (b ∷ bs) h = absurd (omega arith)

pub length-rows : (bytes : List ℕ) (os : List Opened) → length (rows_at bytes os) ≡ length os
length-rows bytes [] = refl
length-rows bytes (o ∷ os) = ap suc (length-rows bytes os)

-- the one open row, by its slip
pub only_open : (number : ℕ) (w : Words) (os : List Opened) (o : Opened) → OneOpen number w os o → open_of w.spent w.opened ≡ o ∷ []
only_open number w os o h =
    let r : o.slip.row ≡ length os + 1 = ap (λ t. t.row) h.own in
    let u : among o.slip (slips os) ≡ false = subst (λ ss. among o.slip ss ≡ false) (sym h.others) (unheard_from number 1 (length os) o.slip (omega arith)) in
    ap (λ ss. open_of ss w.opened) h.spent ∙ ap (open_of (slips os)) h.opened ∙ last_open os o u

-- the other rows are before the open one
pub others_before : (number : ℕ) (w : Words) (os : List Opened) (o : Opened) → OneOpen number w os o → Before o.slip.row os
others_before number w os o u =
    let l : 1 + length os ≡ o.slip.row = omega (arith, ap (λ (t : Slip). t.row) u.own) in
    subst (λ j. Before j os) l (numbered_before number 1 os u.others)

-- every test was left
abbrev pub Passed : List (Bool × Refusal) → Type 0
Passed [] = Unit {0}
Passed (t ∷ ts) = (t.0 ≡ false) × Passed ts

module _ (bytes : List ℕ) (s : Setting) (number : ℕ) (g : Ground bytes (s.rule.cut bytes)) where
  -- a row of which the report has no fault
  abbrev Clean : Opened → Type 0
  Clean o = fault_count (defined s bytes o) ≡ 0

  abbrev After : Words → Call → Out → Type 0
  After w c out = Stands bytes s number (heard w (record { call = c; answer = out.0 })) out.1

  module _ (w : Words) (m : Model) (h : Stands bytes s number w m) where
    quiet : (c : Call) (a : Answer) → heard w (record { call = c; answer = a }) ≡ w → After w c (a, m)
    quiet c a e = subst (λ v. Stands bytes s number v m) (sym e) h

    refused_stands : (c : Call) (why : Refusal) → After w c (no why m)
    refused_stands c why = quiet c (refused why) (unchanged w)

    unless_stands : (c : Call) (b : Bool) (why : Refusal) (out : Out) → (b ≡ false → After w c out) → After w c (unless b why m out)
    unless_stands c true why out f = refused_stands c why
    unless_stands c false why out f = f refl

    tried_stands : (c : Call) (ts : List (Bool × Refusal)) (out : Out) → (Passed ts → After w c out) → After w c (tried ts m out)
    tried_stands c [] out f = f tt
    tried_stands c (t ∷ ts) out f = unless_stands c t.0 t.1 (tried ts m out) (λ e. tried_stands c ts out (λ p. f (e, p)))

    -- next says none
    end_stands : (start n : ℕ) → open_at m.stage ≡ 0 → m.ahead.rows ≡ [] → part bytes start n ≡ tail_of s bytes → NoneOpen w → After w next (end_at m start n)
    end_stands start n z e t c =
        let v : Words = record { opened = w.opened; kept = w.kept; aside = w.aside; spent = w.spent; read = w.read; ended = true } in
        let k : heard w (record { call = next; answer = none }) ≡ v =
        same_words (heard w (record { call = next; answer = none })) v (append-nil w.opened) (append-nil w.kept) (append-nil w.aside) (append-nil w.spent) (append-nil w.read) (or_right w.ended true refl) in
        subst (λ x. Stands bytes s number x (record m { stage = End start n })) (sym k) (record {
          setting = h.setting;
          numbered = h.numbered;
          size = h.size;
          tail = h.tail;
          rows = h.rows;
          each_once = h.each_once;
          opens = h.opens;
          keeps = h.keeps;
          asides = h.asides;
          tally = omega (arith, h.tally);
          clean = h.clean;
          read_once = h.read_once;
          stands = h.stands;
          moment = record { closed = record { spent = c.spent; kept_before = c.kept_before; aside_before = c.aside_before; read_before = c.read_before }; over = refl; none_left = e; there = t };
        })

    -- next opens the row r
    opens_stands : (r : RowAt) (rs : List RowAt) → open_at m.stage ≡ 0 → m.ahead.rows ≡ r ∷ rs → BetweenRows w → After w next (first_to_come m (r ∷ rs) m.ahead.tail)
    opens_stands r rs z e b =
        let c = b.closed in
        let o : Opened = record { slip = slip m.number (m.counts.opened + 1); start = r.start; length = length r.bytes; mark = r.mark } in
        let v : Words = record { opened = w.opened ++ o ∷ []; kept = w.kept; aside = w.aside; spent = w.spent; read = w.read; ended = w.ended } in
        let k : heard w (record { call = next; answer = row o }) ≡ v =
        same_words (heard w (record { call = next; answer = row o })) v refl (append-nil w.kept) (append-nil w.aside) (append-nil w.spent) (append-nil w.read) (or_none w.ended) in
        let own : o.slip ≡ slip number (length w.opened + 1) = ap (λ n. slip n (m.counts.opened + 1)) h.numbered ∙ ap (λ n. slip number (n + 1)) h.opens in
        let whole : rows_at bytes w.opened ++ r ∷ rs ≡ (s.rule.cut bytes).rows = ap (λ x. rows_at bytes w.opened ++ x) (sym e) ∙ h.rows in
        let p : PartOf bytes r.start r.bytes = each_at (λ q. PartOf bytes q.start q.bytes) (rows_at bytes w.opened) r rs (subst (Each (λ q. PartOf bytes q.start q.bytes)) (sym whole) g.parts) in
        let same : row_at bytes o ≡ r = ap (λ x. record { start = r.start; bytes = x; mark = r.mark }) (sym p.1) in
        let fits : length w.opened + 1 ≤ o.slip.row = omega (arith, h.opens) in
        subst (λ x. Stands bytes s number x (first_to_come m (r ∷ rs) m.ahead.tail).1) (sym k) (record {
          setting = h.setting;
          numbered = h.numbered;
          size = h.size;
          tail = h.tail;
          rows = ap (λ x. x ++ rs) (map-append (row_at bytes) w.opened (o ∷ [])) ∙ append_assoc (rows_at bytes w.opened) (row_at bytes o ∷ []) rs ∙ ap (λ x. rows_at bytes w.opened ++ x ∷ rs) same ∙ whole;
          each_once =
              let l : 1 + length w.opened ≡ length w.opened + 1 = omega arith in
              slips_push w.opened o ∙ ap (λ ss. ss ++ o.slip ∷ []) h.each_once ∙ ap (λ t. slips_from number 1 (length w.opened) ++ t ∷ []) (own ∙ ap (slip number) (sym l))
              ∙ sym (from_more number 1 (length w.opened)) ∙ ap (slips_from number 1) (sym (length_push w.opened o));
          opens = ap (λ n. n + 1) h.opens ∙ sym (length_push w.opened o);
          keeps = h.keeps ∙ ap length (sym (rows_without w.kept w.opened o (c.kept_before o.slip fits)));
          asides = h.asides ∙ ap length (sym (rows_without w.aside w.opened o (c.aside_before o.slip fits)));
          tally = omega (arith, h.tally);
          clean = subst (AllByRecursion Clean) (sym (rows_without w.kept w.opened o (c.kept_before o.slip fits))) h.clean;
          read_once = h.read_once ∙ sym (rows_without (slips w.read) w.opened o (c.read_before o.slip fits));
          stands = sym (ap (λ x. standing_of s bytes (rows_of (slips w.read) x)) (last_is w.opened o) ∙ ap (standing_of s bytes) (rows_without (slips w.read) [] o (c.read_before o.slip fits)));
          moment = record {
            os = w.opened;
            o = o;
            row = record { opened = refl; spent = c.spent; others = h.each_once; own = own; kept_before = c.kept_before; aside_before = c.aside_before; read_before = unheard_later (length w.opened + 1) (length w.opened + 2) (slips w.read) (omega arith) c.read_before };
            starts = refl;
            long = refl;
            marked = refl;
            new = c.read_before;
            goes_on = b.goes_on;
          };
        })

    tail_there : part bytes m.ahead.tail.start (length m.ahead.tail.bytes) ≡ tail_of s bytes
    tail_there = ap (λ t. part bytes t.start (length t.bytes)) h.tail ∙ sym g.tail_part.1

    first_stands : (rs : List RowAt) → open_at m.stage ≡ 0 → m.ahead.rows ≡ rs → BetweenRows w → After w next (first_to_come m rs m.ahead.tail)
    first_stands [] z e b = end_stands m.ahead.tail.start (length m.ahead.tail.bytes) z e tail_there b.closed
    first_stands (r ∷ rs) z e b = opens_stands r rs z e b

    -- as many rows are opened as the file has bytes
    pub full_rows : m.size ≤ m.counts.opened → m.ahead.rows ≡ []
    full_rows f =
        let l : length (rows_at bytes w.opened) + length m.ahead.rows ≡ length (s.rule.cut bytes).rows = sym (length-append (rows_at bytes w.opened) m.ahead.rows) ∙ ap length h.rows in
        no_rows m.ahead.rows (omega (arith, g.few, h.size, h.opens, length-rows bytes w.opened))

    full_tail : m.size ≤ m.counts.opened → [] ≡ tail_of s bytes
    full_tail f =
        let l : length (rows_at bytes w.opened) + length m.ahead.rows ≡ length (s.rule.cut bytes).rows = sym (length-append (rows_at bytes w.opened) m.ahead.rows) ∙ ap length h.rows in
        sym (no_bytes (tail_of s bytes) (omega (arith, g.few, h.size, h.opens, length-rows bytes w.opened)))

    row_stands : (b : Bool) → nat_le m.size m.counts.opened ≡ b → open_at m.stage ≡ 0 → BetweenRows w → After w next (cond b (end_at m m.size 0) (first_to_come m m.ahead.rows m.ahead.tail))
    row_stands true e z b = let f = leb-true m.size m.counts.opened e in end_stands m.size 0 z (full_rows f) (full_tail f) b.closed
    row_stands false e z b = first_stands m.ahead.rows z refl b

    abbrev Is : Stage → Type 0
    Is p = m.stage ≡ p

    moment_at : (p : Stage) → Is p → Moment bytes number (tail_of s bytes) m.ahead.rows w p
    moment_at p e = subst (Moment bytes number (tail_of s bytes) m.ahead.rows w) e h.moment

    next_stands : (p : Stage) → Is p → After w next (step_next bytes m p)
    next_stands Empty e = refused_stands next WrongMoment
    next_stands Between e = tried_stands next (other_length bytes m ∷ []) (next_row m) (λ _. row_stands (nat_le m.size m.counts.opened) refl (ap open_at e) (moment_at Between e))
    next_stands (Unread start n mark) e = refused_stands next WrongMoment
    next_stands Read e = refused_stands next WrongMoment
    next_stands (End start n) e =
        let a = moment_at (End start n) e in
        tried_stands next (other_length bytes m ∷ []) (none, m) (λ _. quiet next none (
        same_words (heard w (record { call = next; answer = none })) w (append-nil w.opened) (append-nil w.kept) (append-nil w.aside) (append-nil w.spent) (append-nil w.read) (or_right w.ended true refl ∙ sym a.over)))

    -- the open row is read
    read_stands_at : (start n : ℕ) (mark : Mark) → Is (Unread start n mark) → UnreadAt number w start n mark → After w read (read_row m (part bytes start n) mark)
    read_stands_at start n mark e u =
        let o = u.o in
        let r : o.slip.row ≡ length u.os + 1 = ap (λ t. t.row) u.row.own in
        let v : Words = record { opened = w.opened; kept = w.kept; aside = w.aside; spent = w.spent; read = w.read ++ o ∷ []; ended = w.ended } in
        let k : heard w (record { call = read; answer = done }) ≡ v =
        same_words (heard w (record { call = read; answer = done })) v (append-nil w.opened) (append-nil w.kept) (append-nil w.aside) (append-nil w.spent) (ap (λ x. w.read ++ x) (only_open number w u.os o u.row)) (or_none w.ended) in
        let last : last_of w.opened ≡ o ∷ [] = ap last_of u.row.opened ∙ last_is u.os o in
        let named : among o.slip (slips (w.read ++ o ∷ [])) ≡ true = ap (among o.slip) (slips_push w.read o) ∙ pushed (slips w.read) o.slip in
        let reported : rows_of (slips (w.read ++ o ∷ [])) (last_of w.opened) ≡ o ∷ [] = ap (rows_of (slips (w.read ++ o ∷ []))) last ∙ ap (λ b. cond b (o ∷ []) []) named in
        let f : Setting → ℕ → ℕ → Mark → Option Standing = λ t a l k. Some (record { report = report_of t (part bytes a l); mark = k }) in
        subst (λ x. Stands bytes s number x (read_row m (part bytes start n) mark).1) (sym k) (record {
          setting = h.setting;
          numbered = h.numbered;
          size = h.size;
          tail = h.tail;
          rows = h.rows;
          each_once = h.each_once;
          opens = h.opens;
          keeps = h.keeps;
          asides = h.asides;
          tally = h.tally ∙ ap (λ x. m.counts.kept + m.counts.set_aside + x) (ap open_at e);
          clean = h.clean;
          read_once =
              ap (λ x. x ++ o ∷ []) (h.read_once ∙ ap (rows_of (slips w.read)) u.row.opened ∙ rows_without (slips w.read) u.os o (u.new o.slip (omega arith)))
              ∙ sym (ap (λ ss. rows_of ss w.opened) (slips_push w.read o) ∙ ap (rows_of (slips w.read ++ o.slip ∷ [])) u.row.opened ∙ rows_with (slips w.read) u.os o (others_before number w u.os o u.row));
          stands =
              ap (λ t. f t start n mark) h.setting ∙ ap (λ x. f s x n mark) (sym u.starts) ∙ ap (λ x. f s o.start x mark) (sym u.long) ∙ ap (λ x. f s o.start o.length x) (sym u.marked)
              ∙ sym (ap (standing_of s bytes) reported);
          moment = record {
            os = u.os;
            o = o;
            row = record {
              opened = u.row.opened;
              spent = u.row.spent;
              others = u.row.others;
              own = u.row.own;
              kept_before = u.row.kept_before;
              aside_before = u.row.aside_before;
              read_before = subst (Unheard (length u.os + 2)) (sym (slips_push w.read o)) (unheard_push (length u.os + 2) (slips w.read) o.slip (omega arith) u.row.read_before);
            };
            was_read = named;
            goes_on = u.goes_on;
          };
        })

    read_stands : (p : Stage) → Is p → After w read (step_read bytes m p)
    read_stands Empty e = refused_stands read WrongMoment
    read_stands Between e = refused_stands read WrongMoment
    read_stands (Unread start n mark) e =
        tried_stands read (other_length bytes m ∷ unreadable m.setting (part bytes start n)) (read_row m (part bytes start n) mark) (λ _. read_stands_at start n mark e (moment_at (Unread start n mark) e))
    read_stands Read e = refused_stands read WrongMoment
    read_stands (End start n) e = refused_stands read WrongMoment

    print_stands : (room : ℕ) (r : Option Standing) → After w (print room) (step_print room m r)
    print_stands room None = refused_stands (print room) WrongMoment
    print_stands room (Some r) = tried_stands (print room) (no_room room (frame_of m.setting r) ∷ []) (wrote (frame_of m.setting r), m) (λ _. quiet (print room) (wrote (frame_of m.setting r)) (unchanged w))

    line_stands : (n : ℕ) (r : Option Standing) → After w (line n) (step_line n m r)
    line_stands n None = refused_stands (line n) WrongMoment
    line_stands n (Some r) = quiet (line n) (found (line_of n r.report.lines)) (unchanged w)

    count_stands : (p : Stage) → After w counts (step_counts m p)
    count_stands Empty = refused_stands counts WrongMoment
    count_stands Between = quiet counts (counted m.counts) (unchanged w)
    count_stands (Unread start n mark) = quiet counts (counted m.counts) (unchanged w)
    count_stands Read = quiet counts (counted m.counts) (unchanged w)
    count_stands (End start n) = quiet counts (counted m.counts) (unchanged w)

    closing_stands : (room : ℕ) (p : Stage) → After w (closing room) (step_closing bytes room m p)
    closing_stands room Empty = refused_stands (closing room) WrongMoment
    closing_stands room Between = refused_stands (closing room) WrongMoment
    closing_stands room (Unread start n mark) = refused_stands (closing room) WrongMoment
    closing_stands room Read = refused_stands (closing room) WrongMoment
    closing_stands room (End start n) =
        tried_stands (closing room) (other_length bytes m ∷ no_room room (part bytes start n) ∷ []) (wrote (part bytes start n), m) (λ _. quiet (closing room) (wrote (part bytes start n)) (unchanged w))

    -- the open row is filed, with its slip
    module _ (os : List Opened) (o : Opened) (e : open_at m.stage ≡ 1) (u : OneOpen number w os o) (goes_on : w.ended ≡ false) where
      its_row : o.slip.row ≡ length os + 1
      its_row = ap (λ t. t.row) u.own

      so_many : length w.opened ≡ length os + 1
      so_many = ap length u.opened ∙ length_push os o

      -- one row more than before
      one_more_row : (ss : List Slip) → Unheard (length os + 1) ss → rows_of (ss ++ o.slip ∷ []) w.opened ≡ rows_of ss w.opened ++ o ∷ []
      one_more_row ss f =
          ap (rows_of (ss ++ o.slip ∷ [])) u.opened ∙ rows_with ss os o (others_before number w os o u)
          ∙ ap (λ x. x ++ o ∷ []) (sym (rows_without ss os o (f o.slip (omega (arith, its_row))))) ∙ ap (λ x. rows_of ss x ++ o ∷ []) (sym u.opened)

      one_more : (ss : List Slip) → Unheard (length os + 1) ss → length (rows_of (ss ++ o.slip ∷ []) w.opened) ≡ length (rows_of ss w.opened) + 1
      one_more ss f = ap length (one_more_row ss f) ∙ length_push (rows_of ss w.opened) o

      now_spent : w.spent ++ o.slip ∷ [] ≡ slips w.opened
      now_spent = ap (λ ss. ss ++ o.slip ∷ []) u.spent ∙ sym (slips_push os o) ∙ ap slips (sym u.opened)

      later : (ss : List Slip) → Unheard (length os + 1) ss → Unheard (length w.opened + 1) ss
      later ss f = unheard_later (length os + 1) (length w.opened + 1) ss (omega (arith, so_many)) f

      later_push : (ss : List Slip) → Unheard (length os + 1) ss → Unheard (length w.opened + 1) (ss ++ o.slip ∷ [])
      later_push ss f = unheard_push (length w.opened + 1) ss o.slip (omega (arith, so_many, its_row)) (later ss f)

      read_later : Unheard (length w.opened + 1) (slips w.read)
      read_later = unheard_later (length os + 2) (length w.opened + 1) (slips w.read) (omega (arith, so_many)) u.read_before

      filed_kept : (t : Slip) → t ≡ o.slip → Clean o → After w (file Kept t) (file_row Kept m)
      filed_kept t q fault_free =
          let v : Words = record { opened = w.opened; kept = w.kept ++ o.slip ∷ []; aside = w.aside; spent = w.spent ++ o.slip ∷ []; read = w.read; ended = w.ended } in
          let k : heard w (record { call = file Kept t; answer = done }) ≡ v =
          same_words (heard w (record { call = file Kept t; answer = done })) v (append-nil w.opened) (ap (λ x. w.kept ++ x ∷ []) q) (append-nil w.aside) (ap (λ x. w.spent ++ x ∷ []) q) (append-nil w.read) (or_none w.ended) in
          subst (λ x. Stands bytes s number x (file_row Kept m).1) (sym k) (record {
            setting = h.setting;
            numbered = h.numbered;
            size = h.size;
            tail = h.tail;
            rows = h.rows;
            each_once = h.each_once;
            opens = h.opens;
            keeps = ap (λ n. n + 1) h.keeps ∙ sym (one_more w.kept u.kept_before);
            asides = h.asides;
            tally = omega (arith, h.tally);
            clean = subst (AllByRecursion Clean) (sym (one_more_row w.kept u.kept_before)) (all_push Clean (rows_of w.kept w.opened) o h.clean fault_free);
            read_once = h.read_once;
            stands = h.stands;
            moment = record {
              closed = record { spent = now_spent; kept_before = later_push w.kept u.kept_before; aside_before = later w.aside u.aside_before; read_before = read_later };
              goes_on = goes_on;
            };
          })

      filed_aside : (t : Slip) → t ≡ o.slip → After w (file SetAside t) (file_row SetAside m)
      filed_aside t q =
          let v : Words = record { opened = w.opened; kept = w.kept; aside = w.aside ++ o.slip ∷ []; spent = w.spent ++ o.slip ∷ []; read = w.read; ended = w.ended } in
          let k : heard w (record { call = file SetAside t; answer = done }) ≡ v =
          same_words (heard w (record { call = file SetAside t; answer = done })) v (append-nil w.opened) (append-nil w.kept) (ap (λ x. w.aside ++ x ∷ []) q) (ap (λ x. w.spent ++ x ∷ []) q) (append-nil w.read) (or_none w.ended) in
          subst (λ x. Stands bytes s number x (file_row SetAside m).1) (sym k) (record {
            setting = h.setting;
            numbered = h.numbered;
            size = h.size;
            tail = h.tail;
            rows = h.rows;
            each_once = h.each_once;
            opens = h.opens;
            keeps = h.keeps;
            asides = ap (λ n. n + 1) h.asides ∙ sym (one_more w.aside u.aside_before);
            tally = omega (arith, h.tally);
            clean = h.clean;
            read_once = h.read_once;
            stands = h.stands;
            moment = record {
              closed = record { spent = now_spent; kept_before = later w.kept u.kept_before; aside_before = later_push w.aside u.aside_before; read_before = read_later };
              goes_on = goes_on;
            };
          })

      -- the slip that passes the test is the open row's
      right_slip : (t : Slip) → not (same_slip t (open_slip m)) ≡ false → t ≡ o.slip
      right_slip t f =
          same_equal t (open_slip m) (not-false (same_slip t (open_slip m)) f)
          ∙ ap (λ n. slip n m.counts.opened) h.numbered ∙ ap (slip number) (h.opens ∙ so_many) ∙ sym u.own

      kept_stands : (t : Slip) → (faulty m.standing ≡ false → Clean o) → After w (file Kept t) (tried (unfit Kept t m) m (file_row Kept m))
      kept_stands t c = tried_stands (file Kept t) (unfit Kept t m) (file_row Kept m) (λ p. filed_kept t (right_slip t p.0) (c p.1.0))

      aside_stands : (t : Slip) → After w (file SetAside t) (tried (unfit SetAside t m) m (file_row SetAside m))
      aside_stands t = tried_stands (file SetAside t) (unfit SetAside t m) (file_row SetAside m) (λ p. filed_aside t (right_slip t p.0))

    -- the report that stands while a row that was read is open
    pub standing_read : (u : ReadRow number w) → m.standing ≡ Some (record { report = defined s bytes u.o; mark = u.o.mark })
    standing_read u =
        h.stands ∙ ap (λ x. standing_of s bytes (rows_of (slips w.read) x)) (ap last_of u.row.opened ∙ last_is u.os u.o)
        ∙ ap (λ b. standing_of s bytes (cond b (u.o ∷ []) [])) u.was_read

    clean_read : (u : ReadRow number w) → faulty m.standing ≡ false → Clean u.o
    clean_read u e =
        let f : not (fault_count (defined s bytes u.o) == 0) ≡ false = ap faulty (sym (standing_read u)) ∙ e in
        eqb-true (fault_count (defined s bytes u.o)) 0 (not-false (fault_count (defined s bytes u.o) == 0) f)

    unread_filed : (how : How) (t : Slip) (start n : ℕ) (mark : Mark) → Is (Unread start n mark) → UnreadAt number w start n mark → After w (file how t) (file_unread how t m)
    unread_filed Kept t start n mark e u = refused_stands (file Kept t) WrongMoment
    unread_filed SetAside t start n mark e u = aside_stands u.os u.o (ap open_at e) u.row u.goes_on t

    read_filed : (how : How) (t : Slip) → Is Read → ReadRow number w → After w (file how t) (tried (unfit how t m) m (file_row how m))
    read_filed Kept t e u = kept_stands u.os u.o (ap open_at e) u.row u.goes_on t (clean_read u)
    read_filed SetAside t e u = aside_stands u.os u.o (ap open_at e) u.row u.goes_on t

    file_stands : (how : How) (t : Slip) (p : Stage) → Is p → After w (file how t) (step_file how t m p)
    file_stands how t Empty e = refused_stands (file how t) WrongMoment
    file_stands how t Between e = refused_stands (file how t) WrongMoment
    file_stands how t (Unread start n mark) e = unread_filed how t start n mark e (moment_at (Unread start n mark) e)
    file_stands how t Read e = read_filed how t e (moment_at Read e)
    file_stands how t (End start n) e = refused_stands (file how t) WrongMoment

    pub step_stands : (c : Call) → After w c (step bytes m c)
    step_stands next = next_stands m.stage refl
    step_stands read = read_stands m.stage refl
    step_stands (print room) = print_stands room m.standing
    step_stands (line n) = line_stands n m.standing
    step_stands (file how t) = file_stands how t m.stage refl
    step_stands counts = count_stands m.stage
    step_stands (closing room) = closing_stands room m.stage
