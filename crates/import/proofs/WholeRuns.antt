-- What holds of whole runs of one import, from what holds at every moment.
use Rattle.std.proofs.Common.{◌≡◌, ℕ, ◌+◌, ◌≤◌, ◌↔◌, Bool, true, false, cond, not, List, [], ◌∷◌, ◌++◌, map, length, take, drop, ◌==◌, nat_le, refl, sym, ap, subst, ◌∙◌, arith, append-nil}
use Rattle.std.specs.List.{AllByRecursion}
use Rattle.std.proofs.Math.Seq.{take-append_seam, drop-append_seam}
use Rattle.std.proofs.lemmas.List.{length_push}
use Rattle.std.proofs.lemmas.Bool.{eq-eqb, leb-true, not_from_true}
use Rattle.rows.specs.Cuts.{RowAt, TailAt, Bytes}
use Rattle.rows.specs.Rules as rules
use Rattle.rows.specs.declared.piece.Mark.{Mark}
use Rattle.fields.specs.Meanings as fields
use Rattle.fields.specs.Laws as families
use Rattle.report.specs.Reports as reports
use Rattle.report.specs.Reports.{Report, fault_count}
use Rattle.report.specs.Meets.{meets}
use Rattle.report.proofs.CleanRows.{clean_row}
use Rattle.report.proofs.AcceptedFiles.{under_file}
use Rattle.import.specs.declared.slip.Slip.{Slip}
use Rattle.import.specs.declared.stage.Stage.{Stage}
use Rattle.import.specs.declared.stage.Stage.TheVariants.{Empty, Between, Unread, Read, End}
use Rattle.import.specs.declared.stage.How.TheVariants.{Kept, SetAside}
use Rattle.import.specs.declared.answer.Opened.{Opened}
use Rattle.import.specs.declared.answer.Counts.{Counts}
use Rattle.import.specs.declared.refusal.Refusal.{Refusal}
use Rattle.import.specs.declared.refusal.Refusal.TheVariants.{OtherLength, WrongMoment, OtherRow, RowHasFaults}
use Rattle.import.specs.Slips.{slip, same_slip, among, slips, rows_of, part, rows_at}
use Rattle.import.specs.Models.{Setting, under, Standing, Model}
use Rattle.import.specs.Calls.{Call, Answer, refused, row, none, done, wrote, counted, accepted}
use Rattle.import.specs.Steps.{Out, unless, tried, other_length, no_room, end_at, first_to_come, next_row, step_next, unreadable, report_of, read_row, step_read, frame_of, step_print, step_line, open_slip, faulty, unfit, file_row, step_file, step_counts, step_closing}
use Rattle.import.specs.News.{fresh}
use Rattle.import.specs.Runs.{history, after, standing_report}
use Rattle.import.specs.Stages.{open_at}
use Rattle.import.specs.Words.{open_of, last_of}
use Rattle.import.specs.Tells.{tail_of, bytes_at, defined, refusing, says, first_left, next_says, keep_says, set_aside_says, read_says, if_accepted, read_makes, line_says, put, print_says, closing_says}
use Rattle.import.specs.Promises.{WholeRun, WholeRuns}
use Rattle.import.proofs.SlipLaws.{Unheard, unheard_later, all_spent, one_left, one_gone, last_is, slips_push}
use Rattle.import.proofs.Heard.{Words, words_of}
use Rattle.import.proofs.Moments.{OneOpen, NoneOpen, UnreadAt, Moment, standing_of, Stands}
use Rattle.import.proofs.StepLaws.{Ground, grounded, length-rows, only_open, full_rows, standing_read}
use Rattle.import.proofs.RunLaws.{bytes_part, run_stands, run_made}

nil_not_cons : {X : Type 0} (x : X) (xs : List X) → [] ≡ x ∷ xs → ⊥
nil_not_cons x xs e = cc

unless_says : (b : Bool) (why : Refusal) (m : Model) (out : Out) → (unless b why m out).0 ≡ refusing b why out.0
unless_says true why m out = refl
unless_says false why m out = refl

pub tried_says : (ts : List (Bool × Refusal)) (m : Model) (out : Out) → (tried ts m out).0 ≡ says ts out.0
tried_says [] m out = refl
tried_says (t ∷ ts) m out = unless_says t.0 t.1 m (tried ts m out) ∙ ap (refusing t.0 t.1) (tried_says ts m out)

none_open : (w : Words) → NoneOpen w → open_of w.spent w.opened ≡ []
none_open w c = ap (λ ss. open_of ss w.opened) c.spent ∙ all_spent w.opened

row_accepted : (n : Model) (b : Bool) (rs : List RowAt) (t : TailAt) → accepted (cond b (end_at n n.size 0) (first_to_come n rs t)).0 ≡ true
row_accepted n true rs t = refl
row_accepted n false [] t = refl
row_accepted n false (r ∷ rs) t = refl

one_reported : (s : Setting) (bytes : List ℕ) (ss : List Slip) (os : List Opened) →
    standing_report (standing_of s bytes (rows_of ss (last_of os))) ≡ map (defined s bytes) (rows_of ss (last_of os))
one_reported s bytes ss [] = refl
one_reported s bytes ss (o ∷ []) = by_test (among o.slip ss)
  where
    by_test : (b : Bool) → standing_report (standing_of s bytes (cond b (o ∷ []) [])) ≡ map (defined s bytes) (cond b (o ∷ []) [])
    by_test true = refl
    by_test false = refl
one_reported s bytes ss (o ∷ p ∷ os) = one_reported s bytes ss (p ∷ os)

-- the row o is open and unread in the import n
pub record OpenUnread (number : ℕ) (w : Words) (n : Model) (o : Opened) : Type 0 where
  pub start : ℕ
  pub long : ℕ
  pub mark : Mark
  pub stage_is : n.stage ≡ Unread start long mark
  pub unread : UnreadAt number w start long mark
  pub same : unread.o ≡ o

module _ (bytes : List ℕ) (s : Setting) (number : ℕ) (g : Ground bytes (s.rule.cut bytes)) (w : Words) (n : Model) (k : Stands bytes s number w n) where
  at_stage : (p : Stage) → n.stage ≡ p → Moment bytes number (tail_of s bytes) n.ahead.rows w p
  at_stage p e = subst (Moment bytes number (tail_of s bytes) n.ahead.rows w) e k.moment

  right_length : (other_length bytes n).0 ≡ false
  right_length = not_from_true (length bytes == n.size) (eq-eqb (length bytes) n.size (sym k.size))

  -- the file has the right length, so that the other tests decide
  length_passed : (ts : List (Bool × Refusal)) (out : Out) → (tried (other_length bytes n ∷ ts) n out).0 ≡ says ts out.0
  length_passed ts out = tried_says (other_length bytes n ∷ ts) n out ∙ ap (λ b. refusing b OtherLength (says ts out.0)) right_length

  first : rows_at bytes w.opened ≡ take (length w.opened) (s.rule.cut bytes).rows
  first =
      sym (take-append_seam (rows_at bytes w.opened) n.ahead.rows) ∙ ap (λ x. take x (rows_at bytes w.opened ++ n.ahead.rows)) (length-rows bytes w.opened)
      ∙ ap (take (length w.opened)) k.rows

  left : drop (length w.opened) (s.rule.cut bytes).rows ≡ n.ahead.rows
  left =
      ap (drop (length w.opened)) (sym k.rows) ∙ ap (λ x. drop x (rows_at bytes w.opened ++ n.ahead.rows)) (sym (length-rows bytes w.opened))
      ∙ drop-append_seam (rows_at bytes w.opened) n.ahead.rows

  next_by : (p : Stage) → n.stage ≡ p → (accepted (step_next bytes n p).0 ≡ true) ↔ (open_of w.spent w.opened ≡ [])
  next_by Empty e = absurd (at_stage Empty e)
  next_by Between e =
      (λ _. none_open w (at_stage Between e).closed, λ _. ap accepted (length_passed [] (next_row n)) ∙ row_accepted n (nat_le n.size n.counts.opened) n.ahead.rows n.ahead.tail)
  next_by (Unread start l mark) e = let u = at_stage (Unread start l mark) e in (λ z. absurd cc, λ z. absurd (nil_not_cons u.o [] (sym z ∙ only_open number w u.os u.o u.row)))
  next_by Read e = let u = at_stage Read e in (λ z. absurd cc, λ z. absurd (nil_not_cons u.o [] (sym z ∙ only_open number w u.os u.o u.row)))
  next_by (End start l) e = (λ _. none_open w (at_stage (End start l) e).closed, λ _. ap accepted (length_passed [] (none, n)))

  -- next, in full
  row_is : (b : Bool) → nat_le n.size n.counts.opened ≡ b → (rs : List RowAt) → n.ahead.rows ≡ rs → (cond b (end_at n n.size 0) (first_to_come n rs n.ahead.tail)).0 ≡ first_left number (length w.opened + 1) rs
  row_is true f rs e = ap (first_left number (length w.opened + 1)) (sym (full_rows bytes s number g w n k (leb-true n.size n.counts.opened f)) ∙ e)
  row_is false f [] e = refl
  row_is false f (r ∷ rs) e =
      ap (λ x. row (record { slip = slip x (n.counts.opened + 1); start = r.start; length = length r.bytes; mark = r.mark })) k.numbered
      ∙ ap (λ x. row (record { slip = slip number (x + 1); start = r.start; length = length r.bytes; mark = r.mark })) k.opens

  next_as : (os : List Opened) (rs : List RowAt) → open_of w.spent w.opened ≡ os → n.ahead.rows ≡ rs → next_says os number (length w.opened + 1) rs ≡ next_says (open_of w.spent w.opened) number (length w.opened + 1) (drop (length w.opened) (s.rule.cut bytes).rows)
  next_as os rs e f =
      ap (λ x. next_says x number (length w.opened + 1) rs) (sym e)
      ∙ ap (next_says (open_of w.spent w.opened) number (length w.opened + 1)) (sym (left ∙ f))

  next_in_full : (p : Stage) → n.stage ≡ p → (step_next bytes n p).0 ≡ next_says (open_of w.spent w.opened) number (length w.opened + 1) (drop (length w.opened) (s.rule.cut bytes).rows)
  next_in_full Empty e = absurd (at_stage Empty e)
  next_in_full Between e =
      length_passed [] (next_row n) ∙ row_is (nat_le n.size n.counts.opened) refl n.ahead.rows refl ∙ next_as [] n.ahead.rows (none_open w (at_stage Between e).closed) refl
  next_in_full (Unread start l mark) e = let u = at_stage (Unread start l mark) e in next_as (u.o ∷ []) n.ahead.rows (only_open number w u.os u.o u.row) refl
  next_in_full Read e = let u = at_stage Read e in next_as (u.o ∷ []) n.ahead.rows (only_open number w u.os u.o u.row) refl
  next_in_full (End start l) e = let a = at_stage (End start l) e in length_passed [] (none, n) ∙ next_as [] [] (none_open w a.closed) a.none_left

  said_none : (b : Bool) → nat_le n.size n.counts.opened ≡ b → (rs : List RowAt) → n.ahead.rows ≡ rs → (cond b (end_at n n.size 0) (first_to_come n rs n.ahead.tail)).0 ≡ none → n.ahead.rows ≡ []
  said_none true f rs e z = full_rows bytes s number g w n k (leb-true n.size n.counts.opened f)
  said_none false f [] e z = e
  said_none false f (r ∷ rs) e z = absurd cc

  says_none : (b : Bool) (rs : List RowAt) → rs ≡ [] → (cond b (end_at n n.size 0) (first_to_come n rs n.ahead.tail)).0 ≡ none
  says_none true rs e = refl
  says_none false [] e = refl
  says_none false (r ∷ rs) e = absurd (nil_not_cons r rs (sym e))

  none_by : (p : Stage) → n.stage ≡ p → accepted (step_next bytes n p).0 ≡ true → ((step_next bytes n p).0 ≡ none) ↔ (n.ahead.rows ≡ [])
  none_by Empty e a = absurd (at_stage Empty e)
  none_by Between e a = (
    λ z. said_none (nat_le n.size n.counts.opened) refl n.ahead.rows refl (sym (length_passed [] (next_row n)) ∙ z),
    λ z. length_passed [] (next_row n) ∙ says_none (nat_le n.size n.counts.opened) n.ahead.rows z,
  )
  none_by (Unread start l mark) e a = absurd cc
  none_by Read e a = absurd cc
  none_by (End start l) e a = (λ _. (at_stage (End start l) e).none_left, λ _. length_passed [] (none, n))

  open_count : (p : Stage) → n.stage ≡ p → length (open_of w.spent w.opened) ≡ open_at p
  open_count Empty e = absurd (at_stage Empty e)
  open_count Between e = ap length (none_open w (at_stage Between e).closed)
  open_count (Unread start l mark) e = let u = at_stage (Unread start l mark) e in ap length (only_open number w u.os u.o u.row)
  open_count Read e = let u = at_stage Read e in ap length (only_open number w u.os u.o u.row)
  open_count (End start l) e = ap length (none_open w (at_stage (End start l) e).closed)

  at_most_one : (p : Stage) → open_at p ≤ 1
  at_most_one Empty = omega arith
  at_most_one Between = omega arith
  at_most_one (Unread start l mark) = omega arith
  at_most_one Read = omega arith
  at_most_one (End start l) = omega arith

  counted_as : Counts
  counted_as = record { opened = length w.opened; kept = length (rows_of w.kept w.opened); set_aside = length (rows_of w.aside w.opened) }

  counts_by : (p : Stage) → n.stage ≡ p → (step_counts n p).0 ≡ counted n.counts
  counts_by Empty e = absurd (at_stage Empty e)
  counts_by Between e = refl
  counts_by (Unread start l mark) e = refl
  counts_by Read e = refl
  counts_by (End start l) e = refl

  spent_closed : NoneOpen w → w.spent ++ slips (open_of w.spent w.opened) ≡ slips w.opened
  spent_closed c = ap (λ x. w.spent ++ slips x) (none_open w c) ∙ append-nil w.spent ∙ c.spent

  spent_open : (os : List Opened) (o : Opened) → OneOpen number w os o → w.spent ++ slips (open_of w.spent w.opened) ≡ slips w.opened
  spent_open os o u = ap (λ x. w.spent ++ slips x) (only_open number w os o u) ∙ ap (λ x. x ++ o.slip ∷ []) u.spent ∙ sym (slips_push os o) ∙ ap slips (sym u.opened)

  spent_by : (p : Stage) → n.stage ≡ p → w.spent ++ slips (open_of w.spent w.opened) ≡ slips w.opened
  spent_by Empty e = absurd (at_stage Empty e)
  spent_by Between e = spent_closed (at_stage Between e).closed
  spent_by (Unread start l mark) e = let u = at_stage (Unread start l mark) e in spent_open u.os u.o u.row
  spent_by Read e = let u = at_stage Read e in spent_open u.os u.o u.row
  spent_by (End start l) e = spent_closed (at_stage (End start l) e).closed

  line_by : (i : ℕ) (os : List Opened) → (step_line i n (standing_of s bytes os)).0 ≡ line_says s bytes i os
  line_by i [] = refl
  line_by i (o ∷ os) = refl

  -- what is unread where these rows are open
  unread_of : (os : List Opened) → open_of w.spent w.opened ≡ os → open_of (slips w.read) (open_of w.spent w.opened) ≡ open_of (slips w.read) os
  unread_of os e = ap (open_of (slips w.read)) e

  read_of_open : (os : List Opened) (o : Opened) → OneOpen number w os o → Unheard (length w.opened + 1) (slips w.read)
  read_of_open os o u = unheard_later (length os + 2) (length w.opened + 1) (slips w.read) (omega (arith, ap length u.opened, length_push os o)) u.read_before

  -- the open row is unread: this is its moment
  pub open_unread : (p : Stage) → n.stage ≡ p → (o : Opened) → open_of (slips w.read) (open_of w.spent w.opened) ≡ o ∷ [] → OpenUnread number w n o
  open_unread Empty e o q = absurd (at_stage Empty e)
  open_unread Between e o q = absurd (nil_not_cons o [] (sym (unread_of [] (none_open w (at_stage Between e).closed)) ∙ q))
  open_unread (Unread start l mark) e o q =
      let u = at_stage (Unread start l mark) e in
      let unheard : among u.o.slip (slips w.read) ≡ false = u.new u.o.slip (omega (arith, ap (λ (t : Slip). t.row) u.row.own)) in
      let mine : u.o ∷ [] ≡ o ∷ [] = sym (one_left (slips w.read) u.o unheard) ∙ sym (unread_of (u.o ∷ []) (only_open number w u.os u.o u.row)) ∙ q in
      record { start = start; long = l; mark = mark; stage_is = e; unread = u; same = cc }
  open_unread Read e o q = let u = at_stage Read e in absurd (nil_not_cons o [] (sym (unread_of (u.o ∷ []) (only_open number w u.os u.o u.row) ∙ one_gone (slips w.read) u.o u.was_read) ∙ q))
  open_unread (End start l) e o q = absurd (nil_not_cons o [] (sym (unread_of [] (none_open w (at_stage (End start l) e).closed)) ∙ q))

  -- where no row is open and unread, a read is refused
  read_none : (p : Stage) → n.stage ≡ p → open_of (slips w.read) (open_of w.spent w.opened) ≡ [] → (step_read bytes n p).0 ≡ refused WrongMoment
  read_none Empty e q = refl
  read_none Between e q = refl
  read_none (Unread start l mark) e q =
      let u = at_stage (Unread start l mark) e in
      let unheard : among u.o.slip (slips w.read) ≡ false = u.new u.o.slip (omega (arith, ap (λ (t : Slip). t.row) u.row.own)) in
      absurd (nil_not_cons u.o [] (sym (sym (one_left (slips w.read) u.o unheard) ∙ sym (unread_of (u.o ∷ []) (only_open number w u.os u.o u.row)) ∙ q)))
  read_none Read e q = refl
  read_none (End start l) e q = refl

  -- only rows that were opened were read
  pub only_opened_read : (p : Stage) → n.stage ≡ p → Unheard (length w.opened + 1) (slips w.read)
  only_opened_read Empty e = absurd (at_stage Empty e)
  only_opened_read Between e = (at_stage Between e).closed.read_before
  only_opened_read (Unread start l mark) e = let u = at_stage (Unread start l mark) e in read_of_open u.os u.o u.row
  only_opened_read Read e = let u = at_stage Read e in read_of_open u.os u.o u.row
  only_opened_read (End start l) e = (at_stage (End start l) e).closed.read_before

  -- what a read does where nothing stood before
  module _ (out : Out) (h : standing_report n.standing ≡ []) (d : out.0 ≡ done) where
    unless_makes : (b : Bool) (why : Refusal) (a : Answer) (o : Out) → standing_report o.1.standing ≡ if_accepted a (standing_report out.1.standing) →
        standing_report (unless b why n o).1.standing ≡ if_accepted (refusing b why a) (standing_report out.1.standing)
    unless_makes true why a o e = h
    unless_makes false why a o e = e

    tried_makes : (ts : List (Bool × Refusal)) → standing_report (tried ts n out).1.standing ≡ if_accepted (says ts out.0) (standing_report out.1.standing)
    tried_makes [] = ap (λ a. if_accepted a (standing_report out.1.standing)) (sym d)
    tried_makes (t ∷ ts) = unless_makes t.0 t.1 (says ts out.0) (tried ts n out) (tried_makes ts)

  module _ (o : Opened) (x : OpenUnread number w n o) where
    -- the bytes that are read are the row's
    its_bytes : part bytes x.start x.long ≡ bytes_at bytes o
    its_bytes = ap (λ a. part bytes a x.long) (sym x.unread.starts) ∙ ap (part bytes x.unread.o.start) (sym x.unread.long) ∙ ap (bytes_at bytes) x.same

    nothing_stands : standing_report n.standing ≡ []
    nothing_stands =
        let u = x.unread in
        let unheard : among u.o.slip (slips w.read) ≡ false = u.new u.o.slip (omega (arith, ap (λ (t : Slip). t.row) u.row.own)) in
        ap standing_report k.stands ∙ ap (λ y. standing_report (standing_of s bytes (rows_of (slips w.read) y))) (ap last_of u.row.opened ∙ last_is u.os u.o)
        ∙ ap (λ b. standing_report (standing_of s bytes (cond b (u.o ∷ []) []))) unheard

    read_by : (step_read bytes n n.stage).0 ≡ read_says s (bytes_at bytes o)
    read_by =
        ap (λ p. (step_read bytes n p).0) x.stage_is
        ∙ length_passed (unreadable n.setting (part bytes x.start x.long)) (read_row n (part bytes x.start x.long) x.mark)
        ∙ ap (λ t. read_says t (part bytes x.start x.long)) k.setting ∙ ap (read_says s) its_bytes

    makes_by : standing_report (step_read bytes n n.stage).1.standing ≡ read_makes s (bytes_at bytes o)
    makes_by =
        let bs = part bytes x.start x.long in
        let ts = unreadable n.setting bs in
        ap (λ p. standing_report (step_read bytes n p).1.standing) x.stage_is
        ∙ tried_makes (read_row n bs x.mark) nothing_stands refl (other_length bytes n ∷ ts)
        ∙ ap (λ b. if_accepted (refusing b OtherLength (says ts done)) (report_of n.setting bs ∷ [])) right_length
        ∙ ap (λ t. read_makes t bs) k.setting ∙ ap (read_makes s) its_bytes

  -- filing
  own_slip : (os : List Opened) (o : Opened) → OneOpen number w os o → open_slip n ≡ o.slip
  own_slip os o u = ap (λ x. slip x n.counts.opened) k.numbered ∙ ap (slip number) (k.opens ∙ ap length u.opened ∙ length_push os o) ∙ sym u.own

  keep_none : (t : Slip) → open_of w.spent w.opened ≡ [] → refused WrongMoment ≡ keep_says s bytes t (rows_of (slips w.read) (open_of w.spent w.opened))
  keep_none t e = ap (λ x. keep_says s bytes t (rows_of (slips w.read) x)) (sym e)

  keep_by : (t : Slip) (p : Stage) → n.stage ≡ p → (step_file Kept t n p).0 ≡ keep_says s bytes t (rows_of (slips w.read) (open_of w.spent w.opened))
  keep_by t Empty e = absurd (at_stage Empty e)
  keep_by t Between e = keep_none t (none_open w (at_stage Between e).closed)
  keep_by t (Unread start l mark) e =
      let u = at_stage (Unread start l mark) e in
      let unheard : among u.o.slip (slips w.read) ≡ false = u.new u.o.slip (omega (arith, ap (λ (t : Slip). t.row) u.row.own)) in
      sym (ap (λ x. keep_says s bytes t (rows_of (slips w.read) x)) (only_open number w u.os u.o u.row) ∙ ap (λ b. keep_says s bytes t (cond b (u.o ∷ []) [])) unheard)
  keep_by t Read e =
      let u = at_stage Read e in
      tried_says (unfit Kept t n) n (file_row Kept n)
      ∙ ap (λ x. says ((not (same_slip t x), OtherRow) ∷ (faulty n.standing, RowHasFaults) ∷ []) done) (own_slip u.os u.o u.row)
      ∙ ap (λ x. says ((not (same_slip t u.o.slip), OtherRow) ∷ (faulty x, RowHasFaults) ∷ []) done) (standing_read bytes s number g w n k u)
      ∙ sym (ap (λ x. keep_says s bytes t (rows_of (slips w.read) x)) (only_open number w u.os u.o u.row) ∙ ap (λ b. keep_says s bytes t (cond b (u.o ∷ []) [])) u.was_read)
  keep_by t (End start l) e = keep_none t (none_open w (at_stage (End start l) e).closed)

  aside_open : (t : Slip) (os : List Opened) (o : Opened) → OneOpen number w os o → (tried (unfit SetAside t n) n (file_row SetAside n)).0 ≡ set_aside_says t (open_of w.spent w.opened)
  aside_open t os o u =
      tried_says (unfit SetAside t n) n (file_row SetAside n) ∙ ap (λ x. says ((not (same_slip t x), OtherRow) ∷ []) done) (own_slip os o u)
      ∙ ap (set_aside_says t) (sym (only_open number w os o u))

  aside_by : (t : Slip) (p : Stage) → n.stage ≡ p → (step_file SetAside t n p).0 ≡ set_aside_says t (open_of w.spent w.opened)
  aside_by t Empty e = absurd (at_stage Empty e)
  aside_by t Between e = ap (set_aside_says t) (sym (none_open w (at_stage Between e).closed))
  aside_by t (Unread start l mark) e = let u = at_stage (Unread start l mark) e in aside_open t u.os u.o u.row
  aside_by t Read e = let u = at_stage Read e in aside_open t u.os u.o u.row
  aside_by t (End start l) e = ap (set_aside_says t) (sym (none_open w (at_stage (End start l) e).closed))

  closing_by : (room : ℕ) (p : Stage) → n.stage ≡ p → (step_closing bytes room n p).0 ≡ closing_says s bytes room w.ended
  closing_by room Empty e = absurd (at_stage Empty e)
  closing_by room Between e = ap (closing_says s bytes room) (sym (at_stage Between e).goes_on)
  closing_by room (Unread start l mark) e = ap (closing_says s bytes room) (sym (at_stage (Unread start l mark) e).goes_on)
  closing_by room Read e = ap (closing_says s bytes room) (sym (at_stage Read e).goes_on)
  closing_by room (End start l) e =
      let a = at_stage (End start l) e in
      length_passed (no_room room (part bytes start l) ∷ []) (wrote (part bytes start l), n) ∙ ap (put room) a.there ∙ ap (closing_says s bytes room) (sym a.over)

  module _ (f : Bytes bytes) (prints : (row : List ℕ) → Bytes row → reports.print s.means s.nodes (report_of s row) ≡ row) where
    print_by : (room : ℕ) (os : List Opened) → (step_print room n (standing_of s bytes os)).0 ≡ print_says s bytes room os
    print_by room [] = refl
    print_by room (o ∷ os) =
        let r : Standing = record { report = defined s bytes o; mark = o.mark } in
        tried_says (no_room room (frame_of n.setting r) ∷ []) n (wrote (frame_of n.setting r), n)
        ∙ ap (λ t. put room (frame_of t r)) k.setting ∙ ap (λ x. put room (s.rule.frame x o.mark)) (prints (bytes_at bytes o) (bytes_part bytes o.start o.length f))

-- rows of which the reports have no fault meet the layout
all_meet : (s : Setting) (bytes : List ℕ) (os : List Opened) → AllByRecursion (λ o. fault_count (defined s bytes o) ≡ 0) os → AllByRecursion (λ o. meets s.means s.nodes s.constants (bytes_at bytes o) ≡ true) os
all_meet s bytes [] h = tt
all_meet s bytes (o ∷ os) h = ((clean_row s.means s.nodes s.constants (bytes_at bytes o)).0 h.0, all_meet s bytes os h.1)

-- every run
module _ (bytes : List ℕ) (s : Setting) (number : ℕ) (g : Ground bytes (s.rule.cut bytes)) (f : Bytes bytes) (prints : (row : List ℕ) → Bytes row → reports.print s.means s.nodes (report_of s row) ≡ row) (cs : List Call) where
  module _ (w : Words) (n : Model) (k : Stands bytes s number w n) where
    counts_as : counted n.counts ≡ counted (record { opened = length w.opened; kept = length (rows_of w.kept w.opened); set_aside = length (rows_of w.aside w.opened) })
    counts_as =
        ap (λ x. counted (record { opened = x; kept = n.counts.kept; set_aside = n.counts.set_aside })) k.opens
        ∙ ap (λ x. counted (record { opened = length w.opened; kept = x; set_aside = n.counts.set_aside })) k.keeps
        ∙ ap (λ x. counted (record { opened = length w.opened; kept = length (rows_of w.kept w.opened); set_aside = x })) k.asides

  pub whole_run : WholeRun bytes (fresh s number bytes) cs
  whole_run =
      let w = words_of (history bytes (fresh s number bytes) cs) in
      let n = after bytes (fresh s number bytes) cs in
      let k : Stands bytes s number w n = run_stands bytes s number g cs in
      let l = left bytes s number g w n k in
      let c = open_count bytes s number g w n k n.stage refl in
      record {
        first_rows = first bytes s number g w n k;
        each_once = k.each_once;
        next_is = next_in_full bytes s number g w n k n.stage refl;
        next_accepted = next_by bytes s number g w n k n.stage refl;
        none_when_none_left = λ a. let i = none_by bytes s number g w n k n.stage refl a in (λ z. l ∙ i.0 z, λ z. i.1 (sym l ∙ z));
        counts_tell = counts_by bytes s number g w n k n.stage refl ∙ counts_as w n k;
        balance = omega (arith, k.opens, k.keeps, k.asides, k.tally, c);
        one_open = subst (λ x. x ≤ 1) (sym c) (at_most_one bytes s number g w n k n.stage);
        spent_once = spent_by bytes s number g w n k n.stage refl;
        keeps = λ t. keep_by bytes s number g w n k t n.stage refl;
        sets_aside = λ t. aside_by bytes s number g w n k t n.stage refl;
        kept_rows_meet = all_meet s bytes (rows_of w.kept w.opened) k.clean;
        read_once = k.read_once;
        reports = run_made bytes s number g cs;
        stands = ap standing_report k.stands ∙ one_reported s bytes (slips w.read) w.opened;
        lines = λ i. ap (λ r. (step_line i n r).0) k.stands ∙ line_by bytes s number g w n k i (rows_of (slips w.read) (last_of w.opened));
        prints = λ room. ap (λ r. (step_print room n r).0) k.stands ∙ print_by bytes s number g w n k f prints room (rows_of (slips w.read) (last_of w.opened));
        reads_no_other = read_none bytes s number g w n k n.stage refl;
        reads = λ o q. read_by bytes s number g w n k o (open_unread bytes s number g w n k n.stage refl o q);
        makes = λ o q. makes_by bytes s number g w n k o (open_unread bytes s number g w n k n.stage refl o q);
        closes = λ room. closing_by bytes s number g w n k room n.stage refl;
      }

pub whole_runs : (rule : rules.Meaning) (means : ℕ → ℕ → fields.Meaning) → rules.Lawful rule → ((k p : ℕ) → families.Lawful (means k p)) → WholeRuns rule means
whole_runs rule means law lawful layout bytes number cs accepted_layout file =
    whole_run bytes (under rule means layout) number (grounded rule law bytes file) file.bytes (under_file means layout lawful accepted_layout).prints_back cs
