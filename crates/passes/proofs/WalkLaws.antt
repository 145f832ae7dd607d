-- A step over an import whose rows to come are well cut goes over the first of them.
use Rattle.std.proofs.Common.{◌≡◌, ℕ, ◌+◌, Bool, true, false, cond, List, [], ◌∷◌, length, Some, ◌==◌, nat_le, refl, sym, ap, subst, ◌∙◌, arith}
use Rattle.std.proofs.lemmas.Bool.{eq-eqb, leb-true, not_from_true}
use Rattle.rows.specs.Cuts.{RowAt, Each, PartOf}
use Rattle.import.specs.declared.answer.Opened.{Opened}
use Rattle.import.specs.declared.answer.Counts.{Counts}
use Rattle.import.specs.declared.stage.Stage.TheVariants.{Between}
use Rattle.import.specs.declared.stage.How.{How}
use Rattle.import.specs.declared.stage.How.TheVariants.{Kept, SetAside}
use Rattle.import.specs.declared.refusal.Refusal.{Refusal}
use Rattle.import.specs.declared.refusal.Refusal.TheVariants.{OtherLength}
use Rattle.import.specs.Slips.{slip, part}
use Rattle.import.specs.Models.{Standing, Model}
use Rattle.import.specs.Calls.{Answer, refused, row, none, done, wrote, found, counted, next, read}
use Rattle.import.specs.Steps.{Out, unless, tried, other_length, end_at, opened_one, first_to_come, next_row, step_next, unreadable, report_of, read_row, filed_one, file_row, step}
use Rattle.import.specs.Tells.{refusing, says, read_says}
use Rattle.import.specs.Scans.{Ready}
use Rattle.passes.specs.Passes.{over, ended, how_filed, filing, reading, pass}
use Rattle.passes.specs.Walks.{stands_if, files, at_end, behind_row, walk_over, walk}
use Rattle.passes.proofs.PassLaws.{unread_fits, read_fits}

-- what a read leaves, by its answer
abbrev left_by : Answer → Model → Model → Model
left_by (refused why) m n = m
left_by a m n = n

one_test : (b : Bool) (why : Refusal) (a : Answer) (m n : Model) (inner : Out) → inner ≡ (a, left_by a m n) → unless b why m inner ≡ (refusing b why a, left_by (refusing b why a) m n)
one_test true why a m n inner e = refl
one_test false why a m n inner e = e

by_tests : (ts : List (Bool × Refusal)) (m n : Model) → tried ts m (done, n) ≡ (says ts done, left_by (says ts done) m n)
by_tests [] m n = refl
by_tests (t ∷ ts) m n = one_test t.0 t.1 (says ts done) m n (tried ts m (done, n)) (by_tests ts m n)

pub still_opened : (how : How) (c : Counts) → (filed_one how c).opened ≡ c.opened
still_opened Kept c = refl
still_opened SetAside c = refl

module _ (bytes : List ℕ) (m : Model) (h : Ready bytes m) where
  right_length : (n : Model) → n.size ≡ m.size → (other_length bytes n).0 ≡ false
  right_length n e = not_from_true (length bytes == n.size) (eq-eqb (length bytes) n.size (sym (e ∙ h.size)))

  next_out : step bytes m next ≡ next_row m
  next_out = ap (step_next bytes m) h.between ∙ ap (λ b. unless b OtherLength m (next_row m)) (right_length m refl)

  -- none is to come
  told_so : (b : Bool) → cond b (end_at m m.size 0) (end_at m m.ahead.tail.start (length m.ahead.tail.bytes))
      ≡ end_at m (cond b (record { start = m.size; bytes = [] }) m.ahead.tail).start (length (cond b (record { start = m.size; bytes = [] }) m.ahead.tail).bytes)
  told_so true = refl
  told_so false = refl

  none_left : m.ahead.rows ≡ [] → pass bytes m ≡ (ended, at_end m)
  none_left e =
      let b = nat_le m.size m.counts.opened in
      ap (λ (x : Out). reading bytes x.0 x.1) (next_out ∙ ap (λ rs. cond b (end_at m m.size 0) (first_to_come m rs m.ahead.tail)) e ∙ told_so b)

  -- a row is to come
  module _ (r : RowAt) (rs : List RowAt) (e : m.ahead.rows ≡ r ∷ rs) where
    abbrev opened : Opened
    opened = record { slip = slip m.number (m.counts.opened + 1); start = r.start; length = length r.bytes; mark = r.mark }

    abbrev opened_now : Model
    opened_now = (first_to_come m (r ∷ rs) m.ahead.tail).1

    abbrev report_now : Standing
    report_now = record { report = report_of m.setting r.bytes; mark = r.mark }

    abbrev read_now : Model
    read_now = (read_row opened_now r.bytes r.mark).1

    opens : step bytes m next ≡ (row opened, opened_now)
    opens = next_out ∙ by_room (nat_le m.size m.counts.opened) refl ∙ ap (λ x. first_to_come m x m.ahead.tail) e
      where
        by_room : (b : Bool) → nat_le m.size m.counts.opened ≡ b → cond b (end_at m m.size 0) (first_to_come m m.ahead.rows m.ahead.tail) ≡ first_to_come m m.ahead.rows m.ahead.tail
        by_room true f = absurd (omega (arith, leb-true m.size m.counts.opened f, h.room, ap length e))
        by_room false f = refl

    its_part : PartOf bytes r.start r.bytes
    its_part = (subst (Each (λ q. PartOf bytes q.start q.bytes)) e h.parts.0).0

    reads : step bytes opened_now read ≡ (read_says m.setting r.bytes, left_by (read_says m.setting r.bytes) opened_now read_now)
    reads =
        let bs = part bytes r.start (length r.bytes) in
        ap (λ b. unless b OtherLength opened_now (tried (unreadable m.setting bs) opened_now (read_row opened_now bs r.mark))) (right_length opened_now refl)
        ∙ ap (λ x. tried (unreadable m.setting x) opened_now (read_row opened_now x r.mark)) (sym its_part.1)
        ∙ by_tests (unreadable m.setting r.bytes) opened_now read_now

    abbrev Filed : Answer → Type 0
    Filed a = filing bytes opened (a, left_by a opened_now read_now) ≡ (
      over (m.counts.opened + 1) r.start (length r.bytes) r.mark a (how_filed (stands_if a report_now)),
      record m {
        stage = Between;
        counts = filed_one (how_filed (stands_if a report_now)) (opened_one m.counts);
        ahead = record { rows = rs; tail = m.ahead.tail };
        standing = stands_if a report_now;
      },
    )

    unread_filed : (why : Refusal) → Filed (refused why)
    unread_filed why =
        ap (λ (x : Out). (over (m.counts.opened + 1) r.start (length r.bytes) r.mark (refused why) SetAside, x.1))
        (unread_fits bytes opened opened_now (record { unread = refl; own = refl; none_stands = refl }))

    read_filed : (a : Answer) → filing bytes opened (a, read_now) ≡ (over (m.counts.opened + 1) r.start (length r.bytes) r.mark a (how_filed (Some report_now)), (file_row (how_filed (Some report_now)) read_now).1)
    read_filed a =
        ap (λ (x : Out). (over (m.counts.opened + 1) r.start (length r.bytes) r.mark a (how_filed (Some report_now)), x.1))
        (read_fits bytes opened read_now report_now refl refl refl)

    filed : (a : Answer) → Filed a
    filed (refused why) = unread_filed why
    filed (row o) = read_filed (row o)
    filed none = read_filed none
    filed done = read_filed done
    filed (wrote bs) = read_filed (wrote bs)
    filed (found l) = read_filed (found l)
    filed (counted c) = read_filed (counted c)

    row_left : pass bytes m ≡ walk_over m (r ∷ rs)
    row_left = ap (λ (x : Out). reading bytes x.0 x.1) opens ∙ ap (filing bytes opened) reads ∙ filed (read_says m.setting r.bytes)

    pub ready_behind : Ready bytes (behind_row m r rs)
    ready_behind = record {
      between = refl;
      size = h.size;
      parts = ((subst (Each (λ q. PartOf bytes q.start q.bytes)) e h.parts.0).1, h.parts.1);
      room = omega (arith, h.room, ap length e, still_opened (files m.setting r) (opened_one m.counts));
    }

  pub walks : pass bytes m ≡ walk m
  walks = by_rows m.ahead.rows refl
    where
      by_rows : (rs : List RowAt) → m.ahead.rows ≡ rs → pass bytes m ≡ walk m
      by_rows [] e = none_left e ∙ ap (walk_over m) (sym e)
      by_rows (r ∷ rs) e = row_left r rs e ∙ ap (walk_over m) (sym e)
