-- One row more that is written from its report, one that is not read, and the tail.
use Rattle.std.proofs.Common.{◌≡◌, ◌≤◌, ℕ, ◌+◌, Bool, true, false, cond, not, List, [], ◌∷◌, ◌++◌, length, drop, Some, Result, nat_le, refl, sym, ap, subst, ◌∙◌, arith, append_assoc}
use Rattle.std.proofs.Math.Seq.{take-append_seam}
use Rattle.std.proofs.lemmas.List.{length-append}
use Rattle.std.proofs.lemmas.Bool.{le-ltb, leb-true, eq-eqb}
use Rattle.rows.specs.Cuts.{texts, frames, Each}
use Rattle.rows.specs.Rules.{joined}
use Rattle.report.specs.Reports as reports
use Rattle.import.specs.declared.refusal.Refusal.{Refusal}
use Rattle.import.specs.declared.refusal.Refusal.TheVariants.{BufferTooShort, OtherLength}
use Rattle.import.specs.Slips.{part}
use Rattle.import.specs.Models.{Standing, Model}
use Rattle.import.specs.Calls.{Answer, refused, done, wrote, print, closing}
use Rattle.import.specs.Answers.{written}
use Rattle.import.specs.Scans.{Ready}
use Rattle.import.specs.Steps.{opened_one, unless, tried, no_room, other_length, report_of, frame_of, step_print, step}
use Rattle.import.specs.Tells.{read_says}
use Rattle.passes.specs.Passes.{Went, over, ended, stopped}
use Rattle.passes.specs.Walks.{stands_if, files, told_by, at_end}
use Rattle.passes.proofs.WalkLaws.{still_opened}
use Rattle.tracing.specs.Prints.{or_later, first_unread, if_read, frames_before, bytes_ahead, unread_ahead, frames_ahead, Printable, put_bytes}
use Rattle.tracing.proofs.Rows.{OneRow}

-- bytes that have room in a buffer are put at its beginning
pub puts : (m : Model) (bytes buffer new : List ℕ) (result : Result ℕ Refusal) → length bytes ≤ length buffer →
    (result, new) ≡ written (tried (no_room (length buffer) bytes ∷ []) m (wrote bytes, m)).0 buffer → put_bytes result new ≡ bytes
puts m bytes buffer new result fits is =
    let e = is ∙ ap (λ b. written (unless b BufferTooShort m (wrote bytes, m)).0 buffer) (le-ltb (length buffer) (length bytes) fits) in
    ap (λ (p : Result ℕ Refusal × List ℕ). put_bytes p.0 p.1) e ∙ take-append_seam bytes (drop (length bytes) buffer)

abbrev pub read_of : Went → Answer
read_of (over number start n mark read filed) = read
read_of ended = done
read_of (stopped why) = done

module _ (m n : Model) (w : Went) (h : OneRow m n w) where
  pub its_read : read_of w ≡ read_says m.setting h.row.bytes
  its_read = ap read_of h.told

  -- its frame stands before those of the other rows
  pub frame_first : bytes_ahead m ≡ m.setting.rule.frame h.row.bytes h.row.mark ++ bytes_ahead n
  frame_first =
      ap (λ rs. joined m.setting.rule (texts rs) m.ahead.tail.bytes) h.is
      ∙ append_assoc (m.setting.rule.frame h.row.bytes h.row.mark) (frames m.setting.rule.frame (texts h.rest)) m.ahead.tail.bytes
      ∙ ap (λ (x : Model). m.setting.rule.frame h.row.bytes h.row.mark ++ bytes_ahead x) (sym h.left)

  pub printable_rest : Printable m → Printable n
  printable_rest p = subst Printable (sym h.left) (subst (Each (λ r. reports.print m.setting.means m.setting.nodes (report_of m.setting r.bytes) ≡ r.bytes)) h.is p).1

  -- the row is not read
  pub unread_here : (why : Refusal) → read_says m.setting h.row.bytes ≡ refused why → unread_ahead m ≡ Some (m.counts.opened + 1, why)
  unread_here why e =
      ap (first_unread m.setting m.counts.opened) h.is
      ∙ ap (λ a. or_later (m.counts.opened + 1) a (first_unread m.setting (m.counts.opened + 1) h.rest)) e

  pub none_before : (why : Refusal) → read_says m.setting h.row.bytes ≡ refused why → frames_ahead m ≡ []
  none_before why e =
      ap (frames_before m.setting) h.is
      ∙ ap (λ a. if_read a (m.setting.rule.frame h.row.bytes h.row.mark ++ frames_before m.setting h.rest)) e

  -- the row is read
  module _ (e : read_says m.setting h.row.bytes ≡ done) where
    opened_then : n.counts.opened ≡ m.counts.opened + 1
    opened_then = ap (λ (x : Model). x.counts.opened) h.left ∙ still_opened (files m.setting h.row) (opened_one m.counts)

    pub unread_later : unread_ahead n ≡ unread_ahead m
    unread_later =
        sym (
        ap (first_unread m.setting m.counts.opened) h.is
        ∙ ap (λ a. or_later (m.counts.opened + 1) a (first_unread m.setting (m.counts.opened + 1) h.rest)) e
        ∙ ap (λ k. first_unread m.setting k h.rest) (sym opened_then)
        ∙ ap (λ (x : Model). first_unread x.setting n.counts.opened x.ahead.rows) (sym h.left)
        )

    pub before_first : frames_ahead m ≡ m.setting.rule.frame h.row.bytes h.row.mark ++ frames_ahead n
    before_first =
        ap (frames_before m.setting) h.is
        ∙ ap (λ a. if_read a (m.setting.rule.frame h.row.bytes h.row.mark ++ frames_before m.setting h.rest)) e
        ∙ ap (λ (x : Model). m.setting.rule.frame h.row.bytes h.row.mark ++ frames_ahead x) (sym h.left)

    abbrev its_report : Standing
    its_report = record { report = report_of m.setting h.row.bytes; mark = h.row.mark }

    stands : n.standing ≡ Some its_report
    stands = ap (λ (x : Model). x.standing) h.left ∙ ap (λ a. stands_if a its_report) e

    its_frame : Printable m → frame_of n.setting its_report ≡ m.setting.rule.frame h.row.bytes h.row.mark
    its_frame p =
        ap (λ (x : Model). frame_of x.setting its_report) h.left
        ∙ ap (λ bs. m.setting.rule.frame bs h.row.mark) (subst (Each (λ r. reports.print m.setting.means m.setting.nodes (report_of m.setting r.bytes) ≡ r.bytes)) h.is p).0

    pub frame_put : (bytes buffer new : List ℕ) (result : Result ℕ Refusal) → Printable m → length (bytes_ahead m) ≤ length buffer →
        (result, new) ≡ written (step bytes n (print (length buffer))).0 buffer → put_bytes result new ≡ m.setting.rule.frame h.row.bytes h.row.mark
    frame_put bytes buffer new result p room is =
        let f = m.setting.rule.frame h.row.bytes h.row.mark in
        let fits : length f ≤ length buffer = omega (arith, room, ap length frame_first, length-append f (bytes_ahead n)) in
        puts n f buffer new result fits
        (is ∙ ap (λ o. written (step_print (length buffer) n o).0 buffer) stands ∙ ap (λ x. written (tried (no_room (length buffer) x ∷ []) n (wrote x, n)).0 buffer) (its_frame p))

-- behind the last row the tail is told
module _ (bytes : List ℕ) (m n : Model) (h : Ready bytes m) (e : m.ahead.rows ≡ []) (left : n ≡ at_end m) where
  pub tail_ahead : bytes_ahead m ≡ m.ahead.tail.bytes
  tail_ahead = ap (λ rs. joined m.setting.rule (texts rs) m.ahead.tail.bytes) e

  no_bytes : (bs : List ℕ) → length bs ≤ 0 → [] ≡ bs
  no_bytes [] l = refl
  no_bytes (b ∷ bs) l = absurd (omega arith)

  by_room : (b : Bool) → nat_le m.size m.counts.opened ≡ b →
      part bytes (cond b (record { start = m.size; bytes = [] }) m.ahead.tail).start (length (cond b (record { start = m.size; bytes = [] }) m.ahead.tail).bytes) ≡ m.ahead.tail.bytes
  by_room true f = no_bytes m.ahead.tail.bytes (omega (arith, leb-true m.size m.counts.opened f, h.room))
  by_room false f = sym h.parts.1.1

  pub tail_put : (buffer new : List ℕ) (result : Result ℕ Refusal) → length (bytes_ahead m) ≤ length buffer →
      (result, new) ≡ written (step bytes n (closing (length buffer))).0 buffer → put_bytes result new ≡ m.ahead.tail.bytes
  tail_put buffer new result room is =
      let t = m.ahead.tail.bytes in
      let k = at_end m in
      let told = part bytes (told_by m).start (length (told_by m).bytes) in
      let fits : length t ≤ length buffer = omega (arith, room, ap length tail_ahead) in
      let size : (other_length bytes k).0 ≡ false = ap not (eq-eqb (length bytes) m.size (sym h.size)) in
      puts k t buffer new result fits (
      is
      ∙ ap (λ x. written (step bytes x (closing (length buffer))).0 buffer) left
      ∙ ap (λ b. written (unless b OtherLength k (tried (no_room (length buffer) told ∷ []) k (wrote told, k))).0 buffer) size
      ∙ ap (λ x. written (tried (no_room (length buffer) x ∷ []) k (wrote x, k)).0 buffer) (by_room (nat_le m.size m.counts.opened) refl)
      )
