-- Every list of calls on an import that has just taken a file keeps what holds at every moment; and the reports that it makes.
use Rattle.std.proofs.Common.{◌≡◌, ℕ, zero, suc, ◌+◌, ◌<◌, Bool, true, false, List, [], ◌∷◌, ◌++◌, map, take, drop, refl, sym, ap, subst, ◌∙◌, arith, append-nil, append_assoc}
use Rattle.std.proofs.lemmas.List.{map-append, get_or-drop}
use Rattle.rows.specs.Cuts.{Bytes}
use Rattle.rows.specs.declared.piece.Mark.{Mark}
use Rattle.report.specs.Reports.{Report}
use Rattle.import.specs.declared.stage.Stage.{Stage}
use Rattle.import.specs.declared.stage.Stage.TheVariants.{Empty, Between, Unread, Read, End}
use Rattle.import.specs.declared.answer.Opened.{Opened}
use Rattle.import.specs.declared.refusal.Refusal.{Refusal}
use Rattle.import.specs.declared.refusal.Refusal.TheVariants.{WrongMoment}
use Rattle.import.specs.Slips.{part}
use Rattle.import.specs.Models.{Setting, Model}
use Rattle.import.specs.Calls.{Call, next, read, print, line, file, counts, closing, Answer, refused, row, none, done, wrote, found, counted}
use Rattle.import.specs.Steps.{Out, no, unless, tried, other_length, unreadable, report_of, read_row, step_read, step}
use Rattle.import.specs.News.{fresh}
use Rattle.import.specs.Runs.{answer, behind, Said, said, history, after, standing_report, made_by, made}
use Rattle.import.specs.Words.{open_of, rows_read, read_from, read_rows}
use Rattle.import.specs.Tells.{defined, tail_of}
use Rattle.import.proofs.Heard.{Words, words_of, words_push}
use Rattle.import.proofs.Moments.{UnreadAt, Moment, Stands}
use Rattle.import.proofs.StepLaws.{Ground, only_open, step_stands}

-- a part of bytes is bytes
bytes_drop : (bs : List ℕ) (a : ℕ) → Bytes bs → Bytes (drop a bs)
bytes_drop bs a h i = subst (λ b. b < 256) (sym (get_or-drop a bs i 0)) (h (a + i))

bytes_take : (n : ℕ) (bs : List ℕ) → Bytes bs → Bytes (take n bs)
bytes_take zero bs h i = omega arith
bytes_take (suc n) [] h i = omega arith
bytes_take (suc n) (b ∷ bs) h zero = h zero
bytes_take (suc n) (b ∷ bs) h (suc i) = bytes_take n bs (λ j. h (suc j)) i

pub bytes_part : (bs : List ℕ) (a n : ℕ) → Bytes bs → Bytes (part bs a n)
bytes_part bs a n h = bytes_take n (drop a bs) (bytes_drop bs a h)

-- an import that has just taken a file
pub fresh_stands : (bytes : List ℕ) (s : Setting) (number : ℕ) → Stands bytes s number (words_of []) (fresh s number bytes)
fresh_stands bytes s number = record {
  setting = refl;
  numbered = refl;
  size = refl;
  tail = refl;
  rows = refl;
  each_once = refl;
  opens = refl;
  keeps = refl;
  asides = refl;
  tally = refl;
  clean = tt;
  read_once = refl;
  stands = refl;
  moment = record { closed = record { spent = refl; kept_before = λ _ _. refl; aside_before = λ _ _. refl; read_before = λ _ _. refl }; goes_on = refl };
}

-- only an accepted read makes a report
made_same : (f : Opened → Report) (os : List Opened) (c : Call) (a : Answer) (m : Model) → ((c ≡ read) → (a ≡ done) → standing_report m.standing ≡ map f os) → made_by a c m ≡ map f (rows_read os a c)
made_same f os c (refused why) m h = refl
made_same f os c (row o) m h = refl
made_same f os c none m h = refl
made_same f os c (wrote bs) m h = refl
made_same f os c (found l) m h = refl
made_same f os c (counted n) m h = refl
made_same f os next done m h = refl
made_same f os read done m h = h refl refl
made_same f os (print room) done m h = refl
made_same f os (line n) done m h = refl
made_same f os (file how t) done m h = refl
made_same f os counts done m h = refl
made_same f os (closing room) done m h = refl

module _ (bytes : List ℕ) (s : Setting) (number : ℕ) (g : Ground bytes (s.rule.cut bytes)) where
  -- what stands behind a read is what is defined
  abbrev Reads : Words → Out → Type 0
  Reads w out = (out.0 ≡ done) → standing_report out.1.standing ≡ map (defined s bytes) (open_of w.spent w.opened)

  module _ (w : Words) (m : Model) (h : Stands bytes s number w m) where
    not_read : (why : Refusal) → Reads w (no why m)
    not_read why e = absurd cc

    unless_read : (b : Bool) (why : Refusal) (out : Out) → Reads w out → Reads w (unless b why m out)
    unless_read true why out r = not_read why
    unless_read false why out r = r

    tried_read : (ts : List (Bool × Refusal)) (out : Out) → Reads w out → Reads w (tried ts m out)
    tried_read [] out r = r
    tried_read (t ∷ ts) out r = unless_read t.0 t.1 (tried ts m out) (tried_read ts out r)

    row_read : (start n : ℕ) (mark : Mark) → UnreadAt number w start n mark → Reads w (read_row m (part bytes start n) mark)
    row_read start n mark u e =
        ap (λ t. report_of t (part bytes start n) ∷ []) h.setting
        ∙ ap (λ x. report_of s (part bytes x n) ∷ []) (sym u.starts) ∙ ap (λ x. report_of s (part bytes u.o.start x) ∷ []) (sym u.long)
        ∙ ap (map (defined s bytes)) (sym (only_open number w u.os u.o u.row))

    step_reads : (p : Stage) → m.stage ≡ p → Reads w (step_read bytes m p)
    step_reads Empty e = not_read WrongMoment
    step_reads Between e = not_read WrongMoment
    step_reads (Unread start n mark) e =
        tried_read (other_length bytes m ∷ unreadable m.setting (part bytes start n)) (read_row m (part bytes start n) mark)
        (row_read start n mark (subst (Moment bytes number (tail_of s bytes) m.ahead.rows w) e h.moment))
    step_reads Read e = not_read WrongMoment
    step_reads (End start n) e = not_read WrongMoment

    made_step : (c : Call) → made_by (answer bytes m c) c (behind bytes m c) ≡ map (defined s bytes) (rows_read (open_of w.spent w.opened) (answer bytes m c) c)
    made_step c = made_same (defined s bytes) (open_of w.spent w.opened) c (answer bytes m c) (behind bytes m c) (λ e d.
        subst (λ k. (step bytes m k).0 ≡ done → standing_report (step bytes m k).1.standing ≡ map (defined s bytes) (open_of w.spent w.opened)) (sym e) (step_reads m.stage refl) d)

  -- what holds of the words of the calls so far, and of one more
  pub said_stands : (h : List Said) (m : Model) (c : Call) → Stands bytes s number (words_of h) m → Stands bytes s number (words_of (h ++ said bytes m c ∷ [])) (behind bytes m c)
  said_stands h m c k = subst (λ w. Stands bytes s number w (behind bytes m c)) (sym (words_push h (said bytes m c))) (step_stands bytes s number g (words_of h) m k c)

  pub stands_from : (h : List Said) (m : Model) (cs : List Call) → Stands bytes s number (words_of h) m → Stands bytes s number (words_of (h ++ history bytes m cs)) (after bytes m cs)
  stands_from h m [] k = subst (λ x. Stands bytes s number (words_of x) m) (sym (append-nil h)) k
  stands_from h m (c ∷ cs) k =
      subst (λ x. Stands bytes s number (words_of x) (after bytes (behind bytes m c) cs)) (append_assoc h (said bytes m c ∷ []) (history bytes (behind bytes m c) cs))
      (stands_from (h ++ said bytes m c ∷ []) (behind bytes m c) cs (said_stands h m c k))

  pub made_from : (h : List Said) (m : Model) (cs : List Call) → Stands bytes s number (words_of h) m → made bytes m cs ≡ map (defined s bytes) (read_from h (history bytes m cs))
  made_from h m [] k = refl
  made_from h m (c ∷ cs) k =
      let a = rows_read (open_of (words_of h).spent (words_of h).opened) (answer bytes m c) c in
      let b = read_from (h ++ said bytes m c ∷ []) (history bytes (behind bytes m c) cs) in
      ap (λ x. x ++ made bytes (behind bytes m c) cs) (made_step (words_of h) m k c)
      ∙ ap (λ x. map (defined s bytes) a ++ x) (made_from (h ++ said bytes m c ∷ []) (behind bytes m c) cs (said_stands h m c k))
      ∙ sym (map-append (defined s bytes) a b)

  -- at every moment of a run
  pub run_stands : (cs : List Call) → Stands bytes s number (words_of (history bytes (fresh s number bytes) cs)) (after bytes (fresh s number bytes) cs)
  run_stands cs = stands_from [] (fresh s number bytes) cs (fresh_stands bytes s number)

  pub run_made : (cs : List Call) → made bytes (fresh s number bytes) cs ≡ map (defined s bytes) (read_rows (history bytes (fresh s number bytes) cs))
  run_made cs = made_from [] (fresh s number bytes) cs (fresh_stands bytes s number)
