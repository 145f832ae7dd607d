-- What opening, reading and setting aside one row after another comes to.
use Rattle.std.proofs.Common.{◌≡◌, ℕ, ◌+◌, ◌≤◌, Bool, true, false, cond, List, [], ◌∷◌, length, Some, None, Ok, Err, Result, ◌==◌, nat_le, refl, sym, ap, subst, ◌∙◌, arith}
use Rattle.std.proofs.lemmas.Bool.{eq-eqb, leb-true, not_from_true}
use Rattle.rows.specs.Cuts.{RowAt, Each, PartOf}
use Rattle.rows.specs.declared.piece.Mark.{Mark}
use Rattle.import.specs.declared.slip.Slip.{Slip}
use Rattle.import.specs.declared.answer.Opened.{Opened}
use Rattle.import.specs.declared.stage.How.TheVariants.{SetAside}
use Rattle.import.specs.declared.stage.Place.{Place}
use Rattle.import.specs.declared.refusal.Refusal.{Refusal}
use Rattle.import.specs.declared.refusal.Refusal.TheVariants.{OtherLength}
use Rattle.import.specs.Slips.{slip, part}
use Rattle.import.specs.Models.{Model}
use Rattle.import.specs.Calls.{Answer, refused, row, none, done, next, read}
use Rattle.import.specs.Answers.{said_place, said_done}
use Rattle.import.specs.Stages.{open_at}
use Rattle.import.specs.Steps.{Out, unless, tried, other_length, end_at, first_to_come, next_row, step_next, unreadable, read_row, file_row, step}
use Rattle.import.specs.Tells.{refusing, says, read_says}
use Rattle.import.specs.Scans.{Ready, tail_at, NextRow, NoRow, Unreadable, Left}
use Rattle.import.proofs.WholeRuns.{tried_says}

-- where no test holds, the call is accepted
unless_done : (b : Bool) (why : Refusal) (m : Model) (a : Answer) (inner out : Out) → (a ≡ done → inner ≡ out) → refusing b why a ≡ done → unless b why m inner ≡ out
unless_done true why m a inner out f e = absurd cc
unless_done false why m a inner out f e = f e

pub tried_done : (ts : List (Bool × Refusal)) (m : Model) (out : Out) → says ts done ≡ done → tried ts m out ≡ out
tried_done [] m out e = refl
tried_done (t ∷ ts) m out e = unless_done t.0 t.1 m (says ts done) (tried ts m out) out (tried_done ts m out) e

-- what holds of the import whether a test refuses or not
unless_keeps : (P : Model → Type 0) (b : Bool) (why : Refusal) (m : Model) (inner : Out) → P m → P inner.1 → P (unless b why m inner).1
unless_keeps P true why m inner x y = x
unless_keeps P false why m inner x y = y

pub tried_keeps : (P : Model → Type 0) (ts : List (Bool × Refusal)) (m : Model) (out : Out) → P m → P out.1 → P (tried ts m out).1
tried_keeps P [] m out x y = y
tried_keeps P (t ∷ ts) m out x y = unless_keeps P t.0 t.1 m (tried ts m out) x (tried_keeps P ts m out x y)

same_mark : (o p : Opened) → row o ≡ row p → o.mark ≡ p.mark
same_mark o p e = let z : o ≡ p = cc in ap (λ (q : Opened). q.mark) z

module _ (file : List ℕ) (m : Model) (h : Ready file m) where
  right_length : (n : Model) → n.size ≡ m.size → (other_length file n).0 ≡ false
  right_length n e = not_from_true (length file == n.size) (eq-eqb (length file) n.size (sym (e ∙ h.size)))

  next_out : step file m next ≡ next_row m
  next_out = ap (step_next file m) h.between ∙ ap (λ b. unless b OtherLength m (next_row m)) (right_length m refl)

  -- a row is to come: it is opened
  opens : (r : RowAt) (rs : List RowAt) → m.ahead.rows ≡ r ∷ rs → step file m next ≡ first_to_come m (r ∷ rs) m.ahead.tail
  opens r rs e = next_out ∙ by_room (nat_le m.size m.counts.opened) refl ∙ ap (λ x. first_to_come m x m.ahead.tail) e
    where
      by_room : (b : Bool) → nat_le m.size m.counts.opened ≡ b → cond b (end_at m m.size 0) (first_to_come m m.ahead.rows m.ahead.tail) ≡ first_to_come m m.ahead.rows m.ahead.tail
      by_room true f = absurd (omega (arith, leb-true m.size m.counts.opened f, h.room, ap length e))
      by_room false f = refl

  no_bytes : (bs : List ℕ) → length bs ≤ 0 → [] ≡ bs
  no_bytes [] l = refl
  no_bytes (b ∷ bs) l = absurd (omega arith)

  -- none is to come: the tail is told
  ends : m.ahead.rows ≡ [] → (start : ℕ) × (n : ℕ) × (step file m next ≡ end_at m start n) × (part file start n ≡ m.ahead.tail.bytes)
  ends e = by_room (nat_le m.size m.counts.opened) refl
    where
      by_room : (b : Bool) → nat_le m.size m.counts.opened ≡ b → (start : ℕ) × (n : ℕ) × (step file m next ≡ end_at m start n) × (part file start n ≡ m.ahead.tail.bytes)
      by_room true f = (m.size, 0, next_out ∙ ap (λ b. cond b (end_at m m.size 0) (first_to_come m m.ahead.rows m.ahead.tail)) f, no_bytes m.ahead.tail.bytes (omega (arith, leb-true m.size m.counts.opened f, h.room)))
      by_room false f = (
        m.ahead.tail.start,
        length m.ahead.tail.bytes,
        next_out ∙ ap (λ b. cond b (end_at m m.size 0) (first_to_come m m.ahead.rows m.ahead.tail)) f ∙ ap (λ x. first_to_come m x m.ahead.tail) e,
        sym h.parts.1.1,
      )

  -- a row that was opened, and what it left
  module _ (r : RowAt) (rs : List RowAt) (e : m.ahead.rows ≡ r ∷ rs) where
    abbrev opened_now : Model
    opened_now = (first_to_come m (r ∷ rs) m.ahead.tail).1

    its_part : PartOf file r.start r.bytes
    its_part = (subst (Each (λ q. PartOf file q.start q.bytes)) e h.parts.0).0

    read_out : step file opened_now read ≡ tried (unreadable m.setting r.bytes) opened_now (read_row opened_now r.bytes r.mark)
    read_out =
        let bs = part file r.start (length r.bytes) in
        ap (λ b. unless b OtherLength opened_now (tried (unreadable m.setting bs) opened_now (read_row opened_now bs r.mark))) (right_length opened_now refl)
        ∙ ap (λ x. tried (unreadable m.setting x) opened_now (read_row opened_now x r.mark)) (sym its_part.1)

    read_answer : (step file opened_now read).0 ≡ read_says m.setting r.bytes
    read_answer = ap (λ (o : Out). o.0) read_out ∙ tried_says (unreadable m.setting r.bytes) opened_now (read_row opened_now r.bytes r.mark)

    abbrev filed_now : Model
    filed_now = (file_row SetAside (read_row opened_now r.bytes r.mark).1).1

    next_row_is : (mark : Mark) → mark ≡ r.mark → read_says m.setting r.bytes ≡ done → NextRow file m filed_now mark
    next_row_is mark k readable = record {
      row = r;
      is = e;
      its_mark = k;
      readable = readable;
      stands = refl;
      ready = record {
        between = refl;
        size = h.size;
        parts = ((subst (Each (λ q. PartOf file q.start q.bytes)) e h.parts.0).1, h.parts.1);
        room = omega (arith, h.room, ap length e);
      };
      setting = refl;
      tail = refl;
    }

  module _ (sl : Slip) (m1 : Model) where
    opened_as : (p : Place) (rs : List RowAt) → m.ahead.rows ≡ rs → (said_place sl (Ok (Some p)), m1) ≡ step file m next →
        (r : RowAt) × (qs : List RowAt) × (m.ahead.rows ≡ r ∷ qs) × (m1 ≡ (first_to_come m (r ∷ qs) m.ahead.tail).1) × (p.mark ≡ r.mark)
    opened_as p [] e f = let d = ends e in let z : said_place sl (Ok (Some p)) ≡ none = ap (λ (o : Out). o.0) (f ∙ d.2) in absurd cc
    opened_as p (r ∷ rs) e f =
        let g = f ∙ opens r rs e in
        let a = ap (λ (o : Out). o.0) g in
        let k : p.mark ≡ r.mark = same_mark (record { slip = sl; start = p.start; length = p.length; mark = p.mark }) (record { slip = slip m.number (m.counts.opened + 1); start = r.start; length = length r.bytes; mark = r.mark }) a in
        (r, rs, e, ap (λ (o : Out). o.1) g, k)

    pub scan_none : (said_place sl (Ok None), m1) ≡ step file m next → NoRow file m m1
    scan_none f = by_rows m.ahead.rows refl
      where
        by_rows : (rs : List RowAt) → m.ahead.rows ≡ rs → NoRow file m m1
        by_rows [] e = let d = ends e in record { none_left = e; told = ap (λ (o : Out). tail_at file o.1.stage) (f ∙ d.2) ∙ d.3 }
        by_rows (r ∷ rs) e = let z : none ≡ (first_to_come m (r ∷ rs) m.ahead.tail).0 = ap (λ (o : Out). o.0) (f ∙ opens r rs e) in absurd cc

    pub none_left : (said_place sl (Ok None), m1) ≡ step file m next → Left m m1
    none_left f = by_rows m.ahead.rows refl
      where
        by_rows : (rs : List RowAt) → m.ahead.rows ≡ rs → Left m m1
        by_rows [] e = let d = ends e in record { means_stay = ap (λ (o : Out). o.1.setting.means) (f ∙ d.2); closed = ap (λ (o : Out). open_at o.1.stage) (f ∙ d.2) }
        by_rows (r ∷ rs) e = let z : none ≡ (first_to_come m (r ∷ rs) m.ahead.tail).0 = ap (λ (o : Out). o.0) (f ∙ opens r rs e) in absurd cc

    pub scan_never : (why : Refusal) → (said_place sl (Err why), m1) ≡ step file m next → ⊥
    scan_never why f = by_rows m.ahead.rows refl
      where
        by_rows : (rs : List RowAt) → m.ahead.rows ≡ rs → ⊥
        by_rows [] e = let d = ends e in let z : refused why ≡ none = ap (λ (o : Out). o.0) (f ∙ d.2) in absurd cc
        by_rows (r ∷ rs) e = let z : refused why ≡ (first_to_come m (r ∷ rs) m.ahead.tail).0 = ap (λ (o : Out). o.0) (f ∙ opens r rs e) in absurd cc

    module _ (p : Place) (m2 m3 : Model) (f : (said_place sl (Ok (Some p)), m1) ≡ step file m next) where
      pub scan_done : (u : Unit {0}) → (said_done (Ok u), m2) ≡ step file m1 read → m3 ≡ (file_row SetAside m2).1 → NextRow file m m3 p.mark
      scan_done u k l =
          let d = opened_as p m.ahead.rows refl f in
          let r = d.0 in
          let q = k ∙ ap (λ x. step file x read) d.3 in
          let readable : read_says m.setting r.bytes ≡ done = sym (ap (λ (o : Out). o.0) q ∙ read_answer r d.1 d.2) in
          let after : m2 ≡ (read_row (opened_now r d.1 d.2) r.bytes r.mark).1 =
          ap (λ (o : Out). o.1) (q ∙ read_out r d.1 d.2 ∙ tried_done (unreadable m.setting r.bytes) (opened_now r d.1 d.2) (read_row (opened_now r d.1 d.2) r.bytes r.mark) readable) in
          let is : m3 ≡ filed_now r d.1 d.2 = l ∙ ap (λ x. (file_row SetAside x).1) after in
          subst (λ x. NextRow file m x p.mark) (sym is) (next_row_is r d.1 d.2 p.mark d.4 readable)

      pub scan_refused : (why : Refusal) → (said_done (Err why), m2) ≡ step file m1 read → Unreadable m why
      scan_refused why k =
          let d = opened_as p m.ahead.rows refl f in
          let a : refused why ≡ read_says m.setting d.0.bytes = ap (λ (o : Out). o.0) (k ∙ ap (λ x. step file x read) d.3) ∙ read_answer d.0 d.1 d.2 in
          record { row = d.0; rest = d.1; is = d.2; refusal = sym a }

      -- behind a read a row is open, and the family means what it did
      pub still_open : (res : Result (Unit {0}) Refusal) → (said_done res, m2) ≡ step file m1 read → open_at m2.stage ≡ 1
      still_open res k =
          let d = opened_as p m.ahead.rows refl f in
          ap (λ (o : Out). open_at o.1.stage) (k ∙ ap (λ x. step file x read) d.3 ∙ read_out d.0 d.1 d.2)
          ∙ tried_keeps (λ x. open_at x.stage ≡ 1) (unreadable m.setting d.0.bytes) (opened_now d.0 d.1 d.2) (read_row (opened_now d.0 d.1 d.2) d.0.bytes d.0.mark) refl refl

      pub read_left : (res : Result (Unit {0}) Refusal) → (said_done res, m2) ≡ step file m1 read → m3 ≡ (file_row SetAside m2).1 → Left m m3
      read_left res k l =
          let d = opened_as p m.ahead.rows refl f in
          let means : m2.setting.means ≡ m.setting.means =
          ap (λ (o : Out). o.1.setting.means) (k ∙ ap (λ x. step file x read) d.3 ∙ read_out d.0 d.1 d.2)
          ∙ tried_keeps (λ x. x.setting.means ≡ m.setting.means) (unreadable m.setting d.0.bytes) (opened_now d.0 d.1 d.2) (read_row (opened_now d.0 d.1 d.2) d.0.bytes d.0.mark) refl refl in
          record { means_stay = ap (λ (x : Model). x.setting.means) l ∙ means; closed = ap (λ (x : Model). open_at x.stage) l }
