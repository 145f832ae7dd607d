-- Where next has answered a slip, a row is open under it, until the slip is filed; and setting the row aside with it is not refused.
use Rattle.std.proofs.Common.{◌≡◌, ℕ, ◌+◌, Bool, true, false, cond, not, List, [], ◌∷◌, length, Ok, Err, Result, IfErr, nat_le, ◌==◌, refl, sym, ap, subst, ◌∙◌, arith}
use Rattle.std.proofs.lemmas.Bool.{eq-eqb, and_from}
use Rattle.rows.specs.Cuts.{RowAt, TailAt}
use Rattle.import.specs.declared.slip.Slip.{Slip}
use Rattle.import.specs.declared.stage.Stage.{Stage}
use Rattle.import.specs.declared.stage.Stage.TheVariants.{Empty, Between, Unread, Read, End}
use Rattle.import.specs.declared.stage.How.TheVariants.{Kept, SetAside}
use Rattle.import.specs.declared.answer.Opened.{Opened}
use Rattle.import.specs.declared.refusal.Refusal.{Refusal}
use Rattle.import.specs.declared.refusal.Refusal.TheVariants.{OtherLength, OtherRow, WrongMoment}
use Rattle.import.specs.Slips.{slip, same_slip, part}
use Rattle.import.specs.Models.{Model}
use Rattle.import.specs.Calls.{Answer, refused, row, none, done, next, read, keep, set_aside}
use Rattle.import.specs.Answers.{said_filed, GivenBack}
use Rattle.import.specs.Stages.{open_at}
use Rattle.import.specs.Steps.{Out, unless, tried, other_length, end_at, first_to_come, next_row, step_next, unreadable, read_row, step_read, open_slip, unfit, file_row, step_file, step}
use Rattle.slips.specs.Held.{Holds}

same_self : (s : Slip) → same_slip s s ≡ true
same_self s = and_from (s.import == s.import) (s.row == s.row) (eq-eqb s.import s.import refl) (eq-eqb s.row s.row refl)

same_opened : (o p : Opened) → row o ≡ row p → o ≡ p
same_opened o p e = cc

module _ (bytes : List ℕ) (m n : Model) where
  module _ (o : Opened) where
    row_none : row o ≡ none → ⊥
    row_none e = absurd cc

    row_refused : (why : Refusal) → row o ≡ refused why → ⊥
    row_refused why e = absurd cc

    first_held : (rs : List RowAt) (t : TailAt) → (row o, n) ≡ first_to_come m rs t → Holds o.slip n
    first_held [] t e = absurd (row_none (ap (λ (x : Out). x.0) e))
    first_held (r ∷ rs) t e =
        let p : Opened = record { slip = slip m.number (m.counts.opened + 1); start = r.start; length = length r.bytes; mark = r.mark } in
        let s : o.slip ≡ p.slip = ap (λ (x : Opened). x.slip) (same_opened o p (ap (λ (x : Out). x.0) e)) in
        let k : n ≡ (first_to_come m (r ∷ rs) t).1 = ap (λ (x : Out). x.1) e in
        (ap (λ (x : Model). open_at x.stage) k, s ∙ sym (ap open_slip k))

    row_held : (b : Bool) → (row o, n) ≡ cond b (end_at m m.size 0) (first_to_come m m.ahead.rows m.ahead.tail) → Holds o.slip n
    row_held true e = absurd (row_none (ap (λ (x : Out). x.0) e))
    row_held false e = first_held m.ahead.rows m.ahead.tail e

    unless_held : (b : Bool) (why : Refusal) (out : Out) → ((row o, n) ≡ out → Holds o.slip n) → (row o, n) ≡ unless b why m out → Holds o.slip n
    unless_held true why out f e = absurd (row_refused why (ap (λ (x : Out). x.0) e))
    unless_held false why out f e = f e

    next_at : (p : Stage) → (row o, n) ≡ step_next bytes m p → Holds o.slip n
    next_at Empty e = absurd (row_refused WrongMoment (ap (λ (x : Out). x.0) e))
    next_at Between e = unless_held (other_length bytes m).0 OtherLength (next_row m) (row_held (nat_le m.size m.counts.opened)) e
    next_at (Unread start l mark) e = absurd (row_refused WrongMoment (ap (λ (x : Out). x.0) e))
    next_at Read e = absurd (row_refused WrongMoment (ap (λ (x : Out). x.0) e))
    next_at (End start l) e = unless_held (other_length bytes m).0 OtherLength (none, m) (λ f. absurd (row_none (ap (λ (x : Out). x.0) f))) e

    pub next_held : (row o, n) ≡ step bytes m next → Holds o.slip n
    next_held e = next_at m.stage e

  module _ (s : Slip) (h : Holds s m) where
    unless_stays : (b : Bool) (why : Refusal) (out : Out) → Holds s out.1 → Holds s (unless b why m out).1
    unless_stays true why out k = h
    unless_stays false why out k = k

    tried_stays : (ts : List (Bool × Refusal)) (out : Out) → Holds s out.1 → Holds s (tried ts m out).1
    tried_stays [] out k = k
    tried_stays (t ∷ ts) out k = unless_stays t.0 t.1 (tried ts m out) (tried_stays ts out k)

    read_at : (p : Stage) → Holds s (step_read bytes m p).1
    read_at Empty = h
    read_at Between = h
    read_at (Unread start l mark) = tried_stays (other_length bytes m ∷ unreadable m.setting (part bytes start l)) (read_row m (part bytes start l) mark) (refl, h.1)
    read_at Read = h
    read_at (End start l) = h

    -- a read, refused or not, leaves the row open
    pub read_held : (a : Answer) → (a, n) ≡ step bytes m read → Holds s n
    read_held a e = subst (Holds s) (sym (ap (λ (x : Out). x.1) e)) (read_at m.stage)

    module _ (why : Refusal) where
      refused_done : refused why ≡ done → ⊥
      refused_done e = absurd cc

      unless_same : (b : Bool) (y : Refusal) (out : Out) → ((refused why, n) ≡ out → n ≡ m) → (refused why, n) ≡ unless b y m out → n ≡ m
      unless_same true y out f e = ap (λ (x : Out). x.1) e
      unless_same false y out f e = f e

      tried_same : (ts : List (Bool × Refusal)) (out : Out) → ((refused why, n) ≡ out → n ≡ m) → (refused why, n) ≡ tried ts m out → n ≡ m
      tried_same [] out f e = f e
      tried_same (t ∷ ts) out f e = unless_same t.0 t.1 (tried ts m out) (tried_same ts out f) e

      keep_at : (p : Stage) → (refused why, n) ≡ step_file Kept s m p → n ≡ m
      keep_at Empty e = ap (λ (x : Out). x.1) e
      keep_at Between e = ap (λ (x : Out). x.1) e
      keep_at (Unread start l mark) e = ap (λ (x : Out). x.1) e
      keep_at Read e = tried_same (unfit Kept s m) (file_row Kept m) (λ f. absurd (refused_done (ap (λ (x : Out). x.0) f))) e
      keep_at (End start l) e = ap (λ (x : Out). x.1) e

      keep_held : (refused why, n) ≡ step bytes m (keep s) → Holds s n
      keep_held e = subst (Holds s) (sym (keep_at m.stage e)) h

    -- a refused keep gives the slip back, and leaves the row open
    pub kept_held : (res : Result (Unit {0}) (Refusal × Slip)) → (said_filed res, n) ≡ step bytes m (keep s) → GivenBack s res → IfErr res (λ e. Holds e.1 n)
    kept_held (Ok u) e back = tt
    kept_held (Err x) e back = subst (λ t. Holds t n) (sym back) (keep_held x.0 e)

    own : not (same_slip s (open_slip m)) ≡ false
    own = ap not (subst (λ t. same_slip s t ≡ true) h.1 (same_self s))

    aside_at : (p : Stage) → open_at p ≡ 1 → step_file SetAside s m p ≡ file_row SetAside m
    aside_at Empty e = absurd (omega arith)
    aside_at Between e = absurd (omega arith)
    aside_at (Unread start l mark) e = ap (λ b. unless b OtherRow m (file_row SetAside m)) own
    aside_at Read e = ap (λ b. unless b OtherRow m (file_row SetAside m)) own
    aside_at (End start l) e = absurd (omega arith)

    -- setting the row aside is not refused
    pub aside_done : (a : Answer) → (a, n) ≡ step bytes m (set_aside s) → n ≡ (file_row SetAside m).1
    aside_done a e = ap (λ (x : Out). x.1) (e ∙ aside_at m.stage h.0)

    pub aside_never : (why : Refusal) → (refused why, n) ≡ step bytes m (set_aside s) → ⊥
    aside_never why e = refused_done why (ap (λ (x : Out). x.0) (e ∙ aside_at m.stage h.0))
