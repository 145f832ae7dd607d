-- What each call of a step leaves for the next: the row that next opened may be filed as a step does, whatever its read answered.
use Rattle.std.proofs.Common.{◌≡◌, ◌⊎◌, inl, inr, ℕ, ◌+◌, Bool, true, false, cond, not, List, [], ◌∷◌, length, Some, None, ◌==◌, nat_le, refl, sym, ap, subst, ◌∙◌}
use Rattle.rows.specs.Cuts.{RowAt, TailAt}
use Rattle.report.specs.Reports.{fault_count}
use Rattle.import.specs.declared.answer.Opened.{Opened}
use Rattle.import.specs.declared.stage.Stage.{Stage}
use Rattle.import.specs.declared.stage.Stage.TheVariants.{Empty, Between, Unread, Read, End}
use Rattle.import.specs.declared.stage.How.TheVariants.{Kept, SetAside}
use Rattle.import.specs.declared.refusal.Refusal.{Refusal}
use Rattle.import.specs.declared.refusal.Refusal.TheVariants.{OtherLength, OtherRow, RowHasFaults}
use Rattle.import.specs.Slips.{slip, same_slip, part}
use Rattle.import.specs.Models.{Standing, Model}
use Rattle.import.specs.Calls.{next, read, file, counts, Answer, row, none}
use Rattle.import.specs.Steps.{Out, unless, tried, other_length, end_at, first_to_come, next_row, step_next, unreadable, report_of, read_row, step_read, open_slip, other_row, faulty, unfit, file_row, step_file, step_counts, step}
use Rattle.import.proofs.SlipLaws.{same_self}
use Rattle.passes.specs.Passes.{how_filed, opened_of}

-- the row that next opened is open and unread, under its own slip, and no report stands
pub record Fresh (m : Model) (o : Opened) : Type 0 where
  pub unread : m.stage ≡ Unread o.start o.length o.mark
  pub own : o.slip ≡ open_slip m
  pub none_stands : m.standing ≡ None

module _ (o : Opened) (n : Model) where
  past : (b : Bool) (why : Refusal) (m : Model) (out : Out) → (row o, n) ≡ unless b why m out → (row o, n) ≡ out
  past true why m out e = let z = ap (λ (x : Out). x.0) e in absurd cc
  past false why m out e = e

  the_row : (p : Opened) → row o ≡ row p → o ≡ p
  the_row p e = cc

  first_opened : (m : Model) (rs : List RowAt) (t : TailAt) → (row o, n) ≡ first_to_come m rs t → Fresh n o
  first_opened m [] t e = let z = ap (λ (x : Out). x.0) e in absurd cc
  first_opened m (r ∷ rs) t e =
      let p : Opened = record { slip = slip m.number (m.counts.opened + 1); start = r.start; length = length r.bytes; mark = r.mark } in
      let is : o ≡ p = the_row p (ap (λ (x : Out). x.0) e) in
      let left : n ≡ (first_to_come m (r ∷ rs) t).1 = ap (λ (x : Out). x.1) e in
      subst (λ q. Fresh n q) (sym is) (subst (λ k. Fresh k p) (sym left) (record { unread = refl; own = refl; none_stands = refl }))

  by_room : (m : Model) (b : Bool) → (row o, n) ≡ cond b (end_at m m.size 0) (first_to_come m m.ahead.rows m.ahead.tail) → Fresh n o
  by_room m true e = let z = ap (λ (x : Out). x.0) e in absurd cc
  by_room m false e = first_opened m m.ahead.rows m.ahead.tail e

  at_stage : (bytes : List ℕ) (m : Model) (p : Stage) → (row o, n) ≡ step_next bytes m p → Fresh n o
  at_stage bytes m Empty e = let z = ap (λ (x : Out). x.0) e in absurd cc
  at_stage bytes m Between e = by_room m (nat_le m.size m.counts.opened) (past (other_length bytes m).0 OtherLength m (next_row m) e)
  at_stage bytes m (Unread start l mark) e = let z = ap (λ (x : Out). x.0) e in absurd cc
  at_stage bytes m Read e = let z = ap (λ (x : Out). x.0) e in absurd cc
  at_stage bytes m (End start l) e = let z = ap (λ (x : Out). x.0) (past (other_length bytes m).0 OtherLength m (none, m) e) in absurd cc

  pub opens_fresh : (bytes : List ℕ) (m : Model) → (row o, n) ≡ step bytes m next → Fresh n o
  opens_fresh bytes m e = at_stage bytes m m.stage e

-- a test that refuses leaves the import; what passes all tests leaves what is then done
one_test : (b : Bool) (why : Refusal) (m : Model) (inner out : Out) → (inner.1 ≡ m) ⊎ (inner.1 ≡ out.1) → ((unless b why m inner).1 ≡ m) ⊎ ((unless b why m inner).1 ≡ out.1)
one_test true why m inner out h = inl refl
one_test false why m inner out h = h

tests : (ts : List (Bool × Refusal)) (m : Model) (out : Out) → ((tried ts m out).1 ≡ m) ⊎ ((tried ts m out).1 ≡ out.1)
tests [] m out = inr refl
tests (t ∷ ts) m out = one_test t.0 t.1 m (tried ts m out) out (tests ts m out)

module _ (bytes : List ℕ) (o : Opened) where
  its_own : (n : Model) → o.slip ≡ open_slip n → (other_row o.slip n).0 ≡ false
  its_own n e = ap (λ s. not (same_slip o.slip s)) (sym e) ∙ ap not (same_self o.slip)

  -- an unread row is set aside
  pub unread_fits : (n : Model) → Fresh n o → step bytes n (file (how_filed n.standing) o.slip) ≡ file_row (how_filed n.standing) n
  unread_fits n h =
      ap (λ s. step_file (how_filed s) o.slip n n.stage) h.none_stands
      ∙ ap (step_file SetAside o.slip n) h.unread
      ∙ ap (λ b. unless b OtherRow n (file_row SetAside n)) (its_own n h.own)
      ∙ ap (λ s. file_row (how_filed s) n) (sym h.none_stands)

  by_faults : (n : Model) (s : Standing) (b : Bool) → (fault_count s.report == 0) ≡ b → n.standing ≡ Some s → o.slip ≡ open_slip n →
      tried (unfit (cond b Kept SetAside) o.slip n) n (file_row (cond b Kept SetAside) n) ≡ file_row (cond b Kept SetAside) n
  by_faults n s true e f g =
      ap (λ b. unless b OtherRow n (unless (faulty n.standing) RowHasFaults n (file_row Kept n))) (its_own n g)
      ∙ ap (λ b. unless b RowHasFaults n (file_row Kept n)) (ap faulty f ∙ ap not e)
  by_faults n s false e f g = ap (λ b. unless b OtherRow n (file_row SetAside n)) (its_own n g)

  -- a row that was read is filed by its faults
  pub read_fits : (n : Model) (s : Standing) → n.stage ≡ Read → n.standing ≡ Some s → o.slip ≡ open_slip n → step bytes n (file (how_filed n.standing) o.slip) ≡ file_row (how_filed n.standing) n
  read_fits n s e f g =
      ap (step_file (how_filed n.standing) o.slip n) e
      ∙ ap (λ x. tried (unfit (how_filed x) o.slip n) n (file_row (how_filed x) n)) f
      ∙ by_faults n s (fault_count s.report == 0) refl f g
      ∙ ap (λ x. file_row (how_filed x) n) (sym f)

  module _ (m : Model) (h : Fresh m o) where
    abbrev bs : List ℕ
    bs = part bytes o.start o.length

    abbrev tried_read : Out
    tried_read = tried (other_length bytes m ∷ unreadable m.setting bs) m (read_row m bs o.mark)

    -- whatever the read answers
    pub row_fits : (a : Answer) (n : Model) → (a, n) ≡ step bytes m read → step bytes n (file (how_filed n.standing) o.slip) ≡ file_row (how_filed n.standing) n
    row_fits a n e = by_read (tests (other_length bytes m ∷ unreadable m.setting bs) m (read_row m bs o.mark))
      where
        left : n ≡ tried_read.1
        left = ap (λ (x : Out). x.1) (e ∙ ap (step_read bytes m) h.unread)

        by_read : (tried_read.1 ≡ m) ⊎ (tried_read.1 ≡ (read_row m bs o.mark).1) → step bytes n (file (how_filed n.standing) o.slip) ≡ file_row (how_filed n.standing) n
        by_read (inl f) = unread_fits n (subst (λ x. Fresh x o) (sym (left ∙ f)) h)
        by_read (inr f) =
            let is = left ∙ f in
            read_fits n (record { report = report_of m.setting bs; mark = o.mark }) (ap (λ (x : Model). x.stage) is) (ap (λ (x : Model). x.standing) is) (h.own ∙ ap (λ (x : Model). open_slip x) (sym is))

    pub its_number : opened_of (step bytes m counts).0 ≡ o.slip.row
    its_number = ap (λ p. opened_of (step_counts m p).0) h.unread ∙ ap (λ s. s.row) (sym h.own)
