-- A call that is not done leaves the buffer and the length as they were; one that has printed has written the file.
use Rattle.std.proofs.Common.{inl, inr, ℕ, Bool, true, false, cond, List, length, Some, None, Option, Ok, Err, Result, nat_le, refl, sym, subst}
use Rattle.rows.specs.Frames.{laid}
use Rattle.rows.specs.Rules as rules
use Rattle.fields.specs.Meanings as fields
use Rattle.import.specs.declared.refusal.Refusal.{Refusal}
use Rattle.import.specs.declared.refusal.Refusal.TheVariants.{BufferTooShort}
use Rattle.import.specs.Calls.{Answer, refused, row, none, done, wrote, found, counted}
use Rattle.import.specs.Models.{under}
use Rattle.import.specs.Tells.{rows_in_file, new_says}
use Rattle.tracing.specs.Prints.{first_unread}
use Rattle.calls.specs.declared.status.Status.{Status}
use Rattle.calls.specs.declared.status.Status.TheVariants.{Done, Refused}
use Rattle.calls.specs.Lefts.{Left, put, Leaves, if_taken, if_read, printed, Stays, WritesFile}

abbrev Still : List ℕ → ℕ → Left → Type 0
Still out n left = Stays out left.1 left.0 × Stays n left.2 left.0

by_room : (b : Bool) (bytes out : List ℕ) (n : ℕ) → Still out n (cond b (Done, laid bytes out, length bytes) (Refused BufferTooShort, out, n))
by_room true bytes out n = (tt, tt)
by_room false bytes out n = (refl, refl)

put_stays : (want : Result (List ℕ) Refusal) (out : List ℕ) (n : ℕ) → Still out n (put want out n)
put_stays (Ok bytes) out n = by_room (nat_le (length bytes) (length out)) bytes out n
put_stays (Err why) out n = (refl, refl)

module _ (want : Result (List ℕ) Refusal) (s : Status) (new : List ℕ) (k : ℕ) (out : List ℕ) (n : ℕ) where
  both_stay : Leaves want (s, new, k) out n → Still out n (s, new, k)
  both_stay (inl e) = subst (Still out n) (sym e) (put_stays want out n)
  both_stay (inr e) = subst (Still out n) (sym e) (refl, refl)

  pub buffer_stays : Leaves want (s, new, k) out n → Stays out new s
  buffer_stays h = (both_stay h).0

  pub length_stays : Leaves want (s, new, k) out n → Stays n k s
  length_stays h = (both_stay h).1

abbrev Writes : List ℕ → List ℕ → Left → Type 0
Writes file out left = WritesFile file out left.1 left.2 left.0

file_by_room : (b : Bool) (file out : List ℕ) (n : ℕ) → Writes file out (cond b (Done, laid file out, length file) (Refused BufferTooShort, out, n))
file_by_room true file out n = (refl, refl)
file_by_room false file out n = tt

if_all_read : (u : Option (ℕ × Refusal)) (file out : List ℕ) (n : ℕ) → Writes file out (put (if_read u file) out n)
if_all_read None file out n = file_by_room (nat_le (length file) (length out)) file out n
if_all_read (Some u) file out n = tt

taken_writes : (a : Answer) (u : Option (ℕ × Refusal)) (file out : List ℕ) (n : ℕ) → Writes file out (put (if_taken a (if_read u file)) out n)
taken_writes (refused why) u file out n = tt
taken_writes (row o) u file out n = if_all_read u file out n
taken_writes none u file out n = if_all_read u file out n
taken_writes done u file out n = if_all_read u file out n
taken_writes (wrote bytes) u file out n = if_all_read u file out n
taken_writes (found l) u file out n = if_all_read u file out n
taken_writes (counted c) u file out n = if_all_read u file out n

pub writes_file : (rule : rules.Meaning) (means : ℕ → ℕ → fields.Meaning) (layout file : List ℕ) (s : Status) (new : List ℕ) (k : ℕ) (out : List ℕ) (n : ℕ) →
    Leaves (printed rule means layout file) (s, new, k) out n → WritesFile file out new k s
writes_file rule means layout file s new k out n (inl e) = subst (Writes file out) (sym e) (taken_writes (new_says means layout file) (first_unread (under rule means layout) 0 (rows_in_file (under rule means layout) file)) file out n)
writes_file rule means layout file s new k out n (inr e) = subst (Writes file out) (sym e) tt
