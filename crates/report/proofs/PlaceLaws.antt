-- A reading never goes back, and never past the end of its row.
use Rattle.std.proofs.Common.{ℕ, ◌+◌, ◌<◌, ◌≤◌, List, length, drop, ℤ, sym, subst, arith, length-drop, get_or-drop}
use Rattle.fields.specs.Laws.{Bytes, Lawful}
use Rattle.fields.specs.Meanings.{Meaning}
use Rattle.layout.specs.declared.node.Node.{Node}
use Rattle.report.proofs.Marks.{stands_below}
use Rattle.report.proofs.Steps.{Steps}

-- from p to q, within the row if p is
pub record Forth (row : List ℕ) (p q : ℕ) : Type 0 where
  pub later : p ≤ q
  pub within : p ≤ length row → q ≤ length row

module _ (means : ℕ → ℕ → Meaning) (nodes : List Node) (constants : List ℤ) (row : List ℕ) (lawful : (k p : ℕ) → Lawful (means k p)) (bytes : Bytes row) where
  stays : (p : ℕ) → Forth row p p
  stays p = record { later = omega arith; within = λ h. h }

  -- to be used with the lemmas of Steps
  pub forth : Steps means nodes constants row (λ pre p ls q. Forth row p q)
  forth = record {
    none = λ pre p. stays p;
    join = λ pre ls ms p q r a b. record { later = omega (arith, a.later, b.later); within = λ h. b.within (a.within h) };
    good_field = λ i k a c pre p n z h e.
        record {
          later = omega arith;
          within = λ w. omega (arith, (lawful k a).within (drop p row) n z (λ j. subst (λ b. b < 256) (sym (get_or-drop p row j 0)) (bytes (p + j))) e, length-drop p row);
        };
    good_mark = λ i b pre p h e. record { later = omega arith; within = λ w. omega (arith, stands_below row b p e) };
    fault = λ i pre p z h. stays p;
    check_line = λ i r a s pre p h. stays p;
    absent = λ i c pre p h. stays p;
    passed = λ i pre p. stays p;
    loose = λ i b pre p j h le e. record { later = le; within = λ w. omega (arith, stands_below row b j e) };
    own = λ i pre ls p q z h k. k;
    own_faulty = λ i pre ls p q h k. k;
  }
