-- A sequence tells whether any line below it is a fault.
use Rattle.std.proofs.Common.{◌≡◌, ℕ, suc, ◌+◌, cond, if◌then◌else◌, Bool, true, false, ◌||◌, List, [], ◌∷◌, refl, ap, ◌∙◌, arith}
use Rattle.std.specs.List.{list_any, count_by}
use Rattle.std.proofs.lemmas.List.Recursion.{is_sum_by}
use Rattle.report.specs.declared.outcome.Outcome.TheVariants.{Good, FaultBelow}
use Rattle.report.specs.declared.line.Line.{Line}
use Rattle.report.specs.Outcomes.{role_of, is_fault}
use Rattle.report.specs.Lines.{fault_in, faults, overall}

overall_more : (b : Bool) (n : ℕ) → overall (cond b 1 0 + n) ≡ (if b then FaultBelow else overall n)
overall_more true n = let e : 1 + n ≡ suc n = omega arith in ap overall e
overall_more false n = let e : 0 + n ≡ n = omega arith in ap overall e

either_fault : (b c : Bool) → (if b then FaultBelow else (if c then FaultBelow else Good)) ≡ (if b || c then FaultBelow else Good)
either_fault true c = refl
either_fault false c = refl

pub overall_is : (ls : List Line) → overall (faults ls) ≡ (if list_any (λ l. is_fault (role_of l.outcome)) ls then FaultBelow else Good)
overall_is [] = refl
overall_is (l ∷ ls) =
    overall_more (is_fault (role_of l.outcome)) (faults ls)
    ∙ ap (λ o. if is_fault (role_of l.outcome) then FaultBelow else o) (overall_is ls)
    ∙ either_fault (is_fault (role_of l.outcome)) (list_any (λ l. is_fault (role_of l.outcome)) ls)

-- they are counted one by one
pub faults_counted : (ls : List Line) → faults ls ≡ count_by (λ l. is_fault (role_of l.outcome)) ls
faults_counted = is_sum_by faults fault_in refl (λ _ _. refl)
