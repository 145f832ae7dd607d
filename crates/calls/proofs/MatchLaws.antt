-- What a match leaves is that of its answer, and only one that is done changes the answer.
use Rattle.std.proofs.Common.{◌≡◌, inl, inr, ℕ, List, Ok, Err, Result, refl, sym, subst}
use Rattle.rows.specs.Rules as rules
use Rattle.fields.specs.Meanings as fields
use Rattle.import.specs.declared.answer.Matched.{Matched}
use Rattle.import.specs.declared.answer.Unmatched.{Unmatched}
use Rattle.import.specs.Matching.{Export, export, Told}
use Rattle.calls.specs.declared.matching.Answer.{Answer}
use Rattle.calls.specs.declared.matching.RefusedAt.{RefusedAt}
use Rattle.calls.specs.declared.status.Status.{Status}
use Rattle.calls.specs.Lefts.{Stays}
use Rattle.calls.specs.Matches.{Left, match_left, Matches}

pub matches : (layout : List ℕ) (rule again : rules.Meaning) (m n means other_means : ℕ → ℕ → fields.Meaning) (file other : List ℕ) (res : Result Matched Unmatched) (left : Left) (a : Answer) (r : RefusedAt) →
    Told layout (export rule m file) (export again n other) res → m ≡ means → n ≡ other_means → left ≡ match_left res a r →
    Matches layout (export rule means file) (export again other_means other) left a r
matches layout rule again m n means other_means file other res left a r told e f is =
    inl (
      res,
      subst (λ y. Told layout (export rule means file) (export again y other) res) f (subst (λ x. Told layout (export rule x file) (export again n other) res) e told),
      is,
    )

res_stays : (res : Result Matched Unmatched) (a : Answer) (r : RefusedAt) → Stays a (match_left res a r).1 (match_left res a r).0
res_stays (Ok m) a r = tt
res_stays (Err why) a r = refl

pub answer_stays : (layout : List ℕ) (one other : Export) (s : Status) (new : Answer) (at : RefusedAt) (a : Answer) (r : RefusedAt) → Matches layout one other (s, new, at) a r → Stays a new s
answer_stays layout one other s new at a r (inl h) = subst (λ (x : Left). Stays a x.1 x.0) (sym h.2) (res_stays h.0 a r)
answer_stays layout one other s new at a r (inr h) = subst (λ (x : Left). Stays a x.1 x.0) (sym h) refl
