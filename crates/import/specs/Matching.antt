-- Matching a resent export against the first, by what reading tells of their rows.
use Rattle.std.specs.Prelude.{◌≡◌, ◌≢◌, ◌⊎◌, ◌↔◌, ℕ, ◌+◌, List, [], ◌∷◌, map, Ok, Err, Result}
use Rattle.rows.specs.Cuts.{RowAt, Each}
use Rattle.rows.specs.Rules as rules
use Rattle.rows.specs.declared.piece.Mark as marks
use Rattle.fields.specs.Meanings as fields
use Rattle.report.specs.Reports as reports
use Rattle.import.specs.declared.answer.Side.TheVariants.{First, Resent}
use Rattle.import.specs.declared.answer.Difference.TheVariants.{Report, Mark, MissingInFirst, MissingInResent, Tail}
use Rattle.import.specs.declared.answer.Matched.{Matched}
use Rattle.import.specs.declared.answer.Matched.TheVariants.{Same, Differs}
use Rattle.import.specs.declared.answer.Unmatched.{Unmatched}
use Rattle.import.specs.declared.answer.Unmatched.TheVariants.{NotTaken, Unread}
use Rattle.import.specs.declared.refusal.Refusal.{Refusal}
use Rattle.import.specs.Models.{Setting, under}
use Rattle.import.specs.Calls.{Answer, refused, done}
use Rattle.import.specs.Steps.{report_of}
use Rattle.import.specs.Tells.{rows_in_file, tail_of, read_says, new_says}

-- one side of a match: what its rule and its family mean, and its file
pub record Export : Type 0 where
  pub rule : rules.Meaning
  pub means : ℕ → ℕ → fields.Meaning
  pub file : List ℕ

abbrev pub export : rules.Meaning → (ℕ → ℕ → fields.Meaning) → List ℕ → Export
export rule means file = record { rule = rule; means = means; file = file }

-- what is told of a row: what its read answers, its report, and its mark
pub record RowTold : Type 0 where
  pub read : Answer
  pub report : reports.Report
  pub mark : marks.Mark

abbrev pub told_of : Setting → RowAt → RowTold
told_of s r = record { read = read_says s r.bytes; report = report_of s r.bytes; mark = r.mark }

-- A call that is refused makes the match refused, told so; else it goes on.
abbrev pub IfRefused : Answer → (Refusal → Unmatched) → Result Matched Unmatched → Type 0 → Type 0
IfRefused (refused why) told res on = res ≡ Err (told why)
IfRefused a told res on = on

-- Where two are not equal, the match answers so; else it goes on.
abbrev pub IfUnequal : {X : Type 0} → X → X → Matched → Result Matched Unmatched → Type 0 → Type 0
IfUnequal x y answer res on = ((x ≢ y) × (res ≡ Ok answer)) ⊎ ((x ≡ y) × on)

-- What is answered of the rows of two exports from number n on, and of the tails behind them. Row by row both are read, first's first, and then compared.
abbrev pub RowsTold : Result Matched Unmatched → ℕ → List RowTold → List ℕ → List RowTold → List ℕ → Type 0
RowsTold res n [] t [] u = IfUnequal t u (Differs n Tail) res (res ≡ Ok Same)
RowsTold res n [] t (b ∷ ys) u = IfRefused b.read (Unread Resent n) res (res ≡ Ok (Differs n MissingInFirst))
RowsTold res n (a ∷ xs) t [] u = IfRefused a.read (Unread First n) res (res ≡ Ok (Differs n MissingInResent))
RowsTold res n (a ∷ xs) t (b ∷ ys) u =
    IfRefused a.read (Unread First n) res (IfRefused b.read (Unread Resent n) res (
    IfUnequal a.report b.report (Differs n Report) res (IfUnequal a.mark b.mark (Differs n Mark) res (RowsTold res (n + 1) xs t ys u))))

-- the same of all rows of two files, each under its setting
abbrev pub FilesTold : Result Matched Unmatched → Setting → List ℕ → Setting → List ℕ → Type 0
FilesTold res s file t other = RowsTold res 1 (map (told_of s) (rows_in_file s file)) (tail_of s file) (map (told_of t) (rows_in_file t other)) (tail_of t other)

-- What a match answers, whatever the layout file, the rules, the families and the files are: both exports are taken, first's first, and then their rows are told.
abbrev pub Told : List ℕ → Export → Export → Result Matched Unmatched → Type 0
Told layout a b res =
    IfRefused (new_says a.means layout a.file) (NotTaken First) res (IfRefused (new_says b.means layout b.file) (NotTaken Resent) res (
    FilesTold res (under a.rule a.means layout) a.file (under b.rule b.means layout) b.file))

-- There is one such answer.
abbrev pub OneAnswer : Type 0
OneAnswer = (layout : List ℕ) (a b : Export) (p q : Result Matched Unmatched) → Told layout a b p → Told layout a b q → p ≡ q

-- a read of any row of the export is accepted
abbrev pub EveryRowReadable : List ℕ → Export → Type 0
EveryRowReadable layout e = Each (λ r. read_says (under e.rule e.means layout) r.bytes ≡ done) (rows_in_file (under e.rule e.means layout) e.file)

-- Under one rule and family, where a match is not refused, so that both exports were taken and every read that it made was accepted, the answer is that they are the same exactly when the two files are equal.
abbrev pub SameWhereRead : Export → Export → Result Matched Unmatched → Type 0
SameWhereRead a b (Ok m) = a.rule ≡ b.rule → a.means ≡ b.means → (m ≡ Same) ↔ (a.file ≡ b.file)
SameWhereRead a b (Err why) = Unit {0}

-- And where neither export is refused and a read of any of their rows is accepted, it is not refused.
abbrev pub SameExactly : List ℕ → Export → Export → Result Matched Unmatched → Type 0
SameExactly layout a b res = a.rule ≡ b.rule → a.means ≡ b.means → new_says a.means layout a.file ≡ done → new_says b.means layout b.file ≡ done →
    EveryRowReadable layout a → EveryRowReadable layout b → (res ≡ Ok Same) ↔ (a.file ≡ b.file)
