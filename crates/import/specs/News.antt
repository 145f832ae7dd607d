-- What new answers, and what the import is after it; and an import that is made empty.
use Rattle.std.specs.Prelude.{ℕ, Bool, List, [], ◌∷◌, length, None, nat_lt}
use Rattle.std.specs.Option.{option_map}
use Rattle.rows.specs.Cuts.{Cut}
use Rattle.rows.specs.Rules as rules
use Rattle.fields.specs.Meanings as fields
use Rattle.layout.specs.Trees.{blank}
use Rattle.layout.specs.Shapes.{sorts}
use Rattle.layout.specs.Files.{refusal}
use Rattle.import.specs.declared.answer.Counts.{Counts}
use Rattle.import.specs.declared.stage.Stage.{Stage}
use Rattle.import.specs.declared.stage.Stage.TheVariants.{Empty, Between, Unread, Read, End}
use Rattle.import.specs.declared.refusal.Refusal.{Refusal}
use Rattle.import.specs.declared.refusal.Refusal.TheVariants.{Layout, FileTooLong, WrongMoment}
use Rattle.import.specs.Models.{Setting, under, Model}
use Rattle.import.specs.Calls.{done}
use Rattle.import.specs.Steps.{Out, no, tried, test_of}

abbrev pub no_counts : Counts
no_counts = record { opened = 0; kept = 0; set_aside = 0 }

-- before the first file: the layout is one mark, which nothing reads by
abbrev pub blank_setting : rules.Meaning → (ℕ → ℕ → fields.Meaning) → Setting
blank_setting rule means = record { rule = rule; means = means; nodes = blank ∷ []; constants = [] }

-- an import that is empty; `ahead` is what its rule has ahead, which nobody asks for
abbrev pub empty : Setting → Cut → Model
empty s ahead = record { setting = s; number = 0; size = 0; stage = Empty; counts = no_counts; ahead = ahead; standing = None }

-- an import that has just taken a file: all its rows are to come, nothing is counted, and no report stands
abbrev pub fresh : Setting → ℕ → List ℕ → Model
fresh s number file = record { setting = s; number = number; size = length file; stage = Between; counts = no_counts; ahead = s.rule.cut file; standing = None }

-- the reasons not to take a file: it is too long, and then those of its layout file
abbrev pub untakable : (ℕ → ℕ → fields.Meaning) → List ℕ → List ℕ → List (Bool × Refusal)
untakable means layout file = (nat_lt 16777216 (length file), FileTooLong) ∷ test_of (option_map Layout (refusal (sorts means) layout))

abbrev pub take_file : Model → ℕ → List ℕ → rules.Meaning → List ℕ → Out
take_file m number layout rule file = tried (untakable m.setting.means layout file) m (done, fresh (under rule m.setting.means layout) number file)

abbrev pub new_at : Model → Stage → ℕ → List ℕ → rules.Meaning → List ℕ → Out
new_at m Empty number layout rule file = take_file m number layout rule file
new_at m Between number layout rule file = take_file m number layout rule file
new_at m (Unread start n mark) number layout rule file = no WrongMoment m
new_at m Read number layout rule file = no WrongMoment m
new_at m (End start n) number layout rule file = take_file m number layout rule file

-- an import number, a layout file, a rule and a file
abbrev pub step_new : Model → ℕ → List ℕ → rules.Meaning → List ℕ → Out
step_new m number layout rule file = new_at m m.stage number layout rule file
