-- What an import of the program stands for.
use Rattle.std.specs.Prelude.{ℕ, List, Some, None, Option}
use Rattle.rows.specs.declared.rule.RowRule as RowRule
use Rattle.rows.specs.declared.piece.Mark.{Mark}
use Rattle.fields.specs.declared.family.Family as Family
use Rattle.store.specs.declared.memory.Report.{Report}
use Rattle.store.specs.Stored as stored
use Rattle.import.specs.declared.import.Import.{Import}
use Rattle.import.specs.Models.{Setting, Standing, Model}

-- the report stands if its row's mark is there
abbrev pub standing : Report → Option Mark → Option Standing
standing r None = None
standing r (Some mark) = Some (record { report = stored.report_of r; mark = mark })

-- The setting and the model of an import, by what its family and rule mean, and what the rule has ahead of the file at hand.
module _ {F R : Type 0} {f : Family.Ghosts F} {r : RowRule.Ghosts R} where
  abbrev pub setting_of : Import F R f r → Setting
  setting_of i = record { rule = r.means i.rule; means = f.means i.family; nodes = i.layout.nodes.items; constants = i.layout.constants.items }

  abbrev pub model_of : List ℕ → Import F R f r → Model
  model_of file i = record {
    setting = setting_of i;
    number = i.number;
    size = i.size;
    stage = i.stage;
    counts = i.counts;
    ahead = r.ahead i.rule file;
    standing = standing i.report i.standing;
  }
