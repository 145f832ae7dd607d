-- Each kind by its spellings.
use Rattle.fields.proofs.WholeRule.{whole_rule}
use Rattle.fields.proofs.AmountRule.{amount_rule}
use Rattle.fields.proofs.DateRule.{date_rule}
use Rattle.fields.proofs.BinaryRule.{unsigned_rule, complement_rule}
use Rattle.fields.proofs.rules.read_by_spelling.Goals as goal

pub returns : goal.returns
returns c = record { wholes = whole_rule; amounts = amount_rule; dates = date_rule; unsigneds = unsigned_rule; complements = complement_rule }
