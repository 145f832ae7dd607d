-- A number of up to four bytes is a field's number.
use Rattle.std.proofs.Common.{rules}
use Rattle.fields.specs.BigBytes.{four}
use Rattle.fields.proofs.width.Width.signed.Goals as goal

pub overflow_mul-n : goal.overflow_mul-n
overflow_mul-n c = let f = four c.args.self.bytes c.args.self.range.1 in search rules

pub overflow_cast-result-else-n-full : goal.overflow_cast-result-else-n-full
overflow_cast-result-else-n-full c = let f = four c.args.self.bytes c.args.self.range.1 in search rules

pub overflow_cast-result-else-n-full-2 : goal.overflow_cast-result-else-n-full-2
overflow_cast-result-else-n-full-2 c = let f = four c.args.self.bytes c.args.self.range.1 in search rules

pub overflow_sub-result : goal.overflow_sub-result
overflow_sub-result c = let f = four c.args.self.bytes c.args.self.range.1 in search rules
