-- One digit is one byte, and digits that end at a place begin where they should.
use Rattle.std.proofs.Common.{◌≡◌, decimal, take, drop, ap, sym, ◌∙◌, arith}
use Rattle.std.proofs.lemmas.Fmt.{decimal_digit, decimal_nonempty}
use Rattle.fields.specs.Buffers.{over}
use Rattle.fields.proofs.Writing.{part_over}
use Rattle.fields.proofs.spelling.put_decimal.Goals as goal

pub put_byte-requires : goal.put_byte-requires
put_byte-requires c = omega (arith, c.requires.0, c.requires.1, decimal_nonempty c.args.n (omega arith))

pub returns-then-n-lt10 : goal.returns-then-n-lt10
returns-then-n-lt10 c =
    c.put_byte.ensures ∙ sym (ap (λ w. over c.args.at w c.args.out.now) (decimal_digit c.args.n (omega (arith, c.if-n-lt10))))

pub returns-else-n-lt10 : goal.returns-else-n-lt10
returns-else-n-lt10 c =
    let out = c.args.out.now in
    let new = c.write_digits.new.buf in
    let s : c.write_digits.result ≡ c.args.at = omega (arith, c.write_digits.ensures.start, c.requires.0) in
    part_over c.args.at c.args.end (decimal c.args.n) out new c.requires.0
    (sym (ap (λ k. drop k new) s) ∙ c.write_digits.ensures.written)
    (sym (ap (λ k. take k new) s) ∙ c.write_digits.ensures.before ∙ ap (λ k. take k out) s)
