-- A number's last bytes, at the beginning.
use Rattle.std.proofs.Common.{sym, ap, ◌∙◌}
use Rattle.fields.specs.Buffers.{laid}
use Rattle.fields.specs.Octets.{octets}
use Rattle.fields.specs.BigBytes.{length_octets}
use Rattle.fields.proofs.Writing.{written_room, written_none}
use Rattle.fields.proofs.width.Width.spell.Goals as goal

pub returns-then-out-width : goal.returns-then-out-width
returns-then-out-width c = written_none c.from-width.result (octets c.args.self.bytes c.args.n) c.args.out.now (c.from-width.ensures ∙ sym (length_octets c.args.self.bytes c.args.n)) c.if-out-width.true

pub returns : goal.returns
returns c =
    let p = c.args.self.bytes in
    written_room c.from-width.result (octets p c.args.n) c.put_places.new.out c.args.out.now (c.from-width.ensures ∙ sym (length_octets p c.args.n)) c.if-out-width.false
    (c.put_places.ensures ∙ ap (λ k. laid (octets k c.args.n) c.args.out.now) c.from-width.ensures)
