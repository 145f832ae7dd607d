-- The node with its next part begun is the innermost.
use Rattle.std.proofs.Common.{sym, ap, subst, ◌∙◌, vec_items}
use Rattle.reader.specs.Turns.{begin}
use Rattle.reader.specs.Nesting.{Good}
use Rattle.reader.specs.Models.{nodes_of, constants_of, part_in, parts_from}
use Rattle.reader.proofs.Stacks.{pushed}
use Rattle.reader.proofs.Going.{moved_good}
use Rattle.reader.proofs.reader.Reader.advance.Goals as goal

pub begin-requires-clause-ready : goal.begin-requires-clause-ready
begin-requires-clause-ready g c =
    let s = c.args.source.now in
    let m = c.args.self.now in
    let is = pushed (nodes_of s) (constants_of s) _ _ c.behind.result _ c.push_reserved.ensures.items c.behind.ensures in
    record {
      good = subst (λ fs. Good s.row.now fs (vec_items c.args.lines.now) m.place m.reach) (sym is)
          (moved_good _ _ _ _ _ _ c.requires.ready.good (part_in s c.args.part) _ _ _ (ap (parts_from (nodes_of s) (constants_of s)) c.requires.next));
      few = c.requires.ready.few;
      room = c.requires.ready.room;
    }

pub returns-clause-after : goal.returns-clause-after
returns-clause-after g c =
    let s = c.args.source.now in
    let m = c.args.self.now in
    let is = pushed (nodes_of s) (constants_of s) _ _ c.behind.result _ c.push_reserved.ensures.items c.behind.ensures in
    c.begin.ensures.after
    ∙ ap (λ fs. begin (g.F.Family.means s.family.now) (nodes_of s) s.row.now c.args.trial (part_in s c.args.part) fs (vec_items c.args.lines.now) m.place m.reach) is
