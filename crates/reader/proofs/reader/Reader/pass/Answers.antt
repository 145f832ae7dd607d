-- The node with its part passed over is the innermost.
use Rattle.std.proofs.Common.{[], ◌∷◌, ◌++◌, sym, ap, ◌∙◌, vec_items}
use Rattle.report.specs.Lines.{skipped}
use Rattle.reader.specs.Turns.{moved}
use Rattle.reader.specs.Models.{nodes_of, constants_of, node_in, part_in, later_in, stack_of}
use Rattle.reader.proofs.Numbers.{number_is}
use Rattle.reader.proofs.Stacks.{pushed, states}
use Rattle.reader.proofs.reader.Reader.pass.Goals as goal

pub returns-clause-after : goal.returns-clause-after
returns-clause-after g c =
    let s = c.args.source.now in
    let nodes = nodes_of s in
    let constants = constants_of s in
    let st = c.write.ensures.stays in
    states c.args.told
    (pushed nodes constants _ _ c.behind.result _ c.push_reserved.ensures.items c.behind.ensures
    ∙ ap (λ v. moved (node_in s c.args.f) (part_in s c.args.part) (later_in s c.args.part) c.args.f.branch ∷ stack_of nodes constants (vec_items v)) st.0)
    (c.write.ensures.lines ∙ ap (λ i. vec_items c.args.lines.now ++ skipped i c.args.self.now.place ∷ []) (sym (number_is nodes constants c.args.part)))
    st.1
    c.write.ensures.reach
