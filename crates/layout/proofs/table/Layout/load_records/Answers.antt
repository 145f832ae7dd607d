-- The refusal of the file, or its nodes and constants.
use Rattle.std.proofs.Common.{◌≡◌, Option, Some, None, Ok, Err, ◌≤◌, map, length, vec_items, vec_len, vec_capacity, refl, ap, ◌∙◌, arith}
use Rattle.std.proofs.lemmas.List.{length-map}
use Rattle.std.proofs.lemmas.Result.{err_from_is_err_and}
use Rattle.std.specs.List.{list_any}
use Rattle.packed.specs.Pieces.{records, loaded}
use Rattle.packed.specs.NodeForm.{unpacked}
use Rattle.packed.specs.Constants.{constant_of}
use Rattle.layout.specs.declared.node.Node.{Node}
use Rattle.layout.specs.declared.refusal.Refusal.{Refusal}
use Rattle.layout.specs.Links.{hang_ill}
use Rattle.layout.specs.Shapes.{node_of, links, sorts, names_none, misplaced}
use Rattle.layout.specs.Judged.{limits, judged}
use Rattle.layout.specs.Files.{records_in, answer}
use Rattle.layout.proofs.Accepted.{all_named}
use Rattle.layout.proofs.FileLaws.{records_are, records_count, constants_are, constants_count, judged_file, nodes_hang, nodes_placed}
use Rattle.layout.proofs.table.Layout.load_records.Goals as goal

-- what is accepted met no refusal
none_answered : (o : Option Refusal) → Ok tt ≡ answer o → o ≡ None
none_answered None e = refl
none_answered (Some r) e = cc

pub returns-in_err-judge-clause-value : goal.returns-in_err-judge-clause-value
returns-in_err-judge-clause-value g c =
    let bytes = c.args.bytes.now in
    let n = c.args.header.nodes in
    let k = c.args.header.constants in
    let knows = sorts (g.F.Family.means c.args.family.now) in
    let rs = c.load.ensures.after ∙ ap (λ bs. loaded (records unpacked bs) c.args.records.now) c.records.ensures.nodes ∙ records_are bytes n k c.requires.sized c.args.records.now c.requires.room in
    let p = err_from_is_err_and c.from_residual.result c.from_residual.ensures.1 in
    p.1 ∙ ap Err p.2 ∙ c.in_err-judge.ensures ∙ ap (λ r. answer (judged limits knows k r)) rs ∙ ap answer (judged_file bytes n k c.requires.sized knows)

pub invariant_of-self : goal.invariant_of-self
invariant_of-self g c =
    let bytes = c.args.bytes.now in
    let n = c.args.header.nodes in
    let k = c.args.header.constants in
    let knows = sorts (g.F.Family.means c.args.family.now) in
    let nodes = c.put_nodes.new.out in
    let constants = c.put_constants.new.out in
    let rs = c.load.ensures.after ∙ ap (λ bs. loaded (records unpacked bs) c.args.records.now) c.records.ensures.nodes ∙ records_are bytes n k c.requires.sized c.args.records.now c.requires.room in
    let accepted : judged limits knows k (records_in bytes) ≡ None = none_answered _ (c.in_ok-judge.ensures ∙ ap (λ r. answer (judged limits knows k r)) rs) in
    let nodes_are = c.put_nodes.ensures.items ∙ ap (map node_of) rs in
    let constants-are' = c.put_constants.ensures.items ∙ ap (records constant_of) c.records.ensures.constants ∙ constants_are bytes n k c.requires.sized in
    let count : vec_len nodes ≡ n = nodes.ok.0 ∙ ap length nodes_are ∙ length-map (records_in bytes) node_of ∙ records_count bytes n k c.requires.sized in
    let constant-count : vec_len constants ≡ k = constants.ok.0 ∙ ap length constants-are' ∙ constants_count bytes n k c.requires.sized in
    let room : (200 ≤ vec_capacity nodes) × (64 ≤ vec_capacity constants) = (omega (arith, c.put_nodes.ensures.capacity, c.args.self.now.room.0), omega (arith, c.put_constants.ensures.capacity, c.args.self.now.room.1)) in
    let hangs = ap (λ ns. hang_ill 16 (links ns)) nodes_are ∙ nodes_hang knows k (records_in bytes) accepted in
    let numbered = ap (list_any (λ (q : Node). names_none q.next)) nodes_are ∙ all_named (records_in bytes) in
    let placed =
    ap (λ m. list_any (λ (q : Node). misplaced 32 m q.shape) (vec_items nodes)) constant-count
    ∙ ap (list_any (λ (q : Node). misplaced 32 k q.shape)) nodes_are
    ∙ nodes_placed knows k (records_in bytes) accepted in
    record { room = room; few = (omega (arith, c.requires.sized.some), omega (arith, c.requires.sized.few)); hangs = hangs; numbered = numbered; placed = placed }

pub returns : goal.returns
returns g c =
    let bytes = c.args.bytes.now in
    let n = c.args.header.nodes in
    let k = c.args.header.constants in
    let knows = sorts (g.F.Family.means c.args.family.now) in
    let rs = c.load.ensures.after ∙ ap (λ bs. loaded (records unpacked bs) c.args.records.now) c.records.ensures.nodes ∙ records_are bytes n k c.requires.sized c.args.records.now c.requires.room in
    record {
      value = c.in_ok-judge.ensures ∙ ap (λ r. answer (judged limits knows k r)) rs ∙ ap answer (judged_file bytes n k c.requires.sized knows);
      after = (c.put_nodes.ensures.items ∙ ap (map node_of) rs, c.put_constants.ensures.items ∙ ap (records constant_of) c.records.ensures.constants ∙ constants_are bytes n k c.requires.sized);
      room = (c.put_nodes.ensures.capacity, c.put_constants.ensures.capacity);
    }
