-- One record more, and as many as both have.
use Rattle.std.proofs.Common.{◌≡◌, ◌<◌, min, [], length, set, ap, ◌∙◌, arith}
use Rattle.std.proofs.lemmas.List.{length-take, get_or-take}
use Rattle.packed.specs.Pieces.{records}
use Rattle.packed.proofs.Loads.{length_records, record_at, loaded_more, loaded_all}
use Rattle.packed.proofs.loader.load.Goals as goal

pub loop-i-preserved : goal.loop-i-preserved
loop-i-preserved g c =
    let decode = g.T.Packed.decode in
    let bytes = c.args.bytes.now in
    let pieces = c.as_chunks.result.0.now in
    let count = c.min-count.result in
    let i = c.loop-i.i in
    let r = c.unpack.result in
    let long = length_records decode bytes in
    let few = length-take count pieces in
    let more : i < count = omega arith in
    let e = record_at decode bytes pieces i r c.as_chunks.ensures.front (omega arith) (c.unpack.ensures ∙ ap decode (get_or-take count pieces i [] more)) in
    (omega arith, ap (λ x. set x i r) c.loop-i.invariant.1 ∙ loaded_more (records decode bytes) c.args.out.now i r (omega arith) (omega arith) e)

pub returns : goal.returns
returns g c =
    let rs = records g.T.Packed.decode c.args.bytes.now in
    let out = c.args.out.now in
    let long = length_records g.T.Packed.decode c.args.bytes.now in
    let few = length-take c.min-count.result c.as_chunks.result.0.now in
    let n : c.min-count.result ≡ min (length rs) (length out) = omega arith in
    record { count = n; after = c.loop-i.invariant.1 ∙ loaded_all rs out c.loop-i.i (omega arith) }
