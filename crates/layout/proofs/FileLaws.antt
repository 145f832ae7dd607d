-- What loading a file of the right size gives.
use Rattle.std.proofs.Common.{◌≡◌, ℕ, ◌+◌, ◌*◌, false, ◌||◌, List, map, length, take, drop, None, sym, ap, ◌∙◌, arith}
use Rattle.std.proofs.lemmas.List.{length-take, length-drop}
use Rattle.std.proofs.lemmas.Bool.{or_from}
use Rattle.std.specs.List.{list_any}
use Rattle.fields.specs.declared.cause.Sort.{Sort}
use Rattle.packed.specs.declared.record.NodeRecord.{NodeRecord}
use Rattle.packed.specs.Pieces.{records, loaded}
use Rattle.packed.specs.NodeForm.{unpacked}
use Rattle.packed.specs.Constants.{constant_of}
use Rattle.packed.proofs.Loads.{length_records, loaded_exact}
use Rattle.layout.specs.declared.refusal.Refusal.TheVariants.{Size}
use Rattle.layout.specs.Refusals.{or_else}
use Rattle.layout.specs.Links.{any_node, ill_linked, stranded, too_deep, hang_ill}
use Rattle.layout.specs.Shapes.{node_of, link_in, links, links_in, misplaced}
use Rattle.layout.specs.Judged.{limits, judged}
use Rattle.layout.specs.Files.{node_count, constant_count, Sized, records_in, constants_in, refusal}
use Rattle.layout.proofs.Any.{any_map}
use Rattle.layout.proofs.Accepted.{passed, same_links, all_placed}

module _ (bytes : List ℕ) (n k : ℕ) (sized : Sized bytes n k) where
  node_bytes_long : length (take (8 * n) (drop 2 bytes)) ≡ 8 * n
  node_bytes_long = let h = sized.long in simp (length-take, length-drop) (omega arith)

  node_bytes_are : take (8 * n) (drop 2 bytes) ≡ take (8 * node_count bytes) (drop 2 bytes)
  node_bytes_are = ap (λ m. take (8 * m) (drop 2 bytes)) sized.nodes_are

  -- the records that are loaded are those of the file
  pub records_are : (out : List NodeRecord) → length out ≡ n → loaded (records unpacked (take (8 * n) (drop 2 bytes))) out ≡ records_in bytes
  records_are out e =
      loaded_exact unpacked (take (8 * n) (drop 2 bytes)) out (node_bytes_long ∙ ap (λ m. 8 * m) (sym e)) ∙ ap (records unpacked) node_bytes_are

  pub records_count : length (records_in bytes) ≡ n
  records_count = exact (records unpacked (take (8 * n) (drop 2 bytes))) (ap (records unpacked) node_bytes_are) counted
    where
      exact : (rs : List NodeRecord) → rs ≡ records_in bytes → length rs ≡ n → length (records_in bytes) ≡ n
      exact rs e h = sym (ap length e) ∙ h

      counted : length (records unpacked (take (8 * n) (drop 2 bytes))) ≡ n
      counted = length_records unpacked (take (8 * n) (drop 2 bytes)) ∙ omega (arith, node_bytes_long)

  pub constants_long : length (drop (2 + 8 * n) bytes) ≡ 8 * k
  constants_long = let h = sized.long in simp length-drop (omega arith)

  pub constants_are : records constant_of (drop (2 + 8 * n) bytes) ≡ constants_in bytes
  constants_are = ap (λ m. records constant_of (drop (2 + 8 * m) bytes)) sized.nodes_are

  pub constants_count : length (constants_in bytes) ≡ k
  constants_count = sym (ap length constants_are) ∙ length_records constant_of (drop (2 + 8 * n) bytes) ∙ omega (arith, constants_long)

  -- what is judged of the records is the file's refusal
  pub judged_file : (sorts : ℕ → ℕ → Sort) → judged limits sorts k (records_in bytes) ≡ refusal sorts bytes
  judged_file sorts =
      ap (λ m. judged limits sorts m (records_in bytes)) sized.constants_are
      ∙ sym (ap (λ b. or_else b Size (judged limits sorts (constant_count bytes) (records_in bytes))) sized.right)

-- the nodes of a table that meets no refusal hang together
pub nodes_hang : (sorts : ℕ → ℕ → Sort) (k : ℕ) (rs : List NodeRecord) → judged limits sorts k rs ≡ None → hang_ill 16 (links (map node_of rs)) ≡ false
nodes_hang sorts k rs h =
    let p = passed limits sorts k rs h in
    let ls = links_in rs in
    ap (hang_ill 16) (same_links rs p.0.clean)
    ∙ or_from (any_node (ill_linked ls) ls) (any_node (stranded ls) ls || too_deep 16 ls) (any_map (ill_linked ls) link_in 0 rs ∙ p.0.rising)
    (or_from (any_node (stranded ls) ls) (too_deep 16 ls) (any_map (stranded ls) link_in 0 rs ∙ p.0.once) p.1)

pub nodes_placed : (sorts : ℕ → ℕ → Sort) (k : ℕ) (rs : List NodeRecord) → judged limits sorts k rs ≡ None → list_any (λ n. misplaced 32 k n.shape) (map node_of rs) ≡ false
nodes_placed sorts k rs h = all_placed 32 k (omega arith) rs (passed limits sorts k rs h).0.inside
