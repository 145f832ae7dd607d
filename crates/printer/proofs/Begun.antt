-- Parts written one behind the other, each from where the last stopped.
use Rattle.std.proofs.Common.{◌≡◌, ℕ, ◌+◌, ◌-◌, ◌<◌, ◌≤◌, List, [], ◌++◌, length, take, drop, Some, get_or, sym, refl, ap, ◌∙◌, append_assoc, append-nil, ap₂, subst, zero-le, arith, length-append, length-drop, take-append-drop, drop-drop}
use Rattle.std.proofs.lemmas.List.{at_drop_more, take_all, drop_all, take_at, drop_at, length-take-le}
use borrow.Rule.Slice.PartMut.{put_mid}
use Rattle.fields.specs.Meanings.{Meaning}
use Rattle.layout.specs.declared.node.Node.{Node}
use Rattle.report.specs.declared.line.Line.{Line}
use Rattle.report.specs.Printing.{printed}
use Rattle.fields.specs.Buffers.{over}
use Rattle.rows.specs.Frames.{laid}
use Rattle.printer.specs.Parts.{line_bytes, text_behind}
use Rattle.printer.specs.Puts.{PutsFirst, PutsAt}

-- A buffer holds the beginning of `whole` up to a place, and `rest` is to come; behind the place it is as it was.
pub record Begun (whole rest old out : List ℕ) (at : ℕ) : Type 0 where
  pub within : at ≤ length out
  pub so_far : take at out ++ rest ≡ whole
  pub behind : drop at out ≡ drop at old

pub begun_start : (whole out : List ℕ) → Begun whole whole out out 0
begun_start whole out = record { within = zero-le; so_far = refl; behind = refl }

-- the same, written out: b is the buffer up to a place, and e what lies behind
begun_at : (whole rest old b e : List ℕ) (at : ℕ) → at ≡ length b → b ++ rest ≡ whole → e ≡ drop at old → Begun whole rest old (b ++ e) at
begun_at whole rest old b e at l s d = record {
  within = omega (arith, length-append b e);
  so_far = ap (λ x. x ++ rest) (take_at b e at (sym l)) ∙ s;
  behind = drop_at b e at (sym l) ∙ d;
}

-- bytes laid over the part of a buffer from a place on
pub put_at : (bytes out new : List ℕ) (at : ℕ) → at ≤ length out → new ≡ laid bytes (take (length out - at) (drop at out)) → put_mid at (length out - at) out new ≡ over at bytes out
put_at bytes out new at h e =
    let k = length out - at in
    let lent : take k (drop at out) ≡ drop at out = take_all k (drop at out) (omega (arith, length-drop at out)) in
    let none : drop k (drop at out) ≡ [] = drop_all k (drop at out) (omega (arith, length-drop at out)) in
    ap (λ x. take at out ++ (new ++ x)) none ∙ ap (λ x. take at out ++ x) (append-nil new ∙ e ∙ ap (laid bytes) lent)

-- a part more has been written
begun_more : (whole part rest old out new : List ℕ) (at n : ℕ) → Begun whole (part ++ rest) old out at → PutsAt part at out (Some n) new → Begun whole rest old new n
begun_more whole part rest old out new at n h p =
    let b = take at out ++ part in
    let e = drop (length part) (drop at out) in
    let all : new ≡ b ++ e = p.2 ∙ sym (append_assoc (take at out) part e) in
    let place : n ≡ length b = omega (arith, p.0, length-append (take at out) part, length-take-le at out h.within) in
    let back : e ≡ drop n old = ap (drop (length part)) h.behind ∙ drop-drop (length part) at old ∙ ap (λ m. drop m old) (sym p.0) in
    rw all (begun_at whole rest old b e n place (append_assoc (take at out) part rest ∙ h.so_far) back)

-- a part has no room, and so the whole has none
begun_full : (whole part rest old out : List ℕ) (at : ℕ) → Begun whole (part ++ rest) old out at → length out < at + length part → length out ≡ length old → length old < length whole
begun_full whole part rest old out at h f l =
    let w = h.within in
    omega (arith, l, f, ap length h.so_far, length-append (take at out) (part ++ rest), length-append part rest, length-take-le at out h.within)

-- all has been written
pub begun_done : (whole old out : List ℕ) (at : ℕ) → Begun whole [] old out at → length out ≡ length old → PutsFirst whole old (Some at) out
begun_done whole old out at h l =
    let w = h.within in
    let same : take at out ≡ whole = sym (append-nil (take at out)) ∙ h.so_far in
    let place : at ≡ length whole = sym (length-take-le at out h.within) ∙ ap length same in
    (place, omega arith, sym (take-append-drop at out) ∙ ap (λ x. x ++ drop at out) same ∙ ap (λ x. whole ++ x) (h.behind ∙ ap (λ n. drop n old) place))

-- the part of line i, and the parts behind it
printed_more : (means : ℕ → ℕ → Meaning) (nodes : List Node) (lines : List Line) (i : ℕ) (d : Line) (text part rest : List ℕ) → i < length lines →
    part ≡ line_bytes means nodes (get_or lines i d) text → rest ≡ text_behind means nodes (get_or lines i d) text →
    printed means nodes (drop i lines) text ≡ part ++ printed means nodes (drop (i + 1) lines) rest
printed_more means nodes lines i d text part rest h p r =
    at_drop_more (λ ls. printed means nodes ls text) lines i d h ∙ ap₂ (λ b t. b ++ printed means nodes (drop (i + 1) lines) t) (sym p) (sym r)

-- that part has been written
pub begun_next : (means : ℕ → ℕ → Meaning) (nodes : List Node) (lines : List Line) (i : ℕ) (d : Line) (text part rest whole old out new : List ℕ) (at n : ℕ) → i < length lines →
    part ≡ line_bytes means nodes (get_or lines i d) text → rest ≡ text_behind means nodes (get_or lines i d) text →
    Begun whole (printed means nodes (drop i lines) text) old out at → PutsAt part at out (Some n) new → Begun whole (printed means nodes (drop (i + 1) lines) rest) old new n
begun_next means nodes lines i d text part rest whole old out new at n h p r b w =
    begun_more whole part (printed means nodes (drop (i + 1) lines) rest) old out new at n (subst (λ to_come. Begun whole to_come old out at) (printed_more means nodes lines i d text part rest h p r) b) w

-- that part has no room
pub begun_stop : (means : ℕ → ℕ → Meaning) (nodes : List Node) (lines : List Line) (i : ℕ) (d : Line) (text part rest whole old out : List ℕ) (at : ℕ) → i < length lines →
    part ≡ line_bytes means nodes (get_or lines i d) text → rest ≡ text_behind means nodes (get_or lines i d) text →
    Begun whole (printed means nodes (drop i lines) text) old out at → length out < at + length part → length out ≡ length old → length old < length whole
begun_stop means nodes lines i d text part rest whole old out at h p r b f l =
    begun_full whole part (printed means nodes (drop (i + 1) lines) rest) old out at (subst (λ to_come. Begun whole to_come old out at) (printed_more means nodes lines i d text part rest h p r) b) f l
