-- Eight bytes and the number that they make.
use Rattle.std.proofs.Common.{◌≡◌, ℕ, ◌+◌, ◌-◌, ◌*◌, ◌^◌, ◌<◌, List, length, get_or, drop, sym, ap, ◌∙◌, arith}
use Rattle.std.proofs.lemmas.List.{at_drop_more, at_drop_all}
use Rattle.fields.specs.Laws.{Bytes}
use Rattle.fields.specs.Places.{number_from, places_from}
use Rattle.fields.specs.PlaceValues.{number_places, places_number}
use Rattle.fields.specs.BigBytes.{each_from}
use Rattle.packed.specs.Octets.{big, octets}

-- the number that bytes make, after those of n
abbrev on : ℕ → List ℕ → ℕ
on n bytes = number_from 256 0 n bytes

-- byte by byte
pub big_eight : (bytes : List ℕ) → length bytes ≡ 8 → get_or bytes 0 0 * 72057594037927936 + get_or bytes 1 0 * 281474976710656 + get_or bytes 2 0 * 1099511627776 + get_or bytes 3 0 * 4294967296 + get_or bytes 4 0 * 16777216 + get_or bytes 5 0 * 65536 + get_or bytes 6 0 * 256 + get_or bytes 7 0 ≡ big bytes
big_eight bytes h =
    let one : (n i : ℕ) → i < 8 → on n (drop i bytes) ≡ on (n * 256 + (get_or bytes i 0 - 0)) (drop (i + 1) bytes) = λ n i k. at_drop_more (on n) bytes i 0 (omega arith) in
    let all = one 0 0 (omega arith) ∙ one _ 1 (omega arith) ∙ one _ 2 (omega arith) ∙ one _ 3 (omega arith) ∙ one _ 4 (omega arith) ∙ one _ 5 (omega arith) ∙ one _ 6 (omega arith) ∙ one _ 7 (omega arith) ∙ at_drop_all (on _) bytes 8 (omega arith) in
    omega (arith, all)

-- a number of 64 bits is that of its bytes
pub big_octets : (n : ℕ) → n < 2 ^ 64 → big (octets n) ≡ n
big_octets n h = number_places 256 (λ b. b - 0) (λ d. 0 + d) (λ d k. omega arith) (omega arith) 8 n h

-- eight bytes are those of their number
pub octets_big : (bytes : List ℕ) → Bytes bytes → length bytes ≡ 8 → octets (big bytes) ≡ bytes
octets_big bytes h e = ap (λ w. places_from 256 0 w (big bytes)) (sym e) ∙ places_number 256 (λ b. b - 0) (λ d. 0 + d) bytes (each_from bytes h)

pub big_below : (bytes : List ℕ) → Bytes bytes → length bytes ≡ 8 → big bytes < 2 ^ 64
big_below bytes h e = omega (arith, big_eight bytes e, h 0, h 1, h 2, h 3, h 4, h 5, h 6, h 7)
