-- Kept text: up to the first byte p, or to the row's end.
use Rattle.std.specs.Prelude.{ℕ, min, not, List, [], pos, ◌==◌}
use Rattle.std.specs.List.{prefix_len}
use Rattle.fields.specs.declared.cause.Sort.TheVariants.{Kept}
use Rattle.fields.specs.Meanings.{Meaning, kind}

-- how many bytes stand before the first byte p
abbrev pub before : ℕ → List ℕ → ℕ
before p bs = prefix_len (λ b. not (b == p)) bs

-- how many are taken: a field's number has a size of at most 999,999,999,999, far more than a file has bytes
abbrev pub text_length : ℕ → List ℕ → ℕ
text_length p bs = min (before p bs) 999999999999

abbrev pub text : ℕ → Meaning
text p = kind Kept (λ _. []) (λ bs. (text_length p bs, pos (text_length p bs))) (λ _. [])
