-- Constants: eight bytes in two's complement.
use Rattle.std.specs.Prelude.{ℕ, ◌^◌, cond, List, ℤ, pos, ◌-ℤ◌, nat_lt}
use Rattle.packed.specs.Octets.{big}

-- a number of 64 bits as two's complement: from 2 ^ 63 on it stands for itself less 2 ^ 64
abbrev pub twos : ℕ → ℤ
twos n = cond (nat_lt n (2 ^ 63)) (pos n) (pos n -ℤ pos (2 ^ 64))

abbrev pub constant_of : List ℕ → ℤ
constant_of bytes = twos (big bytes)
