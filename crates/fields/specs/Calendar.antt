-- The calendar: the days of a month, and which dates there are.
use Rattle.std.specs.Prelude.{ℕ, ◌%◌, Bool, cond, ◌&&◌, ◌||◌, ◌==◌, nat_le}

-- a leap year is divisible by four
abbrev pub leap : ℕ → Bool
leap y = y % 4 == 0

-- how many days a month of a year has, and none where there is no such month
abbrev pub days : ℕ → ℕ → ℕ
days y m =
    cond (m == 2) (cond (leap y) 29 28)
    (cond (m == 4 || (m == 6 || (m == 9 || m == 11))) 30
    (cond (nat_le 1 m && nat_le m 12) 31 0))

-- years 1900 to 2199, and a day that the month has
abbrev pub is_date : ℕ → ℕ → ℕ → Bool
is_date y m d = (nat_le 1900 y && nat_le y 2199) && (nat_le 1 d && nat_le d (days y m))
