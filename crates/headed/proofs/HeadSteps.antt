-- What the header rule hands out, and what is then to come.
use Rattle.std.proofs.Common.{◌≡◌, ℕ, ◌-◌, Bool, true, false, List, [], ◌∷◌, length, take, drop, sym, refl, ap, ◌∙◌}
use Rattle.std.proofs.lemmas.List.{take_rest}
use Rattle.rows.specs.declared.piece.Mark.TheVariants.{Ended}
use Rattle.headed.specs.Heads.{begins, cut_if, unless, headed_from}

-- no header
none_if : (done : Bool) (file : List ℕ) → unless done (cut_if false file).rows ≡ []
none_if true file = refl
none_if false file = refl

pub none_ahead : (done : Bool) (file : List ℕ) → begins 4 file ≡ false → (headed_from done file).rows ≡ []
none_ahead done file h = ap (λ t. unless done (cut_if t file).rows) h ∙ none_if done file

pub tail_ahead : (done : Bool) (file : List ℕ) → begins 4 file ≡ false → record { start = 0; bytes = file } ≡ (headed_from done file).tail
tail_ahead done file h = ap (λ t. (cut_if t file).tail) (sym h)

-- a header, and the row behind it is to come
pub row_ahead : (done : Bool) (file : List ℕ) → done ≡ false → begins 4 file ≡ true → (headed_from done file).rows ≡ record { start = 4; bytes = take (length file - 4) (drop 4 file); mark = Ended } ∷ []
row_ahead done file d h =
    ap (λ u. unless u (headed_from false file).rows) d
    ∙ ap (λ t. (cut_if t file).rows) h
    ∙ ap (λ b. record { start = 4; bytes = b; mark = Ended } ∷ []) (sym (take_rest file 4))
