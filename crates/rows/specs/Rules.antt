-- What a row rule means for any file, and what every rule owes.
use Rattle.std.specs.Prelude.{◌≡◌, ℕ, Bool, true, List, [], ◌∷◌, ◌++◌, ◌≢◌}
use Rattle.rows.specs.Cuts.{Text, Cut, texts, frames, Each, PartOf, Bytes, File}
use Rattle.rows.specs.declared.piece.Mark.{Mark}

-- The fixed part of a rule, the same at every moment: how it cuts a file, the frame of a row under a mark
-- (the bytes that stand for them in any file), and which rows it carries under which mark.
pub record Meaning : Type 0 where
  pub cut : List ℕ → Cut
  pub frame : List ℕ → Mark → List ℕ
  pub carries : List ℕ → Mark → Bool

-- the file that frames and a tail make
abbrev pub joined : Meaning → List Text → List ℕ → List ℕ
joined m ts tail = frames m.frame ts ++ tail

-- other bytes under the mark that a row has
abbrev pub swapped : Text → List ℕ → Text
swapped old new = record { bytes = new; mark = old.mark }

-- each row and the tail is that part of the file
abbrev pub Parts : List ℕ → Cut → Type 0
Parts file c = Each (λ r. PartOf file r.start r.bytes) c.rows × PartOf file c.tail.start c.tail.bytes

-- no row has an empty frame
abbrev pub NoEmptyFrame : Meaning → List ℕ → Type 0
NoEmptyFrame m file = Each (λ r. m.frame r.bytes r.mark ≢ []) (m.cut file).rows

-- the frames of all rows in order, then the tail, are the file
abbrev pub FramesAreTheFile : Meaning → List ℕ → Type 0
FramesAreTheFile m file = joined m (texts (m.cut file).rows) (m.cut file).tail.bytes ≡ file

-- Exchange one row for a carried one under its mark, within the file limit: all other rows, all marks and the tail stay.
abbrev pub ExchangeLeavesTheRest : Meaning → List ℕ → Type 0
ExchangeLeavesTheRest m file =
    (before after : List Text) (old : Text) (new other : List ℕ) →
    texts (m.cut file).rows ≡ before ++ old ∷ after →
    Bytes new →
    m.carries new old.mark ≡ true →
    other ≡ joined m (before ++ swapped old new ∷ after) (m.cut file).tail.bytes →
    File other →
    (texts (m.cut other).rows ≡ before ++ swapped old new ∷ after) × ((m.cut other).tail.bytes ≡ (m.cut file).tail.bytes)

-- What every rule owes, of every file.
pub record Lawful (m : Meaning) : Type 0 where
  pub parts : (file : List ℕ) → File file → Parts file (m.cut file)
  pub no_empty : (file : List ℕ) → File file → NoEmptyFrame m file
  pub covers : (file : List ℕ) → File file → FramesAreTheFile m file
  pub exchange : (file : List ℕ) → File file → ExchangeLeavesTheRest m file
