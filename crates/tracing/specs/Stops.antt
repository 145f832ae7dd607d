-- What is known where a pass ends early.
use Rattle.std.specs.Prelude.{◌≡◌, ℕ, List, Some, Option}
use Rattle.std.specs.Io.KnownBytes.{Appends}
use Rattle.import.specs.declared.refusal.Refusal.{Refusal}
use Rattle.import.specs.Models.{Model}
use Rattle.import.specs.Calls.{Answer, refused, done}
use Rattle.tracing.specs.declared.stop.Stop.{Stop}
use Rattle.tracing.specs.declared.stop.Stop.TheVariants.{Refused, Unread, Output}

-- By what new answers: the export is refused with that refusal. A row that is not read is the one found, of an export that was taken.
abbrev pub StopTold : Answer → Option (ℕ × Refusal) → Stop → Type 0
StopTold new unread (Refused e) = new ≡ refused e
StopTold new unread (Unread n e) = (new ≡ done) × (unread ≡ Some (n, e))
StopTold new unread (Output e) = new ≡ done

-- Where the export is refused, what is written to is as it was,
abbrev pub NothingIfRefused : {W : Type 0} → W → W → Stop → Type 0
NothingIfRefused old new (Refused e) = new ≡ old
NothingIfRefused old new (Unread n e) = Unit {0}
NothingIfRefused old new (Output e) = Unit {0}

-- and so is the import, whatever file is at hand.
abbrev pub StandsIfRefused : (List ℕ → Model) → (List ℕ → Model) → Stop → Type 0
StandsIfRefused old new (Refused e) = (file : List ℕ) → new file ≡ old file
StandsIfRefused old new (Unread n e) = Unit {0}
StandsIfRefused old new (Output e) = Unit {0}

-- Where a row is not read, these bytes are written.
abbrev pub WrittenBefore : Option (List ℕ) → Option (List ℕ) → List ℕ → Stop → Type 0
WrittenBefore old new bytes (Refused e) = Unit {0}
WrittenBefore old new bytes (Unread n e) = Appends old new bytes
WrittenBefore old new bytes (Output e) = Unit {0}

-- of the rows of an export that was taken
abbrev pub IsOutput : Stop → Type 0
IsOutput (Refused e) = ⊥
IsOutput (Unread n e) = ⊥
IsOutput (Output e) = Unit {0}

abbrev pub RowTold : Option (ℕ × Refusal) → Stop → Type 0
RowTold unread (Refused e) = ⊥
RowTold unread (Unread n e) = unread ≡ Some (n, e)
RowTold unread (Output e) = Unit {0}
