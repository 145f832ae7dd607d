-- How many rows a listing has told, by where it is.
use Rattle.std.specs.Prelude.{ℕ}
use Rattle.cli.specs.declared.listing.Stage.{Stage}
use Rattle.cli.specs.declared.listing.Stage.TheVariants.{Rows, Summary, Notice, Done}

abbrev pub rows_told : Stage → ℕ
rows_told (Rows n last) = n
rows_told (Summary n last) = n
rows_told (Notice n) = n
rows_told Done = 0
