-- The lines of an explanation.
use Rattle.std.specs.Prelude.{ℕ, List, ◌++◌, length, ℤ, codes, decimal}
use Rattle.layout.specs.declared.node.Shape.{Shape}
use Rattle.import.specs.Refusals.{number_of, text_of}
use Rattle.cli.specs.declared.families.FamilyWords.{FamilyWords}
use Rattle.cli.specs.Listings.{row_line, plural}
use Rattle.explaining.specs.declared.row.Row.{Row}
use Rattle.explaining.specs.declared.texts.Fate.{Fate}
use Rattle.explaining.specs.declared.texts.Fate.TheVariants.{Faulty, NotRead}
use Rattle.explaining.specs.declared.texts.PartFault.{PartFault}
use Rattle.explaining.specs.declared.texts.ExplainedLine.{ExplainedLine}
use Rattle.explaining.specs.declared.texts.ExplainedLine.TheVariants.{Aside, Fault, BytesLeft, Scrap, Skipped, Counts}
use Rattle.explaining.specs.Faults.{part_name, fault_words}
use Rattle.explaining.specs.Shown.{shown}

-- why a row is set aside
abbrev pub fate_words : Fate → List ℕ
fate_words (Faulty n) = plural n (codes "fault")
fate_words (NotRead e) = codes "not read, number " ++ (decimal (number_of e) ++ (codes ": " ++ text_of e))

-- row NUMBER: start START, length LENGTH, MARK: WHY, set aside
abbrev pub aside_line : Row → Fate → List ℕ
aside_line r f = row_line r.number r.start r.length r.mark ++ (codes ": " ++ (fate_words f ++ codes ", set aside"))

-- a part that the row is at fault in, and where in the row
abbrev pub fault_text : FamilyWords → List ℤ → Shape → ℕ → ℕ → ℤ → List ℕ
fault_text family constants s node at z =
    part_name family constants s ++ (codes " (node " ++ (decimal node ++ (codes "), at " ++ (decimal at ++ (codes ": " ++ fault_words s z)))))

abbrev pub fault_words_of : PartFault → List ℕ
fault_words_of p = fault_text p.family p.constants.now p.shape p.node p.at p.number

abbrev pub fault_line : FamilyWords → List ℤ → Shape → ℕ → ℕ → ℤ → List ℕ
fault_line family constants s node at z = codes "  " ++ fault_text family constants s node at z

abbrev pub bytes_left_line : ℕ → List ℕ
bytes_left_line at = codes "  the row, at " ++ (decimal at ++ codes ": the layout ends here, and bytes are left")

-- bytes that no part took, and where in the row they begin
abbrev pub scrap_line : ℕ → List ℕ → List ℕ
scrap_line at bytes = codes "  scrap, at " ++ (decimal at ++ (codes ", " ++ (plural (length bytes) (codes "byte") ++ (codes ": " ++ shown bytes))))

abbrev pub skipped_line : ℕ → List ℕ
skipped_line n = codes "  " ++ (plural n (codes "part") ++ codes " skipped")

abbrev pub counts_line : ℕ → ℕ → ℕ → List ℕ
counts_line opened kept aside = plural opened (codes "row") ++ (codes " opened: " ++ (decimal kept ++ (codes " kept, " ++ (decimal aside ++ codes " set aside"))))

abbrev pub line_text : ExplainedLine → List ℕ
line_text (Aside r f) = aside_line r f
line_text (Fault p) = fault_line p.family p.constants.now p.shape p.node p.at p.number
line_text (BytesLeft at) = bytes_left_line at
line_text (Scrap at bytes) = scrap_line at bytes.now
line_text (Skipped n) = skipped_line n
line_text (Counts opened kept aside) = counts_line opened kept aside
