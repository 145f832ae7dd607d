-- How the records of a trace are written.
use Rattle.std.specs.Prelude.{ℕ, List, ◌++◌, codes, decimal}
use Rattle.std.specs.Fmt.{signed_decimal}
use Rattle.rows.specs.Words.{word}
use Rattle.rows.specs.declared.piece.Mark.{Mark}
use Rattle.report.specs.Outcomes.{outcome_number}
use Rattle.report.specs.declared.line.Line.{Line}
use Rattle.records.specs.Hex.{kept_words}
use Rattle.records.specs.declared.record.Filing.{Filing}
use Rattle.records.specs.declared.record.Filing.TheVariants.{Kept, SetAside}
use Rattle.records.specs.declared.record.Record.{Record}
use Rattle.records.specs.declared.record.Record.TheVariants.{Row, Line as line_of, KeptText, Faults, Refused, Filed, Tail, Counts}

-- row NUMBER START LENGTH MARK
abbrev pub row_text : ℕ → ℕ → ℕ → Mark → List ℕ
row_text number start len mark = codes "row " ++ (decimal number ++ (codes " " ++ (decimal start ++ (codes " " ++ (decimal len ++ (codes " " ++ word mark))))))

-- NODE OUTCOME START LENGTH NUMBER
abbrev pub line_words : Line → List ℕ
line_words l = decimal l.node ++ (codes " " ++ (decimal (outcome_number l.outcome) ++ (codes " " ++ (decimal l.start ++ (codes " " ++ (decimal l.length ++ (codes " " ++ signed_decimal l.number)))))))

abbrev pub line_text : Line → List ℕ
line_text l = codes "line " ++ line_words l

-- kept-text HEX, the word alone where there is none
abbrev pub kept_text : List ℕ → List ℕ
kept_text bytes = codes "kept-text" ++ kept_words bytes

abbrev pub faults_text : ℕ → List ℕ
faults_text n = codes "faults " ++ decimal n

abbrev pub refused_text : ℕ → List ℕ
refused_text n = codes "refused " ++ decimal n

abbrev pub filing_word : Filing → List ℕ
filing_word Kept = codes "kept"
filing_word SetAside = codes "set-aside"

abbrev pub filed_text : Filing → List ℕ
filed_text f = codes "filed " ++ filing_word f

-- tail START LENGTH
abbrev pub tail_text : ℕ → ℕ → List ℕ
tail_text start len = codes "tail " ++ (decimal start ++ (codes " " ++ decimal len))

-- counts OPENED KEPT SETASIDE
abbrev pub counts_text : ℕ → ℕ → ℕ → List ℕ
counts_text opened kept aside = codes "counts " ++ (decimal opened ++ (codes " " ++ (decimal kept ++ (codes " " ++ decimal aside))))

abbrev pub record_text : Record → List ℕ
record_text (Row number start len mark) = row_text number start len mark
record_text (line_of l) = line_text l
record_text (KeptText text) = kept_text text.now
record_text (Faults n) = faults_text n
record_text (Refused n) = refused_text n
record_text (Filed f) = filed_text f
record_text (Tail start len) = tail_text start len
record_text (Counts opened kept aside) = counts_text opened kept aside
