-- The line that says what stopped a command.
use Rattle.std.specs.Prelude.{ℕ, List, ◌++◌, codes, decimal}
use Rattle.rows.specs.Refusals.{number_of, reason}
use Rattle.layout.specs.Refusals.{number_of as layout_number_of, text_of}
use Rattle.reader.specs.declared.refusal.Refusal.{Refusal as RowRefusal}
use Rattle.reader.specs.Refusals.{number_of as row_number_of, text_of as row_text_of}
use Rattle.cli.specs.declared.problems.Problem.{Problem}
use Rattle.cli.specs.declared.problems.Problem.TheVariants.{BadWords, NoCommand, WrongWords, NoRule, NoFamily, NoNumber, UnknownKind, Refused, RefusedLayout, Unread, Unreadable}

-- a row that is not read
abbrev pub unread_words : ℕ → RowRefusal → List ℕ
unread_words n e = codes "row " ++ (decimal n ++ (codes " is not read, number " ++ (decimal (row_number_of e) ++ (codes ": " ++ row_text_of e))))

abbrev pub problem_line : Problem → List ℕ
problem_line (BadWords r) = codes "neskvaru: cannot read the words of the command: " ++ r.now
problem_line (NoCommand w) = codes "neskvaru: there is no command '" ++ (w.now ++ codes "'; neskvaru alone tells how it is used")
problem_line (WrongWords f) = codes "neskvaru: too few or too many words; write: neskvaru " ++ f.now
problem_line (NoRule w) = codes "neskvaru: '" ++ (w.now ++ codes "' is no row rule; write newline, fixed:W or sample:N:RULE")
problem_line (NoFamily w) = codes "neskvaru: '" ++ (w.now ++ codes "' is no family; write ascii, binary or pair:FAMILY:FAMILY")
problem_line (NoNumber w) = codes "neskvaru: '" ++ (w.now ++ codes "' is no kind from 0 to 63, or no parameter from 0 to 255")
problem_line (UnknownKind f) = codes "neskvaru: the family '" ++ (f.now ++ codes "' does not know this kind with this parameter")
problem_line (Refused e w) = codes "neskvaru: refused, number " ++ (decimal (number_of e) ++ (codes ": " ++ (reason e ++ (codes ": '" ++ (w.now ++ codes "'")))))
problem_line (RefusedLayout e w) = codes "neskvaru: refused, number " ++ (decimal (layout_number_of e) ++ (codes ": " ++ (text_of e ++ (codes ": '" ++ (w.now ++ codes "'")))))
problem_line (Unread n e w) = codes "neskvaru: " ++ (unread_words n e ++ (codes ": '" ++ (w.now ++ codes "'")))
problem_line (Unreadable w r) = codes "neskvaru: cannot read the file '" ++ (w.now ++ (codes "': " ++ r.now))
