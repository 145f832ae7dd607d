-- The words after one more call: what each answer adds to what was opened, filed and read.
use Rattle.std.proofs.Common.{◌≡◌, Bool, true, false, ◌||◌, List, [], ◌∷◌, ◌++◌, refl, sym, ap, ◌∙◌, append-nil, append_assoc}
use Rattle.std.specs.List.{flat_map}
use Rattle.std.proofs.lemmas.Grind.{flat_map-append}
use Rattle.std.proofs.lemmas.List.Folds.{list_any-append}
use Rattle.import.specs.declared.slip.Slip.{Slip}
use Rattle.import.specs.declared.stage.How.TheVariants.{Kept, SetAside}
use Rattle.import.specs.declared.answer.Opened.{Opened}
use Rattle.import.specs.Runs.{Said}
use Rattle.import.specs.Words.{rows_in, opened_rows, slip_filed, slips_filed, slip_spent, slips_spent, open_of, open_rows, rows_read, read_from, read_rows, is_none, has_ended}

-- what the other words are made of
pub record Words : Type 0 where
  pub opened : List Opened
  pub kept : List Slip
  pub aside : List Slip
  pub spent : List Slip
  pub read : List Opened
  pub ended : Bool

abbrev pub words_of : List Said → Words
words_of h = record { opened = opened_rows h; kept = slips_filed Kept h; aside = slips_filed SetAside h; spent = slips_spent h; read = read_rows h; ended = has_ended h }

abbrev pub heard : Words → Said → Words
heard w s = record {
  opened = w.opened ++ rows_in s.answer;
  kept = w.kept ++ slip_filed Kept s.answer s.call;
  aside = w.aside ++ slip_filed SetAside s.answer s.call;
  spent = w.spent ++ slip_spent s.answer s.call;
  read = w.read ++ rows_read (open_of w.spent w.opened) s.answer s.call;
  ended = w.ended || is_none s.answer;
}

pub same_words : (v w : Words) → v.opened ≡ w.opened → v.kept ≡ w.kept → v.aside ≡ w.aside → v.spent ≡ w.spent → v.read ≡ w.read → v.ended ≡ w.ended → v ≡ w
same_words v w a b c d e f =
    ap (λ x. record { opened = x; kept = v.kept; aside = v.aside; spent = v.spent; read = v.read; ended = v.ended }) a
    ∙ ap (λ x. record { opened = w.opened; kept = x; aside = v.aside; spent = v.spent; read = v.read; ended = v.ended }) b
    ∙ ap (λ x. record { opened = w.opened; kept = w.kept; aside = x; spent = v.spent; read = v.read; ended = v.ended }) c
    ∙ ap (λ x. record { opened = w.opened; kept = w.kept; aside = w.aside; spent = x; read = v.read; ended = v.ended }) d
    ∙ ap (λ x. record { opened = w.opened; kept = w.kept; aside = w.aside; spent = w.spent; read = x; ended = v.ended }) e
    ∙ ap (λ x. record { opened = w.opened; kept = w.kept; aside = w.aside; spent = w.spent; read = w.read; ended = x }) f

flat_push : {X : Type 0} (f : Said → List X) (h : List Said) (s : Said) → flat_map f (h ++ s ∷ []) ≡ flat_map f h ++ f s
flat_push f h s = flat_map-append f h (s ∷ []) ∙ ap (λ x. flat_map f h ++ x) (append-nil (f s))

pub or_none : (b : Bool) → (b || false) ≡ b
or_none true = refl
or_none false = refl

read_push : (b h : List Said) (s : Said) → read_from b (h ++ s ∷ []) ≡ read_from b h ++ rows_read (open_rows (b ++ h)) s.answer s.call
read_push b [] s = append-nil (rows_read (open_rows b) s.answer s.call) ∙ ap (λ x. rows_read (open_rows x) s.answer s.call) (sym (append-nil b))
read_push b (t ∷ h) s =
    ap (λ x. rows_read (open_rows b) t.answer t.call ++ x) (read_push (b ++ t ∷ []) h s ∙ ap (λ x. read_from (b ++ t ∷ []) h ++ rows_read (open_rows x) s.answer s.call) (append_assoc b (t ∷ []) h))
    ∙ sym (append_assoc (rows_read (open_rows b) t.answer t.call) (read_from (b ++ t ∷ []) h) (rows_read (open_rows (b ++ t ∷ h)) s.answer s.call))

pub words_push : (h : List Said) (s : Said) → words_of (h ++ s ∷ []) ≡ heard (words_of h) s
words_push h s =
    same_words (words_of (h ++ s ∷ [])) (heard (words_of h) s)
    (flat_push (λ t. rows_in t.answer) h s)
    (flat_push (λ t. slip_filed Kept t.answer t.call) h s)
    (flat_push (λ t. slip_filed SetAside t.answer t.call) h s)
    (flat_push (λ t. slip_spent t.answer t.call) h s)
    (read_push [] h s)
    (list_any-append (λ t. is_none t.answer) h (s ∷ []) ∙ ap (λ b. has_ended h || b) (or_none (is_none s.answer)))

-- an answer that adds nothing
pub unchanged : (w : Words) → record { opened = w.opened ++ []; kept = w.kept ++ []; aside = w.aside ++ []; spent = w.spent ++ []; read = w.read ++ []; ended = w.ended || false } ≡ w
unchanged w =
    same_words (record { opened = w.opened ++ []; kept = w.kept ++ []; aside = w.aside ++ []; spent = w.spent ++ []; read = w.read ++ []; ended = w.ended || false }) w
    (append-nil w.opened) (append-nil w.kept) (append-nil w.aside) (append-nil w.spent) (append-nil w.read) (or_none w.ended)
