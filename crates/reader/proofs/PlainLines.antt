-- Plain lines stay plain where plain ones are added or put in; they count no fault and keep no text.
use Rattle.std.proofs.Common.{◌≡◌, ℕ, zero, suc, ◌+◌, cond, List, [], ◌∷◌, ◌++◌, take, drop, set, refl, ap, ap₂, ◌∙◌, arith}
use Rattle.fields.specs.Meanings.{Meaning}
use Rattle.layout.specs.declared.node.Node.{Node}
use Rattle.report.specs.declared.line.Line.{Line}
use Rattle.report.specs.Lines.{begun, faults, overall}
use Rattle.report.specs.Printing.{Source, nothing, the_byte, spelling, kept_text, source_of, share, kept}
use Rattle.report.specs.declared.outcome.Outcome.TheVariants.{Good}
use Rattle.reader.specs.Plain.{PlainLine, Plain}

module _ (means : ℕ → ℕ → Meaning) (nodes : List Node) where
  -- a node's line as it begins
  pub begun_plain : (i p : ℕ) → Plain means nodes (begun i p ∷ [])
  begun_plain i p = (record { sound = refl; textless = none (source_of means nodes (begun i p)) }, tt)
    where
      none : (s : Source) → share s 0 ≡ 0
      none nothing = refl
      none (the_byte byte) = refl
      none (spelling k a) = refl
      none kept_text = refl

  pub plain_more : (ls : List Line) (l : Line) → Plain means nodes ls → PlainLine means nodes l → Plain means nodes (ls ++ l ∷ [])
  plain_more [] l h k = (k, tt)
  plain_more (x ∷ xs) l h k = (h.0, plain_more xs l h.1 k)

  pub plain_set : (ls : List Line) (i : ℕ) (l : Line) → Plain means nodes ls → PlainLine means nodes l → Plain means nodes (set ls i l)
  plain_set [] i l h k = tt
  plain_set (x ∷ xs) zero l h k = (k, h.1)
  plain_set (x ∷ xs) (suc i) l h k = (h.0, plain_set xs i l h.1 k)

  pub plain_drop : (n : ℕ) (ls : List Line) → Plain means nodes ls → Plain means nodes (drop n ls)
  plain_drop zero ls h = h
  plain_drop (suc n) [] h = tt
  plain_drop (suc n) (x ∷ xs) h = plain_drop n xs h.1

  pub plain_faults : (ls : List Line) → Plain means nodes ls → faults ls ≡ 0
  plain_faults [] h = refl
  plain_faults (x ∷ xs) h = ap₂ (λ m n. m + n) (ap (λ b. cond b 1 0) h.0.sound) (plain_faults xs h.1) ∙ omega arith

  -- so a sequence above them is good
  pub plain_overall : (ls : List Line) → Plain means nodes ls → overall (faults ls) ≡ Good
  plain_overall ls h = ap overall (plain_faults ls h)

  pub plain_kept : (row : List ℕ) (ls : List Line) → Plain means nodes ls → kept means nodes row ls ≡ []
  plain_kept row [] h = refl
  plain_kept row (x ∷ xs) h = ap₂ (λ n (t : List ℕ). take n (drop x.start row) ++ t) h.0.textless (plain_kept row xs h.1)
