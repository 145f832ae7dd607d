-- Every open reading is made of the same few steps: what each of them keeps holds of every reading, and of every clean trial.
use Rattle.std.proofs.Common.{◌≡◌, ℕ, zero, suc, ◌+◌, ◌-◌, ◌≤◌, Bool, true, false, List, [], ◌∷◌, ◌++◌, drop, ℤ, pos, Some, None, Ok, Err, Option, sym, refl, subst}
use Rattle.fields.specs.Causes.{number_of}
use Rattle.fields.specs.Meanings.{Meaning, Reading}
use Rattle.layout.specs.declared.node.Relation.{Relation}
use Rattle.layout.specs.declared.node.Side.{Side}
use Rattle.layout.specs.declared.node.Shape.{Shape}
use Rattle.layout.specs.declared.node.Shape.TheVariants.{Field, Mark, Sequence, Choice, Optional, Check}
use Rattle.layout.specs.declared.node.Node.{Node}
use Rattle.layout.specs.Trees.{Part, Parts, field, mark, check, sequence, choice, optional, end, ◌then◌, node_at, operand_of}
use Rattle.report.specs.declared.outcome.Outcome.TheVariants.{Good, SyntaxFault, Absent, FaultBelow}
use Rattle.report.specs.declared.line.Line.{Line}
use Rattle.report.specs.Lines.{line, begun, skipped, scrap, faults, overall}
use Rattle.report.specs.Values.{values}
use Rattle.report.specs.Checks.{checked}
use Rattle.report.specs.Leaves.{mark_reads, first_from}
use Rattle.report.specs.Trials.{Trial, clean, given_up, at_least, under, or_else, trial, trials, branches}
use Rattle.report.specs.Recovery.{OpenReading, wrote, Rest, next, node_of, byte_of, skips, found, sought_at, broken, sought, after_child, child_then}
use Rattle.report.specs.Readings.{leaf_read, choice_read, option_read, open_reading, children, seeking}
use Rattle.report.proofs.Fits.{Has, Fits, AllFit}
use Rattle.report.proofs.Agree.{Agrees, agrees, all_agree}
use Rattle.report.proofs.Marks.{Stands, IsMark, mark_is, IsFound, found_from}

-- a node with others below it
abbrev pub Inner : Shape → Type 0
Inner (Field kind column) = ⊥
Inner (Mark byte) = ⊥
Inner (Sequence child) = Unit {0}
Inner (Choice child) = Unit {0}
Inner (Optional child) = Unit {0}
Inner (Check relation left right) = ⊥

-- a node that can have a syntax fault
abbrev pub Faulting : Shape → Type 0
Faulting (Field kind column) = Unit {0}
Faulting (Mark byte) = Unit {0}
Faulting (Sequence child) = ⊥
Faulting (Choice child) = Unit {0}
Faulting (Optional child) = ⊥
Faulting (Check relation left right) = ⊥

-- P pre p ls q says something of the lines ls that stand behind pre and take the bytes from p to q
pub record Steps (means : ℕ → ℕ → Meaning) (nodes : List Node) (constants : List ℤ) (row : List ℕ) (P : List Line → ℕ → List Line → ℕ → Type 0) : Type 0 where
  pub none : (pre : List Line) (p : ℕ) → P pre p [] p
  pub join : (pre ls ms : List Line) (p q r : ℕ) → P pre p ls q → P (pre ++ ls) q ms r → P pre p (ls ++ ms) r
  pub good_field : (i kind parameter : ℕ) (column : Option ℕ) (pre : List Line) (p n : ℕ) (z : ℤ) → Has nodes i (Field (record { code = kind; parameter = parameter }) column) →
      (means kind parameter).reads (drop p row) ≡ Ok (n, z) → P pre p (line i Good p n z ∷ []) (p + n)
  pub good_mark : (i byte : ℕ) (pre : List Line) (p : ℕ) → Has nodes i (Mark byte) → Stands row byte p → P pre p (line i Good p 1 (pos 0) ∷ []) (p + 1)
  pub fault : (i : ℕ) (pre : List Line) (p : ℕ) (z : ℤ) → Faulting (node_at nodes i).shape → P pre p (line i SyntaxFault p 0 z ∷ []) p
  pub check_line : (i : ℕ) (relation : Relation) (left : ℕ) (side : Side) (pre : List Line) (p : ℕ) → Has nodes i (Check relation left side) →
      P pre p (line i (checked relation left (operand_of constants side) (values nodes pre)) p 0 (pos 0) ∷ []) p
  pub absent : (i child : ℕ) (pre : List Line) (p : ℕ) → Has nodes i (Optional child) → P pre p (line i Absent p 0 (pos 0) ∷ []) p
  pub passed : (i : ℕ) (pre : List Line) (p : ℕ) → P pre p (skipped i p ∷ []) p
  pub loose : (i byte : ℕ) (pre : List Line) (p j : ℕ) → Has nodes i (Mark byte) → p ≤ j → Stands row byte j → P pre p (scrap i p j) j
  pub own : (i : ℕ) (pre ls : List Line) (p q : ℕ) (z : ℤ) → Inner (node_at nodes i).shape →
      P (pre ++ begun i p ∷ []) p ls q → P pre p (line i Good p (q - p) z ∷ ls) q
  pub own_faulty : (i : ℕ) (pre ls : List Line) (p q : ℕ) → Inner (node_at nodes i).shape →
      P (pre ++ begun i p ∷ []) p ls q → P pre p (line i FaultBelow p (q - p) (pos 0) ∷ ls) q

module _ (means : ℕ → ℕ → Meaning) (nodes : List Node) (constants : List ℤ) (row : List ℕ) (P : List Line → ℕ → List Line → ℕ → Type 0)
    (S : Steps means nodes constants row P) where
  abbrev Kept : List Line → ℕ → OpenReading → Type 0
  Kept pre p d = P pre p d.lines d.place

  abbrev pub KeptTrial : List Line → ℕ → Trial → Type 0
  KeptTrial pre p (given_up r) = Unit {0}
  KeptTrial pre p (clean ls q r) = P pre p ls q

  abbrev Keeps : Rest → Type 0
  Keeps k = (l : List Line) (q : ℕ) → Kept l q (k l q)

  abbrev ByteFits : Option ℕ → ℕ → Type 0
  ByteFits None i = Unit {0}
  ByteFits (Some b) i = Has nodes i (Mark b)

  byte_fits : (q : Part) → Fits nodes constants q → ByteFits (byte_of q) (node_of q)
  byte_fits (field i kind parameter column) h = tt
  byte_fits (mark i byte) h = h
  byte_fits (check i relation left right) h = tt
  byte_fits (sequence i parts) h = tt
  byte_fits (choice i parts) h = tt
  byte_fits (optional i parts) h = tt

  field_kept : (i kind parameter : ℕ) (column : Option ℕ) (pre : List Line) (p : ℕ) (r : Reading) → Has nodes i (Field (record { code = kind; parameter = parameter }) column) →
      (means kind parameter).reads (drop p row) ≡ r → Kept pre p (leaf_read i pre p r)
  field_kept i kind parameter column pre p (Ok x) h e = S.good_field i kind parameter column pre p x.0 x.1 h e
  field_kept i kind parameter column pre p (Err c) h e = S.fault i pre p (pos (number_of c)) (subst Faulting (sym h) tt)

  mark_kept : (i byte : ℕ) (pre : List Line) (p : ℕ) (r : Reading) → Has nodes i (Mark byte) → IsMark row byte p r → Kept pre p (leaf_read i pre p r)
  mark_kept i byte pre p (Ok x) h e =
      subst (λ y. P pre p (line i Good p y.0 y.1 ∷ []) (p + y.0)) (sym e.0) (S.good_mark i byte pre p h e.1)
  mark_kept i byte pre p (Err c) h e = S.fault i pre p (pos (number_of c)) (subst Faulting (sym h) tt)

  sequence_kept : (i : ℕ) (pre ls : List Line) (p q k : ℕ) → Inner (node_at nodes i).shape → P (pre ++ begun i p ∷ []) p ls q →
      P pre p (line i (overall k) p (q - p) (pos 0) ∷ ls) q
  sequence_kept i pre ls p q zero h k = S.own i pre ls p q (pos 0) h k
  sequence_kept i pre ls p q (suc n) h k = S.own_faulty i pre ls p q h k

  -- a trial that agrees with an open reading behind the begun line
  under_kept : (i : ℕ) (pre : List Line) (p : ℕ) (z : ℤ) (t : Trial) (d : OpenReading) → Inner (node_at nodes i).shape → Agrees t d →
      Kept (pre ++ begun i p ∷ []) p d → KeptTrial pre p (under i p z t)
  under_kept i pre p z (given_up r) d h a k = tt
  under_kept i pre p z (clean ls q r) d h a k = S.own i pre ls p q z h (subst (Kept (pre ++ begun i p ∷ []) p) a.0 k)

  raised_kept : (pre : List Line) (p r : ℕ) (t : Trial) → KeptTrial pre p t → KeptTrial pre p (at_least r t)
  raised_kept pre p r (given_up s) h = tt
  raised_kept pre p r (clean ls q s) h = h

  else_kept : (pre : List Line) (p : ℕ) (t u : Trial) → KeptTrial pre p t → KeptTrial pre p u → KeptTrial pre p (or_else t u)
  else_kept pre p (given_up r) u h k = raised_kept pre p r u k
  else_kept pre p (clean ls q r) u h k = h

  choice_kept : (i child : ℕ) (pre : List Line) (p : ℕ) (t : Trial) → Has nodes i (Choice child) → KeptTrial pre p t → Kept pre p (choice_read i p t)
  choice_kept i child pre p (given_up r) h k = S.fault i pre p (pos 5) (subst Faulting (sym h) tt)
  choice_kept i child pre p (clean ls q r) h k = k

  option_kept : (i child : ℕ) (pre : List Line) (p : ℕ) (t : Trial) → Has nodes i (Optional child) → KeptTrial pre p t → Kept pre p (option_read i p t)
  option_kept i child pre p (given_up r) h k = S.absent i child pre p h
  option_kept i child pre p (clean ls q r) h k = k

  next_kept : (pre : List Line) (p : ℕ) (d : OpenReading) (rest : Rest) → Kept pre p d → Kept (pre ++ d.lines) d.place (rest (pre ++ d.lines) d.place) → Kept pre p (next pre d rest)
  next_kept pre p d rest h k =
      S.join pre d.lines (rest (pre ++ d.lines) d.place).lines p d.place (rest (pre ++ d.lines) d.place).place h k

  skips_kept : (qs : Parts) (pre : List Line) (p : ℕ) → P pre p (skips qs p) p
  skips_kept end pre p = S.none pre p
  skips_kept (q then qs) pre p =
      S.join pre (skipped (node_of q) p ∷ []) (skips qs p) p p p (S.passed (node_of q) pre p) (skips_kept qs (pre ++ skipped (node_of q) p ∷ []) p)

  found_kept : (i byte : ℕ) (pre : List Line) (p j : ℕ) → Has nodes i (Mark byte) → p ≤ j → Stands row byte j → P pre p (found i p j) (j + 1)
  found_kept i byte pre p j h le s =
      S.join pre (scrap i p j) (line i Good j 1 (pos 0) ∷ []) p j (j + 1) (S.loose i byte pre p j h le s) (S.good_mark i byte (pre ++ scrap i p j) j h s)

  sought_kept : (i byte : ℕ) (later : Parts) (pre : List Line) (p : ℕ) (o : Option ℕ) (go_on : Rest) → Has nodes i (Mark byte) → IsFound row byte p o → Keeps go_on →
      Kept pre p (sought_at i later pre p o go_on)
  sought_kept i byte later pre p None go_on h f k = skips_kept later pre p
  sought_kept i byte later pre p (Some j) go_on h f k =
      next_kept pre p (wrote pre (found i p j) (j + 1) false) go_on (found_kept i byte pre p j h f.0 f.1) (k (pre ++ found i p j) (j + 1))

  broken_kept : (m : Option ℕ) (q : Part) (qs : Parts) (go_on seek_on : Rest) (pre : List Line) (p : ℕ) → ByteFits m (node_of q) → Keeps go_on → Keeps seek_on →
      Kept pre p (broken row m q qs go_on seek_on pre p)
  broken_kept None q qs go_on seek_on pre p h f g = g pre p
  broken_kept (Some b) q qs go_on seek_on pre p h f g = sought_kept (node_of q) b qs pre p (first_from row b p) go_on h (found_from row b p) f

  hunted_kept : (m : Option ℕ) (q : Part) (qs : Parts) (go_on seek_on : Rest) (pre : List Line) (p : ℕ) → ByteFits m (node_of q) → Keeps go_on → Keeps seek_on →
      Kept pre p (sought row m q qs go_on seek_on pre p)
  hunted_kept None q qs go_on seek_on pre p h f g =
      next_kept pre p (wrote pre (skipped (node_of q) p ∷ []) p false) seek_on (S.passed (node_of q) pre p) (g (pre ++ skipped (node_of q) p ∷ []) p)
  hunted_kept (Some b) q qs go_on seek_on pre p h f g = sought_kept (node_of q) b (q then qs) pre p (first_from row b p) go_on h (found_from row b p) f

  after_kept : (q : Part) (qs : Parts) (b : Bool) (go_on seek_on : Rest) (pre : List Line) (p : ℕ) → Fits nodes constants q → Keeps go_on → Keeps seek_on →
      Kept pre p (after_child row q qs b go_on seek_on pre p)
  after_kept q qs true go_on seek_on pre p h f g = broken_kept (byte_of q) q qs go_on seek_on pre p (byte_fits q h) f g
  after_kept q qs false go_on seek_on pre p h f g = f pre p

  child_kept : (q : Part) (qs : Parts) (pre : List Line) (p : ℕ) (d : OpenReading) (go_on seek_on : Rest) → Fits nodes constants q → Kept pre p d → Keeps go_on → Keeps seek_on →
      Kept pre p (child_then row q qs pre d go_on seek_on)
  child_kept q qs pre p d go_on seek_on h k f g =
      next_kept pre p d (after_child row q qs d.broke go_on seek_on) k (after_kept q qs d.broke go_on seek_on (pre ++ d.lines) d.place h f g)

  mutual
    pub reading_keeps : (q : Part) (pre : List Line) (p : ℕ) → Fits nodes constants q → Kept pre p (open_reading means nodes row q pre p)
    reading_keeps (field i kind parameter column) pre p h = field_kept i kind parameter column pre p ((means kind parameter).reads (drop p row)) h refl
    reading_keeps (mark i byte) pre p h = mark_kept i byte pre p (mark_reads byte (drop p row)) h (mark_is row byte p (drop p row) refl)
    reading_keeps (check i relation left right) pre p h =
        subst (λ o. P pre p (line i (checked relation left o (values nodes pre)) p 0 (pos 0) ∷ []) p) (sym h.2) (S.check_line i relation left h.0 pre p h.1)
    reading_keeps (sequence i parts) pre p h =
        let d = children means nodes row parts (pre ++ begun i p ∷ []) p in
        sequence_kept i pre d.lines p d.place (faults d.lines) (subst Inner (sym h.0.1) tt) (children_keep parts (pre ++ begun i p ∷ []) p h.1)
    reading_keeps (choice i parts) pre p h =
        choice_kept i h.0.0 pre p (branches means nodes row parts i 1 (pre ++ begun i p ∷ []) p) h.0.1 (branches_keep parts i 1 pre p (subst Inner (sym h.0.1) tt) h.1)
    reading_keeps (optional i parts) pre p h =
        option_kept i h.0.0 pre p (under i p (pos 1) (trials means nodes row parts (pre ++ begun i p ∷ []) p)) h.0.1
        (under_kept i pre p (pos 1) (trials means nodes row parts (pre ++ begun i p ∷ []) p) (children means nodes row parts (pre ++ begun i p ∷ []) p)
        (subst Inner (sym h.0.1) tt) (all_agree means nodes row parts (pre ++ begun i p ∷ []) p) (children_keep parts (pre ++ begun i p ∷ []) p h.1))

    pub children_keep : (qs : Parts) (pre : List Line) (p : ℕ) → AllFit nodes constants qs → Kept pre p (children means nodes row qs pre p)
    children_keep end pre p h = S.none pre p
    children_keep (q then qs) pre p h =
        child_kept q qs pre p (open_reading means nodes row q pre p) (λ l x. children means nodes row qs l x) (λ l x. seeking means nodes row qs l x) h.0
        (reading_keeps q pre p h.0) (λ l x. children_keep qs l x h.1) (λ l x. seeking_keep qs l x h.1)

    pub seeking_keep : (qs : Parts) (pre : List Line) (p : ℕ) → AllFit nodes constants qs → Kept pre p (seeking means nodes row qs pre p)
    seeking_keep end pre p h = S.none pre p
    seeking_keep (q then qs) pre p h =
        hunted_kept (byte_of q) q qs (λ l x. children means nodes row qs l x) (λ l x. seeking means nodes row qs l x) pre p (byte_fits q h.0)
        (λ l x. children_keep qs l x h.1) (λ l x. seeking_keep qs l x h.1)

    pub branches_keep : (qs : Parts) (i n : ℕ) (pre : List Line) (p : ℕ) → Inner (node_at nodes i).shape → AllFit nodes constants qs →
        KeptTrial pre p (branches means nodes row qs i n (pre ++ begun i p ∷ []) p)
    branches_keep end i n pre p s h = tt
    branches_keep (q then qs) i n pre p s h =
        else_kept pre p (under i p (pos n) (trial means nodes row q (pre ++ begun i p ∷ []) p)) (branches means nodes row qs i (n + 1) (pre ++ begun i p ∷ []) p)
        (under_kept i pre p (pos n) (trial means nodes row q (pre ++ begun i p ∷ []) p) (open_reading means nodes row q (pre ++ begun i p ∷ []) p) s
        (agrees means nodes row q (pre ++ begun i p ∷ []) p) (reading_keeps q (pre ++ begun i p ∷ []) p h.0))
        (branches_keep qs i (n + 1) pre p s h.1)

  -- a clean trial is the open reading of the same part
  agreed_kept : (pre : List Line) (p : ℕ) (t : Trial) (d : OpenReading) → Agrees t d → Kept pre p d → KeptTrial pre p t
  agreed_kept pre p (given_up r) d a k = tt
  agreed_kept pre p (clean ls q r) d a k = subst (Kept pre p) a.0 k

  pub trial_keeps : (q : Part) (pre : List Line) (p : ℕ) → Fits nodes constants q → KeptTrial pre p (trial means nodes row q pre p)
  trial_keeps q pre p h = agreed_kept pre p (trial means nodes row q pre p) (open_reading means nodes row q pre p) (agrees means nodes row q pre p) (reading_keeps q pre p h)

  pub trials_keep : (qs : Parts) (pre : List Line) (p : ℕ) → AllFit nodes constants qs → KeptTrial pre p (trials means nodes row qs pre p)
  trials_keep qs pre p h = agreed_kept pre p (trials means nodes row qs pre p) (children means nodes row qs pre p) (all_agree means nodes row qs pre p) (children_keep qs pre p h)
