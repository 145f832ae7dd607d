-- Lemmas on slips, and on the rows whose slips are in a list.
use Rattle.std.proofs.Common.{◌≡◌, ℕ, zero, suc, ◌+◌, ◌≤◌, ◌<◌, Bool, true, false, cond, not, ◌||◌, List, [], ◌∷◌, ◌++◌, length, ◌==◌, refl, ap, subst, ◌∙◌, arith, append-nil}
use Rattle.std.specs.List.{filter, AllByRecursion}
use Rattle.std.proofs.lemmas.List.{map-append}
use Rattle.std.proofs.lemmas.List.Elements.{filter-append}
use Rattle.std.proofs.lemmas.List.Folds.{list_any-append}
use Rattle.std.proofs.lemmas.Bool.{eqb-true, eq-eqb, ne_eqb, and_parts, and_from, and_right, or_from, or_right, or_left}
use Rattle.import.specs.declared.slip.Slip.{Slip}
use Rattle.import.specs.declared.answer.Opened.{Opened}
use Rattle.import.specs.Slips.{slip, same_slip, among, slips_from, slips, rows_of}
use Rattle.import.specs.Words.{open_of, last_of}

pub same_self : (s : Slip) → same_slip s s ≡ true
same_self s = and_from (s.import == s.import) (s.row == s.row) (eq-eqb s.import s.import refl) (eq-eqb s.row s.row refl)

pub same_equal : (s t : Slip) → same_slip s t ≡ true → s ≡ t
same_equal s t h =
    let p = and_parts (s.import == t.import) (s.row == t.row) h in
    let i : s.import ≡ t.import = eqb-true s.import t.import p.0 in
    let r : s.row ≡ t.row = eqb-true s.row t.row p.1 in
    ap (λ n. slip n s.row) i ∙ ap (slip t.import) r

pub other_slip : (s t : Slip) → (s.row ≡ t.row → ⊥) → same_slip s t ≡ false
other_slip s t h = and_right (s.import == t.import) (s.row == t.row) (ne_eqb s.row t.row h)

-- no slip of that row or a later one is in the list
abbrev pub Unheard : ℕ → List Slip → Type 0
Unheard j ss = (t : Slip) → j ≤ t.row → among t ss ≡ false

pub unheard_later : (j k : ℕ) (ss : List Slip) → j ≤ k → Unheard j ss → Unheard k ss
unheard_later j k ss h u t b = u t (omega arith)

pub unheard_push : (j : ℕ) (ss : List Slip) (x : Slip) → x.row < j → Unheard j ss → Unheard j (ss ++ x ∷ [])
unheard_push j ss x h u t b = list_any-append (same_slip t) ss (x ∷ []) ∙ or_from (among t ss) (same_slip t x || false) (u t b) (or_from (same_slip t x) false (other_slip t x (λ e. omega arith)) refl)

pub unheard_from : (n i k : ℕ) → Unheard (i + k) (slips_from n i k)
unheard_from n i zero t b = refl
unheard_from n i (suc k) t b = or_from (same_slip t (slip n i)) (among t (slips_from n (i + 1) k)) (other_slip t (slip n i) (λ e. omega arith)) (unheard_from n (i + 1) k t (omega arith))

pub from_more : (n i k : ℕ) → slips_from n i (k + 1) ≡ slips_from n i k ++ slip n (i + k) ∷ []
from_more n i zero = ap (λ x. slip n x ∷ []) (omega arith)
from_more n i (suc k) =
    let e : suc k + 1 ≡ suc (k + 1) = omega arith in
    let f : i + 1 + k ≡ i + suc k = omega arith in
    ap (slips_from n i) e ∙ ap (λ ss. slip n i ∷ ss) (from_more n (i + 1) k ∙ ap (λ x. slips_from n (i + 1) k ++ slip n x ∷ []) f)

-- rows whose slips are those of one import, one after another, are before the next
abbrev pub Before : ℕ → List Opened → Type 0
Before j os = AllByRecursion (λ o. o.slip.row < j) os

pub numbered_before : (n i : ℕ) (os : List Opened) → slips os ≡ slips_from n i (length os) → Before (i + length os) os
numbered_before n i [] e = tt
numbered_before n i (o ∷ os) e =
    let h : o.slip ≡ slip n i = cc in
    let t : slips os ≡ slips_from n (i + 1) (length os) = cc in
    let r : o.slip.row ≡ i = ap (λ s. s.row) h in
    (omega arith, before_same (i + 1 + length os) (i + suc (length os)) os (omega arith) (numbered_before n (i + 1) os t))
  where
    before_same : (j k : ℕ) (os : List Opened) → j ≡ k → Before j os → Before k os
    before_same j k os e b = subst (λ x. Before x os) e b

pub all_push : (P : Opened → Type 0) (os : List Opened) (o : Opened) → AllByRecursion P os → P o → AllByRecursion P (os ++ o ∷ [])
all_push P [] o h p = (p, tt)
all_push P (q ∷ os) o h p = (h.0, all_push P os o h.1 p)

filter_same : (p q : Opened → Bool) (os : List Opened) → AllByRecursion (λ o. p o ≡ q o) os → filter p os ≡ filter q os
filter_same p q [] h = refl
filter_same p q (o ∷ os) h = ap (λ b. cond b (o ∷ filter p os) (filter p os)) h.0 ∙ ap (λ r. cond (q o) (o ∷ r) r) (filter_same p q os h.1)

unnamed : (ss : List Slip) (x : Slip) (os : List Opened) → Before x.row os → AllByRecursion (λ o. among o.slip (ss ++ x ∷ []) ≡ among o.slip ss) os
unnamed ss x [] b = tt
unnamed ss x (o ∷ os) b =
    let f : same_slip o.slip x ≡ false = other_slip o.slip x (λ e. omega arith) in
    (list_any-append (same_slip o.slip) ss (x ∷ []) ∙ ap (λ t. among o.slip ss || (t || false)) f ∙ or_none (among o.slip ss), unnamed ss x os b.1)
  where
    or_none : (t : Bool) → (t || false) ≡ t
    or_none true = refl
    or_none false = refl

-- one more row, whose slip is not in the list
pub rows_without : (ss : List Slip) (os : List Opened) (o : Opened) → among o.slip ss ≡ false → rows_of ss (os ++ o ∷ []) ≡ rows_of ss os
rows_without ss os o h = filter-append (λ p. among p.slip ss) os (o ∷ []) ∙ ap (λ t. rows_of ss os ++ cond t (o ∷ []) []) h ∙ append-nil (rows_of ss os)

-- one more row, and its slip in the list
pub rows_with : (ss : List Slip) (os : List Opened) (o : Opened) → Before o.slip.row os → rows_of (ss ++ o.slip ∷ []) (os ++ o ∷ []) ≡ rows_of ss os ++ o ∷ []
rows_with ss os o b =
    filter-append (λ p. among p.slip (ss ++ o.slip ∷ [])) os (o ∷ [])
    ∙ ap (λ r. r ++ cond (among o.slip (ss ++ o.slip ∷ [])) (o ∷ []) []) (filter_same (λ p. among p.slip (ss ++ o.slip ∷ [])) (λ p. among p.slip ss) os (unnamed ss o.slip os b))
    ∙ ap (λ t. rows_of ss os ++ cond t (o ∷ []) []) (list_any-append (same_slip o.slip) ss (o.slip ∷ []) ∙ or_right (among o.slip ss) (same_slip o.slip o.slip || false) (or_left (same_slip o.slip o.slip) false (same_self o.slip)))

all_among : (os : List Opened) (ss : List Slip) → ((s : Slip) → among s (slips os) ≡ true → among s ss ≡ true) → AllByRecursion (λ o. among o.slip ss ≡ true) os
all_among [] ss f = tt
all_among (o ∷ os) ss f = (
  f o.slip (or_left (same_slip o.slip o.slip) (among o.slip (slips os)) (same_self o.slip)),
  all_among os ss (λ s h. f s (or_right (same_slip s o.slip) (among s (slips os)) h)),
)

open_none : (ss : List Slip) (os : List Opened) → AllByRecursion (λ o. among o.slip ss ≡ true) os → open_of ss os ≡ []
open_none ss [] h = refl
open_none ss (o ∷ os) h = ap (λ t. cond (not t) (o ∷ open_of ss os) (open_of ss os)) h.0 ∙ open_none ss os h.1

-- no row is open where each slip is spent
pub all_spent : (os : List Opened) → open_of (slips os) os ≡ []
all_spent os = open_none (slips os) os (all_among os (slips os) (λ s h. h))

-- a row of which the slip is not in the list is left of those that it is among
pub one_left : (ss : List Slip) (o : Opened) → among o.slip ss ≡ false → open_of ss (o ∷ []) ≡ o ∷ []
one_left ss o h = ap (λ t. cond (not t) (o ∷ []) []) h

pub one_gone : (ss : List Slip) (o : Opened) → among o.slip ss ≡ true → open_of ss (o ∷ []) ≡ []
one_gone ss o h = ap (λ t. cond (not t) (o ∷ []) []) h

-- the last of the rows is open where the others' slips are spent
pub last_open : (os : List Opened) (o : Opened) → among o.slip (slips os) ≡ false → open_of (slips os) (os ++ o ∷ []) ≡ o ∷ []
last_open os o h = filter-append (λ p. not (among p.slip (slips os))) os (o ∷ []) ∙ ap (λ r. r ++ open_of (slips os) (o ∷ [])) (all_spent os) ∙ one_left (slips os) o h

pub last_is : (os : List Opened) (o : Opened) → last_of (os ++ o ∷ []) ≡ o ∷ []
last_is [] o = refl
last_is (p ∷ []) o = refl
last_is (p ∷ q ∷ os) o = last_is (q ∷ os) o

pub slips_push : (os : List Opened) (o : Opened) → slips (os ++ o ∷ []) ≡ slips os ++ o.slip ∷ []
slips_push os o = map-append (λ p. p.slip) os (o ∷ [])

-- a slip that was pushed is there
pub pushed : (ss : List Slip) (x : Slip) → among x (ss ++ x ∷ []) ≡ true
pushed ss x = list_any-append (same_slip x) ss (x ∷ []) ∙ or_right (among x ss) (same_slip x x || false) (or_left (same_slip x x) false (same_self x))

-- all rows are those whose slips are in a list that has each of them
pub all_rows : (n i : ℕ) (ss : List Slip) (os : List Opened) → slips os ≡ slips_from n i (length os) → ((j : ℕ) → i ≤ j → j < i + length os → among (slip n j) ss ≡ true) → rows_of ss os ≡ os
all_rows n i ss [] e h = refl
all_rows n i ss (o ∷ os) e h =
    let a : o.slip ≡ slip n i = cc in
    let b : slips os ≡ slips_from n (i + 1) (length os) = cc in
    ap (λ t. cond t (o ∷ rows_of ss os) (rows_of ss os)) (ap (λ t. among t ss) a ∙ h i (omega arith) (omega arith))
    ∙ ap (λ x. o ∷ x) (all_rows n (i + 1) ss os b (λ j l m. h j (omega arith) (omega arith)))
