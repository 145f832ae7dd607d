-- What a writer has still to be given, of all that it is to be given.
use Rattle.std.proofs.Common.{◌≡◌, ℕ, List, [], ◌++◌, Option, None, Some, Ok, Err, Result, refl, sym, ap, ◌∙◌, append_assoc, append-nil}
use Rattle.std.specs.Prelude.{OnOk}
use Rattle.std.specs.Io.KnownBytes.{Appends}

-- with these bytes still to come, a writer that held the first known bytes, and now the second, is given all
abbrev pub Owes : Option (List ℕ) → Option (List ℕ) → List ℕ → List ℕ → Type 0
Owes None new rest all = Unit {0}
Owes (Some xs) None rest all = ⊥
Owes (Some xs) (Some ys) rest all = ys ++ rest ≡ xs ++ all

pub owes_all : (a : Option (List ℕ)) (all : List ℕ) → Owes a a all all
owes_all None all = tt
owes_all (Some xs) all = refl

pub owes_rest : (a b c : Option (List ℕ)) (bs rest all : List ℕ) → Owes a b (bs ++ rest) all → Appends b c bs → Owes a c rest all
owes_rest None b c bs rest all p q = tt
owes_rest (Some xs) None c bs rest all p q = absurd p
owes_rest (Some xs) (Some ys) None bs rest all p q = absurd q
owes_rest (Some xs) (Some ys) (Some zs) bs rest all p q = ap (λ l. l ++ rest) q ∙ append_assoc ys bs rest ∙ p

pub owes_last : (a b c : Option (List ℕ)) (bs all : List ℕ) → Owes a b bs all → Appends b c bs → Appends a c all
owes_last None b c bs all p q = tt
owes_last (Some xs) None c bs all p q = absurd p
owes_last (Some xs) (Some ys) None bs all p q = absurd q
owes_last (Some xs) (Some ys) (Some zs) bs all p q = q ∙ p

pub appends_both : (a b c : Option (List ℕ)) (xs ys : List ℕ) → Appends a b xs → Appends b c ys → Appends a c (xs ++ ys)
appends_both None b c xs ys p q = tt
appends_both (Some zs) None c xs ys p q = absurd p
appends_both (Some zs) (Some us) None xs ys p q = absurd q
appends_both (Some zs) (Some us) (Some vs) xs ys p q = q ∙ ap (λ l. l ++ ys) p ∙ append_assoc zs xs ys

pub appends_none : (a : Option (List ℕ)) → Appends a a []
appends_none None = tt
appends_none (Some xs) = sym (append-nil xs)

pub if_ok : {X E P Q : Type 0} (r : Result X E) → (P → Q) → OnOk r P → OnOk r Q
if_ok (Ok x) f p = f p
if_ok (Err e) f p = p
