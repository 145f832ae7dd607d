-- Reading digits one after another.
use Rattle.std.proofs.Common.{◌≡◌, ℕ, ◌+◌, ◌-◌, ◌*◌, Bool, true, false, cond, List, [], ◌∷◌, length, get_or, Option, Some, None, MatchOption, IfSome, MatchBool, sym, refl, ap, subst, ◌∙◌, arith, fold}
use Rattle.std.specs.ControlFlow.{continue_value}
use Rattle.std.specs.Fn.{Called}
use Rattle.std.specs.Iterator.Runs.{Run, AllItems, AnyItem, CallKeepsClosure, ItemsAreBytes, IsTryFoldRun}
use Rattle.std.specs.Option.{option_map, IsSomeAnd}
use Rattle.std.proofs.lemmas.List.Elements.{All-from_get_or}
use Rattle.std.proofs.lemmas.List.Folds.{list_all_at}
use Rattle.std.proofs.lemmas.List.Sums.{list_all-from_AllPass}
use Rattle.std.proofs.lemmas.Option.{MatchOption-at_some, MatchOption-at_none}
use denote.Param.Members.{Mut}
use Rattle.rows.specs.Frames.{measured}
use Rattle.cli.specs.Numbers.{is_digit, all_digits, value_from, number_in}

-- one digit more, as far as 64 bits go
abbrev pub up : ℕ → ℕ → ℕ
up v b = measured (v * 10 + (b - 48))

-- what a call on one byte gives: none where it is no digit
abbrev pub Turned : ℕ → ℕ → Option ℕ → Type 0
Turned v b r = MatchOption r (is_digit b ≡ false) (λ w. (is_digit b ≡ true) × (w ≡ up v b))

fold_up : (n : ℕ) (bs : List ℕ) → fold up (measured n) bs ≡ measured (value_from n bs)
fold_up n [] = refl
fold_up n (b ∷ bs) =
    let e : up (measured n) b ≡ measured (n * 10 + (b - 48)) = omega arith in
    ap (λ v. fold up v bs) e ∙ fold_up (n * 10 + (b - 48)) bs

number_if : (bs : List ℕ) (t : Bool) → (length bs ≡ 0 → ⊥) → all_digits bs ≡ t → number_in bs ≡ cond t (Some (measured (value_from 0 bs))) None
number_if [] t n e = absurd (n refl)
number_if (b ∷ bs) t n e = ap (λ x. cond x (Some (measured (value_from 0 (b ∷ bs)))) None) e

item_is : (P : ℕ → Type 0) (o : Option ℕ) (x : ℕ) → option_map (λ y. y) o ≡ Some x → IfSome o P → P x
item_is P None x e h = absurd (cc)
item_is P (Some y) x e h = let i : y ≡ x = cc in subst P i h

item_at : (P : ℕ → Type 0) (o : Option ℕ) (x : ℕ) → IfSome o (λ y. y ≡ x) → IsSomeAnd o P → P x
item_at P None x e h = absurd h
item_at P (Some y) x e h = subst P e h

by_whole : {A B C : Type 0} (w : Bool) → MatchBool w A B → (w ≡ true → A → C) → (B → C) → C
by_whole true h a b = a refl h
by_whole false h a b = b h

-- a run over the bytes bs, by calls that each take one byte
module _ {S F : Type 0} {steps : S → Option ℕ → S → Type 0} (g : Mut F (ℕ × (ℕ × Unit {0})) (Option ℕ)) (f : F) (p : Run steps) (bs : List ℕ) (items : ItemsAreBytes p bs)
    (turn : (v b : ℕ) (o : Option ℕ) (q : F) → Called g f (v, (b, tt)) o q → (q ≡ f) × Turned v b o) where
  keeps : CallKeepsClosure g f
  keeps a o q call = (turn a.0 a.1.0 o q call).0

  goes_on : (v b : ℕ) (o : Option ℕ) (c : ℕ) (q : F) → Called g f (v, (b, tt)) o q → o ≡ Some c → (is_digit b ≡ true) × (c ≡ up v b)
  goes_on v b o c q call is = MatchOption-at_some _ _ c is (turn v b o q call).1

  whole_digits : p.whole ≡ true → AllItems p (λ b. (v : ℕ) × (o : Option ℕ) × (c : ℕ) × Called g f (v, (b, tt)) o f × (o ≡ Some c)) → all_digits bs ≡ true
  whole_digits e all =
      let len = items.0.1 e in
      list_all-from_AllPass is_digit bs (All-from_get_or (λ b. is_digit b ≡ true) bs 0 (λ k i. let d = item_is _ (p.at k) (get_or bs k 0) (items.0.2 k 0 (omega arith)) (all k) in (goes_on d.0 _ d.1 d.2 f d.3 d.4).0))

  broken_digits : AnyItem p (λ b. (v : ℕ) × (o : Option ℕ) × Called g f (v, (b, tt)) o f × (o ≡ None)) → all_digits bs ≡ false
  broken_digits any =
      let d = item_at _ (p.at any.0) (get_or bs any.0 0) (items.1 any.0) any.2 in
      list_all_at is_digit bs any.0 0 (omega arith) (MatchOption-at_none _ _ d.3 (turn d.0 _ d.1 f d.2).1)

  -- the bytes were read to their end, or up to one that is no digit
  pub number_read : (E : Type 0) (r : Option ℕ) → (length bs ≡ 0 → ⊥) → IsTryFoldRun p g f (λ o c. o ≡ continue_value c) (λ (e : E) o. o ≡ None) 0 r → r ≡ number_in bs
  number_read E r n run =
      by_whole p.whole run
      (λ e h. let total = h.2 up (λ v b o c q call is. (keeps (v, (b, tt)) o q call, (goes_on v b o c q call is).1)) in h.1 ∙ ap Some (total ∙ ap (λ x. fold up 0 x) (items.0.4 e) ∙ fold_up 0 bs) ∙ sym (number_if bs true n (whole_digits e (h.3 keeps))))
      (λ h. h.1 ∙ sym (number_if bs false n (broken_digits (h.2 keeps))))
