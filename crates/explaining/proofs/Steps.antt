-- Writing what is said of one thing after another.
use Rattle.std.proofs.Common.{◌≡◌, ℕ, ◌+◌, ◌<◌, List, ◌++◌, length, drop, Option, get_or, subst, ◌∙◌, append_assoc}
use Rattle.std.proofs.lemmas.List.{at_drop_more}
use Rattle.std.specs.List.{flat_map}
use Rattle.std.specs.Io.KnownBytes.{Appends}
use Rattle.tracing.proofs.Streams.{Owes, owes_rest}

-- what is said of the thing at a place stands before what is said of those behind it
pub owes_next : {X : Type 0} (f : X → List ℕ) (xs : List X) (i : ℕ) (d : X) (rest all : List ℕ) (a b c : Option (List ℕ)) → i < length xs → Owes a b (flat_map f (drop i xs) ++ rest) all → Appends b c (f (get_or xs i d)) → Owes a c (flat_map f (drop (i + 1) xs) ++ rest) all
owes_next f xs i d rest all a b c within owed gave =
    let step : flat_map f (drop i xs) ++ rest ≡ f (get_or xs i d) ++ (flat_map f (drop (i + 1) xs) ++ rest) =
    at_drop_more (λ ys. flat_map f ys ++ rest) xs i d within ∙ append_assoc (f (get_or xs i d)) (flat_map f (drop (i + 1) xs)) rest in
    owes_rest a b c (f (get_or xs i d)) _ all (subst (λ x. Owes a b x all) step owed) gave
