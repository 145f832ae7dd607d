-- The calls of a step, each made on what the one before left, are the step.
use Rattle.std.proofs.Common.{◌≡◌, ℕ, List, ap, ◌∙◌}
use Rattle.import.specs.declared.answer.Opened.{Opened}
use Rattle.import.specs.declared.stage.How.{How}
use Rattle.import.specs.Models.{Model}
use Rattle.import.specs.Calls.{Answer, row, next, read, file, counts}
use Rattle.import.specs.Steps.{Out, step}
use Rattle.passes.specs.Passes.{over, opened_of, how_filed, filing, reading, pass}
use Rattle.passes.proofs.PassLaws.{opens_fresh, its_number}

pub passes : (bytes : List ℕ) (m : Model) (o : Opened) (m1 : Model) (a : Answer) (m2 m3 : Model) (number : ℕ) (how : How) →
    (row o, m1) ≡ step bytes m next → number ≡ opened_of (step bytes m1 counts).0 → (a, m2) ≡ step bytes m1 read → how ≡ how_filed m2.standing → m3 ≡ (step bytes m2 (file how o.slip)).1 →
    (over number o.start o.length o.mark a how, m3) ≡ pass bytes m
passes bytes m o m1 a m2 m3 number how opens counted reads files left =
    ap (λ n. (over n o.start o.length o.mark a how, m3)) (counted ∙ its_number bytes o m1 (opens_fresh o m1 bytes m opens))
    ∙ ap (λ n. (over o.slip.row o.start o.length o.mark a how, n)) left
    ∙ ap (λ h. (over o.slip.row o.start o.length o.mark a h, (step bytes m2 (file h o.slip)).1)) files
    ∙ ap (filing bytes o) reads
    ∙ ap (λ (x : Out). reading bytes x.0 x.1) opens
