-- The counts and the tail's place are those of the import at the end.
use Rattle.std.proofs.Common.{◌≡◌, [], refl, sym, subst, ◌∙◌}
use Rattle.std.specs.Io.KnownBytes.{Appends}
use Rattle.cli.specs.Listings.{closes_unended}
use Rattle.import.specs.declared.stage.Stage.TheVariants.{End}
use Rattle.import.specs.States.{model_of}
use Rattle.tracing.proofs.Streams.{if_ok}
use Rattle.explaining.specs.Explanations.{closing_text, end_text}
use Rattle.explaining.proofs.Standing.{counted_at, nothing_told}
use Rattle.explaining.proofs.explain.write_end.Goals as goal

pub returns-in-Ok : goal.returns-in-Ok
returns-in-Ok g c =
    let m = model_of [] c.args.import.now in
    let last = c.args.last in
    let start = c.in-End.start in
    let n = c.in-End.length in
    let at : m.stage ≡ End start n = sym (c.stage.ensures []) ∙ c.in-End.is in
    let told = counted_at [] m start n c.counts.result at (c.counts.ensures.step []) in
    let same : c.in-Ok.counts ≡ m.counts = cc in
    let a = g.W.Write.contents c.args.out.now in
    let b = g.W.Write.contents c.write_closing.new.out in
    if_ok c.write_closing.result (λ h. subst (λ p. Appends a b (end_text p m.counts last)) (sym at) (subst (λ x. Appends a b (closing_text x start n (closes_unended last))) same h)) c.write_closing.ensures

pub returns-in-Err : goal.returns-in-Err
returns-in-Err g c =
    let m = model_of [] c.args.import.now in
    let at : m.stage ≡ End c.in-End.start c.in-End.length = sym (c.stage.ensures []) ∙ c.in-End.is in
    let told = counted_at [] m c.in-End.start c.in-End.length c.counts.result at (c.counts.ensures.step []) in
    absurd cc

pub returns-in-Empty : goal.returns-in-Empty
returns-in-Empty g c = nothing_told _ _ _ c.args.import.now.counts c.args.last (sym (c.stage.ensures []) ∙ c.in-Empty.is) refl

pub returns-in-Between : goal.returns-in-Between
returns-in-Between g c = nothing_told _ _ _ c.args.import.now.counts c.args.last (sym (c.stage.ensures []) ∙ c.in-Between.is) refl

pub returns-in-Unread : goal.returns-in-Unread
returns-in-Unread g c = nothing_told _ _ _ c.args.import.now.counts c.args.last (sym (c.stage.ensures []) ∙ c.in-Unread.is) refl

pub returns-in-Read : goal.returns-in-Read
returns-in-Read g c = nothing_told _ _ _ c.args.import.now.counts c.args.last (sym (c.stage.ensures []) ∙ c.in-Read.is) refl
