-- The frame of one row more is written, or the tail behind the last.
use Rattle.std.proofs.Common.{rules, ◌≡◌, ◌+◌, length, Ok, Some, ap, sym, subst, ◌∙◌, arith}
use Rattle.std.proofs.lemmas.List.{length-append}
use Rattle.std.specs.Io.KnownBytes.{Appends}
use Rattle.import.specs.Answers.{said_done}
use Rattle.import.specs.Calls.{done}
use Rattle.import.specs.Models.{Model}
use Rattle.import.specs.States.{model_of}
use Rattle.import.specs.Tells.{read_says}
use Rattle.passes.specs.Passes.{said_pass}
use Rattle.passes.specs.Walks.{walk, walked}
use Rattle.tracing.specs.Prints.{bytes_ahead, frames_ahead}
use Rattle.tracing.proofs.Rows.{OneRow, one_row, no_row, still_ready}
use Rattle.tracing.proofs.Streams.{Owes, owes_rest, owes_last}
use Rattle.tracing.proofs.PrintLaws.{its_read, frame_first, printable_rest, unread_later, before_first, frame_put, tail_ahead, tail_put}
use Rattle.tracing.proofs.print.print_rows.Goals as goal

pub returns-in-Ok-None-clause-written : goal.returns-in-Ok-None-clause-written
returns-in-Ok-None-clause-written g c =
    let file = c.args.file.now in
    let k = c.loop-why.invariant in
    let m = model_of file c.loop-why.import in
    let n = model_of file c.pass_next.new.import in
    let w = subst (λ r. (said_pass r, n) ≡ walk m) (c.in-Ok-None.is ∙ ap Ok c.in-Ok-None.field-0-is) (c.pass_next.ensures.walks k.ready) in
    let last = no_row m n w in
    let put = tail_put file m n k.ready last.0 last.1 c.loop-why.buffer c.closing-put.new.out c.closing-put.result k.room c.closing-put.ensures.step in
    let gave = subst (Appends (g.W.Write.contents c.loop-why.out) (g.W.Write.contents c.write_put.new.out)) (put ∙ sym (tail_ahead file m n k.ready last.0 last.1)) c.in_ok-write_put-in-Ok-None.ensures in
    owes_last _ _ _ _ _ k.owes gave

pub returns-in-Ok-None-clause-behind : goal.returns-in-Ok-None-clause-behind
returns-in-Ok-None-clause-behind g c =
    let file = c.args.file.now in
    let m = model_of file c.loop-why.import in
    let n = model_of file c.pass_next.new.import in
    let w = subst (λ r. (said_pass r, n) ≡ walk m) (c.in-Ok-None.is ∙ ap Ok c.in-Ok-None.field-0-is) (c.pass_next.ensures.walks c.loop-why.invariant.ready) in
    let last = no_row m n w in
    last.1 ∙ ap (walked m) (sym last.0) ∙ c.loop-why.invariant.behind

pub loop-why-preserved : goal.loop-why-preserved
loop-why-preserved g c =
    let file = c.args.file.now in
    let k = c.loop-why.invariant in
    let m = model_of file c.loop-why.import in
    let n = model_of file c.pass_next.new.import in
    let first = model_of file c.args.import.now in
    let p = c.in-Ok-Some.row in
    let w = subst (λ r. (said_pass r, n) ≡ walk m) (c.in-Ok-Some.is ∙ ap Ok c.in-Ok-Some.field-0-is) (c.pass_next.ensures.walks k.ready) in
    let x = said_pass (Ok (Some p)) in
    let one : OneRow m n x = one_row m n p w in
    let was_read : said_done p.read ≡ done = search rules in
    let readable : read_says m.setting one.row.bytes ≡ done = sym (its_read m n x one) ∙ was_read in
    let frame = m.setting.rule.frame one.row.bytes one.row.mark in
    let put = frame_put m n x one readable file c.loop-why.buffer c.print-put.new.out c.print-put.result k.printable k.room (c.print-put.ensures.step file) in
    let old = g.W.Write.contents c.args.out.now in
    let now = g.W.Write.contents c.loop-why.out in
    let owed = subst (λ y. Owes old now y (bytes_ahead first)) (frame_first m n x one) k.owes in
    let owed_above = subst (λ y. Owes old now y (frames_ahead first)) (before_first m n x one readable) k.before in
    let gave = subst (Appends now (g.W.Write.contents c.write_put-in-Ok-Some.new.out)) put c.in_ok-write_put-in-Ok-Some.ensures in
    let long : length (bytes_ahead m) ≡ length frame + length (bytes_ahead n) = ap length (frame_first m n x one) ∙ length-append frame (bytes_ahead n) in
    record {
      ready = still_ready m n x one file k.ready;
      printable = printable_rest m n x one k.printable;
      room = omega (arith, k.room, long);
      owes = owes_rest _ _ _ _ _ _ owed gave;
      before = owes_rest _ _ _ _ _ _ owed_above gave;
      unread = unread_later m n x one readable ∙ k.unread;
      behind = ap (λ (y : Model). walked y y.ahead.rows) one.left ∙ sym (ap (walked m) one.is) ∙ k.behind;
    }
