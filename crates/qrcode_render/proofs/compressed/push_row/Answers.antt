-- One run more, and the end of the row.
use Rattle.std.proofs.Common.{ℕ, ◌+◌, List, [], replicate, take, get_or, arith}
use Rattle.qrcode_render.specs.CompressedData.{EndsRow, SaysDigits, SaysRow}
use Rattle.qrcode_render.proofs.ReadingLemmas.{adds_both, adds_none, no_digits, on_ok_as, says_last, says_next}
use Rattle.qrcode_render.proofs.compressed.push_row.Goals as goal

pub loop-start-init : goal.loop-start-init
loop-start-init c =
    record {
      here = omega arith;
      some = omega arith;
      inside = omega arith;
      equal = c.run_length-run.ensures.equal;
      added = adds_none (SaysDigits []) c.args.bytes.now.items no_digits;
    }

pub loop-start-preserved : goal.loop-start-preserved
loop-start-preserved c =
    let digits = c.args.digits.now in
    let start = c.loop-start.start in
    let run = c.loop-start.run in
    record {
      here = omega arith;
      some = omega arith;
      inside = omega arith;
      equal = c.run_length-run-in-loop-start.ensures.equal;
      added = adds_both (SaysDigits (take start digits)) (SaysDigits (replicate run (get_or digits start 0))) (SaysDigits (take (start + run) digits))
          c.args.bytes.now.items c.loop-start.bytes.items c.push_run.new.bytes.items c.loop-start.invariant.added c.in_ok-push_run.ensures
          (λ before more. says_next digits start run before more (omega arith) c.loop-start.invariant.some c.loop-start.invariant.equal);
    }

pub returns : goal.returns
returns c =
    let digits = c.args.digits.now in
    let start = c.loop-start.start in
    let run = c.loop-start.run in
    on_ok_as c.push_rest.result _ _ (λ rest.
    adds_both (SaysDigits (take start digits)) (EndsRow (replicate run (get_or digits start 0))) (λ characters. (above : List ℕ) → SaysRow above digits characters)
    c.args.bytes.now.items c.loop-start.bytes.items c.push_rest.new.bytes.items c.loop-start.invariant.added rest
    (λ before last says ends above.
    says_last above digits start run before last (omega arith) c.loop-start.invariant.some c.loop-start.invariant.equal says ends)) c.push_rest.ensures
