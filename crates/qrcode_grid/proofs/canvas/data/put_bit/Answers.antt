use Rattle.qrcode_grid.proofs.Prelude.{◌≡◌, arith, common_steps, bits_from}
use Rattle.qrcode_grid.proofs.StreamPlaces.{no_bits, first_bit}
use Rattle.qrcode_grid.proofs.canvas.data.put_bit.Goals.{then-bits-gt0, else-bits-gt0+in-Some, else-bits-gt0+in-None}
use Rattle.qrcode_grid.proofs.canvas.data.put_bit.Goals as goal

pub returns-else-ahead-eq0 : goal.returns-else-ahead-eq0
returns-else-ahead-eq0 c =
    let same : bits_from c.args.streams c.if-bits-gt0.ahead ≡ bits_from c.args.streams c.args.bits = elim c.if-bits-gt0.branch [
      | then-bits-gt0 w ↦ grind (arith)
      | else-bits-gt0+in-Some w ↦ grind (arith, no_bits c.args.bits.word)
      | else-bits-gt0+in-None w ↦ grind (arith)
    ] in
    record {
      small = grind (arith);
      modules = grind (arith, common_steps, first_bit, same);
      rest = grind (arith, common_steps, first_bit, same);
    }
