use Rattle.std.proofs.Common.{◌≡◌, ◌∷◌, ◌+◌, ◌*◌, ◌%◌, length, ◌∙◌, ℕ, suc, sym, ap, arith}
use Rattle.png.specs.Checksums.{Sums, sums_from}
use Rattle.png.specs.Pictures.{times}
use Rattle.png.proofs.SumLemmas.{lines_added}
use Rattle.png.proofs.checksums.add_row.Goals as goal

pub loop-i-preserved : goal.loop-i-preserved
loop-i-preserved c =
    let n : suc c.loop-i.i ≡ c.loop-i.i + 1 = omega arith in
    let k = ap (λ (m : ℕ). sums_from c.args.sums.low c.args.sums.high (times m (0 ∷ c.args.row.now))) n in
    let j = sym k ∙ lines_added c.args.sums.low c.args.sums.high c.loop-i.low c.loop-i.high c.loop-i.i c.args.row.now
    c.loop-i.invariant.low_small c.loop-i.invariant.high_small c.loop-i.invariant.low c.loop-i.invariant.high in
    record {
      low_small = omega arith;
      high_small = omega arith;
      low = ap (λ (n : ℕ). (c.loop-i.low + n) % 65521) (c.from-in-loop-i.ensures ∙ c.sums_of_row-part.ensures.low) ∙ sym (ap (λ (s : Sums). s.low) j);
      high =
          ap (λ (n : ℕ). (c.loop-i.high + (length c.args.row.now + 1) * c.loop-i.low + n) % 65521) (c.from.ensures ∙ c.sums_of_row-part.ensures.high)
          ∙ sym (ap (λ (s : Sums). s.high) j);
    }
