use Rattle.std.proofs.Common.{◌≡◌, ◌+◌, ◌-◌, ◌*◌, ◌%◌, ◌≤◌, ℕ, List, length, take, sym, ap, ◌∙◌, arith}
use Rattle.std.proofs.Math.Nat.{zero-mul}
use Rattle.std.proofs.lemmas.List.{take_all}
use Rattle.png.specs.Checksums.{Sums}
use Rattle.png.proofs.SumLemmas.{plain_next, plain_sums, sums_by_plain, weighted_bound, weighted_next}
use Rattle.png.proofs.checksums.add_block.Goals as goal

pub loop-i-preserved : goal.loop-i-preserved
loop-i-preserved c =
    let xs = c.args.block.now in
    let i = c.loop-i.i in
    let b = c.from-byte.result in
    let so_far = c.loop-i.invariant in
    let small : b ≤ 255 = omega (arith, c.from-byte.ensures, (c.type_inv.block i).fits) in
    record {
      plain_small = omega (arith, so_far.plain_small, small);
      weighted_small = omega (arith, so_far.weighted_small, weighted_bound (length xs) i b c.requires.few small);
      plain = plain_next xs i b c.loop-i.plain c.loop-i-test.true c.from-byte.ensures so_far.plain;
      weighted = weighted_next xs i b c.loop-i.plain c.loop-i.weighted c.loop-i-test.true c.from-byte.ensures so_far.plain so_far.weighted;
    }

pub returns-clause-low : goal.returns-clause-low
returns-clause-low c =
    let xs = c.args.block.now in
    let whole : take c.loop-i.i xs ≡ xs = take_all c.loop-i.i xs (omega (arith, c.loop-i-test.false)) in
    let same : (plain_sums (take c.loop-i.i xs)).low ≡ (plain_sums xs).low = ap (λ (l : List ℕ). (plain_sums l).low) whole in
    let e : c.from.result + c.from-2.result ≡ c.args.sums.low + (plain_sums xs).low =
    omega (arith, c.from.ensures, c.from-2.ensures, c.loop-i.invariant.plain, same) in
    ap (λ (n : ℕ). n % 65521) e
    ∙ sym (ap (λ (t : Sums). t.low) (sums_by_plain c.args.sums.low c.args.sums.high xs c.requires.low c.requires.high))

pub returns-clause-high : goal.returns-clause-high
returns-clause-high c =
    let xs = c.args.block.now in
    let none : length xs - c.loop-i.i ≡ 0 = omega (arith, c.loop-i-test.false) in
    let whole : take c.loop-i.i xs ≡ xs = take_all c.loop-i.i xs (omega (arith, c.loop-i-test.false)) in
    let same : (plain_sums (take c.loop-i.i xs)).high ≡ (plain_sums xs).high = ap (λ (l : List ℕ). (plain_sums l).high) whole in
    let last : (length xs - c.loop-i.i) * c.loop-i.plain ≡ 0 = ap (λ (n : ℕ). n * c.loop-i.plain) none ∙ zero-mul c.loop-i.plain in
    let product : c.from-4.result * c.from-5.result ≡ length xs * c.args.sums.low =
    ap (λ (n : ℕ). n * c.from-5.result) c.from-4.ensures ∙ ap (λ (n : ℕ). length xs * n) c.from-5.ensures in
    let e : c.from-3.result + c.from-4.result * c.from-5.result + c.from-6.result
    ≡ c.args.sums.high + length xs * c.args.sums.low + (plain_sums xs).high =
    omega (arith, c.from-3.ensures, c.from-6.ensures, product, c.loop-i.invariant.weighted, same, last) in
    ap (λ (n : ℕ). n % 65521) e
    ∙ sym (ap (λ (t : Sums). t.high) (sums_by_plain c.args.sums.low c.args.sums.high xs c.requires.low c.requires.high))
