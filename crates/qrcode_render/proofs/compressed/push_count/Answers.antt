-- One letter more.
use Rattle.std.proofs.Common.{◌≡◌, ◌+◌, ◌-◌, ◌++◌, ◌∷◌, [], subst, arith}
use Rattle.qrcode_render.specs.CompressedData.{SaysCount}
use Rattle.qrcode_render.proofs.ReadingLemmas.{adds_more, one_letter}
use Rattle.qrcode_render.proofs.compressed.push_count.Goals as goal

pub loop-left-preserved : goal.loop-left-preserved
loop-left-preserved c =
    let n = c.args.count - c.loop-left.left in
    let k = c.count_letter-letter.result.1 in
    let letter = c.count_letter-letter.result.0 in
    let sum : n + k ≡ c.args.count - (c.loop-left.left - k) = omega arith in
    record {
      within = omega arith;
      added = adds_more (SaysCount n) (SaysCount (c.args.count - (c.loop-left.left - k))) c.args.bytes.now.items c.loop-left.bytes.items c.push.new.self.items
          (letter ∷ []) c.loop-left.invariant.added c.in_ok-push.ensures.items
          (λ before says. subst (λ m. SaysCount m (before ++ letter ∷ [])) sum
          (one_letter n letter k before says c.count_letter-letter.ensures.counts c.count_letter-letter.ensures.some (λ none. omega arith)));
    }
