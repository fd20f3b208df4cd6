use Rattle.std.proofs.Common.{◌<◌, arith, ◌∙◌, length}
use Rattle.std.proofs.Math.ListN.{length-set}
use Rattle.gs1_links.proofs.LinkLoops.{fits_more, fill_more, fill_count, fill_all}
use Rattle.gs1_links.proofs.LinkValues.{shorter}
use Rattle.gs1_links.proofs.link_values.decode_to.Goals as goal

pub bounds-buffer-length : goal.bounds-buffer-length
bounds-buffer-length c = fits_more _ _ _ c.in-Some.ensures.some.0 c.loop-byte.invariant.1 c.requires

pub loop-byte-smaller : goal.loop-byte-smaller
loop-byte-smaller c = rw c.after_byte-rest.ensures (shorter _ c.in-Some.ensures.some.0)

pub loop-byte-preserved : goal.loop-byte-preserved
loop-byte-preserved c =
    let small = fits_more _ _ _ c.in-Some.ensures.some.0 c.loop-byte.invariant.1 c.requires in (
      fill_more _ _ _ _ _ _ (let h : c.loop-byte.length < length c.loop-byte.buffer = omega (arith, small, c.loop-byte.invariant.2) in h)
          c.after_byte-rest.ensures c.in-Some.ensures.some.0 c.in-Some.ensures.some.1 c.loop-byte.invariant.0,
      fill_count _ _ _ _ c.after_byte-rest.ensures c.in-Some.ensures.some.0 c.loop-byte.invariant.1,
      length-set _ _ _ ∙ c.loop-byte.invariant.2,
    )

pub returns : goal.returns
returns c = fill_all _ _ _ _ c.in_default.ensures.none c.loop-byte.invariant.0 c.loop-byte.invariant.1
