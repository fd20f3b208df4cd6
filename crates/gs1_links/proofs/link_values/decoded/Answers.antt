use Rattle.std.proofs.Common.{◌≡◌}
use Rattle.std.proofs.Common.{rules, ◌++◌, ◌∷◌, []}
use Rattle.gs1_links.proofs.LinkLoops.{decode_more, decode_all}
use Rattle.gs1_links.proofs.LinkValues.{shorter}
use Rattle.gs1_links.proofs.link_values.decoded.Goals as goal

pub loop-byte-smaller : goal.loop-byte-smaller
loop-byte-smaller c = rw c.after_byte-rest.ensures (shorter _ c.in-Some.ensures.some.0)

pub loop-byte-preserved : goal.loop-byte-preserved
loop-byte-preserved c =
    let pushed : c.push.new.self.items ≡ c.loop-byte.bytes.items ++ c.in-Some.byte ∷ [] = search rules in
    decode_more _ _ _ _ _ _ pushed c.after_byte-rest.ensures c.in-Some.ensures.some.0 c.in-Some.ensures.some.1 c.loop-byte.invariant

pub returns : goal.returns
returns c = decode_all _ _ _ c.in_default.ensures.none c.loop-byte.invariant
