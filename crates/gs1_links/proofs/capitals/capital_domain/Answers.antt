-- A byte more is written, up to the last.
use Rattle.std.proofs.Common.{refl, arith}
use Rattle.gs1_links.proofs.CapitalLemmas.{all_written, one_more}
use Rattle.gs1_links.proofs.capitals.capital_domain.Goals as goal

pub loop-byte-preserved : goal.loop-byte-preserved
loop-byte-preserved c =
    rw (c.in_ok-push.ensures.items, c.written.ensures, c.is_in_host-in_host.ensures)
    (one_more c.loop-byte.in_host c.loop-byte.capitals.items c.args.domain.now c.loop-byte.byte-index _ c.loop-byte-test.true refl
    c.loop-byte.invariant)

pub returns : goal.returns
returns c =
    all_written c.loop-byte.in_host c.loop-byte.capitals.items c.args.domain.now c.loop-byte.byte-index (omega (arith, c.loop-byte-test.false))
    c.loop-byte.invariant
