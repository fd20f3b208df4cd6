use Rattle.qrcode_grid.proofs.Prelude.{arith, common_steps, sum_by_more}
use Rattle.qrcode_grid.proofs.StreamPlaces.{part_end, place-bounded, place-no, place-row_end, place-yes, written-more}
use Rattle.qrcode_grid.proofs.ec.write_row.Goals as goal

pub bounds-bytes-start : goal.bounds-bytes-start
bounds-bytes-start g c = grind (arith, common_steps, part_end)

pub bounds-stream-next : goal.bounds-stream-next
bounds-stream-next g c = grind (arith, common_steps, place-bounded)

pub overflow_add-next : goal.overflow_add-next
overflow_add-next g c = grind (arith, common_steps, place-bounded)

pub loop-size-preserved : goal.loop-size-preserved
loop-size-preserved g c = grind (arith, common_steps, place-bounded, place-no, place-yes, written-more, sum_by_more)

pub returns-clause-next : goal.returns-clause-next
returns-clause-next g c = grind (arith, common_steps, place-row_end)
