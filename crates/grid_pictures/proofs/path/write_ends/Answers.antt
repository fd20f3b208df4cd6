-- The module before is of the colour of the last one, or begins a run.
use Rattle.std.proofs.Common.{◌≡◌, ◌+◌, ◌-◌, arith, subst, sym}
use Rattle.std.proofs.lemmas.Grind.{common_steps}
use Rattle.grid_pictures.specs.Runs.{EndsRun}
use Rattle.grid_pictures.proofs.RunEnds.{run_same, run_other, runs_more}
use Rattle.grid_pictures.proofs.path.write_ends.Goals.{then-modules-x, else-modules-x}
use Rattle.grid_pictures.proofs.path.write_ends.Goals as goal

pub loop-i-preserved : goal.loop-i-preserved
loop-i-preserved c =
    let m = c.args.modules.now in
    let columns = c.args.columns in
    let i = c.loop-i.i in
    let x = columns - 1 - i in
    let end = c.if-modules-x.end in
    let place : x + 1 + i ≡ columns = omega (arith, c.loop-i-test.true) in
    let inv = c.loop-i.invariant in
    let here : EndsRun m columns x end = elim c.if-modules-x.branch [
      | then-modules-x w ↦ run_other m columns i x end place (omega (arith, w.end-is)) w.if-modules-x.true
      | else-modules-x w ↦ subst (EndsRun m columns x) (sym w.end-is) (run_same m columns i x c.loop-i.end place inv.first inv.here w.if-modules-x.false)
    ] in
    let next : x ≡ columns - (i + 1) = omega (arith, place) in
    record {
      long = grind (arith, common_steps, inv.long);
      last = grind (arith, common_steps, inv.last, place);
      first = grind (arith);
      here = λ _. subst (λ k. EndsRun m columns k end) next here;
      runs = λ k least below. runs_more m columns c.loop-i.ends x end (omega (arith, c.requires.room, inv.long, place)) here
          (λ j more inside. inv.runs j (omega (arith, more, place)) inside) k (omega (arith, least, next)) below;
    }
