-- One byte more is written.
use Rattle.std.proofs.Common.{rules, ◌≡◌, ◌++◌, ◌∙◌, map, set, take, drop, get_or, ap, add-one, arith}
use Rattle.qrcode_base.specs.declared.types.Color.TheVariants.{Light}
use Rattle.qrcode_grid.specs.Penalty.{byte_of}
use Rattle.qrcode_c.proofs.Writing.{written_step}
use Rattle.qrcode_c.proofs.drawing.write_modules.Goals as goal

pub loop-i-preserved : goal.loop-i-preserved
loop-i-preserved c =
    let is : c.select.result ≡ byte_of (get_or c.args.colors.now c.loop-i.i Light) = search rules in
    rw add-one (ap (λ t. set t c.loop-i.i c.select.result) c.loop-i.invariant
    ∙ ap (λ t. set (map byte_of (take c.loop-i.i c.args.colors.now) ++ drop c.loop-i.i c.args.modules.now) c.loop-i.i t) is
    ∙ written_step byte_of c.args.colors.now c.args.modules.now c.loop-i.i _ (omega arith) (omega (arith, c.requires)))
