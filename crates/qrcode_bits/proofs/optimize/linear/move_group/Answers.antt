use Rattle.qrcode_bits.proofs.Prelude.{arith, ◌∙◌, inl, inr, cases_eq}
use Rattle.qrcode_bits.proofs.Grouping.{set-none, set-other, long-set}
use Rattle.qrcode_bits.proofs.optimize.linear.move_group.Goals as goal

pub loop-bucket-preserved : goal.loop-bucket-preserved
loop-bucket-preserved g c =
    let read = g.S.AnyStart.read in
    let far = g.S.AnyStart.FAR in
    let now = c.loop-bucket.groups in
    let inv = c.loop-bucket.invariant in
    let j = c.loop-bucket.bucket in
    let inside = c.loop-bucket-test.true in
    let slot = c.slot_of-in-loop-bucket.result in
    let is = c.slot_of-in-loop-bucket.ensures.slot in
    let none = c.none.result in
    record {
      long = long-set read far now inv.long c.args.from j slot none inside is;
      none = λ i below. elim (cases_eq i j) [
        | inl e ↦ rw e (set-none read far now inv.long c.args.from j slot none inside is c.none.ensures)
        | inr ne ↦ set-other read far now inv.long c.args.from j slot none inside is c.args.from i (omega arith) (λ _ e. ne e)
            ∙ inv.none i (omega arith)
      ];
      others = λ mode i below apart. set-other read far now inv.long c.args.from j slot none inside is mode i below (λ e _. apart e)
          ∙ inv.others mode i below apart;
    }
