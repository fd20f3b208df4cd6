use Rattle.qrcode_grid.proofs.Prelude.{◌≡◌, ℕ, List, ◌<◌, ◌++◌, length, get_or, take, ap, ◌∙◌, refl, sym, subst, arith, take_all, take_more, All-drop}
use Rattle.qrcode_grid.proofs.Prelude.{AreBytes, length-take, IsRemainder}
use Rattle.qrcode_grid.proofs.RowDivision.{first_remainder, next_remainder, put_in_zeros, value_at-completed}
use Rattle.std.proofs.Math.Seq.{drop-append_seam}
use Rattle.qrcode_grid.proofs.ec.field.add_code.Goals as goal

pub loop-byte-init : goal.loop-byte-init
loop-byte-init c = record {
  size = refl;
  is = λ n divisor terms d rows. first_remainder n divisor d.small;
}

pub loop-byte-preserved : goal.loop-byte-preserved
loop-byte-preserved c = record {
  size = c.division_step-lanes.ensures.lanes;
  is = λ n divisor terms d rows.
      let i = c.loop-byte.byte-index in
      let body = c.args.body.now in
      let result = c.division_step-lanes.result in
      subst (λ (seen : List ℕ). IsRemainder n divisor seen result) (sym (take_more body i 0 (omega arith)))
      (next_remainder n (get_or body i 0) divisor terms (take i body) c.loop-byte.lanes result d rows.padded (omega (arith, c.type_inv.body i))
      (c.loop-byte.invariant.is n divisor terms d rows)
      (c.division_step-lanes.ensures.step terms rows.by_low rows.by_high) c.division_step-lanes.ensures.lanes);
}

pub returns : goal.returns
returns c = record {
  adds = λ divisor terms d rows.
      let lanes = c.loop-byte.lanes in
      let n = c.args.n in
      let size : length (take n lanes) ≡ n = length-take n lanes ∙ omega (arith, c.loop-byte.invariant.size, c.requires.small) in
      let is : IsRemainder n divisor c.args.body.now lanes =
      subst (λ (seen : List ℕ). IsRemainder n divisor seen lanes) (take_all c.loop-byte.byte-index c.args.body.now (omega arith))
      (c.loop-byte.invariant.is n divisor terms d rows) in
      let old = c.args.codes.now.items in
      let new = c.extend_from_slice.new.self.items in
      let appended : new ≡ old ++ take n lanes =
      c.in_ok-extend_from_slice.ensures.items ∙ ap (λ t. old ++ take n t) (put_in_zeros lanes c.loop-byte.invariant.size) in
      record {
        code = take n lanes;
        appended = appended;
        size = size;
        bytes = subst AreBytes (drop-append_seam old (take n lanes))
            (All-drop (λ x. x < 256) (length old) (old ++ take n lanes) (subst AreBytes appended c.type_inv.codes));
        vanishes = λ a root. value_at-completed c.args.body.now (take n lanes) n a size (is.congruent a root);
      };
}
