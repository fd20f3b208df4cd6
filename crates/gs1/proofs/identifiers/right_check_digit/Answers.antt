use Rattle.std.proofs.Common.{◌-◌, ◌<◌, length, sym, arith}
use Rattle.std.proofs.lemmas.Option.{get_or_from_slice_get, slice_get_within}
use Rattle.gs1.proofs.Digits.{sum_before_last, right_digit}
use Rattle.gs1.proofs.identifiers.right_check_digit.Goals as goal

pub overflow_sub-weighted_sum : goal.overflow_sub-weighted_sum
overflow_sub-weighted_sum c =
    let last = get_or_from_slice_get c.args.value.now _ c.in_ok-last.field-0.now 0 (sym c.in_ok-last.ensures.value) in
    let some : 0 < length c.args.value.now = omega (arith, slice_get_within c.args.value.now _ _ (sym c.in_ok-last.ensures.value)) in
    omega (arith, last, sum_before_last c.args.value.now some)

pub returns-clause-right : goal.returns-clause-right
returns-clause-right c =
    let last = get_or_from_slice_get c.args.value.now _ c.in_ok-last.field-0.now 0 (sym c.in_ok-last.ensures.value) in
    let some : 0 < length c.args.value.now = omega (arith, slice_get_within c.args.value.now _ _ (sym c.in_ok-last.ensures.value)) in
    right_digit c.args.value.now (c.weighted_sum.result - c.from-last.result) c.completing_digit.result
    (omega (arith, last, sum_before_last c.args.value.now some)) c.completing_digit.ensures
