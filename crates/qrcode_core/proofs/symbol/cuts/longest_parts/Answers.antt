use mir.Syntax.{w16}
use Rattle.qrcode_core.proofs.Prelude.{arith, nat_abs, to_z-of_z, sym, subst, ◌+◌, ◌<◌, ◌≤◌, ◌≡◌, ◌∙◌, ◌++◌, ◌∷◌, [], length, get_or_default}
use Rattle.std.specs.Prelude.{slice_index_or}
use Rattle.qrcode_bits.proofs.{Pairs.bytes_valid, Classes.limit_of}
use Rattle.qrcode_core.proofs.BestCuts.{IsCutUpTo, nothing_cut, one_cut, all_cut, many_cuts, none_at_all}
use Rattle.qrcode_core.proofs.symbol.cuts.longest_parts.Goals as goal

pub loop-count-init : goal.loop-count-init
loop-count-init c =
    rw (to_z-of_z w16 c.args.max_version c.ranges.max_version, c.new-cuts.ensures.items)
    (nothing_cut c.args.content c.args.bytes.now c.args.level (nat_abs c.args.max_version) c.requires.cut c.in_ok-places.places.items c.in_ok-places.ensures)

pub returns-then-bytes-clause-refusal : goal.returns-then-bytes-clause-refusal
returns-then-bytes-clause-refusal c =
    let same = to_z-of_z w16 c.args.max_version c.ranges.max_version in
    let normal = limit_of c.args.max_version _ _ same c.is_normal_number.ensures c.if-not-is_normal_number.false in
    let last : nat_abs c.args.max_version ≤ 40 = grind (arith, normal) in
    let are = bytes_valid c.args.bytes.now (λ i. omega (arith, c.type_inv.bytes i)) in
    (normal, many_cuts c.args.content c.args.bytes.now c.args.level (nat_abs c.args.max_version) last are (omega (arith, c.if-bytes.true)))

pub returns-then-last-len-clause-best : goal.returns-then-last-len-clause-best
returns-then-last-len-clause-best c =
    let same = to_z-of_z w16 c.args.max_version c.ranges.max_version in
    let known = rw same at c.loop-count.invariant in
    let places = c.in_ok-places.places.items in
    let found = c.in_ok-last.ensures in
    let end : c.in_ok-last.last + 1 ≡ length places = grind (arith, c.if-last-len, c.len.ensures) in
    all_cut c.args.content c.args.bytes.now c.args.level (nat_abs c.args.max_version) c.requires.cut places c.in_ok-places.ensures c.loop-count.first
    c.in_ok-last.last
    c.loop-count.count c.loop-count.cuts.items known found.from (rw c.deref.ensures.value at found.exists)
    (rw (same, c.deref.ensures.value) at found.fits) (rw (same, c.deref.ensures.value) at found.last) (omega (arith, c.loop-count-test.true)) end

pub returns-then-last-first-clause-refusal : goal.returns-then-last-first-clause-refusal
returns-then-last-first-clause-refusal c =
    let same = to_z-of_z w16 c.args.max_version c.ranges.max_version in
    let normal = limit_of c.args.max_version _ _ same c.is_normal_number.ensures c.if-not-is_normal_number.false in
    let known = rw same at c.loop-count.invariant in
    let places = c.in_ok-places.places.items in
    let found = c.in_ok-last.ensures in
    let before_end : c.in_ok-last.last + 1 < length places = grind (arith, c.if-last-len, c.len.ensures, found.exists, c.deref.ensures) in (
      normal,
      none_at_all c.args.content c.args.bytes.now c.args.level (nat_abs c.args.max_version) c.requires.cut places c.in_ok-places.ensures
          c.loop-count.first c.in_ok-last.last c.loop-count.count c.loop-count.cuts.items known
          (omega (arith, c.if-last-first.true, found.from))
          (rw (same, c.deref.ensures.value) at found.last) before_end,
    )

pub loop-count-preserved : goal.loop-count-preserved
loop-count-preserved c =
    let same = to_z-of_z w16 c.args.max_version c.ranges.max_version in
    let known = rw same at c.loop-count.invariant in
    let places = c.in_ok-places.places.items in
    let found = c.in_ok-last.ensures in
    let before_end : c.in_ok-last.last + 1 < length places = grind (arith, c.if-last-len, c.len.ensures, found.exists, c.deref.ensures) in
    let item : c.index.result.now ≡ slice_index_or places c.in_ok-last.last 0 =
    c.index.ensures ∙ get_or_default places c.in_ok-last.last c.index.result.now 0 (omega (arith, before_end)) in
    rw (same, c.in_ok-push.ensures.items)
    (subst (λ n. IsCutUpTo c.args.content c.args.bytes.now c.args.level (nat_abs c.args.max_version) places c.in_ok-last.last (c.loop-count.count + 1)
    (c.loop-count.cuts.items ++ n ∷ [])) (sym item)
    (one_cut c.args.content c.args.bytes.now c.args.level (nat_abs c.args.max_version) c.requires.cut places c.in_ok-places.ensures c.loop-count.first
    c.in_ok-last.last
    c.loop-count.count c.loop-count.cuts.items known found.from (rw c.deref.ensures.value at found.exists)
    (rw (same, c.deref.ensures.value) at found.fits) (rw (same, c.deref.ensures.value) at found.last) before_end))
