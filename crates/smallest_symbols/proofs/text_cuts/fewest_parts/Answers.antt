use mir.Syntax.{w16}
use Rattle.std.proofs.Common.{arith, nat_abs}
use Rattle.std.proofs.lemmas.Int.{to_z-of_z}
use Rattle.qrcode_bits.proofs.Classes.{limit_of}
use Rattle.text_plans.specs.declared.rules.Manner.TheVariants.{Ascii, Paired, Designated}
use Rattle.smallest_symbols.proofs.BestCuts.{best_of, none_at_best, those_are}
use Rattle.smallest_symbols.proofs.FewestCuts.{many_cuts}
use Rattle.smallest_symbols.proofs.text_cuts.fewest_parts.Goals as goal

pub returns-then-char_count-clause-refusal : goal.returns-then-char_count-clause-refusal
returns-then-char_count-clause-refusal c =
    let same = to_z-of_z w16 c.args.max_version c.ranges.max_version in (
      limit_of c.args.max_version _ _ same c.is_normal_number.ensures c.if-not-is_normal_number.false,
      λ manner. many_cuts manner c.args.text.now c.args.level (nat_abs c.args.max_version) c.utf8.text
          (omega (arith, c.char_count.ensures, c.if-char_count.true)),
    )

pub returns-in-Some-clause-best : goal.returns-in-Some-clause-best
returns-in-Some-clause-best c =
    let same = to_z-of_z w16 c.args.max_version c.ranges.max_version in
    let text = c.args.text.now in
    let level = c.args.level in
    let limit = nat_abs c.args.max_version in
    let ascii = rw same at c.in_ok-ascii.ensures in
    let paired = rw same at c.in_ok-paired.ensures in
    let designated = rw same at c.in_ok-designated.ensures in
    best_of text level limit c.in_ok-ascii.ascii c.in_ok-paired.paired c.fewer-plain.result c.in_ok-designated.designated c.fewer.result
    (those_are text level limit Ascii c.in_ok-ascii.ascii ascii.fewest ascii.none)
    (those_are text level limit Paired c.in_ok-paired.paired paired.fewest paired.none)
    (those_are text level limit Designated c.in_ok-designated.designated designated.fewest designated.none)
    c.fewer-plain.ensures.less c.fewer-plain.ensures.also c.fewer.ensures.less c.fewer.ensures.also c.fewer-plain.ensures.either c.fewer.ensures.either
    c.in-Some.cuts c.in-Some.is

pub returns-clause-refusal : goal.returns-clause-refusal
returns-clause-refusal c =
    let same = to_z-of_z w16 c.args.max_version c.ranges.max_version in
    let text = c.args.text.now in
    let level = c.args.level in
    let limit = nat_abs c.args.max_version in
    let ascii = rw same at c.in_ok-ascii.ensures in
    let paired = rw same at c.in_ok-paired.ensures in
    let designated = rw same at c.in_ok-designated.ensures in (
      limit_of c.args.max_version _ _ same c.is_normal_number.ensures c.if-not-is_normal_number.false,
      none_at_best text level limit c.in_ok-ascii.ascii c.in_ok-paired.paired c.fewer-plain.result c.in_ok-designated.designated c.fewer.result
          (those_are text level limit Ascii c.in_ok-ascii.ascii ascii.fewest ascii.none)
          (those_are text level limit Paired c.in_ok-paired.paired paired.fewest paired.none)
          (those_are text level limit Designated c.in_ok-designated.designated designated.fewest designated.none)
          c.fewer-plain.ensures.less c.fewer-plain.ensures.also c.fewer.ensures.less c.fewer.ensures.also c.fewer-plain.ensures.either
          c.fewer.ensures.either c.in-None.is,
    )
