-- The symbol of the choice is the one that the options ask for.
use Rattle.std.proofs.Common.{◌≤◌, arith, rules, subst, sym}
use Rattle.std.proofs.lemmas.Result.{IfOk-weaker, err_from_is_err_and}
use Rattle.qrcode_base.specs.declared.types.Version.{Version}
use Rattle.qrcode_bits.specs.Spelling.{segment_pieces}
use Rattle.qrcode_bits.proofs.Classes.{normal_is}
use Rattle.qrcode_bits.proofs.Pairs.{bytes_valid}
use Rattle.qrcode_core.specs.Options.{HasVersions}
use Rattle.smallest_symbols.specs.ByteHeadline.{HoldsPieces}
use Rattle.smallest_symbols.specs.BytePieces.{PiecesFit}
use Rattle.smallest_symbols.proofs.ByteFound.{choice_refused, few_versions, level_fits, level_found}
use Rattle.smallest_symbols.proofs.ByteFound.{none_long}
use Rattle.smallest_symbols.proofs.without_kanji.bytes_without_kanji.Goals as goal

pub returns-then-bytes-gt-LONGEST_DATA-clause-refusal : goal.returns-then-bytes-gt-LONGEST_DATA-clause-refusal
returns-then-bytes-gt-LONGEST_DATA-clause-refusal c =
    let range : HasVersions c.args.options.now = search (rules, c.in_ok-least.ensures.range.0) in
    let are = bytes_valid c.args.bytes.now (λ i. omega (arith, c.type_inv.bytes i)) in
    (range, none_long _ _ _ _ range.2 (few_versions _ range.1) are (omega (arith, c.if-bytes-gt-LONGEST_DATA.true)))

pub returns-in_err-choice-clause-refusal : goal.returns-in_err-choice-clause-refusal
returns-in_err-choice-clause-refusal c =
    let range : HasVersions c.args.options.now = search (rules, c.in_ok-least.ensures.range.0) in
    let p = err_from_is_err_and c.from_residual-in_err-choice.result c.from_residual-in_err-choice.ensures.1 in
    rw (p.1, p.2) (choice_refused c.args.options.now _ _ _ _ range c.in_ok-least.ensures.least c.in_ok-least.ensures.greatest
    (omega (arith, c.if-bytes-gt-LONGEST_DATA.false)) c.in_err-choice.ensures.refusal)

pub drawn_plan-requires-clause-fits : goal.drawn_plan-requires-clause-fits
drawn_plan-requires-clause-fits c =
    let range : HasVersions c.args.options.now = search (rules, c.in_ok-least.ensures.range.0) in
    let most = few_versions c.args.options.now.max_version range.1 in
    let few : c.in_ok-choice.choice.number ≤ 40 = omega (arith, most, c.in_ok-least.ensures.greatest, c.in_ok-choice.ensures.chosen.up_to) in
    let chosen = rw (c.in_ok-least.ensures.least, c.in_ok-least.ensures.greatest) at c.in_ok-choice.ensures.chosen in
    let pieces = segment_pieces c.args.bytes.now c.in_ok-choice.choice.plan.items in
    rw c.deref.ensures.value (subst (λ (v : Version). PiecesFit v c.level_of-level.result c.args.bytes.now pieces)
    (sym (normal_is c.in_ok-choice.choice.number few))
    (level_fits _ _ _ _ _ _ c.in_ok-choice.choice.bits _ chosen c.in_ok-choice.ensures.bits c.args.options.now.strongest c.level_of-level.ensures))

pub returns-clause-asked : goal.returns-clause-asked
returns-clause-asked c =
    let range : HasVersions c.args.options.now = search (rules, c.in_ok-least.ensures.range.0) in
    let most = few_versions c.args.options.now.max_version range.1 in
    let few : c.in_ok-choice.choice.number ≤ 40 = omega (arith, most, c.in_ok-least.ensures.greatest, c.in_ok-choice.ensures.chosen.up_to) in
    let chosen = rw (c.in_ok-least.ensures.least, c.in_ok-least.ensures.greatest) at c.in_ok-choice.ensures.chosen in
    let pieces = segment_pieces c.args.bytes.now c.in_ok-choice.choice.plan.items in
    IfOk-weaker c.drawn_plan.result _ _
    (λ symbol held. level_found _ _ _ _ _ _ c.in_ok-choice.choice.bits _ chosen c.in_ok-choice.ensures.bits c.args.options.now.strongest
    c.level_of-level.ensures symbol (subst (λ (v : Version). HoldsPieces pieces v c.level_of-level.result symbol)
    (normal_is c.in_ok-choice.choice.number few) held))
    (rw c.deref.ensures.value at c.drawn_plan.ensures.holds)
