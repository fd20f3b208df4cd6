-- The symbol at the level asked for, or the one at the greatest level at which it is no larger.
use Rattle.qrcode_core.proofs.Prelude.{◌≡◌, ℕ, ◌≤◌, sym, ◌∙◌, subst, arith, rules, common_steps, to_z-of_z, OutOfMemory}
use Rattle.std.proofs.lemmas.Int.{ints}
use mir.Val.{to_z, of_z}
use mir.Syntax.{w16}
use Rattle.qrcode_bits.proofs.{Contents.length-parsed}
use Rattle.qrcode_core.specs.Options.{IsOptionsRefusal}
use Rattle.qrcode_core.proofs.Strongest.{usual_version, number_is, not_micro, small_number, in_range, within_limit, strongest_asked, best_asked}
use Rattle.qrcode_core.proofs.Strongest.{usual_is_strongest, found_is_strongest}
use Rattle.qrcode_core.proofs.symbol.asked.symbol_as_asked.Goals as goal

pub unreachable-requires : goal.unreachable-requires
unreachable-requires c =
    let version = usual_version _ _ _ _ _ _ c.in_ok-usual.ensures.best c.in_ok-usual.ensures.reading in
    not_micro c.in-Micro.field-0 _ (sym c.in-Micro.is ∙ (c.version.ensures ∙ version))

pub stronger-requires-clause-range : goal.stronger-requires-clause-range
stronger-requires-clause-range c =
    let first : to_z w16 (of_z w16 c.args.options.min_version) ≡ c.args.options.min_version = search (arith, rules, ints, to_z-of_z) in
    let last : to_z w16 (of_z w16 c.args.options.max_version) ≡ c.args.options.max_version = search (arith, rules, ints, to_z-of_z) in
    let best = rw (first, last) at c.in_ok-usual.ensures.best in
    let version = usual_version _ _ _ _ _ _ best c.in_ok-usual.ensures.reading in
    let is = number_is c.in-Normal.number _ (sym c.in-Normal.is ∙ (c.version.ensures ∙ version)) in
    let range = in_range c.args.options.min_version c.args.options.max_version c.in-Normal.number best.best.number
    (rw (first, last) at c.in_ok-usual.ensures.range) is best.up_to in
    rw (small_number c.in-Normal.number _ is range.2) range.0

pub returns-in_err-symbol-clause-refusal : goal.returns-in_err-symbol-clause-refusal
returns-in_err-symbol-clause-refusal c =
    let first : to_z w16 (of_z w16 c.args.options.min_version) ≡ c.args.options.min_version = search (arith, rules, ints, to_z-of_z) in
    let last : to_z w16 (of_z w16 c.args.options.max_version) ≡ c.args.options.max_version = search (arith, rules, ints, to_z-of_z) in
    let short = subst (λ (n : ℕ). n ≤ 7089) (sym (length-parsed c.args.front.now.content c.args.bytes.now)) c.in_ok-usual.ensures.limit in
    let why : IsOptionsRefusal c.args.options c.args.front.now c.args.bytes.now OutOfMemory = (rw (first, last) at c.in_ok-usual.ensures.range, short) in
    grind (arith, common_steps, why)

pub returns-in-Some-clause-asked : goal.returns-in-Some-clause-asked
returns-in-Some-clause-asked c =
    let first : to_z w16 (of_z w16 c.args.options.min_version) ≡ c.args.options.min_version = search (arith, rules, ints, to_z-of_z) in
    let last : to_z w16 (of_z w16 c.args.options.max_version) ≡ c.args.options.max_version = search (arith, rules, ints, to_z-of_z) in
    let best = rw (first, last) at c.in_ok-usual.ensures.best in
    let version = usual_version _ _ _ _ _ _ best c.in_ok-usual.ensures.reading in
    let is = number_is c.in-Normal.number _ (sym c.in-Normal.is ∙ (c.version.ensures ∙ version)) in
    let range = in_range c.args.options.min_version c.args.options.max_version c.in-Normal.number best.best.number
    (rw (first, last) at c.in_ok-usual.ensures.range) is best.up_to in
    let found = rw (small_number c.in-Normal.number _ is range.2, range.1, c.in-Some.is) at c.in_ok-symbol.ensures.found in
    strongest_asked c.args.options c.args.front.now c.args.bytes.now _ c.if-not-options.false
    (found_is_strongest _ _ _ _ _ _ best c.in-Some.symbol (within_limit _ _ _ (rw (first, last) at c.in_ok-usual.ensures.range) best.up_to) found)

pub returns-in-None-clause-asked : goal.returns-in-None-clause-asked
returns-in-None-clause-asked c =
    let first : to_z w16 (of_z w16 c.args.options.min_version) ≡ c.args.options.min_version = search (arith, rules, ints, to_z-of_z) in
    let last : to_z w16 (of_z w16 c.args.options.max_version) ≡ c.args.options.max_version = search (arith, rules, ints, to_z-of_z) in
    let best = rw (first, last) at c.in_ok-usual.ensures.best in
    let version = usual_version _ _ _ _ _ _ best c.in_ok-usual.ensures.reading in
    let is = number_is c.in-Normal.number _ (sym c.in-Normal.is ∙ (c.version.ensures ∙ version)) in
    let range = in_range c.args.options.min_version c.args.options.max_version c.in-Normal.number best.best.number
    (rw (first, last) at c.in_ok-usual.ensures.range) is best.up_to in
    let none = rw (small_number c.in-Normal.number _ is range.2, range.1, c.in-None.is) at c.in_ok-symbol.ensures.none in
    strongest_asked c.args.options c.args.front.now c.args.bytes.now _ c.if-not-options.false (usual_is_strongest _ _ _ _ _ _ best none)

pub returns-then-not-options-clause-asked : goal.returns-then-not-options-clause-asked
returns-then-not-options-clause-asked c =
    let first : to_z w16 (of_z w16 c.args.options.min_version) ≡ c.args.options.min_version = search (arith, rules, ints, to_z-of_z) in
    let last : to_z w16 (of_z w16 c.args.options.max_version) ≡ c.args.options.max_version = search (arith, rules, ints, to_z-of_z) in
    best_asked c.args.options c.args.front.now c.args.bytes.now _ c.if-not-options.true (rw (first, last) at c.in_ok-usual.ensures.best)

pub returns-in-Some-clause-range : goal.returns-in-Some-clause-range
returns-in-Some-clause-range c =
    let first : to_z w16 (of_z w16 c.args.options.min_version) ≡ c.args.options.min_version = search (arith, rules, ints, to_z-of_z) in
    let last : to_z w16 (of_z w16 c.args.options.max_version) ≡ c.args.options.max_version = search (arith, rules, ints, to_z-of_z) in
    rw (first, last) at c.in_ok-usual.ensures.range
