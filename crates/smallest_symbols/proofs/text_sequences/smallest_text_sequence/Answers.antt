-- The symbols of the first manner that has some.
use mir.Syntax.{w16}
use Rattle.std.proofs.Common.{Ok, Err, Result, map, nat_abs}
use Rattle.std.specs.Prelude.{IfOk, OnOk}
use Rattle.std.proofs.lemmas.Int.{to_z-of_z}
use Rattle.std.proofs.lemmas.Result.{IfErr-weaker}
use Rattle.qrcode_core.specs.Symbol.{modules_of}
use Rattle.text_plans.specs.declared.rules.Manner.TheVariants.{Ascii}
use Rattle.smallest_symbols.specs.TextMessages.{AreSmallestTextSymbols}
use Rattle.smallest_symbols.proofs.TextMessages.{none_too_long, refused_call, smallest_symbols}
use Rattle.smallest_symbols.proofs.text_sequences.smallest_text_sequence.Goals as goal

on_ok : {A E : Type 0} (r : Result A E) (P : A → Type 0) (Q : Type 0) → ((a : A) → P a → Q) → IfOk r P → OnOk r Q
on_ok (Ok a) P Q more h = more a h
on_ok (Err e) P Q more h = tt

pub returns-in-Ok-clause-smallest : goal.returns-in-Ok-clause-smallest
returns-in-Ok-clause-smallest c =
    let same = to_z-of_z w16 c.args.max_version c.ranges.max_version in
    let number = rw same at c.number_of-limit.ensures.number in
    smallest_symbols Ascii c.args.text.now c.args.cuts.now c.args.level (nat_abs c.args.max_version) (map modules_of c.in-Ok.symbols.items) tt
    (rw number at c.in-Ok.ensures.smallest)

pub returns-in-Ok-clause-fitting : goal.returns-in-Ok-clause-fitting
returns-in-Ok-clause-fitting c =
    none_too_long c.args.text.now c.args.cuts.now c.args.level (nat_abs c.args.max_version) (map modules_of c.in-Ok.symbols.items)
    (returns-in-Ok-clause-smallest c)

pub returns-in-Err-DataTooLong-clause-fitting : goal.returns-in-Err-DataTooLong-clause-fitting
returns-in-Err-DataTooLong-clause-fitting c =
    let same = to_z-of_z w16 c.args.max_version c.ranges.max_version in
    let number = rw same at c.number_of-limit.ensures.number in
    on_ok c.beyond_ascii.result
    (λ symbols. AreSmallestTextSymbols c.args.text.now c.args.cuts.now c.args.level (nat_abs c.args.max_version) (map modules_of symbols.items)) _
    (λ symbols h. none_too_long c.args.text.now c.args.cuts.now c.args.level (nat_abs c.args.max_version) (map modules_of symbols.items) h)
    (rw number at c.beyond_ascii.ensures.smallest)

pub returns-in-Err-DataTooLong-clause-refusal : goal.returns-in-Err-DataTooLong-clause-refusal
returns-in-Err-DataTooLong-clause-refusal c =
    let same = to_z-of_z w16 c.args.max_version c.ranges.max_version in
    let number = rw same at c.number_of-limit.ensures.number in
    let limit = rw same at c.in_ok-total.ensures.limit in
    IfErr-weaker c.beyond_ascii.result _ _
    (λ e h. refused_call c.args.text.now c.args.cuts.now c.args.level c.args.max_version e limit c.in_ok-total.ensures.few h)
    (rw number at c.beyond_ascii.ensures.refusal)
