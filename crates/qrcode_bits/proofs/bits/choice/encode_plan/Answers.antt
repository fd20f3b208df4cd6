-- The parts of a plan that fits are spelled and ended; only an allocation can fail.
use Rattle.qrcode_bits.proofs.Prelude.{◌<◌, arith, err_from_is_err_and, common_steps, sym, subst, All, IsSpellable, Spells, Piece, segment_at}
use Rattle.qrcode_bits.proofs.{Pairs.bytes_valid, Texts.plan_lies, Pushes.spellable_refused, Contents.parsed-bytes, Encodings.part_spellable}
use Rattle.qrcode_bits.proofs.Encodings.{pushed_none, pushed_more, plan_end_refused, plan_stream, own_is}
use Rattle.qrcode_bits.proofs.bits.choice.encode_plan.Goals as goal

pub loop-part-init : goal.loop-part-init
loop-part-init c =
    let are = bytes_valid c.args.bytes.now (λ i. omega (arith, c.type_inv.bytes i)) in
    let parsed_are = subst (All (λ b. b < 256)) (sym c.requires.parsed) (parsed-bytes c.args.front.now.content c.args.bytes.now are) in
    record {
      within = plan_lies c.args.parsed.now parsed_are c.args.plan.now c.requires.fits.planned;
      pushed = pushed_none _ _ are c.requires.suited _ _ _ _ c.requires.parsed c.requires.fits _ (grind (arith, common_steps))
          (grind (arith, common_steps)) (grind (arith, common_steps));
    }

pub push_text-requires-clause-valid : goal.push_text-requires-clause-valid
push_text-requires-clause-valid c =
    let part = segment_at c.args.plan.now c.loop-part.part-index in
    let own = own_is c.args.front.now.content c.content.result c.args.bytes.now c.piece_text-text.result.now part c.content.ensures c.piece_text-text.ensures in
    (subst (λ (p : Piece). IsSpellable c.loop-part.bits.version p) (sym own)
    (part_spellable _ _ _ _ _ _ c.loop-part.invariant.pushed c.loop-part-test.true)).valid

pub returns-in_err-push_text-clause-memory : goal.returns-in_err-push_text-clause-memory
returns-in_err-push_text-clause-memory c =
    let part = segment_at c.args.plan.now c.loop-part.part-index in
    let own = own_is c.args.front.now.content c.content.result c.args.bytes.now c.piece_text-text.result.now part c.content.ensures c.piece_text-text.ensures in
    let spellable = subst (λ (p : Piece). IsSpellable c.loop-part.bits.version p) (sym own)
    (part_spellable _ _ _ _ _ _ c.loop-part.invariant.pushed c.loop-part-test.true) in
    let p = err_from_is_err_and c.from_residual-in_err-push_text.result c.from_residual-in_err-push_text.ensures.1 in
    rw (p.1, p.2) (spellable_refused c.loop-part.bits _ _ spellable c.in_err-push_text.ensures.refusal)

pub loop-part-preserved : goal.loop-part-preserved
loop-part-preserved c =
    let part = segment_at c.args.plan.now c.loop-part.part-index in
    let own = own_is c.args.front.now.content c.content.result c.args.bytes.now c.piece_text-text.result.now part c.content.ensures c.piece_text-text.ensures in
    record {
      within = c.loop-part.invariant.within;
      pushed = pushed_more _ _ _ _ _ _ c.loop-part.invariant.pushed _ c.loop-part-test.true
          (subst (λ (p : Piece). Spells c.loop-part.bits c.push_text.new.self p) own c.in_ok-push_text.ensures.ok);
    }

pub returns-in_err-push_terminator-clause-memory : goal.returns-in_err-push_terminator-clause-memory
returns-in_err-push_terminator-clause-memory c =
    let are = bytes_valid c.args.bytes.now (λ i. omega (arith, c.type_inv.bytes i)) in
    let p = err_from_is_err_and c.from_residual-in_err-push_terminator.result c.from_residual-in_err-push_terminator.ensures.1 in
    rw (p.1, p.2) (plan_end_refused _ _ are c.requires.suited _ _ _ _ c.requires.parsed c.requires.fits _
    c.loop-part-test.false _ c.loop-part.invariant.pushed _ c.in_err-push_terminator.ensures.refusal)

pub returns-clause-ok : goal.returns-clause-ok
returns-clause-ok c =
    let are = bytes_valid c.args.bytes.now (λ i. omega (arith, c.type_inv.bytes i)) in
    plan_stream _ _ are c.requires.suited _ _ _ _ c.requires.parsed c.requires.fits _ c.loop-part-test.false _ c.loop-part.invariant.pushed _ c.requires.front
    c.in_ok-push_terminator.ensures.ok
