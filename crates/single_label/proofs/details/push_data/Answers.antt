-- The plan is that of the parsed bytes.
use Rattle.std.proofs.Common.{◌≡◌, ◌++◌, ◌∙◌, List, map, OnOk, subst, arith}
use Rattle.std.proofs.lemmas.{Grind.common_steps, List.take_all}
use Rattle.std.specs.String.{string_bytes}
use Rattle.qrcode_bits.specs.{Contents.parsed_byte, Parsing.parsed, Plans.IsChosenPlan}
use Rattle.qrcode_bits.specs.declared.optimize.Segment.{Segment}
use Rattle.single_label.specs.Details.{segments_text}
use Rattle.single_label.proofs.DetailsLemmas.{parsed_each}
use Rattle.single_label.proofs.details.push_data.Goals as goal

pub returns-clause-plan : goal.returns-clause-plan
returns-clause-plan c =
    let all : c.deref.result.now ≡ map (parsed_byte c.args.front) c.args.encoded.now = grind (arith, common_steps, take_all, c.loop-byte.invariant, c.deref.ensures.value) in
    subst (λ bytes. OnOk c.push_plan-2.result ((plan : List Segment) × IsChosenPlan (parsed bytes) c.args.version plan
    × (string_bytes c.push_plan-2.new.text ≡ string_bytes c.args.text.now ++ segments_text plan)))
    (all ∙ parsed_each c.args.front c.args.encoded.now (λ same. grind (arith, same, c.eq.ensures, c.if-eq.false))) c.push_plan-2.ensures.plan
