-- What plans of few parsed segments cost, and what each of them needs.
use Rattle.std.proofs.Common.{◌≡◌, ℕ, ◌+◌, ◌-◌, ◌*◌, ◌/◌, ◌<◌, ◌≤◌, ◌^◌, List, length, drop, subst}
use Rattle.std.proofs.Common.{sym, arith}
use Rattle.std.specs.Prelude.{All}
use Rattle.qrcode_base.specs.declared.types.Version.{Version}
use Rattle.qrcode_bits.specs.Contents.{parsed_bytes}
use Rattle.qrcode_bits.specs.Parsing.{parsed}
use Rattle.qrcode_bits.specs.Plans.{HasLinearCosts, IsChosenPlan, IsMergePlan, segment_at}
use Rattle.qrcode_bits.specs.Plans.{total_bits}
use Rattle.qrcode_bits.specs.declared.bits.front.Content.TheVariants.{Text}
use Rattle.qrcode_bits.specs.declared.optimize.Segment.{Segment}
use Rattle.qrcode_bits.proofs.Adjoining.{Adjoin-at, parsed-adjoin}
use Rattle.qrcode_bits.proofs.Classes.{HasSmallHeaders, plan_ordered, plan_small, short-linear}
use Rattle.qrcode_bits.proofs.Contents.{length-parsed, parsed-bytes}
use Rattle.qrcode_bits.proofs.CuttingPlans.{chosen-planned}
use Rattle.qrcode_bits.proofs.Weights.{heavy_unfit, light, sixths, weighed_all, weighed_more}
use Rattle.qrcode_bits.proofs.Weights.{weight}
use Rattle.smallest_symbols.specs.ByteChoices.{AreNeeded, AreParsed}

-- The bytes as which a text is parsed are as many.
pub text_parsed : (bytes : List ℕ) (segments : List Segment) → All (λ b. b < 256) bytes → length bytes ≤ 7089 → segments ≡ parsed (parsed_bytes Text bytes) →
    AreParsed segments
text_parsed bytes segments are short same = (parsed_bytes Text bytes, parsed-bytes Text bytes are, same, omega (arith, short, length-parsed Text bytes))

module _ (segments : List Segment) (few : AreParsed segments) where
  -- ---- Costs

  -- Each segment begins before its end.
  pub segment_ordered : (i : ℕ) → i < length segments → (segment_at segments i).begin ≤ (segment_at segments i).end
  segment_ordered i inside =
      let at = Adjoin-at 0 (length few.0) (parsed few.0) i (parsed-adjoin few.0) (subst (λ (z : List Segment). i < length z) few.2 inside) in
      subst (λ (z : List Segment). (segment_at z i).begin ≤ (segment_at z i).end) (sym few.2) (omega (arith, at.1))

  module _ (v : Version) (small : HasSmallHeaders v) where
    pub linear : HasLinearCosts segments v
    linear = subst (λ (z : List Segment). HasLinearCosts z v) (sym few.2) (short-linear few.0 v small few.3)

    module _ (plan : List Segment) (chosen : IsChosenPlan segments v plan) where
      planned : IsMergePlan (parsed few.0) plan
      planned = subst (λ (z : List Segment). IsMergePlan z plan) few.2 (chosen-planned segments v plan chosen)

      pub ordered : All (λ s. s.begin ≤ s.end) plan
      ordered = plan_ordered few.0 plan few.1 planned

      pub few_bits : total_bits v plan < 2 ^ 64
      few_bits = let w = plan_small few.0 v small few.3 plan few.1 planned in omega (arith, w)

  -- ---- Weights

  -- One segment more was weighed,
  pub more_weighed : (i sum six : ℕ) → six ≡ sixths (segment_at segments i).mode → i < length segments → sum + weight (drop i segments) ≡ weight segments →
      sum + six * ((segment_at segments i).end - (segment_at segments i).begin) + weight (drop (i + 1) segments) ≡ weight segments
  more_weighed i sum six is inside known =
      let s = segment_at segments i in
      subst (λ (k : ℕ). sum + k * (s.end - s.begin) + weight (drop (i + 1) segments) ≡ weight segments) (sym is) (weighed_more segments i sum inside known)

  pub few_weighed : weight segments ≤ 340272
  few_weighed = subst (λ (z : List Segment). weight z ≤ 340272) (sym few.2) (light few.0 few.3)

-- and all were.
pub all_weighed : (segments : List Segment) (i sum : ℕ) → length segments ≤ i → sum + weight (drop i segments) ≡ weight segments → AreNeeded segments (sum / 6)
all_weighed segments i sum past known bytes v l limit same has few =
    let all = weighed_all segments i sum past known in
    heavy_unfit 0 bytes v l limit has (subst (λ (z : List Segment). 6 * limit < weight z) same (omega (arith, all, few)))
