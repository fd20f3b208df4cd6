-- What is written is the least of the manner.
use Rattle.std.proofs.Common.{◌≤◌, ◌<◌, ℕ, Bool, List, arith, subst, sym}
use Rattle.character_sets.specs.Reading.{Part}
use Rattle.text_plans.specs.Lanes.{AreAllFacts}
use Rattle.text_plans.specs.Manners.{ArePartsIn, mixed_in, plain_in}
use Rattle.text_plans.specs.Plan.{plan_parts}
use Rattle.text_plans.specs.Starts.{weight_as_in, weight_from}
use Rattle.text_plans.specs.Tables.{IsWeighed}
use Rattle.text_plans.specs.Ways.{AreRules, AreRulesOf, mixed_of, plain_of, weight_of}
use Rattle.text_plans.specs.declared.facts.Facts.{Facts}
use Rattle.text_plans.specs.declared.row.TheConstants.{LIMIT}
use Rattle.text_plans.specs.declared.rules.Manner.{Manner}
use Rattle.text_plans.specs.declared.rules.Rules.{Rules}
use Rattle.text_plans.proofs.Starts.{begins_in, least_in, lightest, many_bits_in}
use Rattle.text_plans.proofs.together.plan_by_manner.Goals as goal
use Rattle.std.specs.Prelude.{◌≡◌}

in_manner : (manner : Manner) (rules : Rules) → AreRulesOf rules → plain_of rules.way ≡ plain_in manner → mixed_of rules.way ≡ mixed_in manner →
    AreRules rules.version (plain_in manner) (mixed_in manner) rules
in_manner manner rules are plain mixed =
    subst (λ (b : Bool). AreRules rules.version b (mixed_in manner) rules) plain
    (subst (λ (b : Bool). AreRules rules.version (plain_of rules.way) b rules) mixed are)

least_weight : (manner : Manner) (rules : Rules) → AreRulesOf rules → plain_of rules.way ≡ plain_in manner → mixed_of rules.way ≡ mixed_in manner →
    (text : List ℕ) (all : List Facts) → AreAllFacts text all → (weight : ℕ) → weight ≡ weight_as_in manner rules all →
    (others : List Part) → ArePartsIn manner rules.version text others → weight ≤ weight_of rules.version others
least_weight manner rules are plain mixed text all known weight is others written =
    let least = lightest rules.version manner rules (in_manner manner rules are plain mixed) others text all known written in
    omega (arith, least, is)

pub returns-then-weight-ge-LIMIT-clause-none : goal.returns-then-weight-ge-LIMIT-clause-none
returns-then-weight-ge-LIMIT-clause-none c others written =
    let rules = c.args.rules.now in
    let least = least_weight c.args.manner rules c.requires.rules c.requires.plain c.requires.mixed c.args.chars.now c.args.all.now c.requires.known
    c.start_in-start.result.1 c.start_in-start.ensures.weight others written in
    many_bits_in c.args.manner rules.version c.args.chars.now others written (omega (arith, least, c.if-weight-ge-LIMIT.true))

pub returns : goal.returns
returns c =
    let rules = c.args.rules.now in
    let manner = c.args.manner in
    let weight = c.start_in-start.result.1 in
    let text = c.args.chars.now in
    let parts = plan_parts c.in_ok-plan.plan in
    let small : weight < LIMIT = omega (arith, c.if-weight-ge-LIMIT.false) in
    let start = c.start_in-start.ensures.start small in
    let plain = subst (λ (b : Bool). IsWeighed rules.version b (mixed_of rules.way) text
    (weight_from rules.version rules c.args.all.now c.start_in-start.result.0) parts) c.requires.plain c.in_ok-plan.ensures.plan in
    let mixed = subst (λ (b : Bool). IsWeighed rules.version (plain_in manner) b text
    (weight_from rules.version rules c.args.all.now c.start_in-start.result.0) parts) c.requires.mixed plain in
    let weighed = subst (λ (n : ℕ). IsWeighed rules.version (plain_in manner) (mixed_in manner) text n parts) (sym start.from) mixed in
    let begins = begins_in manner rules.version c.start_in-start.result.0 weight parts start.front c.in_ok-plan.ensures.front weighed.weight_is in
    let found = least_in manner rules.version text weight parts weighed begins small
    (least_weight manner rules c.requires.rules c.requires.plain c.requires.mixed text c.args.all.now c.requires.known weight
    c.start_in-start.ensures.weight) in
    record { least = found.0; bits = found.1; none = tt }
