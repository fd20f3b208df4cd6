-- Each character is written as the rows say.
use Rattle.std.proofs.Common.{◌≡◌, ℕ, ◌+◌, ◌-◌, ◌≤◌, ◌<◌, List, length, drop, get_or, ap, sym, ◌∙◌}
use Rattle.std.proofs.Common.{subst, arith, [], false}
use Rattle.std.specs.Prelude.{Option}
use Rattle.qrcode_base.specs.declared.types.Mode.{Mode}
use Rattle.character_sets.specs.Reading.{Part}
use Rattle.text_plans.specs.Choices.{IsCharStep, open_value}
use Rattle.text_plans.specs.Lanes.{AreFacts}
use Rattle.text_plans.specs.Plan.{Written}
use Rattle.text_plans.specs.Keeping.{IsKeptLane, IsRowOf}
use Rattle.text_plans.specs.Search.{no_rest}
use Rattle.text_plans.specs.Starts.{BeginWith, front_of, weight_from}
use Rattle.text_plans.specs.Tables.{AreRowsOf, IsWeighed}
use Rattle.text_plans.specs.Ways.{mixed_of, plain_of}
use Rattle.text_plans.specs.declared.facts.Facts.{Facts}
use Rattle.text_plans.specs.declared.row.Rest.{Rest}
use Rattle.text_plans.specs.declared.row.TheConstants.{LIMIT}
use Rattle.text_plans.specs.declared.rules.Rules.{Rules}
use Rattle.text_plans.proofs.Rows.{entry}
use Rattle.text_plans.proofs.Walking.{all_begin, walk_first, walk_more, walked, before_is}
use Rattle.text_plans.proofs.Walking.{none_open, value_small, facts_at, facts_long}
use Rattle.text_plans.proofs.walk.plan_of.Goals as goal

abbrev none : Facts
none = record { digit = false; alphanumeric = false; pair = false; sizes = [] }

row_at : (rules : Rules) (all : List Facts) (rows : List (List Rest)) (k : ℕ) → AreRowsOf rules all rows → k < length all →
    IsRowOf rules (drop (k + 1) all) (get_or rows (length all - 1 - k) [])
row_at rules all rows k h inside =
    let within : length all - 1 - k ≤ length all = omega arith in
    let e : length all - (length all - 1 - k) ≡ k + 1 = omega arith in
    subst (λ (m : ℕ). IsRowOf rules (drop m all) (get_or rows (length all - 1 - k) [])) e (h.1 (length all - 1 - k) within)

row_before_at : (rules : Rules) (all : List Facts) (rows : List (List Rest)) (k : ℕ) → AreRowsOf rules all rows → k < length all →
    IsRowOf rules (drop k all) (get_or rows (length all - k) [])
row_before_at rules all rows k h inside =
    let within : length all - k ≤ length all = omega arith in
    let e : length all - (length all - k) ≡ k = omega arith in
    subst (λ (m : ℕ). IsRowOf rules (drop m all) (get_or rows (length all - k) [])) e (h.1 (length all - k) within)

value_at : (rules : Rules) (all : List Facts) (rows : List (List Rest)) (k lane : ℕ) (written : Written) (opened : Option Mode) (count value : ℕ) →
    AreRowsOf rules all rows → k < length all → lane < 17 → IsKeptLane rules.kept lane → opened ≡ written.mode → count ≡ length written.bytes →
    value ≡ open_value (get_or (get_or rows (length all - k) []) lane no_rest) opened count →
    value ≡ open_value (entry rules (drop k all) lane) written.mode (length written.bytes)
value_at rules all rows k lane written opened count value h inside low keeps mode long is =
    is ∙ ap (λ (rest : Rest). open_value rest opened count) ((row_before_at rules all rows k h inside).1 lane low keeps)
    ∙ ap (λ (m : Option Mode). open_value (entry rules (drop k all) lane) m count) mode
    ∙ ap (λ (n : ℕ). open_value (entry rules (drop k all) lane) written.mode n) long

pub loop-k-init : goal.loop-k-init
loop-k-init c = λ are.
    walk_first c.args.rules.now.version (plain_of c.args.rules.now.way) (mixed_of c.args.rules.now.way) c.args.rules.now are
    c.args.chars.now c.args.all.now c.args.start c.in_ok-draft.draft c.requires.start c.in_ok-draft.ensures.parts c.in_ok-draft.ensures.mode
    c.in_ok-draft.ensures.bytes

pub bounds-chars-k : goal.bounds-chars-k
bounds-chars-k c = omega (arith, facts_long c.args.chars.now c.args.all.now c.requires.known)

pub write_next-requires-clause-lane : goal.write_next-requires-clause-lane
write_next-requires-clause-lane c = (c.loop-k.invariant c.requires.rules).draft.complete.inside

pub write_next-requires-clause-known : goal.write_next-requires-clause-known
write_next-requires-clause-known c =
    subst (λ (x : ℕ). AreFacts x (get_or c.args.all.now c.loop-k.k none)) (sym c.index-chars-k.is)
    (facts_at c.args.chars.now c.args.all.now c.loop-k.k c.index-chars-k.result none c.requires.known c.loop-k-test.true)

pub write_next-requires-clause-sound : goal.write_next-requires-clause-sound
write_next-requires-clause-sound c =
    none_open c.args.rules.now.version (plain_of c.args.rules.now.way) (mixed_of c.args.rules.now.way) c.args.rules.now c.requires.rules
    c.args.chars.now c.args.all.now c.args.start c.loop-k.k c.loop-k.lane c.loop-k.draft (c.loop-k.invariant c.requires.rules)

pub bounds-rows-lane : goal.bounds-rows-lane
bounds-rows-lane c = (c.loop-k.invariant c.requires.rules).draft.complete.inside

pub offset_bounds-rows-lane : goal.offset_bounds-rows-lane
offset_bounds-rows-lane c = let inside = (c.loop-k.invariant c.requires.rules).draft.complete.inside in omega (arith, inside)

pub write_next-requires-clause-small : goal.write_next-requires-clause-small
write_next-requires-clause-small c =
    subst (λ (n : ℕ). n < LIMIT) (sym (value_at c.args.rules.now c.args.all.now c.args.rows.now c.loop-k.k c.loop-k.lane c.loop-k.draft
    c.mode.result c.count.result c.open_value-value.result c.requires.rows c.loop-k-test.true
    (c.loop-k.invariant c.requires.rules).draft.complete.inside (c.loop-k.invariant c.requires.rules).kept c.mode.ensures c.count.ensures c.open_value-value.ensures))
    (value_small c.args.rules.now.version (plain_of c.args.rules.now.way) (mixed_of c.args.rules.now.way) c.args.rules.now c.requires.rules
    c.args.chars.now c.args.all.now c.args.start c.loop-k.k c.loop-k.lane c.loop-k.draft (c.loop-k.invariant c.requires.rules) c.requires.small)

pub write_next-requires-clause-value : goal.write_next-requires-clause-value
write_next-requires-clause-value c =
    value_at c.args.rules.now c.args.all.now c.args.rows.now c.loop-k.k c.loop-k.lane c.loop-k.draft
    c.mode.result c.count.result c.open_value-value.result c.requires.rows c.loop-k-test.true
    (c.loop-k.invariant c.requires.rules).draft.complete.inside (c.loop-k.invariant c.requires.rules).kept c.mode.ensures c.count.ensures c.open_value-value.ensures
    ∙ sym (ap (λ (rest : Rest). open_value rest c.loop-k.draft.mode (length c.loop-k.draft.bytes))
    (before_is c.args.rules.now.version (plain_of c.args.rules.now.way) (mixed_of c.args.rules.now.way) c.args.rules.now c.requires.rules
    c.args.all.now c.loop-k.k c.loop-k.lane none (get_or c.args.rows.now (length c.args.all.now - 1 - c.loop-k.k) []) c.loop-k-test.true
    (c.loop-k.invariant c.requires.rules).draft.complete.inside (c.loop-k.invariant c.requires.rules).kept c.requires.enough
    (row_at c.args.rules.now c.args.all.now c.args.rows.now c.loop-k.k c.requires.rows c.loop-k-test.true)))

pub loop-k-preserved : goal.loop-k-preserved
loop-k-preserved c = λ are.
    walk_more c.args.rules.now.version (plain_of c.args.rules.now.way) (mixed_of c.args.rules.now.way) c.args.rules.now are
    c.args.chars.now c.args.all.now c.args.start c.loop-k.k c.loop-k.lane c.index-chars-k.result none (get_or c.args.rows.now (length c.args.all.now - 1 - c.loop-k.k) []) c.loop-k.draft c.write_next.new.draft c.in_ok-lane.lane
    c.requires.known (c.loop-k.invariant are) c.requires.small c.loop-k-test.true c.requires.enough
    (row_at c.args.rules.now c.args.all.now c.args.rows.now c.loop-k.k c.requires.rows c.loop-k-test.true)
    (subst (λ (x : ℕ). IsCharStep c.args.rules.now (get_or c.args.all.now c.loop-k.k none)
    (get_or c.args.rows.now (length c.args.all.now - 1 - c.loop-k.k) []) c.loop-k.lane x c.loop-k.draft c.write_next.new.draft c.in_ok-lane.lane)
    c.index-chars-k.is c.in_ok-lane.ensures)

pub returns-clause-plan : goal.returns-clause-plan
returns-clause-plan c =
    let rules = c.args.rules.now in
    subst (λ (parts : List Part). IsWeighed rules.version (plain_of rules.way) (mixed_of rules.way)
    c.args.chars.now (weight_from rules.version rules c.args.all.now c.args.start) parts)
    (sym (c.finish.ensures ∙ c.in_ok-close.ensures.parts))
    (walked rules.version (plain_of rules.way) (mixed_of rules.way) rules c.requires.rules
    c.args.chars.now c.args.all.now c.args.start c.loop-k.k c.loop-k.lane c.loop-k.draft c.requires.known (c.loop-k.invariant c.requires.rules)
    c.loop-k-test.false)

pub returns-clause-front : goal.returns-clause-front
returns-clause-front c =
    subst (λ (parts : List Part). BeginWith (front_of c.args.start) parts)
    (sym (c.finish.ensures ∙ c.in_ok-close.ensures.parts))
    (all_begin (front_of c.args.start) c.loop-k.draft (c.loop-k.invariant c.requires.rules).front)
