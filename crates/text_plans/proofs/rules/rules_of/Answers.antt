-- Mode by mode.
use Rattle.std.proofs.Common.{replicate, false}
use Rattle.text_plans.specs.declared.rules.Rules.{Rules}
use Rattle.text_plans.proofs.Headers.{four_headers, four_modes}
use Rattle.text_plans.proofs.rules.rules_of.Goals as goal

pub returns-clause-rules : goal.returns-clause-rules
returns-clause-rules c = let made : Rules = record {
  version = c.args.version;
  way = c.args.way;
  numeric = c.header_of.result;
  alphanumeric = c.header_of-2.result;
  byte = c.header_of-3.result;
  kanji = c.header_of-4.result;
  designator = c.designator_weight.result;
  start = c.lanes_of-start.result.0;
  kanji_lane = c.lanes_of-start.result.1;
  kept = replicate 17 false;
  lanes = replicate 15 0;
  count = 0;
} in record {
  headers = four_headers c.args.version made c.header_of.ensures.has c.header_of-2.ensures.has c.header_of-3.ensures.has c.header_of-4.ensures.has;
  modes = four_modes c.args.version made c.header_of.ensures.only c.header_of-2.ensures.only c.header_of-3.ensures.only c.header_of-4.ensures.only;
  designators = c.designator_weight.ensures.only;
  designator_is = c.designator_weight.ensures.is;
  lanes = c.lanes_of-start.ensures;
}
