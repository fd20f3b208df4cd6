use Rattle.gs1.specs.Elements.{written_elements}
use Rattle.gs1_links.proofs.LinkTexts.{path_end}
use Rattle.gs1_links.proofs.link.push_path.Goals as goal

pub returns : goal.returns
returns c = path_end (written_elements c.args.text.now) _ c.args.link.now.items _ _ c.qualifier_order-order.ensures c.loop-number-test.false c.loop-number.invariant
