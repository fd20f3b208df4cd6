use Rattle.qrcode_bits.proofs.Prelude.{arith}
use Rattle.qrcode_bits.proofs.{CuttingPlans.chosen-least, Shortest.shortest, Shortest.no_pair-kept, Shortest.no_lead-no_pair}
use Rattle.qrcode_bits.proofs.laws.no_segmentation_is_shorter.Goals as goal

pub returns-clause-chosen : goal.returns-clause-chosen
returns-clause-chosen c = λ version pieces plan spellable kept chosen.
    let w = shortest version pieces spellable kept in
    omega (arith, chosen-least _ version plan w.0 chosen w.1, w.2)

pub returns-clause-least : goal.returns-clause-least
returns-clause-least c = λ version pieces bits spellable kept least.
    let w = shortest version pieces spellable kept in
    omega (arith, least.least w.0 w.1, w.2)

pub returns-clause-whole_units : goal.returns-clause-whole_units
returns-clause-whole_units c = no_pair-kept

pub returns-clause-no_leads : goal.returns-clause-no_leads
returns-clause-no_leads c = no_lead-no_pair
