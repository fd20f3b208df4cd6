use Rattle.std.proofs.Common.{◌≡◌, ◌<◌, rules, arith}
use Rattle.std.proofs.lemmas.List.Elements.{All-from_get_or}
use Rattle.gs1_base.specs.Percent.{percent_text}
use Rattle.gs1_base.proofs.Percents.{escaped_read}
use Rattle.gs1_base.proofs.percent.percent_escaped.Goals as goal

pub returns-clause-read : goal.returns-clause-read
returns-clause-read c =
    let is : c.push_escaped.new.text.items ≡ percent_text c.args.bytes.now = search rules in
    rw is (escaped_read c.args.bytes.now
    (All-from_get_or (λ byte. byte < 256) c.args.bytes.now 0 (λ i within. let fits = c.type_inv.bytes i in omega (arith, fits))))
