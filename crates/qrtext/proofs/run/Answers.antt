-- What was drawn is what the arguments ask for, since they ask for one thing.
use Rattle.std.proofs.Common.{◌≡◌, map, refl, rules}
use Rattle.std.specs.Prelude.{Ok}
use Rattle.qrtext.specs.declared.request.Request.{Request}
use Rattle.qrtext.specs.Words.{AskForText}
use Rattle.qrtext.proofs.Requests.{ask_for_one}
use Rattle.qrtext.proofs.run.Goals as goal

pub returns-in-Ok-clause-served : goal.returns-in-Ok-clause-served
returns-in-Ok-clause-served g c = λ request asked.
    let words = map (λ word. word.now) c.args.words.now in
    let found : AskForText words c.in-Some.request = search rules in
    let same : request ≡ c.in-Some.request = ask_for_one words request c.in-Some.request asked found in
    rw same (record { outcome = Ok tt; is_outcome = rw (c.in-Ok.is) at c.draw.ensures.outcome; within = c.draw.ensures.within; status_is = refl; reported = search rules })
