-- The number is written, and then the word.
use Rattle.std.proofs.Common.{◌+◌, ◌%◌, codes, decimal, rules}
use Rattle.programs.specs.Devices.{output}
use Rattle.programs.proofs.DeviceLemmas.{Writes-stopped, Writes-next}
use Rattle.qrlabel.proofs.progress.Counting.count_one.Goals as goal

pub returns-then-is_ok-clause-shown : goal.returns-then-is_ok-clause-shown
returns-then-is_ok-clause-shown g c = λ shown hundred sound.
    Writes-next (g.E.Sink.state c.args.self.now.numbers) (g.E.Sink.state c.push_all.new.writer) (g.E.Sink.state c.write_all.new.writer)
    (decimal ((c.args.self.now.count + 1) % 18446744073709551616)) (codes " labels\r") (search rules)
    (rw (c.as_bytes.ensures.value, c.format.ensures.text) at c.push_all.ensures.writes) c.write_all.ensures.writes

pub returns-else-is_ok-clause-shown : goal.returns-else-is_ok-clause-shown
returns-else-is_ok-clause-shown g c = λ shown hundred sound.
    Writes-stopped (output (g.E.Sink.state c.args.self.now.numbers) (g.E.Sink.state c.push_all.new.writer))
    (decimal ((c.args.self.now.count + 1) % 18446744073709551616)) (codes " labels\r") (search rules)
    (rw (c.as_bytes.ensures.value, c.format.ensures.text) at c.push_all.ensures.writes)
