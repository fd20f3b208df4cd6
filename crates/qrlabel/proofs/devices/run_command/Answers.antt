-- The words are wrong, or name a file for the labels.
use Rattle.std.proofs.Common.{◌≡◌, ◌∙◌, Option, Some, List, ℕ, inl, inr, ap, sym, subst, rules}
use Rattle.std.specs.Prelude.{Ok}
use Rattle.programs.specs.Devices.{output}
use Rattle.label_words.specs.CommandOutcomes.{command_outcome, label_of}
use Rattle.label_words.specs.Commands.{asks_label, command_asked}
use Rattle.label_words.specs.Words.{file_of}
use Rattle.label_words.specs.declared.words.Name.TheVariants.{Output}
use Rattle.label_words.specs.Values.{said, wrong_of}
use Rattle.qrlabel.specs.Exits.{DeliversTo}
use Rattle.qrlabel.proofs.ExitLemmas.{misused, no_labels}
use Rattle.qrlabel.proofs.devices.run_command.Goals as goal

pub returns-in-Err-default : goal.returns-in-Err-default
returns-in-Err-default g c =
    let e = g.E.Sink.state in
    inl (
      c.is_terminal-on_terminal.result,
      no_labels,
      misused (said c.args.values.now) c.is_terminal-on_terminal.result (wrong_of c.in-Err-default.misuse)
          (output (e c.args.errors.now) (e c.misused.new.errors)) c.misused.result
          (sym (ap command_outcome c.in-Err-default.is-0) ∙ c.command_of.ensures)
          c.misused.ensures.status (rw (c.wrong_value.ensures) at c.misused.ensures.reported),
    )

pub returns-in-Ok-Label-Some : goal.returns-in-Ok-Label-Some
returns-in-Ok-Label-Some g c =
    let e = g.E.Sink.state in
    let values = said c.args.values.now in
    let label = c.in-Ok-Label-Some.label in
    let on_terminal = c.is_terminal-on_terminal.result in
    let asked : command_asked on_terminal values ≡ Ok (asks_label (label_of label)) = search rules in
    let named : Some c.in-Ok-Label-Some.path.now ≡ file_of values Output = search rules in
    inr (
      label,
      (on_terminal, asked),
      subst (λ (target : Option (List ℕ)). DeliversTo values label target (e c.args.errors.now) (e c.into_named.new.errors) c.into_named.result)
          named (rw (c.in-Ok-Label-Some.label-is) at c.into_named.ensures),
    )
