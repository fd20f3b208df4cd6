-- The pieces make the text of the error.
use Rattle.std.proofs.Common.{rules, append-nil, w16, SFits}
use Rattle.std.proofs.lemmas.Int.{to_z-of_z}
use Rattle.qrcode_base.specs.Names.{level_text}
use Rattle.programs.proofs.reports.write_version_number.Goals as goal

pub returns : goal.returns
returns g c =
    let fits : SFits w16 c.args.number = search rules in
    rw (c.format-number.ensures.text, to_z-of_z w16 c.args.number fits, c.level_word-level.ensures, append-nil (level_text c.args.level))
    at c.write_line.ensures
