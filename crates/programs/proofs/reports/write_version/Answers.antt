-- The parts make the text of the error.
use Rattle.std.proofs.Common.{rules, w16, SFits, ◌++◌, append_assoc}
use Rattle.std.{specs.Fmt.signed_decimal, specs.Prelude.codes, proofs.lemmas.Int.to_z-of_z}
use Rattle.qrcode_base.specs.Names.{level_text}
use Rattle.programs.proofs.reports.write_version.Goals as goal

pub returns-in-Normal : goal.returns-in-Normal
returns-in-Normal g c =
    let fits : SFits w16 c.in-Normal.number = search rules in
    let rest = codes " for error correction level " ++ level_text c.args.level in
    rw (c.in-Normal.is, append_assoc (signed_decimal c.in-Normal.number) (codes ")") rest)
    (rw (to_z-of_z w16 c.in-Normal.number fits) at c.write_version_number.ensures)

pub returns-in-Micro : goal.returns-in-Micro
returns-in-Micro g c =
    let fits : SFits w16 c.in-Micro.number = search rules in
    let rest = codes " for error correction level " ++ level_text c.args.level in
    rw (c.in-Micro.is, append_assoc (signed_decimal c.in-Micro.number) (codes ")") rest)
    (rw (to_z-of_z w16 c.in-Micro.number fits) at c.write_version_number-in-Micro.ensures)
