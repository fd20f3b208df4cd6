use Rattle.qrcode_bits.proofs.bits.fitting.fitting_between.Given as goal

abbrev pub ghosts-last_uncounted : goal.ghosts-last_uncounted
ghosts-last_uncounted a = record { name = a.blank.name; parts = a.blank.parts }
