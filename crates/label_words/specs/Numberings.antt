-- The name of numbered files that a numbering of the program stands for.
use Rattle.label_words.specs.declared.names.Numbering.{Numbering as Given}
use Rattle.label_words.specs.Names.{Numbering}

-- A name with the place of a number, as the program keeps it.
abbrev pub numbering_of : Given → Numbering
numbering_of name = record { before = name.before.now; width = name.width; after = name.after.now }
