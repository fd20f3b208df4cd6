-- Reading the words that are left goes on from what is read.
use Rattle.std.proofs.Common.{◌≡◌, map, drop}
use Rattle.label_words.specs.{Words.read_words, Values.scan_of}
use Rattle.label_words.proofs.words.read_words.Given as goal

abbrev pub invariant-loop-word : goal.invariant-loop-word
invariant-loop-word l =
    read_words (scan_of l.initial.reading) (map (λ word. word.now) l.words)
    ≡ read_words (scan_of l.reading) (drop l.word-index (map (λ word. word.now) l.words))
