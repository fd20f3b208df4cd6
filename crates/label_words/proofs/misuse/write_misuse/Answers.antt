-- The pieces make the line.
use Rattle.label_words.specs.Misuses.{wrong_line}
use Rattle.label_words.proofs.misuse.write_misuse.Goals as goal

pub returns-in-Unknown : goal.returns-in-Unknown
unfolding wrong_line
returns-in-Unknown g c = rw (c.in-Unknown.is) c.write_word.ensures

pub returns-in-NoValue : goal.returns-in-NoValue
unfolding wrong_line
returns-in-NoValue g c = rw (c.in-NoValue.is) (rw (c.option_word-option.ensures) at c.write_line.ensures)

pub returns-in-SecondText : goal.returns-in-SecondText
unfolding wrong_line
returns-in-SecondText g c = rw (c.in-SecondText.is) c.write_word-in-SecondText.ensures

pub returns-in-Invalid : goal.returns-in-Invalid
unfolding wrong_line
returns-in-Invalid g c = rw (c.in-Invalid.is) c.write_invalid.ensures

pub returns-in-LongTitle : goal.returns-in-LongTitle
unfolding wrong_line
returns-in-LongTitle g c = rw (c.in-LongTitle.is) c.write_line-in-LongTitle.ensures

pub returns-in-NeedsStream : goal.returns-in-NeedsStream
unfolding wrong_line
returns-in-NeedsStream g c = rw (c.in-NeedsStream.is) c.write_line-in-NeedsStream.ensures

pub returns-in-NeedsFile : goal.returns-in-NeedsFile
unfolding wrong_line
returns-in-NeedsFile g c = rw (c.in-NeedsFile.is) c.write_line-in-NeedsFile.ensures
