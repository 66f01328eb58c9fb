-- `words::header_at`: the order decides which of the four bytes is the highest.
use Rattle.words.specs.Header.{header_at}
use Rattle.words.proofs.header_at.Goals as goal

pub returns-in-HighFirst : goal.returns-in-HighFirst
unfolding header_at
returns-in-HighFirst c = rw c.in-HighFirst.is c.word_at.ensures

pub returns-in-LowFirst : goal.returns-in-LowFirst
unfolding header_at
returns-in-LowFirst c = rw c.in-LowFirst.is c.low_word.ensures
