-- `listing::put_hex`: the eight digits are the text of the word.
use Rattle.listing.specs.Text.{hex_text}
use Rattle.listing.proofs.put_hex.Goals as goal

pub returns : goal.returns
unfolding hex_text
returns c =
    rw (c.digit.ensures, c.digit-2.ensures, c.digit-3.ensures, c.digit-4.ensures, c.digit-5.ensures, c.digit-6.ensures, c.digit-7.ensures, c.digit-8.ensures) at c.put.ensures
