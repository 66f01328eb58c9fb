-- `listing::put_decimal`: the digits before the last by a call of itself, and then the last.
use Rattle.std.proofs.Common.{length, ap, arith}
use Rattle.listing.proofs.TextLaws.{decimal_one, decimal_more, length_more, length_tenth, put_two}
use Rattle.listing.proofs.+put_decimal.Goals as goal

pub put-requires : goal.put-requires
put-requires t c = omega (arith, c.requires, ap length (decimal_one c.args.n (omega arith)))

pub returns-then-n-lt10 : goal.returns-then-n-lt10
returns-then-n-lt10 t c = rw (decimal_one c.args.n (omega arith), ← c.digit.ensures) c.put.ensures

pub put_decimal-to-requires : goal.put_decimal-to-requires
put_decimal-to-requires t c = (omega arith, omega (arith, c.requires, length_tenth c.args.n (omega arith)))

pub put-requires-2 : goal.put-requires-2
put-requires-2 t c = omega (arith, c.requires, length_more c.args.n (omega arith) (omega arith))

pub returns : goal.returns
returns t c =
    let m = decimal_more c.args.n (omega arith) (omega arith) in
    rw m
    (put_two c.args.buffer.now c.args.at _ _ c.put_decimal-to.new.buffer _ c.put-2.new.buffer _ (rw m at c.requires) c.put_decimal-to.ensures (rw c.digit.ensures at c.put-2.ensures))
