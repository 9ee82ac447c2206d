-- The last digit stands behind those of the tenth part, which is less.
use Rattle.basics.proofs.Kit.{arith}
use Rattle.text.proofs.Decimal.{decimal_one, decimal_more}
use Rattle.text.proofs.Writing.{puts_then, room_first, room_after}
use Rattle.text.proofs.Writer.+put_decimal.Goals as goal

pub put_byte-requires : goal.put_byte-requires
put_byte-requires t c = rw (decimal_one _ c.if-n-lt10.true) at c.requires

pub put_decimal-requires : goal.put_decimal-requires
put_decimal-requires t c = (omega arith, room_first _ _ _ (rw (decimal_more _ c.if-n-lt10.false) at c.requires))

pub put_byte-requires-else-n-lt10 : goal.put_byte-requires-else-n-lt10
put_byte-requires-else-n-lt10 t c = room_after _ _ _ _ c.put_decimal.ensures (rw (decimal_more _ c.if-n-lt10.false) at c.requires)

pub returns-then-n-lt10 : goal.returns-then-n-lt10
returns-then-n-lt10 t c = rw (decimal_one _ c.if-n-lt10.true) c.put_byte.ensures

pub returns-else-n-lt10 : goal.returns-else-n-lt10
returns-else-n-lt10 t c = rw (decimal_more _ c.if-n-lt10.false) (puts_then c.put_decimal.ensures c.put_byte-else-n-lt10.ensures)
