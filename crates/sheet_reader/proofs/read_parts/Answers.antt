-- `sheet_reader::read_parts`: a row takes few words.
-- Assumes nothing.
use Rattle.basics.proofs.Kit.{arith, length}
use Rattle.sheet.proofs.Forms.{count_le}
use Rattle.sheet_reader.proofs.read_parts.Goals as goal

pub overflow_add-behind : goal.overflow_add-behind
overflow_add-behind c = record { fits = omega (arith, c.count_of.ensures, count_le c.args.f (length c.args.row.now)) }

pub read_symbols-requires : goal.read_symbols-requires
read_symbols-requires c = omega (arith, c.count_of.ensures, count_le c.args.f (length c.args.row.now))
