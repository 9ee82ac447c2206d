-- `lent_reader::Reader::next`: a question that was found is one of at most 200, so the place behind it fits.
-- Assumes nothing.
use Rattle.basics.proofs.Kit.{ap, ◌∙◌, arith}
use Rattle.std.specs.Prelude.{Ok}
use Rattle.lent_reader.proofs.Order.{found_inside}
use Rattle.lent_reader.proofs.Reader.next.Goals as goal

pub overflow_add-self : goal.overflow_add-self
overflow_add-self c = record { fits = omega (arith, found_inside c.question_of.ensures (c.in_ok-answer.was ∙ ap Ok c.in-Some.is)) }
