use Rattle.spots.specs.Filling.{SlotsFilled}
use Rattle.spots.proofs.fill_slots.Given as goal

abbrev pub invariant-loop-j : goal.invariant-loop-j
invariant-loop-j l = SlotsFilled l.j l.columns l.slots l.fn.places l.places
