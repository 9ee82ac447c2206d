-- `marker::excess` meets its contract.
-- Assumes nothing.
use Rattle.search.proofs.Roomed.{small_sizes, large_sizes}
use Rattle.marker.proofs.excess.Goals as goal

pub excess_sized-requires-then-count-le336-clause-sizes : goal.excess_sized-requires-then-count-le336-clause-sizes
excess_sized-requires-then-count-le336-clause-sizes c = small_sizes c.args.shape c.places_of-count.ensures c.if-count-le336.true

pub excess_sized-requires-else-count-le336-clause-sizes : goal.excess_sized-requires-else-count-le336-clause-sizes
excess_sized-requires-else-count-le336-clause-sizes c = large_sizes c.args.shape
