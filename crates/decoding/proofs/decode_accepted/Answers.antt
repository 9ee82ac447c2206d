-- `decoding::decode_accepted` meets its contract.
-- Assumes nothing.
use Rattle.search.proofs.Roomed.{small_sizes, large_sizes}
use Rattle.decoding.proofs.decode_accepted.Goals as goal

pub decode_sized-requires-then-count-le336-clause-sizes : goal.decode_sized-requires-then-count-le336-clause-sizes
decode_sized-requires-then-count-le336-clause-sizes c = small_sizes c.args.shape c.places_of-count.ensures c.if-count-le336.true

pub decode_sized-requires-else-count-le336-clause-sizes : goal.decode_sized-requires-else-count-le336-clause-sizes
decode_sized-requires-else-count-le336-clause-sizes c = large_sizes c.args.shape
