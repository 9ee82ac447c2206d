-- What is left of the layers is as good as all of them.
use Rattle.std.proofs.Common.{◌≡◌, ◌-◌, ◌*◌, length, drop}
use Rattle.std.specs.Slice.Iter.{chunks_exact_rest, chunks_exact_size}
use Rattle.join.specs.Calls.{all_bch}
use Rattle.join.proofs.all_bch.Given as goal

abbrev pub invariant-loop-values : goal.invariant-loop-values
invariant-loop-values l = record {
  can_next : (goal.iterator-loop-values).can_next l.values-iterator;
  is_finite : (goal.iterator-loop-values).is_finite l.values-iterator;
  size : chunks_exact_size l.values-iterator ≡ l.shape.n;
  rest : chunks_exact_rest l.values-iterator ≡ drop (length l.yielded * l.shape.n) l.bch;
  left : all_bch l.shape.m 0 l.shape.m l.shape.r l.bch ≡ all_bch (l.shape.m - length l.yielded) (length l.yielded) l.shape.m l.shape.r l.bch;
}
