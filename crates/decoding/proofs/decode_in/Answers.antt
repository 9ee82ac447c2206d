-- `decoding::decode_in` meets its contract.
-- Assumes nothing.
use Rattle.basics.proofs.Kit.{sym, arith}
use lib.Seq.{length-take-le}
use Rattle.search.proofs.Roomed.{wide, headed_long}
use Rattle.decoding.proofs.decode_in.Goals as goal

pub overflow_mul-wide : goal.overflow_mul-wide
overflow_mul-wide c = record { fits = omega (arith, wide c.args.shape) }

pub slice_bounds-decode_with-end : goal.slice_bounds-decode_with-end
slice_bounds-decode_with-end c = headed_long c.args.shape _ c.columns-columns.ensures

pub slice_bounds-decode_with-end-2 : goal.slice_bounds-decode_with-end-2
slice_bounds-decode_with-end-2 c = sym (length-take-le _ _ (wide c.args.shape))

pub slice_bounds-decode_with-end-3 : goal.slice_bounds-decode_with-end-3
slice_bounds-decode_with-end-3 c = sym (length-take-le _ _ (wide c.args.shape))

pub slice_bounds-decode_with-end-8 : goal.slice_bounds-decode_with-end-8
slice_bounds-decode_with-end-8 c = sym (length-take-le _ _ (wide c.args.shape))

pub slice_bounds-decode_with-end-9 : goal.slice_bounds-decode_with-end-9
slice_bounds-decode_with-end-9 c = sym (length-take-le _ _ (wide c.args.shape))

pub decode_with-requires-clause-outputs : goal.decode_with-requires-clause-outputs
decode_with-requires-clause-outputs c = let p = c.requires.accepted in let l = wide c.args.shape in record {
  length_zs = length-take-le _ _ l;
  length_os = length-take-le _ _ l;
  length_zero = length-take-le _ _ l;
  length_one = length-take-le _ _ l;
  length_word = p.long_word;
  length_soft = p.long_soft;
  length_scratch = p.long_scratch;
}

pub slice_bounds-zs-end : goal.slice_bounds-zs-end
slice_bounds-zs-end c = wide c.args.shape

pub slice_bounds-os-end : goal.slice_bounds-os-end
slice_bounds-os-end c = wide c.args.shape

pub slice_bounds-zero-end : goal.slice_bounds-zero-end
slice_bounds-zero-end c = wide c.args.shape

pub slice_bounds-one-end : goal.slice_bounds-one-end
slice_bounds-one-end c = wide c.args.shape

pub slice_bounds-columns-end : goal.slice_bounds-columns-end
slice_bounds-columns-end c = omega (arith, wide c.args.shape)
