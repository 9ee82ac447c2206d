-- `marker::excess_in` meets its contract.
-- Assumes nothing.
use Rattle.basics.proofs.Kit.{sym, ◌∙◌, ◌≤◌, arith, length}
use lib.Seq.{length-take-le}
use Rattle.search.proofs.Roomed.{wide, headed_long}
use Rattle.marker.proofs.excess_in.Goals as goal

pub overflow_mul-wide : goal.overflow_mul-wide
overflow_mul-wide c = record { fits = omega (arith, wide c.args.shape) }

pub slice_bounds-excess_with-end : goal.slice_bounds-excess_with-end
slice_bounds-excess_with-end c = headed_long c.args.shape _ c.columns-columns.ensures

pub slice_bounds-excess_with-end-2 : goal.slice_bounds-excess_with-end-2
slice_bounds-excess_with-end-2 c = sym (length-take-le _ _ (wide c.args.shape))

pub slice_bounds-excess_with-end-3 : goal.slice_bounds-excess_with-end-3
slice_bounds-excess_with-end-3 c = sym (length-take-le _ _ (wide c.args.shape))

pub excess_with-requires-clause-lent : goal.excess_with-requires-clause-lent
excess_with-requires-clause-lent c =
    let l = wide c.args.shape in
    let e = c.places_of-count.ensures in
    let p : c.places_of-count.result ≤ length c.args.places.now = omega (arith, c.requires.roomy.count_places) in
    let q : c.places_of-count.result ≤ length c.args.f.now = omega (arith, c.requires.roomy.count_f) in
    record {
      length_zs = length-take-le _ _ l;
      length_os = length-take-le _ _ l;
      length_t = length-take-le _ _ c.requires.roomy.states_t;
      length_places = length-take-le _ _ p ∙ e;
      length_f = length-take-le _ _ q ∙ sym (length-take-le _ _ p);
    }

pub slice_bounds-columns-end : goal.slice_bounds-columns-end
slice_bounds-columns-end c = omega (arith, wide c.args.shape)

pub slice_bounds-zs-end : goal.slice_bounds-zs-end
slice_bounds-zs-end c = wide c.args.shape

pub slice_bounds-os-end : goal.slice_bounds-os-end
slice_bounds-os-end c = wide c.args.shape
