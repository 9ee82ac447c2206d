-- `decoding::soften` meets its contract.
-- Assumes nothing.
use Rattle.basics.proofs.Kit.{◌≡◌, refl, ◌∙◌, ◌≤◌, List, ℕ, arith, length, take}
use lib.Seq.{length-take-le, get_or-take}
use Rattle.coset.proofs.Fitting.{fit_of}
use Rattle.search.proofs.Laying.{sixteens}
use Rattle.decoding.proofs.Finding.{own_le, pass_ok, softs_ok}
use Rattle.decoding.proofs.Decodings.{rows_ok}
use Rattle.decoding.proofs.soften.Goals as goal

pub others-requires : goal.others-requires
others-requires c = let p = c.requires in let r = p.soften_room in let l = length-take-le _ c.args.g.now r.places_g in record {
  count_g = r.places_g;
  scatter = record {
    places_in = sixteens c.args.shape p.laid.placed refl;
    count = r.places_f;
    states_in = r.states_f;
    length_g = l;
    own = λ q h. rw (← get_or-take (length c.args.places.now) c.args.f.now q 0 h) (own_le p.input p.tabled p.laid (take (length c.args.places.now) c.args.g.now) p.marginals l q h);
  };
}

-- a table in the first part of a room that has kept its length
table_long : (n : ℕ) (f g : List ℕ) → length g ≡ length f → n ≤ length f → length (take n g) ≡ n
table_long n f g e h = length-take-le n g (omega arith)

pub invariant_of-layers : goal.invariant_of-layers
invariant_of-layers c = record { fit = fit_of c.requires.tabled.layered.layers }

pub soft_costs-requires-clause-pass : goal.soft_costs-requires-clause-pass
soft_costs-requires-clause-pass c = let p = c.requires in let r = p.soften_room in
    pass_ok p.input p.tabled p.laid _ p.marginals (length-take-le _ c.args.g.now r.places_g) c.others.ensures (table_long _ _ _ c.others.auto.f r.states_f) r (table_long _ _ _ c.others.auto.g r.states_g)

pub soft_rows-requires : goal.soft_rows-requires
soft_rows-requires c = let p = c.requires in let r = p.soften_room in
    rows_ok p.input (c.soft_costs.auto.zero ∙ r.length_zero) (c.soft_costs.auto.one ∙ r.length_one) r.length_soft
    (softs_ok p.input p.tabled p.laid _ p.marginals (length-take-le _ c.args.g.now r.places_g) c.others.ensures (table_long _ _ _ c.others.auto.f r.states_f) _ _ c.soft_costs.ensures.with_zero c.soft_costs.ensures.with_one)

pub returns-clause-softs : goal.returns-clause-softs
returns-clause-softs c = let p = c.requires in let r = p.soften_room in
    softs_ok p.input p.tabled p.laid _ p.marginals (length-take-le _ c.args.g.now r.places_g) c.others.ensures (table_long _ _ _ c.others.auto.f r.states_f) _ _ c.soft_costs.ensures.with_zero c.soft_costs.ensures.with_one
