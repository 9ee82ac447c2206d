-- `practice::Generator::draw_row`: one draw more.
-- Assumes nothing.
use Rattle.basics.proofs.Kit.{refl, ap, ap₂, ◌∙◌, List, [], ◌∷◌, ◌++◌, ℕ, arith, ℤ}
use Rattle.std.proofs.Common.{add-one, take-suc-set, to_z-of_z}
use Rattle.practice.specs.Practice.{advanced, reliability, row_drawn, after}
use Rattle.practice.proofs.Draws.{after_next, row_next}
use Rattle.practice.proofs.Generator.draw_row.Goals as goal

pub loop-place-init : goal.loop-place-init
unfolding after row_drawn
loop-place-init c = record { state = refl; drawn = refl }

pub loop-place-preserved : goal.loop-place-preserved
loop-place-preserved c =
    let l = c.loop-place in
    let i = l.place-index in
    let s = c.args.self.now.state in
    record {
      state = c.draw.ensures.state ∙ ap advanced l.invariant.state ∙ rw (add-one i) (after_next i s);
      drawn =
          rw (add-one i, to_z-of_z (record { sfits = c.draw.type_inv }))
          (take-suc-set l.row i c.draw.result (omega arith)
          ∙ ap₂ (λ (x : List ℤ) (r : ℤ). x ++ r ∷ []) l.invariant.drawn (c.draw.ensures.drawn ∙ ap (λ (x : ℕ). reliability (advanced x)) l.invariant.state)
          ∙ row_next i s);
    }
