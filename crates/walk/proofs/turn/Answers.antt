-- The slots that move by the step that is read, and those that stand still.
use Rattle.std.proofs.Common.{List, ℕ, ◌*◌, ◌<◌, sym, ap, ◌∙◌, arith, subst, get_or}
use Rattle.lanes.specs.Lanes.{lane}
use Rattle.walk.specs.declared.Slot.{Slot}
use Rattle.walk.specs.Walk.{step, changed_bit}
use Rattle.walk.specs.Turns.{row_of, Shifted, Together}
use Rattle.walk.proofs.Shifts.{asks2, asks3, stays, turned}
use Rattle.walk.proofs.turn.Goals as goal

-- a slot that moves by the step that is read, by its own
own_step : {f st t : List ℕ} {k w p n : ℕ} {s : Slot} (j : ℕ) → j < w → Together st k w → Shifted f (get_or st (changed_bit k * 4) 0) p t n s → Shifted f (step st (changed_bit k) j) p t n s
own_step {f} {st} {t} {k} {w} {p} {n} {s} j l h =
    subst (λ e. Shifted f e p t n s) (ap (λ (i : ℕ). get_or st i 0) (omega arith) ∙ sym (h.same j l))

pub returns-then-w-eq2 : goal.returns-then-w-eq2
returns-then-w-eq2 c =
    let r = c.requires in
    let a = c.args.a in
    let n = c.shift-p1.result in
    let s = step c.args.st.now (changed_bit c.args.k) in
    let first = own_step 0 (omega arith) r.together c.shift-p0.ensures in
    let second = own_step 1 (omega arith) r.together c.shift-p1.ensures in
    let third = stays c.args.f.now (lane a.places 2) (row_of a 2) n.total n.adjusted (s 2) (r.together.still 2 (omega arith) (omega arith)) (asks2 r.movable first second) in
    let fourth = stays c.args.f.now (lane a.places 3) (row_of a 3) n.total n.adjusted (s 3) (r.together.still 3 (omega arith) (omega arith)) (asks3 r.movable first second third) in
    turned r.movable first second third fourth

pub returns : goal.returns
returns c =
    let r = c.requires in
    let a = c.args.a in
    let n = c.shift-p2.result in
    let s = step c.args.st.now (changed_bit c.args.k) in
    let first = own_step 0 (omega arith) r.together c.shift-p0.ensures in
    let second = own_step 1 (omega arith) r.together c.shift-p1.ensures in
    let third = own_step 2 (omega arith) r.together c.shift-p2.ensures in
    let fourth = stays c.args.f.now (lane a.places 3) (row_of a 3) n.total n.adjusted (s 3) (r.together.still 3 (omega arith) (omega arith)) (asks3 r.movable first second third) in
    turned r.movable first second third fourth
