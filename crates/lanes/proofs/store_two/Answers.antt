use Rattle.basics.proofs.Kit.{◌≤◌, ◌*◌, ◌+◌, List, ℕ, ap, ◌∙◌, refl, arith, length, set}
use Rattle.lanes.specs.Lanes.{lane, lanes, put, put_two}
use Rattle.lanes.proofs.Rows.{put_is, length_put}
use Rattle.lanes.proofs.store_two.Goals as goal

abbrev places : List ℕ → ℕ → List ℕ → List ℕ
places t k r = set (set (set (set t (k + 0) (lane r 0)) (k + 1) (lane r 1)) (k + 2) (lane r 2)) (k + 3) (lane r 3)

pub returns : goal.returns
unfolding put_two
returns c =
    let t = c.args.t.now in
    let s = c.args.s in
    let first = lanes (lane c.args.r) in
    let second = lanes (λ j. lane c.args.r (4 + j)) in
    let inside : s * 4 + 4 ≤ length t = omega arith in
    ap (λ (u : List ℕ). places u ((s + 1) * 4) second) (put_is t s first 0 0 0 0 inside refl)
    ∙ put_is (put t s first) (s + 1) second 0 0 0 0 (omega (arith, length_put t s first inside refl)) refl
