use Rattle.basics.proofs.Kit.{◌≡◌, ◌+◌, ◌-◌, ◌*◌, ◌≤◌, ◌<◌, suc, arith, length}
use native.Mathlib.Nat.{suc-mul, mul-le-mul_right}
use Rattle.coset.proofs.Fitting.{layers_of}
use Rattle.coset.proofs.Search.{restore_asks}
use Rattle.pass.proofs.behind.Goals as goal

pub restore-requires : goal.restore-requires
restore-requires c =
    let b = c.requires in
    let step = c.args.layers.size * 4 in
    let kept = c.args.kept.now in
    let l : c.args.i + 1 < length c.args.layers.hs.now - c.args.layers.q = omega arith in
    let p : suc c.args.i ≤ length c.args.layers.hs.now - c.args.layers.q - 1 = omega arith in
    let room : c.args.i * step + step ≤ length kept = omega (arith, mul-le-mul_right step p, suc-mul c.args.i step, b.length_kept) in
    let d : c.args.i * step + step - c.args.i * step ≡ step = omega arith in
    let e : c.args.i + 1 - 1 ≡ c.args.i = omega arith in
    rw (d, ← e) (restore_asks (layers_of c.args.layers.fit) kept b.tables (omega arith) l c.args.g.now b.length_g (rw e room))
