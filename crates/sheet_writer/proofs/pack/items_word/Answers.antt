-- `sheet_writer::items_word`: one item more, and the word has room.
-- Assumes nothing.
use Rattle.basics.proofs.Kit.{◌≡◌, sym, ap, ◌∙◌, List, ℕ, ◌+◌, ◌-◌, ◌*◌, ◌<◌, arith, length, take, drop}
use mathlib.Core.Path.{subst}
use lib.ListN.{length-take, length-drop}
use Rattle.sheet.specs.declared.form.Form.{Form}
use Rattle.sheet.specs.Sheet.{worded}
use Rattle.sheet_writer.specs.Within.{Items}
use Rattle.sheet_writer.proofs.Packing.{packed_end}
use Rattle.sheet_writer.proofs.Words.{packed_from, packed_fits, packed_more}
use Rattle.sheet_writer.proofs.pack.items_word.Goals as goal

-- what is packed stays small
less : {pre : ℕ → Type 0} {post : ℕ → ℕ → Type 0} (f : Form) {ds : List ℕ} (p : Items pre post f.base ds) (from i : ℕ) {v : ℕ} → v ≡ packed_from f p from i → v < 268435456
less f p from i e = subst (λ (x : ℕ). x < 268435456) (sym e) (packed_fits f p from i)

-- the items of the word are there
inside : (ds : List ℕ) (each from n i : ℕ) → length (take each (drop from ds)) ≡ n → i < n → from + i < length ds
inside ds each from n i e h = omega (arith, length-take each (drop from ds), length-drop from ds)

pub loop-i-init : goal.loop-i-init
loop-i-init g c = λ ds p e. sym (packed_end c.args.f.base _ c.args.n (omega (arith, e)))

pub overflow_mul-v : goal.overflow_mul-v
overflow_mul-v g c =
    let p = c.requires.1 in
    let e = c.requires.2 in
    let m = packed_more c.args.f p c.args.from c.loop-i.i c.loop-i.v c.loop-i-test.true (omega (arith, e)) (c.loop-i.invariant _ p e) in
    record { fits = omega (arith, less c.args.f p c.args.from (c.loop-i.i - 1) m) }

pub overflow_add-v : goal.overflow_add-v
overflow_add-v g c =
    let p = c.requires.1 in
    let e = c.requires.2 in
    let m = packed_more c.args.f p c.args.from c.loop-i.i c.loop-i.v c.loop-i-test.true (omega (arith, e)) (c.loop-i.invariant _ p e) in
    let r = p.says _ _ (inside _ c.args.f.each c.args.from c.args.n (c.loop-i.i - 1) e (omega arith)) c.item.ensures in
    record { fits = omega (arith, less c.args.f p c.args.from (c.loop-i.i - 1) m, r) }

pub loop-i-preserved : goal.loop-i-preserved
loop-i-preserved g c = λ ds p e.
    let m = packed_more c.args.f p c.args.from c.loop-i.i c.loop-i.v c.loop-i-test.true (omega (arith, e)) (c.loop-i.invariant ds p e) in
    let r = p.says _ _ (inside ds c.args.f.each c.args.from c.args.n (c.loop-i.i - 1) e (omega arith)) c.item.ensures in
    omega (arith, m, r)

pub overflow_add-result : goal.overflow_add-result
overflow_add-result g c =
    let p = c.requires.1 in
    record { fits = omega (arith, c.args.f.fine.kinds, less c.args.f p c.args.from c.loop-i.i (c.loop-i.invariant _ p c.requires.2)) }

pub returns : goal.returns
unfolding worded
returns g c = λ ds p e.
    let z : c.loop-i.i ≡ 0 = omega arith in
    ap (λ (x : ℕ). c.args.f.kind * 268435456 + x) (c.loop-i.invariant ds p e ∙ ap (packed_from c.args.f p c.args.from) z)
