-- One place more lowers the entry that it stands for.
use Rattle.std.proofs.Common.{◌≡◌, ap, ◌∙◌, ◌+◌, ◌*◌, ◌-◌, ◌<◌, min, arith, length, get_or, set}
use Rattle.gather.proofs.Entries.{lowered_none, lowered_more}
use Rattle.gather.proofs.lower_places.Goals as goal

pub loop-row-init : goal.loop-row-init
loop-row-init c = lowered_none (λ x l. c.reset.ensures.1 x (omega arith))

pub loop-x-preserved : goal.loop-x-preserved
loop-x-preserved c =
    let a = c.loop-x.a in
    let n = c.loop-row.row * 16 + c.loop-x.x in
    let s = get_or c.args.places.now n 0 in
    let y = get_or c.args.g.now n 0 in
    let more : c.loop-row.row * 16 + (c.loop-x.x + 1) ≡ n + 1 = omega arith in
    let whole : y ≡ y - 0 = omega arith in
    let known : s < length a = let e = c.requires.0.inside n (omega arith) in omega arith in
    rw more (lowered_more c.loop-x.invariant known (c.lower_at.ensures ∙ ap (λ v. set a s (min (get_or a s 0) v)) whole))
