-- Turn by turn, what the tuples so far leave.
use Rattle.std.proofs.Common.{◌≡◌, refl, ◌+◌, ◌-◌, arith}
use Rattle.walk.proofs.Turns.{begins, movable, stands}
use Rattle.ties.proofs.Symbols.{last}
use Rattle.ties.proofs.Turns.{rows_of}
use Rattle.ties.proofs.Firsts.{tied_start, tied_turn, tied_end}
use Rattle.ties.proofs.first_tied.Goals as goal

pub first-a-requires : goal.first-a-requires
first-a-requires c = begins c.requires.slots

pub loop-k-init : goal.loop-k-init
unfolding last
loop-k-init c = record { within = c.requires.slots.some; standing = c.first-a.ensures c.args.st.now; tied = tied_start _ refl }

pub meet_turn-m-requires : goal.meet_turn-m-requires
meet_turn-m-requires c = let v = c.loop-k.invariant in rows_of v.standing c.requires.slots v.within c.requires.w_len

pub next-b-requires : goal.next-b-requires
next-b-requires c =
    let v = c.loop-k.invariant in
    let back : c.loop-k.k + 1 - 1 ≡ c.loop-k.k = omega arith in
    movable c.requires.slots (omega arith) (omega (arith, v.within)) (rw back v.standing)

pub loop-k-preserved : goal.loop-k-preserved
loop-k-preserved c =
    let v = c.loop-k.invariant in
    let back : c.loop-k.k + 1 - 1 ≡ c.loop-k.k = omega arith in
    record {
      within = omega (arith, v.within);
      standing = stands (c.loop-k.k + 1) (omega arith) (rw back v.standing) c.next-b.ensures;
      tied = tied_turn v.standing v.within v.tied c.meet_turn-m.result c.meet_turn-m.ensures;
    }

pub returns : goal.returns
returns c =
    let v = c.loop-k.invariant in
    let end : c.loop-k.k + 1 ≡ c.args.n = omega arith in
    tied_end (rw end at (tied_turn v.standing v.within v.tied c.meet_turn-m.result c.meet_turn-m.ensures)) c.requires.some_costs
