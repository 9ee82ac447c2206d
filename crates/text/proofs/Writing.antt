-- Texts written one behind the other are one text, a stored byte is a text of one, and a part written anew is a text.
-- Assumes nothing.
use Rattle.basics.proofs.Kit.{◌≡◌, refl, ◌-◌, ap, ap₂, ◌∙◌, List, [], ◌∷◌, ◌++◌, ℕ, ◌+◌, ◌≤◌, ◌<◌, arith, length, take, drop, set}
use mathlib.Core.List.{append_assoc}
use native.Mathlib.Nat.{add-zero, add_assoc}
use native.Mathlib.Numerals.{add-one}
use lib.ListN.{length-append, length-drop, take-append-drop}
use lib.Seq.{length-take-le, take_at, drop-append-add, drop-drop, set_split}
use borrow.Rule.Slice.Mut.{set_vals}
use Rattle.text.specs.declared.Writer.{Writer}
use Rattle.text.specs.Within.{put, Written}
use Rattle.text.specs.Writer.{Room, Puts}

pub put_length : (at : ℕ) (t o : List ℕ) → at + length t ≤ length o → length (put at t o) ≡ length o
unfolding put
put_length at t o h =
    simp (length-append, length-drop) (omega (arith, length-take-le at o (omega arith)))

pub written_length : {at : ℕ} {t o p : List ℕ} {next : ℕ} → Written at t o p next → length p ≡ length o
written_length {at} {t} {o} w = ap length w.now_is ∙ put_length at t o w.room

-- nothing was written
pub nothing : (at : ℕ) (o : List ℕ) → at ≤ length o → Written at [] o o at
unfolding put
nothing at o h =
    record { room = omega arith; now_is = rw (add-zero, take-append-drop); next_is = omega arith }

-- one byte was stored
pub one : (at b : ℕ) (o : List ℕ) → at < length o → Written at (b ∷ []) o (set o at b) (at + 1)
unfolding put
one at b o h = record { room = omega arith; now_is = rw (add-one, set_split); next_is = omega arith }

-- one text behind another
put_put :
    (at : ℕ) (s t o : List ℕ) → at + length s ≤ length o → put (at + length s) t (put at s o) ≡ put at (s ++ t) o
unfolding put
put_put at s t o h =
    let k = length s in
    let e : length (take at o ++ s) ≡ at + k = simp length-append (omega (arith, length-take-le at o (omega arith))) in
    let rest = drop (at + k) o in
    let front : take (at + k) (take at o ++ (s ++ rest)) ≡ take at o ++ s =
    rw (← append_assoc) (take_at (take at o ++ s) rest (at + k) e) in
    let back : drop (at + k + length t) (take at o ++ (s ++ rest)) ≡ drop (at + length (s ++ t)) o =
    rw (← append_assoc, ← e, drop-append-add, e, length-append s t, drop-drop, add_assoc) in
    rw (front, back) (simp append_assoc)

pub then : {at i j : ℕ} {s t o p q : List ℕ} → Written at s o p i → Written i t p q j → Written at (s ++ t) o q j
then {at} {i} {j} {s} {t} {o} {p} {q} v w =
    let e : i ≡ at + length s = v.next_is in
    let l : length p ≡ length o = written_length v in
    let a : length (s ++ t) ≡ length s + length t = length-append s t in
    record {
      room = omega (arith, w.room);
      now_is = w.now_is ∙ ap₂ (λ n b. put n t b) e v.now_is ∙ put_put at s t o v.room;
      next_is = omega (arith, w.next_is);
    }

-- a part of the buffer was written anew
pub stored : (at : ℕ) (t p o : List ℕ) → at + length t ≤ length o → p ≡ t →
    Written at t o (take at o ++ (p ++ drop (at + length t - at) (drop at o))) (at + length t)
unfolding put
stored at t p o h e =
    let k : at + length t - at ≡ length t = omega arith in
    record { room = h; now_is = rw (e, k, drop-drop (length t) at o) refl; next_is = refl }

-- ---- the same of a writer
pub puts_one : (b : ℕ) (w : Writer) → Room (b ∷ []) w → Puts (b ∷ []) w (record { out = set_vals (set w.out.now w.at b) w.out; at = w.at + 1 })
puts_one b w h = record { same_reference = refl; written = one w.at b w.out.now (omega (arith, h.room)) }

pub puts_nothing : (w : Writer) → Room [] w → Puts [] w w
puts_nothing w h = record { same_reference = refl; written = nothing w.at w.out.now (omega (arith, h.room)) }

pub puts_then : {s t : List ℕ} {w v u : Writer} → Puts s w v → Puts t v u → Puts (s ++ t) w u
puts_then p q = record { same_reference = q.same_reference ∙ p.same_reference; written = then p.written q.written }

pub room_first : (s t : List ℕ) (w : Writer) → Room (s ++ t) w → Room s w
room_first s t w h = record { room = omega (arith, h.room, length-append s t) }

pub room_after : (s t : List ℕ) (w v : Writer) → Puts s w v → Room (s ++ t) w → Room t v
room_after s t w v p h = record { room = omega (arith, h.room, p.written.next_is, written_length p.written, length-append s t) }
