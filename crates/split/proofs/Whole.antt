-- The output of a split, piece by piece: the layers with THE leaders of their cosets, end to end.
-- Assumes nothing.
use Rattle.basics.proofs.Kit.{◌≡◌, refl, sym, ap, ◌∙◌, true, List, ◌++◌, ℕ, zero, suc, ◌+◌, ◌-◌, ◌*◌, ◌≤◌, ◌<◌, arith, length, get_or, take, drop}
use mathlib.Core.List.{append_assoc}
use native.Mathlib.Nat.{not-suc-le-zero, le_of_suc-le-suc, zero-mul, suc-mul, add-zero, zero-add, add-suc, suc-add, mul_comm, mul-le-mul_right}
use lib.ListN.{replicate, length-append, length-take, length-drop, get_or-append}
use lib.Seq.{take_at, drop_at, drop-append-add, take-add, drop-drop, length-take-le}
use borrow.Rule.Slice.PartMut.{put_mid}
use Rattle.code.specs.Code.{long, accepted}
use Rattle.code.specs.Bits.{bits_of, row_long}
use Rattle.split.specs.Split.{layer, syndrome, syndromes, cosets, padded, Binary, Leader, sum}
use Rattle.split.specs.Calls.{remainders, SplitRight}
use Rattle.split.specs.Promise.{SyndromeInside, OneLeader, SumIsBch, PartsAreBch}
use Rattle.code.proofs.Accepted.{accepted_parts}
use Rattle.split.proofs.Layers as L
use Rattle.split.proofs.Cosets.{syndrome_inside, sum_is_bch}
use Rattle.split.proofs.Leaders.{the_leader, the_leader_leads, one_leader}
use Rattle.split.proofs.Syndromes.{place_at, places}

-- pieces of the same length
module _ (m : ℕ) (ls : ℕ → List ℕ) (ws : List ℕ) (each : (j : ℕ) → j < m → length (sum (layer j ws) (ls j)) ≡ length ws) where
  from_length : (k i : ℕ) → i + k ≤ m → length (remainders k i ls ws) ≡ k * length ws
  unfolding remainders
  from_length zero i h = sym (zero-mul (length ws))
  from_length (suc k) i h = rw (length-append, each i (omega arith), from_length k (suc i) (omega arith), suc-mul) (omega arith)

  piece_from : (k i j : ℕ) → i + k ≤ m → j < k → take (length ws) (drop (j * length ws) (remainders k i ls ws)) ≡ sum (layer (i + j) ws) (ls (i + j))
  unfolding remainders
  piece_from zero i j o h = absurd (not-suc-le-zero h)
  piece_from (suc k) i zero o h = rw (zero-mul, add-zero) (take_at (sum (layer i ws) (ls i)) (remainders k (suc i) ls ws) (length ws) (each i (omega arith)))
  piece_from (suc k) i (suc j) o h =
      let p : List ℕ = sum (layer i ws) (ls i) in
      let e : suc j * length ws ≡ length p + j * length ws = omega (arith, suc-mul j (length ws), each i (omega arith)) in
      rw (e, drop-append-add p (remainders k (suc i) ls ws) (j * length ws), add-suc, ← suc-add) (piece_from k (suc i) j (omega arith) (le_of_suc-le-suc h))

  all_length : length (remainders m 0 ls ws) ≡ m * length ws
  all_length = from_length m 0 (omega arith)

  piece_at : (j : ℕ) → j < m → take (length ws) (drop (j * length ws) (remainders m 0 ls ws)) ≡ sum (layer j ws) (ls j)
  piece_at j h = piece_from m 0 j (omega arith) h ∙ ap (λ (i : ℕ). sum (layer i ws) (ls i)) (zero-add j)

-- a part of a list is written over: what was copied so far grows by it
pub one_part : (to d p : List ℕ) (a n : ℕ) → a ≤ length to → take n (drop a to) ≡ p →
    put_mid a (a + n - a) (take a to ++ drop a d) p ≡ take (a + n) to ++ drop (a + n) d
one_part to d p a n h e =
    let l : length (take a to) ≡ a = length-take-le a to h in
    let k : a + n - a ≡ n = omega arith in
    rw (k, take_at (take a to) (drop a d) a l, drop_at (take a to) (drop a d) a l, drop-drop n a d, take-add a n to, e) (sym (append_assoc (take a to) p (drop (a + n) d)))

-- one turn: the list so far, and its length
pub record Turn (to d now : List ℕ) (a : ℕ) : Type 0 where
  pub list : now ≡ take a to ++ drop a d
  pub same : length now ≡ length d

pub turn : (to d bch p : List ℕ) (a n : ℕ) → length to ≡ length d → a ≤ length to → bch ≡ take a to ++ drop a d → take n (drop a to) ≡ p →
    Turn to d (put_mid a (a + n - a) bch p) (a + n)
turn to d bch p a n l h b e =
    let q : put_mid a (a + n - a) bch p ≡ take (a + n) to ++ drop (a + n) d =
    ap (λ (x : List ℕ). put_mid a (a + n - a) x p) b ∙ one_part to d p a n h e in
    record { list = q; same = ap length q ∙ simp (length-append, length-take, length-drop) (omega arith) }

padded_at : (ss : List ℕ) (j : ℕ) → j < length ss → get_or (padded ss) j 0 ≡ get_or ss j 0
unfolding padded
padded_at ss j h = get_or-append ss (replicate (4 - length ss) 0) 0 j h

-- the leaders of a word's layers
unfoldable pub leads : (m r : ℕ) → List ℕ → (j : ℕ) → List ℕ
leads m r ws j = the_leader m r (syndrome m r (layer j ws))

unfoldable pub whole : (m r : ℕ) → List ℕ → List ℕ
whole m r ws = remainders m 0 (leads m r ws) ws

module _ (m r : ℕ) (ws tuple : List ℕ) (g : accepted m r ≡ true) (n : length ws ≡ long m) (t : tuple ≡ padded (syndromes m r ws)) where
  pub its_place : (j : ℕ) → j < m → get_or tuple j 0 ≡ syndrome m r (layer j ws)
  its_place j h = ap (λ (l : List ℕ). get_or l j 0) t ∙ padded_at (syndromes m r ws) j (rw (places m r ws) h) ∙ place_at m r j ws h

  inside : (j : ℕ) → syndrome m r (layer j ws) < cosets m r
  unfolding SyndromeInside
  inside j = syndrome_inside m r (layer j ws) (accepted_parts m r g).wide (L.layer_binary m j ws n)

  pub its_coset : (j : ℕ) → j < m → get_or tuple j 0 < cosets m r
  its_coset j h = rw (its_place j h) (inside j)

  leads_right : (j : ℕ) → Leader m r (syndrome m r (layer j ws)) (leads m r ws j)
  unfolding leads
  leads_right j = the_leader_leads m r (syndrome m r (layer j ws)) g (inside j)

  each : (j : ℕ) → j < m → length (sum (layer j ws) (leads m r ws j)) ≡ length ws
  each j h =
      let k : length (leads m r ws j) ≡ length ws = (leads_right j).binary.count ∙ sym n in
      L.sum_length (layer j ws) (leads m r ws j) (L.layer_length j ws ∙ sym k) ∙ k

  pub whole_length : length (whole m r ws) ≡ m * length ws
  unfolding whole
  whole_length = all_length m (leads m r ws) ws each

  -- THE PIECE OF LAYER j is the layer with the leader that the program finds
  pub piece : (j l : ℕ) → j < m → Leader m r (get_or tuple j 0) (bits_of (long m) l) →
      take (length ws) (drop (j * length ws) (whole m r ws)) ≡ sum (layer j ws) (bits_of (length ws) l)
  unfolding whole OneLeader
  piece j l h p =
      let e : bits_of (length ws) l ≡ leads m r ws j =
      ap (λ (k : ℕ). bits_of k l) n ∙ one_leader m r (syndrome m r (layer j ws)) _ _ (rw (its_place j h) at p) (leads_right j) in
      piece_at m (leads m r ws) ws each j h ∙ ap (sum (layer j ws)) (sym e)

  pub whole_right : (out : List ℕ) → out ≡ whole m r ws → SplitRight m r ws tuple out
  unfolding whole
  whole_right out e = record { tuple = t; leaders = leads m r ws; lead = λ j h. leads_right j; left = e }

-- the next piece has room
pub fits : (j m n at room : ℕ) → j < m → at ≡ j * n → m * n ≡ room → at + n ≤ room
fits j m n at room h e r = omega (arith, mul-le-mul_right n h, suc-mul j n)

pub piece_room : (m j : ℕ) (ws o : List ℕ) → length ws ≡ long m → length o ≡ row_long m → j < m → j * length ws + length ws ≤ length o
unfolding row_long
piece_room m j ws o n e h = fits j m (length ws) (j * length ws) (length o) h refl (mul_comm m (length ws) ∙ ap (λ (x : ℕ). x * m) n ∙ sym e)

pub whole_room : (m k n o : ℕ) → k ≡ m * n → o ≡ row_long m → n ≡ long m → k ≡ o
unfolding row_long
whole_room m k n o e r l = e ∙ mul_comm m n ∙ ap (λ (x : ℕ). x * m) l ∙ sym r

pub all_written : (k m n j at : ℕ) → k ≡ m * n → m ≤ j → at ≡ j * n → k ≤ at
all_written k m n j at e h g = rw (e, g) (mul-le-mul_right n h)

-- each part is a layer plus a leader
module _ (m r : ℕ) (ws tuple out : List ℕ) (n : length ws ≡ long m) (p : SplitRight m r ws tuple out) where
  part_length : (j : ℕ) → j < m → length (sum (layer j ws) (p.leaders j)) ≡ length ws
  part_length j h =
      let k : length (p.leaders j) ≡ length ws = (p.lead j h).binary.count ∙ sym n in
      L.sum_length (layer j ws) (p.leaders j) (L.layer_length j ws ∙ sym k) ∙ k

  pub part : (j : ℕ) → j < m → take (long m) (drop (j * long m) out) ≡ sum (layer j ws) (p.leaders j)
  part j h = rw (← n, p.left) (piece_at m p.leaders ws part_length j h)

  part_binary : (j : ℕ) → j < m → Binary m (sum (layer j ws) (p.leaders j))
  part_binary j h = L.sum_binary m (layer j ws) (p.leaders j) (L.layer_binary m j ws n) (p.lead j h).binary

pub parts_are_bch : PartsAreBch
unfolding PartsAreBch SumIsBch row_long
parts_are_bch m r ws tuple out w n p = (
  ap length p.left ∙ all_length m p.leaders ws (part_length m r ws tuple out n p) ∙ ap (λ (k : ℕ). m * k) n ∙ mul_comm m (long m),
  (λ j h. (
    rw (part m r ws tuple out n p j h) (part_binary m r ws tuple out n p j h),
    rw (part m r ws tuple out n p j h) (sum_is_bch m r (layer j ws) (p.leaders j) w (L.layer_binary m j ws n) (p.lead j h).binary (p.lead j h).of_coset),
  )),
)
