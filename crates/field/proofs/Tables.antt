-- The rule of a table is one test that antt computes over the whole of it; and the laws by which the tables serve.
-- Assumes nothing.
use Rattle.basics.proofs.Kit.{◌≡◌, refl, sym, ap, ◌∙◌, Bool, true, ◌&&◌, List, [], ◌∷◌, ℕ, zero, suc, ◌+◌, ◌-◌, ◌*◌, ◌/◌, ◌%◌, ◌^◌, ◌≤◌, ◌<◌, arith, length, get_or, eqb, ltb}
use native.Mathlib.Nat.{zero-add, suc-mul, zero-mul, div-add-mod', mod-lt, not-suc-le-zero}
use lib.Dec.{T, eqb→eq, ltb→lt, lit≤}
use Rattle.field.specs.Field.{width_good, xor, times, times_from, doubled, alpha, inverse, inverse_from}
use Rattle.field.specs.Within.{Log, Tables}
use Rattle.field.proofs.Tests.{all, at, and_l, and_r, widths}
use Rattle.field.proofs.Field as F

-- the tables of src/lib.rt
abbrev antilog_3 : List ℕ
antilog_3 = 1 ∷ 2 ∷ 4 ∷ 3 ∷ 6 ∷ 7 ∷ 5 ∷ []

abbrev antilog_4 : List ℕ
antilog_4 = 1 ∷ 2 ∷ 4 ∷ 8 ∷ 3 ∷ 6 ∷ 12 ∷ 11 ∷ 5 ∷ 10 ∷ 7 ∷ 14 ∷ 15 ∷ 13 ∷ 9 ∷ []

abbrev log_3 : List ℕ
log_3 = 0 ∷ 0 ∷ 1 ∷ 3 ∷ 2 ∷ 6 ∷ 4 ∷ 5 ∷ []

abbrev log_4 : List ℕ
log_4 = 0 ∷ 0 ∷ 1 ∷ 4 ∷ 2 ∷ 8 ∷ 5 ∷ 10 ∷ 3 ∷ 14 ∷ 9 ∷ 7 ∷ 6 ∷ 13 ∷ 11 ∷ 12 ∷ []

-- an antilog table holds the powers of α
abbrev pub antilogs : (m : ℕ) → List ℕ → Bool
antilogs m xs = all (2 ^ m - 1) (λ e. eqb (get_or xs e 0) (alpha m e))

antilog_at : (m : ℕ) (xs : List ℕ) → T (antilogs m xs) → (e : ℕ) → e < 2 ^ m - 1 → get_or xs e 0 ≡ alpha m e
antilog_at m xs t e h = eqb→eq (get_or xs e 0) (alpha m e) (at (2 ^ m - 1) (λ e. eqb (get_or xs e 0) (alpha m e)) t e h)

-- a log table holds the exponents of the elements from 1 on
abbrev log_right : (m a e : ℕ) → Bool
log_right m a e = ltb e (2 ^ m - 1) && eqb (alpha m e) a

abbrev pub logs : (m : ℕ) → List ℕ → Bool
logs m xs = all (2 ^ m - 1) (λ a. log_right m (suc a) (get_or xs (suc a) 0))

log_at : (m : ℕ) (xs : List ℕ) → T (logs m xs) → (a : ℕ) → 0 < a → a < 2 ^ m → Log m a (get_or xs a 0)
log_at m xs t zero l h = absurd (not-suc-le-zero l)
log_at m xs t (suc a) l h =
    let e : ℕ = get_or xs (suc a) 0 in
    let r : T (log_right m (suc a) e) = at (2 ^ m - 1) (λ a. log_right m (suc a) (get_or xs (suc a) 0)) t a (omega arith) in
    record {
      small = ltb→lt e (2 ^ m - 1) (and_l (ltb e (2 ^ m - 1)) (eqb (alpha m e) (suc a)) r);
      power = eqb→eq (alpha m e) (suc a) (and_r (ltb e (2 ^ m - 1)) (eqb (alpha m e) (suc a)) r);
    }

pub size : (m : ℕ) → width_good m ≡ true → 2 ^ m ≤ 16
size = widths (λ (m : ℕ). 2 ^ m ≤ 16) (lit≤ tt) (lit≤ tt)

module _ (m : ℕ) (w : width_good m ≡ true) where
  turn : alpha m (2 ^ m - 1) ≡ 1
  unfolding xor doubled alpha
  turn = widths (λ (m : ℕ). alpha m (2 ^ m - 1) ≡ 1) refl refl m w

  -- the powers come round
  once_round : (e : ℕ) → alpha m (2 ^ m - 1 + e) ≡ alpha m e
  once_round e = F.alpha_add m w (2 ^ m - 1) e ∙ ap (λ (x : ℕ). times m x (alpha m e)) turn ∙ F.times_one m w (alpha m e) (F.alpha_lt m w e)

  turns : (q e : ℕ) → alpha m (q * (2 ^ m - 1) + e) ≡ alpha m e
  turns zero e = rw (zero-mul, zero-add) refl
  turns (suc q) e =
      let n : ℕ = 2 ^ m - 1 in
      let h : suc q * n + e ≡ n + (q * n + e) = omega (arith, suc-mul q n) in
      rw h (once_round (q * n + e) ∙ turns q e)

  round : (e : ℕ) → alpha m (e % (2 ^ m - 1)) ≡ alpha m e
  round e = sym (turns (e / (2 ^ m - 1)) (e % (2 ^ m - 1))) ∙ ap (alpha m) (div-add-mod' e (2 ^ m - 1))

  -- exponents add
  power_log : (a d t : ℕ) → Log m a d → alpha m (d + t) ≡ times m a (alpha m t)
  power_log a d t p = F.alpha_add m w d t ∙ ap (λ (x : ℕ). times m x (alpha m t)) p.power

  pub product_log : (a b d e : ℕ) → Log m a d → Log m b e → alpha m (d + e) ≡ times m a b
  product_log a b d e p q = power_log a d e p ∙ ap (times m a) q.power

  -- and an inverse is the rest of a turn away
  inverse_power : (e : ℕ) → e < 2 ^ m - 1 → alpha m (2 ^ m - 1 - e) ≡ inverse m (alpha m e)
  unfolding xor times times_from doubled alpha inverse inverse_from
  inverse_power e h =
      eqb→eq (alpha m (2 ^ m - 1 - e)) (inverse m (alpha m e))
      (at (2 ^ m - 1) (λ e. eqb (alpha m (2 ^ m - 1 - e)) (inverse m (alpha m e)))
      (widths (λ m. T (all (2 ^ m - 1) (λ e. eqb (alpha m (2 ^ m - 1 - e)) (inverse m (alpha m e))))) tt tt m w) e h)

  pub inverse_log : (a e : ℕ) → Log m a e → alpha m (2 ^ m - 1 - e) ≡ inverse m a
  inverse_log a e p = inverse_power e p.small ∙ ap (inverse m) p.power

-- what the tables of a field give: any power of α, and an element times α^t, short of a turn or past it
module _ {m : ℕ} {ls ps : List ℕ} (f : Tables m ls ps) where
  power_at : (e : ℕ) → get_or ps (e % (2 ^ m - 1)) 0 ≡ alpha m e
  power_at e = f.antilog_at (e % (2 ^ m - 1)) (mod-lt e (omega (arith, F.two_lt m f.width))) ∙ round m f.width e

  module _ (a t : ℕ) (p : 0 < a) (h : (a < 2 ^ m) × (t < 2 ^ m - 1)) where
    product : alpha m (get_or ls a 0 + t) ≡ times m a (alpha m t)
    product = power_log m f.width a (get_or ls a 0) t (f.log_at a p h.0)

    pub short_of_turn : get_or ls a 0 + t < length ps → get_or ps (get_or ls a 0 + t) 0 ≡ times m a (alpha m t)
    short_of_turn l = f.antilog_at (get_or ls a 0 + t) (omega (arith, f.antilogs_long)) ∙ product

    pub turn_off : get_or ls a 0 + t - length ps < length ps
    turn_off = omega (arith, f.antilogs_long, (f.log_at a p h.0).small, h.1)

    pub past_turn : length ps ≤ get_or ls a 0 + t → get_or ps (get_or ls a 0 + t - length ps) 0 ≡ times m a (alpha m t)
    past_turn l =
        let k : ℕ = get_or ls a 0 + t - length ps in
        let n : 2 ^ m - 1 + k ≡ get_or ls a 0 + t = omega (arith, f.antilogs_long) in
        f.antilog_at k (omega (arith, f.antilogs_long, turn_off)) ∙ sym (once_round m f.width k) ∙ ap (alpha m) n ∙ product

-- THE TABLES' RULES, one test each
tables : (m : ℕ) (ls ps : List ℕ) → width_good m ≡ true → length ls ≡ 2 ^ m → length ps ≡ 2 ^ m - 1 → T (logs m ls) → T (antilogs m ps) → Tables m ls ps
tables m ls ps w l n t s = record {
  width = w;
  logs_long = l;
  antilogs_long = n;
  log_at = log_at m ls t;
  antilog_at = antilog_at m ps s;
}

pub tables_3 : Tables 3 log_3 antilog_3
unfolding xor doubled alpha width_good
tables_3 = tables 3 log_3 antilog_3 refl refl refl tt tt

pub tables_4 : Tables 4 log_4 antilog_4
unfolding xor doubled alpha width_good
tables_4 = tables 4 log_4 antilog_4 refl refl refl tt tt

pub power_3 : (e : ℕ) → get_or antilog_3 (e % 7) 0 ≡ alpha 3 e
power_3 = power_at tables_3

pub power_4 : (e : ℕ) → get_or antilog_4 (e % 15) 0 ≡ alpha 4 e
power_4 = power_at tables_4

pub exponent_3 : (a : ℕ) → 0 < a → a < 8 → Log 3 a (get_or log_3 a 0)
exponent_3 = tables_3.log_at

pub exponent_4 : (a : ℕ) → 0 < a → a < 16 → Log 4 a (get_or log_4 a 0)
exponent_4 = tables_4.log_at
