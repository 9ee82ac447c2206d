-- One layer more, and all of them.
use Rattle.basics.proofs.Kit.{◌≡◌, sym, ap, ◌∙◌, Bool, true, ◌&&◌, [], ◌∷◌, ◌++◌, List, ℕ, suc, ◌+◌, ◌-◌, ◌≤◌, ◌<◌, arith, length}
use native.Mathlib.Numerals.{add-one}
use Rattle.std.proofs.lemmas.List.{length_push}
use Rattle.join.specs.Calls.{part, is_bch, all_bch}
use Rattle.join.proofs.Parts.{chunk_at, chunk_next, chunk_inside, chunks_end}
use Rattle.join.proofs.all_bch.Goals as goal

turn : (m r j : ℕ) (bs : List ℕ) → j < m → all_bch (m - j) j m r bs ≡ (is_bch m r (part m j bs) && all_bch (m - (j + 1)) (j + 1) m r bs)
unfolding all_bch
turn m r j bs h = let k : m - j ≡ suc (m - (j + 1)) = omega arith in rw (k, add-one j)

none : (m r j : ℕ) (bs : List ℕ) → m ≤ j → all_bch (m - j) j m r bs ≡ true
unfolding all_bch
none m r j bs h = let k : m - j ≡ 0 = omega arith in rw k

pub returns-then-not-is_bch : goal.returns-then-not-is_bch
returns-then-not-is_bch c =
    let h = c.args.shape in
    let bs : List ℕ = c.args.bch.now in
    let k = length c.loop-values.yielded in
    let v = c.loop-values.invariant in
    let t = c.in-Some.ensures.steps in
    let n = t.1.1 ∙ v.size in
    let found = c.is_bch.ensures ∙ ap (is_bch h.m h.r) (chunk_at h bs k _ v.rest _ _ t.1.0 n) in
    sym (v.left ∙ (turn h.m h.r k bs (chunk_inside h bs k _ v.rest _ _ c.requires t.1.0 n)
    ∙ ap (λ (b : Bool). b && all_bch (h.m - (k + 1)) (k + 1) h.m h.r bs) (sym found ∙ c.if-not-is_bch.true)))

pub loop-values-preserved : goal.loop-values-preserved
loop-values-preserved c =
    let h = c.args.shape in
    let bs : List ℕ = c.args.bch.now in
    let k = length c.loop-values.yielded in
    let v = c.loop-values.invariant in
    let t = c.in-Some.ensures.steps in
    let n = t.1.1 ∙ v.size in
    let found = c.is_bch.ensures ∙ ap (is_bch h.m h.r) (chunk_at h bs k _ v.rest _ _ t.1.0 n) in
    let more : length (c.loop-values.yielded ++ c.in-Some.values ∷ []) ≡ k + 1 = length_push c.loop-values.yielded c.in-Some.values in
    record {
      can_next = rw t.0 v.can_next;
      is_finite = tt;
      size = t.0 ∙ v.size;
      rest = rw more (chunk_next h bs k _ v.rest _ _ t.1.0 n);
      left = rw more (v.left ∙ (turn h.m h.r k bs (chunk_inside h bs k _ v.rest _ _ c.requires t.1.0 n)
          ∙ ap (λ (b : Bool). b && all_bch (h.m - (k + 1)) (k + 1) h.m h.r bs) (sym found ∙ c.if-not-is_bch.false)));
    }

pub returns : goal.returns
returns c =
    let h = c.args.shape in
    let v = c.loop-values.invariant in
    let t = c.in-None.ensures.steps in
    sym (v.left ∙ none h.m h.r (length c.loop-values.yielded) c.args.bch.now (chunks_end h c.args.bch.now (length c.loop-values.yielded) _ v.rest c.requires (rw v.size at t.1.0)))
