-- Refusals are small, so 100 and a count is none.
-- Assumes nothing.
use Rattle.basics.proofs.Kit.{◌≡◌, refl, Bool, true, false, cond, List, [], ◌∷◌, ℕ, zero, suc, ◌-◌, ◌≤◌, ◌<◌, arith, length, eqb}
use lib.Dec.{lit≤, lit<}
use Rattle.refusal.specs.declared.Refusal.{Refusal}
use Rattle.refusal.specs.declared.Refusal.TheVariants.{Code, RowLength, WordLength, Output, Reliability, Symbol, Sample, NoCodeword, RunsOut, Kind, UnusedBits, Count, AfterEnd, SymbolKind, Fill, Roots, Scratch, NoBchWord, Configuration}
use Rattle.refusal.specs.Refusal.{number, unless, first}
use Rattle.code.specs.Code.{number_refusal}
use Rattle.sheet.specs.declared.form.Form.{Form}
use Rattle.sheet.specs.Sheet.{kind, end_kind, most, as_words, word_refusal, items_refusal, row_refusal, symbol_refusal, question_refusal, head_refusal, end_refusal, next_refusal, rest_refusal, sheet_refusal, questions}
use Rattle.sheet.specs.Calls.{judgement, judged}

unless_le : (b : Bool) (n e : ℕ) → n ≤ 13 → e ≤ 13 → unless b n e ≤ 13
unfolding unless
unless_le true n e p q = q
unless_le false n e p q = p

first_le : (a b : ℕ) → a ≤ 13 → b ≤ 13 → first a b ≤ 13
unfolding first
first_le zero b p q = q
first_le (suc a) b p q = p

cond_le : (t : Bool) (a b : ℕ) → a ≤ 13 → b ≤ 13 → cond t a b ≤ 13
cond_le true a b p q = p
cond_le false a b p q = q

module _ (f : Form) where
  items_le : (e : ℕ) (good : List ℕ → Bool) → e ≤ 13 → (k n : ℕ) (ws : List ℕ) → items_refusal f e good k n ws ≤ 13
  unfolding items_refusal word_refusal
  items_le e good h zero n ws = lit≤ tt
  items_le e good h (suc k) n [] = lit≤ tt
  items_le e good h (suc k) n (w ∷ ws) =
      first_le _ _ (unless_le _ 10 _ (lit≤ tt) (unless_le _ 11 _ (lit≤ tt) (unless_le _ e 0 h (lit≤ tt)))) (items_le e good h k (n - f.each) ws)

question_le : (f : Form) (c : ℕ) (ws : List ℕ) → question_refusal f c ws ≤ 13
unfolding question_refusal row_refusal symbol_refusal number_refusal
question_le f c ws = first_le _ _ (unless_le _ 1 0 (lit≤ tt) (lit≤ tt)) (first_le _ _ (items_le f 5 _ (lit≤ tt) _ _ ws) (items_le _ 6 _ (lit≤ tt) _ _ _))

end_le : (n w k : ℕ) → end_refusal n w k ≤ 13
unfolding end_refusal
end_le n w k = unless_le _ 11 _ (lit≤ tt) (unless_le _ 12 _ (lit≤ tt) (unless_le _ 13 0 (lit≤ tt) (lit≤ tt)))

module _ (f : Form) where
  head_le : (k w : ℕ) (ws : List ℕ) → head_refusal f k w ws ≤ 13
  unfolding head_refusal
  head_le k w ws = unless_le _ 10 _ (lit≤ tt) (unless_le _ 12 _ (lit≤ tt) (question_le f _ ws))

  next_le : (k : ℕ) (more : List ℕ → ℕ) → ((vs : List ℕ) → more vs ≤ 13) → (ws : List ℕ) → next_refusal f k more ws ≤ 13
  unfolding next_refusal
  next_le k more h [] = lit≤ tt
  next_le k more h (w ∷ ws) = cond_le (eqb (kind w) end_kind) _ _ (end_le _ w (length ws)) (first_le _ _ (head_le k w ws) (h _))

  rest_le : (k : ℕ) (ws : List ℕ) → rest_refusal f k ws ≤ 13
  unfolding rest_refusal
  rest_le zero ws = next_le 0 (λ vs. 0) (λ vs. lit≤ tt) ws
  rest_le (suc k) ws = next_le (suc k) (rest_refusal f k) (rest_le k) ws

sheet_le : (bs : List ℕ) → sheet_refusal bs ≤ 13
unfolding sheet_refusal
sheet_le bs = unless_le _ 9 _ (lit≤ tt) (rest_le _ most (as_words bs))

judgement_large : (r n : ℕ) → r ≤ 13 → 100 ≤ judgement r n → r ≡ 0
unfolding judgement
judgement_large zero n l h = refl
judgement_large (suc e) n l h = absurd (omega arith)

-- what `judge_sheet` answers tells a refusal from a count
pub judged_large : (bs : List ℕ) → 100 ≤ judged bs → sheet_refusal bs ≡ 0
unfolding judged
judged_large bs h = judgement_large (sheet_refusal bs) (length (questions bs)) (sheet_le bs) h

-- and so are their numbers
pub number_small : (e : Refusal) → number e < 100
number_small Code = lit< tt
number_small RowLength = lit< tt
number_small WordLength = lit< tt
number_small Output = lit< tt
number_small Reliability = lit< tt
number_small Symbol = lit< tt
number_small Sample = lit< tt
number_small NoCodeword = lit< tt
number_small RunsOut = lit< tt
number_small Kind = lit< tt
number_small UnusedBits = lit< tt
number_small Count = lit< tt
number_small AfterEnd = lit< tt
number_small SymbolKind = lit< tt
number_small Fill = lit< tt
number_small Roots = lit< tt
number_small Scratch = lit< tt
number_small NoBchWord = lit< tt
number_small Configuration = lit< tt
