-- Received symbols, and the row that they give (document 02, 'Quadrature receivers'). Assumes nothing: these are definitions.
use Rattle.std.specs.Prelude.{List, [], ◌∷◌, ◌++◌, ℕ, zero, suc, ◌+◌, ℤ, pos, get_or, drop, Float}
use Rattle.std.specs.Float.{nan}
use Rattle.quantiser.specs.Quantise.{quantised}
use Rattle.receiver.specs.declared.Received.{Received}
use Rattle.receiver.specs.declared.Received.TheVariants.{LostOne, LostTwo, Single, Paired}

-- the symbol of a kind: 'lost with one bit, lost with two, a single sample, or an in-phase and quadrature pair', 0 to 3, of the first samples. What
-- stands for a kind above 3, or for a sample that is missing, is never an answer: 14 and 15 refuse them
unfoldable pub symbol : (kind : ℕ) → (samples : List Float) → Received
symbol zero xs = LostOne
symbol (suc zero) xs = LostTwo
symbol (suc (suc zero)) xs = Single (get_or xs 0 nan)
symbol (suc (suc (suc k))) xs = Paired (record { in_phase = get_or xs 0 nan; quadrature = get_or xs 1 nan })

-- how many samples it takes
unfoldable pub taken : (kind : ℕ) → ℕ
taken zero = 0
taken (suc zero) = 0
taken (suc (suc zero)) = 1
taken (suc (suc (suc k))) = 2

-- so much for each kind, in all
unfoldable pub total : (each : ℕ → ℕ) → (kinds : List ℕ) → ℕ
total f [] = 0
total f (k ∷ ks) = f k + total f ks

-- the received symbols of kinds and samples: each takes the samples that come next
unfoldable pub received : (kinds : List ℕ) → (samples : List Float) → List Received
received [] xs = []
received (k ∷ ks) xs = symbol k xs ∷ received ks (drop (taken k) xs)

-- 'A lost bit gives reliability 0. A single sample gives one reliability by the quantiser, and a pair gives in-phase first.'
unfoldable pub reliabilities_of : Received → List ℤ
reliabilities_of LostOne = pos 0 ∷ []
reliabilities_of LostTwo = pos 0 ∷ pos 0 ∷ []
reliabilities_of (Single x) = quantised x ∷ []
reliabilities_of (Paired p) = quantised p.in_phase ∷ quantised p.quadrature ∷ []

-- the row: the symbols' reliabilities one after another
unfoldable pub received_row : List Received → List ℤ
received_row [] = []
received_row (s ∷ ss) = reliabilities_of s ++ received_row ss
