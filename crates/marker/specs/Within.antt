-- What the marker's functions ask and leave. A reader need not believe these definitions. Assumes nothing.
use Rattle.std.specs.Prelude.{◌≡◌, true, List, ℕ, ◌+◌, ◌*◌, length, ℤ, ◌-ℤ◌}
use Rattle.code.specs.declared.shape.Shape.{Shape}
use Rattle.code.specs.Code.{is_codeword}
use Rattle.metric.specs.Metric.{metric, Greatest, Marked}
use Rattle.metric.specs.Cost.{cost, Least}
use Rattle.walk.specs.Walk.{start}
use Rattle.search.specs.Within.{slots_of, Input}
use Rattle.metric.specs.declared.Verdict.{Verdict}
use Rattle.metric.specs.Verdict.{verdict_number, shortfall_of}

-- a word's cost is the least cost of a codeword and x
pub record Short (m r : ℕ) (row : List ℤ) (word : List ℕ) (x : ℕ) : Type 0 where
  pub least : ℕ
  pub is_least : Least m (is_codeword m r) row least
  pub own : cost m row word ≡ least + x

-- an accepted row and a codeword
pub record Judged (s : Shape) (row : List ℤ) (word : List ℕ) : Type 0 where
  pub input : Input s row
  pub codeword : is_codeword s.m s.r word ≡ true

-- room for the costs of a row, for those of the cosets, and for the places of the walk and their costs
pub record Lent (s : Shape) (zs os t places f : List ℕ) : Type 0 where
  pub length_zs : length zs ≡ s.n * 4
  pub length_os : length os ≡ s.n * 4
  pub length_t : length t ≡ s.size * 4
  pub length_places : length places ≡ start (slots_of s) 4
  pub length_f : length f ≡ length places

-- a codeword's metric is the greatest less d
pub record Lacking (m r : ℕ) (row : List ℤ) (word : List ℕ) (d : ℤ) : Type 0 where
  pub codeword : is_codeword m r word ≡ true
  pub best : ℤ
  pub greatest : Greatest m (is_codeword m r) row best
  pub lacks : d ≡ best -ℤ metric m row word

-- a verdict that is right
abbrev pub IsVerdict : (m r : ℕ) → (row : List ℤ) → (word : List ℕ) → Verdict → Type 0
IsVerdict m r row word v = Marked (verdict_number v) (shortfall_of v) m (is_codeword m r) row word

-- of every codeword that lacks d
abbrev pub VerdictFrom : (d : ℤ) → Verdict → Type 0
VerdictFrom d v = (m r : ℕ) → (row : List ℤ) → (word : List ℕ) → Lacking m r row word d → IsVerdict m r row word v
