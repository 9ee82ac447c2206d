-- The marker's verdict as document 01 has it, by a number and a shortfall. Assumes nothing: these are definitions.
use Rattle.std.specs.Prelude.{ℕ, ℤ, pos}
use Rattle.metric.specs.declared.Verdict.{Verdict}
use Rattle.metric.specs.declared.Verdict.TheVariants.{NoCodeword, Short, Best}

-- 0 `none`, 1 `short`, 2 `best`, as in `Marked` of Metric.antt
abbrev pub verdict_number : Verdict → ℕ
verdict_number NoCodeword = 0
verdict_number (Short d) = 1
verdict_number Best = 2

-- what is lacking
abbrev pub shortfall_of : Verdict → ℤ
shortfall_of NoCodeword = pos 0
shortfall_of (Short d) = d
shortfall_of Best = pos 0
