-- How a code is chosen: by its number or by m and r. Assumes nothing: these are definitions.
use Rattle.std.specs.Prelude.{ℕ}
use Rattle.code.specs.declared.shape.Choice.{Choice}
use Rattle.code.specs.declared.shape.Choice.TheVariants.{Number, Parameters}
use Rattle.code.specs.Code.{number_refusal, width, roots, parameter_refusal}

-- what the choice is refused by
abbrev pub choice_refusal : Choice → ℕ
choice_refusal (Number c) = number_refusal c
choice_refusal (Parameters m r) = parameter_refusal m r

abbrev pub m_of : Choice → ℕ
m_of (Number c) = width c
m_of (Parameters m r) = m

abbrev pub r_of : Choice → ℕ
r_of (Number c) = roots c
r_of (Parameters m r) = r
