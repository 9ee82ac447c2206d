-- `console::list_from`: the text that is handed on lies inside the output.
-- Assumes nothing.
use Rattle.std.proofs.Common.{ℕ, List, length, arith, ◌≤◌, Result, Ok, Err}
use Rattle.std.specs.Result.{result_unwrap_or}
use lib.Seq.{length-take-le}
use mathlib.Core.Path.{sym}
use Rattle.refusal.specs.declared.Refusal.{Refusal}
use Rattle.refusal.specs.Refusal.{number, number_of, value_or}
use Rattle.report.specs.Calls.{ListSays}
use Rattle.report.proofs.Whole.{long_fits}
use Rattle.console.proofs.list_from.Goals as goal

text_fits : (bs : List ℕ) (r : Result ℕ Refusal) (o p : List ℕ) → ListSays bs (number_of r) (value_or 0 r) o p → result_unwrap_or r 0 ≤ length p
text_fits bs (Ok n) o p s = long_fits bs 0 n o p s
text_fits bs (Err e) o p s = long_fits bs (number e) 0 o p s

pub slice_bounds-out-end : goal.slice_bounds-out-end
slice_bounds-out-end g c = omega (arith, text_fits _ c.list.result _ _ c.list.ensures, c.unwrap_or-long.ensures)

pub slice_bounds-write_all-end : goal.slice_bounds-write_all-end
slice_bounds-write_all-end g c = sym (length-take-le _ _ (omega (arith, text_fits _ c.list.result _ _ c.list.ensures, c.unwrap_or-long.ensures)))
