-- What a writer asks and does. Assumes nothing: these are definitions.
use Rattle.std.specs.Prelude.{◌≡◌, List, ℕ, ◌+◌, ◌≤◌, length}
use Rattle.text.specs.declared.Writer.{Writer}
use Rattle.text.specs.Within.{Written}

-- a text has room from the writer's place on
pub record Room (text : List ℕ) (w : Writer) : Type 0 where
  pub room : w.at + length text ≤ length w.out.now

-- a text was written from the writer's place on, into the same buffer
pub record Puts (text : List ℕ) (before after : Writer) : Type 0 where
  pub same_reference : after.out.ghost_name ≡ before.out.ghost_name
  pub written : Written before.at text before.out.now after.out.now after.at
