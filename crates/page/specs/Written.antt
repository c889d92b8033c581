-- A page: what is written on it, and the bytes behind that.
-- Assumes nothing.
use Rattle.std.specs.Prelude.{ℕ, List}

pub record Written : Type 0 where
  pub text : List ℕ
  pub room : List ℕ
  -- which bytes: the name of the loan of them
  pub loan : ℕ
