-- More than 02, (vi), asks. With position commands among the ticks, the answers to these differ at most in position and status bit 11, and all other
-- answers are equal, also after them. So, as long as nothing is taken over, gear, offset and stops in force, and home, reach position and bit 11 of the
-- answer to a position command, and nothing else. Proved in `proofs/Alike.antt`.
-- Assumes nothing.
use Rattle.std.specs.Prelude.{ℕ, ◌-◌, ◌^◌, ◌≡◌, false, List, [], ◌∷◌}
use Rattle.counts.specs.Bit.{bit_of}
use Rattle.modes.specs.declared.Mode.TheVariants.{Position}
use Rattle.modes.specs.Modes.{is_mode}
use Rattle.commands.specs.Commands.{mode_of}
use Rattle.status.specs.Statusword.{weight_of}
use Rattle.ticks.specs.declared.Tick.{Tick}
use Rattle.answers.specs.declared.Answer.{Answer}
use Rattle.rules.specs.Axis.{Axis}
use Rattle.demands.specs.Events.{Event}
use Rattle.independence.specs.Alike.{Alike, answers_from, ticks_in, NoTakeover}

-- a statusword but for bit 11 (internal limit active)
abbrev pub but_bit11 : ℕ → ℕ
but_bit11 status = status - weight_of (bit_of status 11) (2 ^ 11)

pub record EqualButPosition (x y : Answer) : Type 0 where
  pub number : x.number ≡ y.number
  pub torque : x.torque ≡ y.torque
  pub speed : x.speed ≡ y.speed
  pub status : but_bit11 x.status ≡ but_bit11 y.status
  pub mode : x.mode ≡ y.mode
  pub alarm : x.alarm ≡ y.alarm

-- the answers of two axes to one tick
pub record Agree (t : Tick) (x y : Answer) : Type 0 where
  pub elsewhere : is_mode (mode_of t.command) Position ≡ false → x ≡ y
  pub everywhere : EqualButPosition x y

-- one answer a tick on either side, and they agree
abbrev pub AllAgree : List Tick → List Answer → List Answer → Type 0
AllAgree [] [] [] = Unit {0}
AllAgree [] [] (y ∷ ys) = ⊥
AllAgree [] (x ∷ xs) ys = ⊥
AllAgree (t ∷ ts) [] ys = ⊥
AllAgree (t ∷ ts) (x ∷ xs) [] = ⊥
AllAgree (t ∷ ts) (x ∷ xs) (y ∷ ys) = Agree t x y × AllAgree ts xs ys

abbrev pub WithPositions : Type 0
WithPositions =
    (a b : Axis) (es fs : List Event) → Alike a b → ticks_in es ≡ ticks_in fs → NoTakeover a es → NoTakeover b fs
    → AllAgree (ticks_in es) (answers_from a es) (answers_from b fs)
