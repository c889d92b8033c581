-- What settings that may be sent in a layout pass, one by one, and back.
-- Assumes nothing.
use Prim.Native.Nat.{ℕ}
use mathlib.Core.Path.{◌≡◌}
use mathlib.Core.Bool.{true, false, ◌&&◌, ◌||◌}
use borrow.Author.Tests.{eqb-true}
use Rattle.settings.specs.declared.Settings.{Settings}
use Rattle.settings.specs.Ranges.{positions_fit}
use Rattle.settings.proofs.Within.{both, within, positions-fit}
use Rattle.layouts.specs.Layout.{is_layout, width, carries_homing_torque, homing_is_maximum, layout_holds}
use Rattle.checks.specs.Check.{acceptable, sendable}
use Rattle.checks.proofs.Numbers.{passes}

pub record Sends (layout : ℕ) (s : Settings) : Type 0 where
  pub is-layout : is_layout layout ≡ true
  pub held : layout_holds layout s ≡ true
  pub good : acceptable s ≡ true

pub sends : (layout : ℕ) (s : Settings) → sendable layout s ≡ true → Sends layout s
sends l s e =
    let a = both (is_layout l && layout_holds l s) (acceptable s) e in
    let h = both (is_layout l) (layout_holds l s) a.0 in
    record { is-layout = h.0; held = h.1; good = a.1 }

pub sendable-of : (layout : ℕ) (s : Settings) → Sends layout s → sendable layout s ≡ true
sendable-of l s h = rw (h.is-layout, h.held, h.good)

-- 32 bits hold all that is acceptable
pub positions-32 : (s : Settings) → acceptable s ≡ true → positions_fit 32 s ≡ true
positions-32 s e =
    let w = within s (passes s e).range in positions-fit 32 s (record { offset = w.offset; lower = w.lower; upper = w.upper })

-- a layout that carries no homing torque holds only settings in which it is the maximum
pub held-maximum : (layout : ℕ) (s : Settings) → sendable layout s ≡ true → carries_homing_torque layout ≡ false → s.homing ≡ s.maximum
held-maximum l s e c =
    let held = (both (positions_fit (width l) s) (carries_homing_torque l || homing_is_maximum s) (sends l s e).held).1 in
    eqb-true s.homing s.maximum (rw c at held)
