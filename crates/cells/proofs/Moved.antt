-- Writes of motion, one after the other.
-- Assumes nothing.
use Rattle.std.proofs.Common.{◌≡◌, ℕ, zero, suc, ◌+◌, List, ◌∷◌, drop, sym, refl, ap, ◌∙◌, ap₂, arith, get_or-drop}
use Rattle.settings.specs.declared.Settings.{Settings}
use Rattle.words.specs.Decode.{settings_from}
use Rattle.ticks.specs.Motion.{Motion}
use Rattle.rules.specs.Axis.{Axis}
use Rattle.rules.specs.Tick.{with_motion}
use Rattle.patterns.specs.Patterns.{word_at}
use Rattle.cells.specs.Lists.{cells_from}
use Rattle.cells.specs.Cells.{signed_in, settings_in, motion_in, axis_in}
use Rattle.cells.specs.Writes.{Moved}

-- words past the first j of a list, read from what is left of it
cells_rest : (j k n : ℕ) (l : List ℕ) → cells_from k n (drop j l) ≡ cells_from (j + k) n l
cells_rest j k zero l = refl
cells_rest j k (suc n) l =
    let i : j + suc k ≡ suc (j + k) = omega arith in
    ap₂ (λ (x : ℕ) (t : List ℕ). x ∷ t) (get_or-drop j l k 0) (cells_rest j (suc k) n l ∙ ap (λ (a : ℕ). cells_from a n l) i)

-- the settings that fifteen words carry
abbrev settings-of : List ℕ → Settings
settings-of t = settings_from (signed_in t 4) (signed_in t 7) (signed_in t 8) (word_at t 12) (word_at t 14) (cells_from 0 14 t)

module _ {l m : List ℕ} {a : Motion} (w : Moved l a m) where
  pub motion-moved : motion_in m ≡ a
  unfolding axis_in
  motion-moved = ap (λ (x : Axis). x.motion) w.axis

  pub settings-moved : settings_in m ≡ settings_in l
  settings-moved = ap settings-of (sym (cells_rest 8 0 15 m) ∙ ap (cells_from 0 15) w.kept ∙ cells_rest 8 0 15 l)

  pub moved-again : {b : Motion} {n : List ℕ} → Moved m b n → Moved l b n
  moved-again {b} v = record { axis = v.axis ∙ ap (λ (x : Axis). with_motion x b) w.axis; kept = v.kept ∙ w.kept }

pub unmoved : (l : List ℕ) → Moved l (motion_in l) l
unfolding axis_in
unmoved l = record { axis = refl; kept = refl }
