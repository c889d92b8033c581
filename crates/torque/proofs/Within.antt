-- The torque lies within the cap, each way, whatever the demand, and so within the maximum and the chosen limit; and is zero where it is off.
-- Assumes nothing.
use Prim.Native.Nat.{ℕ, zero, suc, min, ◌≤◌}
use mathlib.Core.Path.{◌≡◌, refl, sym, ap, subst}
use mathlib.Core.Bool.{Bool, true, false, cond, not}
use native.Mathlib.Omega.{arith}
use lib.Dec.{T, leb→le, le→leb}
use lib.IntN.{ℤ, pos, negsuc, neg_ℤ}
use lib.Signed.{lt_z, ◌≤ℤ◌, le_z_yes, lt_z_no, ≤ℤ_refl}
use Rattle.counts.specs.Clamp.{clamped}
use Rattle.settings.specs.declared.Settings.{Settings}
use Rattle.modes.specs.declared.Mode.{Mode}
use Rattle.modes.specs.declared.Mode.TheVariants.{Homing}
use Rattle.modes.specs.Modes.{is_mode}
use Rattle.torque.specs.declared.LimitSet.{LimitSet}
use Rattle.torque.specs.Limits.{positive_limit, negative_limit, ceiling_of, cap_of, positive_cap, negative_cap, guarded}
use Rattle.torque.specs.Torque.{torque_of}
use Rattle.torque.specs.Bounded.{Bounded, BaseCaps, StillWithinLimits, CappedInHoming}

-- a bound that is further off
up_to : (z : ℤ) (m n : ℕ) → z ≤ℤ pos m → m ≤ n → z ≤ℤ pos n
up_to (pos a) m n h k = le_z_yes (le→leb a n (omega (arith, leb→le a m h.le)))
up_to (negsuc a) m n h k = le_z_yes tt

down_to : (z : ℤ) (m n : ℕ) → neg_ℤ (pos m) ≤ℤ z → m ≤ n → neg_ℤ (pos n) ≤ℤ z
down_to (pos a) m zero h k = le_z_yes (le→leb 0 a (omega arith))
down_to (pos a) m (suc n) h k = le_z_yes tt
down_to (negsuc a) zero n h k = absurd h.le
down_to (negsuc a) (suc m) zero h k = absurd (omega arith)
down_to (negsuc a) (suc m) (suc n) h k = le_z_yes (le→leb a n (omega (arith, leb→le a m h.le)))

-- between a bound below zero and one above
across : (n p : ℕ) → neg_ℤ (pos n) ≤ℤ pos p
across zero p = le_z_yes (le→leb 0 p (omega arith))
across (suc n) p = le_z_yes tt

not_below : (a b : ℤ) → lt_z a b ≡ false → b ≤ℤ a
not_below a b e = lt_z_no (subst (λ (t : Bool). T (not t)) (sym e) tt)

module _ (z : ℤ) (n p : ℕ) where
  abbrev held : ℤ
  held = clamped z (neg_ℤ (pos n)) (pos p)

  at_most : held ≤ℤ pos p
  unfolding clamped
  at_most = go (lt_z z (neg_ℤ (pos n))) (lt_z (pos p) z) refl
    where
      go : (a b : Bool) → lt_z (pos p) z ≡ b → cond a (neg_ℤ (pos n)) (cond b (pos p) z) ≤ℤ pos p
      go true b e = across n p
      go false true e = ≤ℤ_refl (pos p)
      go false false e = not_below (pos p) z e

  at_least : neg_ℤ (pos n) ≤ℤ held
  unfolding clamped
  at_least = go (lt_z z (neg_ℤ (pos n))) refl (lt_z (pos p) z)
    where
      go : (a : Bool) → lt_z z (neg_ℤ (pos n)) ≡ a → (b : Bool) → neg_ℤ (pos n) ≤ℤ cond a (neg_ℤ (pos n)) (cond b (pos p) z)
      go true e b = ≤ℤ_refl (neg_ℤ (pos n))
      go false e true = across n p
      go false e false = not_below z (neg_ℤ (pos n)) e

-- what caps every limit is at most the maximum, and in mode 6 at most the homing torque
pub ceiling-low : (s : Settings) (mode : Mode) → ceiling_of s mode ≤ s.maximum
ceiling-low s mode = go (is_mode mode Homing)
  where
    go : (b : Bool) → cond b (min s.maximum s.homing) s.maximum ≤ s.maximum
    go true = omega arith
    go false = omega arith

ceiling-homing : (s : Settings) (mode : Mode) → is_mode mode Homing ≡ true → ceiling_of s mode ≤ s.homing
ceiling-homing s mode e = rw e (omega arith)

-- so is the cap, and at most its limit
cap-maximum : (s : Settings) (mode : Mode) (limit : ℕ) → cap_of s mode limit ≤ s.maximum
unfolding cap_of
cap-maximum s mode limit = omega (arith, ceiling-low s mode)

cap-limit : (s : Settings) (mode : Mode) (limit : ℕ) → cap_of s mode limit ≤ limit
unfolding cap_of
cap-limit s mode limit = omega arith

cap-homing : (s : Settings) (mode : Mode) (limit : ℕ) → is_mode mode Homing ≡ true → cap_of s mode limit ≤ s.homing
unfolding cap_of
cap-homing s mode limit e = omega (arith, ceiling-homing s mode e)

guarded-low : (cap : ℕ) → guarded cap ≤ cap
guarded-low cap = omega arith

pub bounded : (s : Settings) (mode : Mode) (set : LimitSet) (on : Bool) (demand : ℤ) → Bounded s mode set (torque_of s mode set on demand)
unfolding torque_of
bounded s mode set true demand =
    let n = negative_cap s mode set in
    let p = positive_cap s mode set in
    record {
      below = up_to _ (guarded p) p (at_most demand (guarded n) (guarded p)) (guarded-low p);
      above = down_to _ (guarded n) n (at_least demand (guarded n) (guarded p)) (guarded-low n);
    }
bounded s mode set false demand = record { below = across 0 (positive_cap s mode set); above = across (negative_cap s mode set) 0 }

pub base-caps : BaseCaps
unfolding cap_of
base-caps s mode limit = record { elsewhere = λ e. rw e; not_below = λ h. ap (λ (c : ℕ). min c limit) (go (is_mode mode Homing) h) }
  where
    go : (b : Bool) → s.maximum ≤ s.homing → cond b (min s.maximum s.homing) s.maximum ≡ s.maximum
    go true h = omega arith
    go false h = refl

-- demand 3's own sentence
pub still-within : StillWithinLimits
still-within s mode set t b =
    let positive = positive_limit s set in
    let negative = negative_limit s set in
    record {
      below_maximum = up_to t _ _ b.below (cap-maximum s mode positive);
      below_limit = up_to t _ _ b.below (cap-limit s mode positive);
      above_maximum = down_to t _ _ b.above (cap-maximum s mode negative);
      above_limit = down_to t _ _ b.above (cap-limit s mode negative);
    }

pub capped-in-homing : CappedInHoming
capped-in-homing s mode set t e b =
    record {
      below = up_to t _ _ b.below (cap-homing s mode (positive_limit s set) e);
      above = down_to t _ _ b.above (cap-homing s mode (negative_limit s set) e);
    }

pub zero-when-off : (s : Settings) (mode : Mode) (set : LimitSet) (demand : ℤ) → torque_of s mode set false demand ≡ pos 0
unfolding torque_of
zero-when-off s mode set demand = refl
