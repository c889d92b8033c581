-- Fifteen values in their fields are the values, in the layout that the first one tells, of the settings that they are read as; these are in
-- range, and the layout holds them.
-- Assumes nothing.
use Prim.Native.Nat.{ℕ, ◌+◌, ◌*◌, ◌/◌, ◌%◌, ◌^◌, ◌<◌}
use mathlib.Core.Path.{◌≡◌, refl}
use mathlib.Core.Bool.{Bool, true, false, cond, ◌&&◌, ◌||◌}
use mathlib.Core.List.{List, [], ◌∷◌}
use native.Mathlib.Omega.{arith}
use borrow.Author.Tests.{eq-eqb, ltb-true}
use lib.Dec.{eqb, ltb}
use lib.ListN.{length}
use Rattle.counts.proofs.Fits.{fits_wider}
use Rattle.ranges.specs.Range.{torque_ok, option_ok}
use Rattle.settings.specs.declared.Settings.{Settings}
use Rattle.settings.specs.Ranges.{positions_fit, in_range}
use Rattle.settings.proofs.Within.{both, whole}
use Rattle.layouts.specs.Layout.{carries_homing_torque, layout_holds}
use Rattle.words.specs.Encode.{values_of}
use Rattle.words.specs.Decode.{at, layout_of, offset_top, lower_top, upper_top, position_from, settings_of}
use Rattle.words.proofs.Bits.{position-low, position-top, position-fits, set_both, pair-both}
use Rattle.words.proofs.Spelled.{spell, spelled}
use Rattle.words.proofs.Widths.{Below}
use Rattle.kinds.specs.Fields.{option_with_homing_ok, field_ok}
use Rattle.roundtrip.proofs.Values.{InFields}

-- kind 14 as it is sent, b saying whether the layout is 1, which does not send it
abbrev pub tops_end : Bool → ℕ
tops_end b = cond b 1 (2 ^ 12)

-- and its parts
record Tops (b : Bool) (x : ℕ) : Type 0 where
  offset : x % 2 ^ 4 < cond b 1 16
  lower : x / 2 ^ 4 % 2 ^ 4 < cond b 1 16
  upper : x / 2 ^ 8 % 2 ^ 4 < cond b 1 16
  all : x % 2 ^ 4 + x / 2 ^ 4 % 2 ^ 4 * 2 ^ 4 + x / 2 ^ 8 % 2 ^ 4 * 2 ^ 8 ≡ x

tops : (b : Bool) (x : ℕ) → x < tops_end b → Tops b x
tops true x h = record { offset = omega arith; lower = omega arith; upper = omega arith; all = omega arith }
tops false x h = record { offset = omega arith; lower = omega arith; upper = omega arith; all = omega arith }

-- a homing torque that is not carried is the maximum
homing-held : (c : Bool) (x m : ℕ) → c || eqb (cond c x m) m ≡ true
homing-held true x m = refl
homing-held false x m = eq-eqb m m refl

holds-here : (d : List ℕ) → layout_holds (layout_of d) (settings_of d) ≡ true
unfolding settings_of position_from positions_fit
holds-here d =
    let b = eqb (layout_of d) 1 in
    rw (
      position-fits b (at d 4 + offset_top d * 2 ^ 28),
      position-fits b (at d 7 + lower_top d * 2 ^ 28),
      position-fits b (at d 8 + upper_top d * 2 ^ 28),
    )
    (homing-held (carries_homing_torque (layout_of d)) (at d 12 / 2 ^ 8 % 2 ^ 12) (at d 9))

-- kind 12, j saying whether the layout carries a homing torque: its parts are in their ranges, and they are all of it; t is the maximum
record Parts (j : Bool) (x t : ℕ) : Type 0 where
  option : option_ok (cond j (x % 2 ^ 8) x) ≡ true
  homing : torque_ok (cond j (x / 2 ^ 8 % 2 ^ 12) t) ≡ true
  all : cond j (cond j (x / 2 ^ 8 % 2 ^ 12) t * 2 ^ 8 + cond j (x % 2 ^ 8) x) (cond j (x % 2 ^ 8) x) ≡ x

parts : (j : Bool) (x t : ℕ) → cond j (option_with_homing_ok x) (option_ok x) ≡ true → torque_ok t ≡ true → Parts j x t
unfolding option_with_homing_ok
parts true x t e h =
    let low = both (option_ok (x % 2 ^ 8) && torque_ok (x / 2 ^ 8 % 2 ^ 12)) (ltb x (2 ^ 20)) e in
    let both_ok = both (option_ok (x % 2 ^ 8)) (torque_ok (x / 2 ^ 8 % 2 ^ 12)) low.0 in
    record { option = both_ok.0; homing = both_ok.1; all = pair-both x (ltb-true x (2 ^ 20) low.1) }
parts false x t e h = record { option = e; homing = h; all = refl }

module _ (y m f l o n d a b t g h c r p : ℕ) where
  abbrev fifteen : List ℕ
  fifteen = y ∷ m ∷ f ∷ l ∷ o ∷ n ∷ d ∷ a ∷ b ∷ t ∷ g ∷ h ∷ c ∷ r ∷ p ∷ []

  -- kind 12 and the maximum
  parts-here : InFields y 0 fifteen → Parts (carries_homing_torque y) c t
  unfolding field_ok
  parts-here i = let i₃ = i.1.1.1.1.1.1.1.1.1 in parts (carries_homing_torque y) c t i₃.1.1.1.0 i₃.0

  values-here : Below fifteen → InFields y 0 fifteen → p < tops_end (eqb y 1) → values_of y (settings_of fifteen) ≡ fifteen
  unfolding values_of settings_of position_from
  values-here e i k =
      let u = tops (eqb y 1) p k in
      rw (
        position-low o (p % 2 ^ 4) (omega arith) (eqb y 1) u.offset,
        position-low a (p / 2 ^ 4 % 2 ^ 4) (omega arith) (eqb y 1) u.lower,
        position-low b (p / 2 ^ 8 % 2 ^ 4) (omega arith) (eqb y 1) u.upper,
        position-top o (p % 2 ^ 4) (omega arith) (eqb y 1) u.offset,
        position-top a (p / 2 ^ 4 % 2 ^ 4) (omega arith) (eqb y 1) u.lower,
        position-top b (p / 2 ^ 8 % 2 ^ 4) (omega arith) (eqb y 1) u.upper,
        u.all,
        set_both g,
        set_both h,
        (parts-here i).all,
      )

  range-here : InFields y 0 fifteen → in_range (settings_of fifteen) ≡ true
  unfolding settings_of position_from field_ok
  range-here i =
      let i₁ = i.1.1.1 in
      let i₂ = i₁.1.1.1 in
      let i₃ = i₂.1.1.1 in
      let i₄ = i₃.1.1.1 in
      let set1 = both (torque_ok (g % 2 ^ 14)) (torque_ok (g / 2 ^ 14)) i₃.1.0 in
      let set2 = both (torque_ok (h % 2 ^ 14)) (torque_ok (h / 2 ^ 14)) i₃.1.1.0 in
      let short = eqb y 1 in
      whole (settings_of fifteen)
      (record {
        method = i.1.0;
        fast = i.1.1.0;
        slow = i₁.0;
        offset = fits_wider short _ (position-fits short (o + p % 2 ^ 4 * 2 ^ 28));
        numerator = i₁.1.1.0;
        denominator = i₂.0;
        lower = fits_wider short _ (position-fits short (a + p / 2 ^ 4 % 2 ^ 4 * 2 ^ 28));
        upper = fits_wider short _ (position-fits short (b + p / 2 ^ 8 % 2 ^ 4 * 2 ^ 28));
        maximum = i₃.0;
        positive1 = set1.0;
        negative1 = set1.1;
        positive2 = set2.0;
        negative2 = set2.1;
        option = (parts-here i).option;
        rated = i₄.1.0;
        homing = (parts-here i).homing;
      })

-- data as it is sent: fifteen values, each below 2 ^ 28 and in its field, and what the layout does not send 0
pub record Sent (d : List ℕ) : Type 0 where
  pub long : length d ≡ 15
  pub below : Below d
  pub fields : InFields (layout_of d) 0 d
  pub unsent : at d 14 < tops_end (eqb (layout_of d) 1)

pub record Carries (layout : ℕ) (s : Settings) (d : List ℕ) : Type 0 where
  pub range : in_range s ≡ true
  pub held : layout_holds layout s ≡ true
  pub values : values_of layout s ≡ d

pub carries : (d : List ℕ) → Sent d → Carries (layout_of d) (settings_of d) d
unfolding spell
carries d s =
    let e = spelled 15 d s.long in
    let b = s.below in
    let i = s.fields in
    let u = s.unsent in
    rw e (record {
      range = range-here _ _ _ _ _ _ _ _ _ _ _ _ _ _ _ (rw e at i);
      held = holds-here (spell 15 d);
      values = values-here _ _ _ _ _ _ _ _ _ _ _ _ _ _ _ (rw e at b) (rw e at i) (rw e at u);
    })
