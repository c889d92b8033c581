-- The values of settings in a layout that holds them: each is in the field of its kind, and together they read back as the settings. What the
-- layout does not send is 0, and is not missed.
-- Assumes nothing.
use Prim.Native.Nat.{ℕ, zero, suc, ◌+◌, ◌-◌, ◌*◌, ◌/◌, ◌%◌, ◌^◌}
use mathlib.Core.Path.{◌≡◌, refl, sym, ap}
use mathlib.Core.Bool.{Bool, true, false, cond, ◌||◌}
use mathlib.Core.List.{List, [], ◌∷◌, ◌++◌}
use native.Mathlib.Omega.{arith}
use borrow.Author.Tests.{lt-ltb, eqb-true}
use lib.Dec.{eqb}
use lib.ListN.{take, drop, replicate, get_or}
use Rattle.counts.specs.Wrap.{modulo}
use Rattle.settings.specs.declared.Settings.{Settings}
use Rattle.settings.specs.Ranges.{positions_fit, in_range}
use Rattle.settings.proofs.Within.{Within, within, positions, both}
use Rattle.ranges.specs.Range.{option_ok}
use Rattle.layouts.specs.Layout.{is_layout, width, size, carries_homing_torque, homing_is_maximum, layout_holds}
use Rattle.words.specs.Encode.{top_of, tops_of, values_of, total, checksum_of, sent}
use Rattle.words.specs.Decode.{position_from, settings_of}
use Rattle.words.proofs.Bits.{top_below, small, position-read, tops-offset, tops-lower, tops-upper, set-low, set-high, pair-option, pair-torque, pair-below}
use Rattle.words.proofs.Widths.{Below, values-below, tops-small, option-below}
use Rattle.kinds.specs.Fields.{option_with_homing_ok, field_ok}

-- each is in the field of its kind, the first one's being k, in layout l
abbrev pub InFields : ℕ → ℕ → List ℕ → Type 0
InFields l k [] = Unit {0}
InFields l k (x ∷ xs) = (field_ok l k x ≡ true) × InFields l (k + 1) xs

-- kind 12, c saying whether the layout carries a homing torque: it is in its field, and option and torque are read back
module _ (s : Settings) (w : Within s) where
  abbrev data12 : Bool → ℕ
  data12 c = cond c (s.homing * 2 ^ 8 + s.option) s.option

  option-in-field : (c : Bool) → cond c (option_with_homing_ok (data12 c)) (option_ok (data12 c)) ≡ true
  unfolding option_with_homing_ok
  option-in-field true =
      let o = option-below s.option w.option in
      let h = w.homing in
      rw (pair-option s.homing s.option h o, pair-torque s.homing s.option h o, w.option, h) (lt-ltb _ (2 ^ 20) (pair-below s.homing s.option h o))
  option-in-field false = w.option

  option-read : (c : Bool) → cond c (data12 c % 2 ^ 8) (data12 c) ≡ s.option
  option-read true = pair-option s.homing s.option w.homing (option-below s.option w.option)
  option-read false = refl

  homing-read : (c : Bool) → c || homing_is_maximum s ≡ true → cond c (data12 c / 2 ^ 8 % 2 ^ 12) s.maximum ≡ s.homing
  homing-read true e = pair-torque s.homing s.option w.homing (option-below s.option w.option)
  homing-read false e = sym (eqb-true s.homing s.maximum e)

module _ (l : ℕ) (s : Settings) where
  pub values-in-fields : is_layout l ≡ true → in_range s ≡ true → InFields l 0 (values_of l s)
  unfolding values_of field_ok
  values-in-fields k e =
      let w = within s e in (
        k,
        (
          w.method,
          (
            w.fast,
            (
              w.slow,
              (
                refl,
                (
                  w.numerator,
                  (
                    w.denominator,
                    (
                      refl,
                      (
                        refl,
                        (
                          w.maximum,
                          (
                            rw (set-low s.positive1 s.negative1 w.positive1, set-high s.positive1 s.negative1 w.positive1, w.positive1, w.negative1),
                            (
                              rw (set-low s.positive2 s.negative2 w.positive2, set-high s.positive2 s.negative2 w.positive2, w.positive2, w.negative2),
                              (
                                option-in-field s w (carries_homing_torque l),
                                (
                                  w.rated,
                                  (
                                    lt-ltb (tops_of l s) (2 ^ 12) (tops-small l s),
                                    tt,
                                  ),
                                ),
                              ),
                            ),
                          ),
                        ),
                      ),
                    ),
                  ),
                ),
              ),
            ),
          ),
        ),
      )

  pub values-read : in_range s ≡ true → layout_holds l s ≡ true → settings_of (values_of l s) ≡ s
  unfolding values_of settings_of position_from
  values-read ok e =
      let w = within s ok in
      let both-held = both (positions_fit (width l) s) (carries_homing_torque l || homing_is_maximum s) e in
      let h = positions (width l) s both-held.0 in
      let b = eqb l 1 in
      let o = top_of l s.offset in
      let a = top_of l s.lower in
      let u = top_of l s.upper in
      let i = small b (top_below b s.offset) in
      let j = small b (top_below b s.lower) in
      let k = small b (top_below b s.upper) in
      rw (
        position-read b s.offset _ (tops-offset o a u i j k) h.offset,
        position-read b s.lower _ (tops-lower o a u i j k) h.lower,
        position-read b s.upper _ (tops-upper o a u i j k) h.upper,
        set-low s.positive1 s.negative1 w.positive1,
        set-high s.positive1 s.negative1 w.positive1,
        set-low s.positive2 s.negative2 w.positive2,
        set-high s.positive2 s.negative2 w.positive2,
        option-read s w (carries_homing_torque l),
        homing-read s w (carries_homing_torque l) both-held.1,
      )

  -- all values are those sent, and zeros
  pub padded : values_of l s ≡ sent l s ++ replicate (15 - size l) 0
  unfolding values_of
  padded = go (eqb l 1) refl
    where
      go : (b : Bool) → eqb l 1 ≡ b → values_of l s ≡ sent l s ++ replicate (15 - size l) 0
      go true e =
          let o : modulo 28 s.offset / 2 ^ 28 ≡ 0 = omega (arith, top_below true s.offset) in
          let a : modulo 28 s.lower / 2 ^ 28 ≡ 0 = omega (arith, top_below true s.lower) in
          let u : modulo 28 s.upper / 2 ^ 28 ≡ 0 = omega (arith, top_below true s.upper) in
          rw (e, o, a, u)
      go false e = rw e

  -- all that are sent but the start word's
  abbrev pub rest : List ℕ
  rest = take (cond (eqb l 1) 13 14) (drop 1 (values_of l s))

  pub sent_is : sent l s ≡ l ∷ rest
  unfolding values_of
  sent_is = go (eqb l 1) refl
    where
      go : (b : Bool) → eqb l 1 ≡ b → sent l s ≡ l ∷ rest
      go true e = rw e
      go false e = rw e

-- the values that are sent, the start word's first
below-take : (n : ℕ) (xs : List ℕ) → Below xs → Below (take n xs)
below-take zero xs b = tt
below-take (suc n) [] b = tt
below-take (suc n) (x ∷ xs) b = (b.0, below-take n xs b.1)

fields-take : (l k n : ℕ) (xs : List ℕ) → InFields l k xs → InFields l k (take n xs)
fields-take l k zero xs f = tt
fields-take l k (suc n) [] f = tt
fields-take l k (suc n) (x ∷ xs) f = (f.0, fields-take l (k + 1) n xs f.1)

module _ (l : ℕ) (s : Settings) (k : is_layout l ≡ true) (e : in_range s ≡ true) where
  pub sent-below : Below (sent l s)
  sent-below = below-take (size l) (values_of l s) (values-below l s k e)

  pub sent-in-fields : InFields l 0 (sent l s)
  sent-in-fields = fields-take l 0 (size l) (values_of l s) (values-in-fields l s k e)

-- zeros after the values: no value, no settings and no sum tell of them
pub zeros : (d : List ℕ) (n k : ℕ) → get_or (d ++ replicate n 0) k 0 ≡ get_or d k 0
zeros [] zero k = refl
zeros [] (suc n) zero = refl
zeros [] (suc n) (suc k) = zeros [] n k
zeros (x ∷ d) n zero = refl
zeros (x ∷ d) n (suc k) = zeros d n k

pub settings-padded : (d : List ℕ) (n : ℕ) → settings_of (d ++ replicate n 0) ≡ settings_of d
unfolding settings_of
settings-padded d n =
    let z = zeros d n in
    rw (z 0, z 1, z 2, z 3, z 4, z 5, z 6, z 7, z 8, z 9, z 10, z 11, z 12, z 13, z 14)

total-padded : (d : List ℕ) (n : ℕ) → total (d ++ replicate n 0) ≡ total d
unfolding total
total-padded [] zero = refl
total-padded [] (suc n) = omega (arith, total-padded [] n)
total-padded (x ∷ d) n = ap (λ (y : ℕ). x + y) (total-padded d n)

pub checksum-padded : (d : List ℕ) (n : ℕ) → checksum_of (d ++ replicate n 0) ≡ checksum_of d
unfolding checksum_of
checksum-padded d n = rw (total-padded d n)
