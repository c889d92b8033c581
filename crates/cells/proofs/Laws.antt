-- The words after each write mean what it leaves: spelled out, every store and read at a constant place computes.
-- Assumes nothing.
use Rattle.std.proofs.Common.{◌≡◌, ℕ, zero, suc, ◌+◌, ◌-◌, ◌%◌, ◌^◌, ◌<◌, ◌≤◌, List, ◌∷◌, length, set, ℤ, refl, ap, ◌∙◌, ap₂, arith, take, drop, get_or, get_or-set_other, get_or-take, get_or-drop}
use lib.Signed.{mag}
use Rattle.counts.specs.Wrap.{modulo, signed, wrapped}
use Rattle.settings.specs.declared.Settings.{Settings}
use Rattle.states.specs.declared.State.{State}
use Rattle.states.specs.States.{state_number}
use Rattle.modes.specs.declared.Mode.{Mode}
use Rattle.modes.specs.Modes.{mode_ordinal}
use Rattle.legs.specs.Events.{switches_in}
use Rattle.homing.specs.Phase.{phase_of}
use Rattle.ticks.specs.Motion.{driven, phased, home_at, fed}
use Rattle.words.specs.Encode.{total}
use Rattle.reader.specs.Read.{started, kept}
use Rattle.patterns.specs.Patterns.{word_at, state_at, mode_at}
use Rattle.patterns.proofs.Back.{signed_back, state-back, mode-back}
use Rattle.cells.specs.Lists.{cells_from}
use Rattle.cells.specs.Cells.{active_in, pending_in, motion_in, axis_in, ZerosAreFresh}
use Rattle.cells.specs.Writes.{Pends, emptied, Emptied, copied, TakenOver, Moved}
use Rattle.cells.proofs.Lists.{spelled}

pub cleared : ZerosAreFresh
unfolding axis_in active_in phase_of state_at mode_at modulo signed wrapped
cleared = refl

pub unchanged : {l : List ℕ} → Pends l (pending_in l) l
unfolding axis_in
unchanged = record { axis = refl; settings = refl; motion = refl }

module _ (l : List ℕ) (h : length l ≡ 39) where
  pub emptying : Emptied l (emptied l)
  unfolding axis_in active_in
  emptying = record { pends = rw (spelled 39 l h) (record { axis = refl; settings = refl; motion = refl }); words = refl }

  pub begun : (layout : ℕ) → Pends l (started layout) (set (set l 23 1) 24 layout)
  unfolding axis_in active_in
  begun layout = rw (spelled 39 l h) (record { axis = refl; settings = refl; motion = refl })

  -- a store at a computed place: each of the fifteen computes
  pub stored-value : (k x : ℕ) → k < 15 → word_at l 23 ≡ k → Pends l (kept (pending_in l) k x) (set (set l (24 + k) x) 23 (k + 1))
  unfolding axis_in active_in
  stored-value zero x b e = rw (spelled 39 l h, e) (record { axis = refl; settings = refl; motion = refl })
  stored-value (suc zero) x b e = rw (spelled 39 l h, e) (record { axis = refl; settings = refl; motion = refl })
  stored-value (suc (suc zero)) x b e = rw (spelled 39 l h, e) (record { axis = refl; settings = refl; motion = refl })
  stored-value (suc (suc (suc zero))) x b e = rw (spelled 39 l h, e) (record { axis = refl; settings = refl; motion = refl })
  stored-value (suc (suc (suc (suc zero)))) x b e = rw (spelled 39 l h, e) (record { axis = refl; settings = refl; motion = refl })
  stored-value (suc (suc (suc (suc (suc zero))))) x b e = rw (spelled 39 l h, e) (record { axis = refl; settings = refl; motion = refl })
  stored-value (suc (suc (suc (suc (suc (suc zero)))))) x b e = rw (spelled 39 l h, e) (record { axis = refl; settings = refl; motion = refl })
  stored-value (suc (suc (suc (suc (suc (suc (suc zero))))))) x b e = rw (spelled 39 l h, e) (record { axis = refl; settings = refl; motion = refl })
  stored-value (suc (suc (suc (suc (suc (suc (suc (suc zero)))))))) x b e = rw (spelled 39 l h, e) (record { axis = refl; settings = refl; motion = refl })
  stored-value (suc (suc (suc (suc (suc (suc (suc (suc (suc zero))))))))) x b e = rw (spelled 39 l h, e) (record { axis = refl; settings = refl; motion = refl })
  stored-value (suc (suc (suc (suc (suc (suc (suc (suc (suc (suc zero)))))))))) x b e = rw (spelled 39 l h, e) (record { axis = refl; settings = refl; motion = refl })
  stored-value (suc (suc (suc (suc (suc (suc (suc (suc (suc (suc (suc zero))))))))))) x b e = rw (spelled 39 l h, e) (record { axis = refl; settings = refl; motion = refl })
  stored-value (suc (suc (suc (suc (suc (suc (suc (suc (suc (suc (suc (suc zero)))))))))))) x b e = rw (spelled 39 l h, e) (record { axis = refl; settings = refl; motion = refl })
  stored-value (suc (suc (suc (suc (suc (suc (suc (suc (suc (suc (suc (suc (suc zero))))))))))))) x b e = rw (spelled 39 l h, e) (record { axis = refl; settings = refl; motion = refl })
  stored-value (suc (suc (suc (suc (suc (suc (suc (suc (suc (suc (suc (suc (suc (suc zero)))))))))))))) x b e = rw (spelled 39 l h, e) (record { axis = refl; settings = refl; motion = refl })
  stored-value (suc (suc (suc (suc (suc (suc (suc (suc (suc (suc (suc (suc (suc (suc (suc k))))))))))))))) x b e = absurd (omega arith)

  pub taken-over : (s : Settings) → mag s.offset < 2 ^ 31 → mag s.lower < 2 ^ 31 → mag s.upper < 2 ^ 31
      → TakenOver l s
      (set (set (set (set (set (set (set (copied 13 l) 8 1) 12 (modulo 32 s.offset)) 15 (modulo 32 s.lower)) 16 (modulo 32 s.upper)) 20 s.option) 22 s.homing) 3 0)
  unfolding axis_in active_in phase_of
  taken-over s f g k =
      record {
        axis = rw (spelled 39 l h, signed_back s.offset f, signed_back s.lower g, signed_back s.upper k);
        pending = rw (spelled 39 l h);
        motion = rw (spelled 39 l h) (record { before = refl; after = refl });
      }

-- a store leaves the words past it
pub cells-past : (l : List ℕ) (i x k n : ℕ) → i < k → cells_from k n (set l i x) ≡ cells_from k n l
cells-past l i x k zero h = refl
cells-past l i x k (suc n) h =
    ap₂ (λ (y : ℕ) (t : List ℕ). y ∷ t) (get_or-set_other l i k x 0 (λ e. omega arith)) (cells-past l i x (suc k) n (omega arith))

-- copying leaves the words past it
copied-past : (k j : ℕ) (l : List ℕ) → 8 + k < j → word_at (copied k l) j ≡ word_at l j
copied-past zero j l h = refl
copied-past (suc k) j l h = get_or-set_other (copied k l) (9 + k) j (word_at l (25 + k)) 0 (λ e. omega arith) ∙ copied-past k j l (omega arith)

-- one word more
pub copied_more : (l m : List ℕ) (i : ℕ) → 1 ≤ i → m ≡ copied (i - 1) l → set m (8 + i) (word_at m (24 + i)) ≡ copied (i + 1 - 1) l
copied_more l m zero h e = absurd (omega arith)
copied_more l m (suc k) h e =
    let a : suc k - 1 ≡ k = omega arith in
    let b : suc k + 1 - 1 ≡ suc k = omega arith in
    let p : 8 + suc k ≡ 9 + k = omega arith in
    let d : m ≡ copied k l = rw a at e in
    let x : word_at m (24 + suc k) ≡ word_at l (25 + k) = rw d (copied-past k (24 + suc k) l (omega arith) ∙ ap (word_at l) (omega arith)) in
    rw (b, x, d, p)

-- a sum taken modulo 2 ^ 32 at each turn
pub summed : (l : List ℕ) (k n : ℕ) → total (cells_from k (suc n) l) ≡ total (cells_from k n l) + word_at l (k + n)
unfolding total
summed l k zero = let i : k + 0 ≡ k = omega arith in rw i (omega arith)
summed l k (suc n) = let i : k + suc n ≡ suc k + n = omega arith in rw i (let e = summed l (suc k) n in omega (arith, e))

-- a word of a part is a word of the whole
pub word_of_part : (k n i : ℕ) (l : List ℕ) → i < n → get_or (take n (drop k l)) i 0 ≡ word_at l (k + i)
word_of_part k n i l h = get_or-take n (drop k l) i 0 h ∙ get_or-drop k l i 0

-- the parts of motion: what is stored reads back
module _ (l : List ℕ) (h : length l ≡ 39) where
  pub driven-words : (state : State) (mode : Mode) (alarm : ℕ)
      → Moved l (driven (motion_in l) state mode alarm) (set (set (set l 0 (state_number state)) 1 (mode_ordinal mode)) 2 alarm)
  unfolding axis_in active_in
  driven-words state mode alarm = record { axis = rw (spelled 39 l h, state-back state, mode-back mode); kept = rw (spelled 39 l h) }

  pub phased-words : (phase : ℕ) → Moved l (phased (motion_in l) (phase_of phase)) (set l 3 phase)
  unfolding axis_in active_in
  phased-words phase = record { axis = rw (spelled 39 l h); kept = rw (spelled 39 l h) }

  pub home-words : (home : ℤ) → mag home < 2 ^ 31 → Moved l (home_at (motion_in l) home) (set l 4 (modulo 32 home))
  unfolding axis_in active_in
  home-words home f = record { axis = rw (spelled 39 l h, signed_back home f); kept = rw (spelled 39 l h) }

  pub fed-words : (control switches : ℕ) (position : ℤ) → control < 2 ^ 16 → mag position < 2 ^ 31
      → Moved l (fed (motion_in l) control (switches_in switches) position) (set (set (set l 5 control) 6 switches) 7 (modulo 32 position))
  unfolding axis_in active_in
  fed-words control switches position f g =
      let k : control % 2 ^ 16 ≡ control = omega arith in
      record { axis = rw (spelled 39 l h, k, signed_back position g); kept = rw (spelled 39 l h) }
