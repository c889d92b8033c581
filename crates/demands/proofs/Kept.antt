-- Each event keeps the invariant; so it holds after every list of events.
-- Assumes nothing.
use Prim.Native.Nat.{ℕ}
use mathlib.Core.Path.{◌≡◌, refl, sym, ap, ◌∙◌, subst}
use mathlib.Core.Bool.{Bool, true, false, cond}
use mathlib.Core.List.{List, [], ◌∷◌, ◌++◌}
use Rattle.settings.specs.declared.Settings.{Settings}
use Rattle.reader.specs.Pending.{Pending, Outcome, Refused, Stored, Complete}
use Rattle.reader.specs.Read.{empty_pending, read_of}
use Rattle.states.specs.States.{live_of}
use Rattle.roundtrip.specs.Stream.{pending_after}
use Rattle.roundtrip.proofs.Completed.{from-append}
use Rattle.rules.specs.Axis.{Active, Nothing, Set, Axis, fresh_axis}
use Rattle.ticks.specs.declared.Tick.{Tick}
use Rattle.demands.specs.Events.{Event, word, tick}
use Rattle.ticks.specs.Rules.{mode_after, state_after, starts_in, view_in}
use Rattle.rules.specs.Word.{with_pending, taken, word_of}
use Rattle.ticks.specs.After.{new_mode, new_state, new_phase}
use Rattle.answers.specs.Answer.{answered_in}
use Rattle.rules.specs.Tick.{gone, tick_under, tick_of}
use Rattle.demands.specs.Replies.{left_by, axis_from, axis_of}
use Rattle.demands.specs.Takeover.{completed_by}
use Rattle.demands.specs.Known.{Known, at_first, takes_over, after_word, since_after, after_tick, next, known_from, known}
use Rattle.demands.proofs.Takeover.{completed_in, takeover}
use Rattle.demands.proofs.Matches.{phase_for, Matches, phase-step}

-- ---- a word

module _ (a : Axis) (k : Known) (m : Matches a k) where
  -- nothing but the pending settings changes
  waiting : (q : Pending) (ws : List ℕ) → q ≡ pending_after ws → Matches (with_pending a q) (after_word Nothing k ws)
  waiting q ws e =
      record {
        active = m.active;
        pending = e;
        state = m.state;
        mode = m.mode;
        control = m.control;
        switches = m.switches;
        position = m.position;
        phase = m.phase;
      }

  -- by what the reader made of it
  by-outcome : (o : Outcome) (q : Pending) (ws : List ℕ) (live : Bool) → live_of a.motion.state ≡ live → q ≡ pending_after ws
      → Matches (taken (with_pending a q) o).axis (after_word (cond live Nothing (completed_in o)) k ws)
  by-outcome (Refused r) q ws true l e = waiting q ws e
  by-outcome (Refused r) q ws false l e = waiting q ws e
  by-outcome Stored q ws true l e = waiting q ws e
  by-outcome Stored q ws false l e = waiting q ws e
  by-outcome (Complete s) q ws true l e = rw l (waiting q ws e)
  by-outcome (Complete s) q ws false l e =
      rw l
      (record {
        active = refl;
        pending = e;
        state = m.state;
        mode = m.mode;
        control = m.control;
        switches = m.switches;
        position = m.position;
        phase = refl;
      })

  keep_word : (w : ℕ) → Matches (word_of a w).axis (next k (word w))
  unfolding word_of
  keep_word w =
      let ws = k.words in
      let p = pending_after ws in
      let q : (read_of p w).pending ≡ pending_after (ws ++ w ∷ []) = sym (from-append empty_pending ws (w ∷ [])) in
      let read : completed_by (ws ++ w ∷ []) ≡ completed_in (read_of p w).outcome = takeover ws w in
      let live : live_of a.motion.state ≡ live_of k.state = ap live_of m.state in
      let acts : takes_over k (ws ++ w ∷ []) ≡ cond (live_of k.state) Nothing (completed_in (read_of p w).outcome) =
      ap (λ (x : Active). cond (live_of k.state) Nothing x) read in
      subst (λ (x : Pending). Matches (taken (with_pending a (read_of x w).pending) (read_of x w).outcome).axis (next k (word w))) (sym m.pending)
      (subst (λ (x : Active). Matches (taken (with_pending a (read_of p w).pending) (read_of p w).outcome).axis (after_word x k (ws ++ w ∷ []))) (sym acts)
      (by-outcome (read_of p w).outcome (read_of p w).pending (ws ++ w ∷ []) (live_of k.state) live q))

  -- ---- a tick

  pub keep-under : (s : Settings) → k.settings ≡ Set s → (t : Tick) → Matches (gone a (answered_in s a.motion t)).axis (after_tick (Set s) k t)
  unfolding answered_in new_phase
  keep-under s e t =
      let shown = mode_after k.shown k.state t in
      let after = state_after s k.state k.control t in
      let mode : new_mode a.motion t ≡ shown = cc in
      let state : new_state s a.motion t ≡ after = cc in
      let phase : a.motion.phase ≡ phase_for (Set s) k.since = m.phase ∙ ap (λ (x : Active). phase_for x k.since) e in
      let starts : starts_in a.motion.control t (new_mode a.motion t) (new_state s a.motion t) ≡ starts_in k.control t shown after = cc in
      let view : view_in a.motion.switches a.motion.position t (new_mode a.motion t) (new_state s a.motion t) ≡ view_in k.switches k.position t shown after = cc in
      record {
        active = m.active;
        pending = m.pending;
        state = state;
        mode = mode;
        control = refl;
        switches = refl;
        position = refl;
        phase =
            rw (starts, view, phase)
            (phase-step s (starts_in k.control t shown after) t.switches (view_in k.switches k.position t shown after) k.since
            ∙ ap (λ (x : Active). phase_for x (since_after k t shown after)) (sym e));
      }

  keep-tick : (t : Tick) → Matches (tick_of a t).axis (next k (tick t))
  unfolding tick_of
  keep-tick t = subst (λ (x : Active). Matches (tick_under x a t).axis (next k (tick t))) (sym m.active) (go k.settings refl)
    where
      go : (x : Active) → k.settings ≡ x → Matches (tick_under x a t).axis (after_tick x k t)
      go Nothing e = m
      go (Set s) e = keep-under s e t

  pub keep : (e : Event) → Matches (left_by a e) (next k e)
  keep (word w) = keep_word w
  keep (tick t) = keep-tick t

keep_all : (a : Axis) (k : Known) → Matches a k → (es : List Event) → Matches (axis_from a es) (known_from k es)
keep_all a k m [] = m
keep_all a k m (e ∷ es) = keep_all (left_by a e) (next k e) (keep a k m e) es

fresh-matches : Matches fresh_axis at_first
fresh-matches =
    record {
      active = refl;
      pending = refl;
      state = refl;
      mode = refl;
      control = refl;
      switches = refl;
      position = refl;
      phase = refl;
    }

-- the invariant after every list
pub matches : (es : List Event) → Matches (axis_of es) (known es)
matches es = keep_all fresh_axis at_first fresh-matches es
