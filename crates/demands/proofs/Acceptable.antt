-- Settings in force are acceptable: they are the last ones that words completed, and only acceptable ones are completed.
-- Assumes nothing.
use Prim.Native.Nat.{ℕ}
use mathlib.Core.Path.{◌≡◌, refl, sym, ap, subst, ◌∙◌}
use mathlib.Core.Bool.{Bool, true, false, cond, ◌&&◌}
use mathlib.Core.List.{List, [], ◌∷◌, ◌++◌}
use native.Mathlib.Omega.{arith}
use Rattle.counts.specs.Bit.{bit_of}
use Rattle.counts.specs.Wrap.{signed}
use Rattle.settings.specs.declared.Settings.{Settings}
use Rattle.settings.specs.Ranges.{in_range}
use Rattle.settings.proofs.Within.{both}
use Rattle.gears.specs.Gear.{in_reach}
use Rattle.checks.specs.Check.{limits_apart, acceptable, sendable}
use Rattle.words.specs.Encode.{words_of}
use Rattle.words.specs.Decode.{layout_of, position_from}
use Rattle.checks.proofs.Sends.{sends}
use Rattle.states.specs.States.{live_of}
use Rattle.commands.specs.Commands.{whole_demand}
use Rattle.torque.proofs.Guard.{torque-plain}
use Rattle.speed.proofs.Guard.{speed-plain}
use Rattle.position.proofs.Guard.{position-plain}
use Rattle.ticks.specs.Rules.{demand_in}
use Rattle.ticks.specs.After.{motion_after}
use Rattle.answers.specs.Answer.{followed_in, torque_on, answer_in, answered_in}
use Rattle.rules.specs.Axis.{Active, Nothing, Set}
use Rattle.rules.specs.Tick.{tick_under, tick_of}
use Rattle.demands.specs.Events.{Event, word, tick}
use Rattle.demands.specs.Replies.{axis_of}
use Rattle.words.specs.Word.{same_words, latest}
use Rattle.demands.specs.Takeover.{carried, completed_by}
use Rattle.demands.specs.Known.{Known, at_first, takes_over, after_word, after_tick, next, known_from}
use Rattle.demands.specs.Acceptable.{InForceAcceptable, Plain, PlainAnswers, PlainData}
use Rattle.demands.proofs.Kept.{matches}

-- settings, if there are any, are acceptable
abbrev Good : Active → Type 0
Good Nothing = Unit
Good (Set s) = acceptable s ≡ true

completed-good : (ws : List ℕ) → Good (completed_by ws)
unfolding completed_by
completed-good ws = go (same_words (latest ws) (words_of (layout_of (latest ws)) s)) (sendable (layout_of (latest ws)) s) refl
  where
    s : Settings
    s = carried (latest ws)

    go : (b c : Bool) → sendable (layout_of (latest ws)) s ≡ c → Good (cond (b && c) (Set s) Nothing)
    go true true e = (sends (layout_of (latest ws)) s e).good
    go true false e = tt
    go false c e = tt

taken-good : (k : Known) (ws : List ℕ) → Good (takes_over k ws)
taken-good k ws = go (live_of k.state)
  where
    go : (live : Bool) → Good (cond live Nothing (completed_by ws))
    go true = tt
    go false = completed-good ws

next-good : (k : Known) (e : Event) → Good k.settings → Good (next k e).settings
next-good k (word w) g = go (takes_over k ws) (taken-good k ws)
  where
    ws : List ℕ
    ws = k.words ++ w ∷ []

    go : (x : Active) → Good x → Good (after_word x k ws).settings
    go Nothing h = g
    go (Set s) h = h
next-good k (tick t) g = go k.settings
  where
    go : (x : Active) → Good (after_tick x k t).settings
    go Nothing = g
    go (Set s) = g

known-good : (k : Known) (es : List Event) → Good k.settings → Good (known_from k es).settings
known-good k [] g = g
known-good k (e ∷ es) g = known-good (next k e) es (next-good k e g)

pub in-force-acceptable : InForceAcceptable
in-force-acceptable es s e = subst Good (sym (matches es).active ∙ e) (known-good at_first es tt)

in-range : (s : Settings) → acceptable s ≡ true → in_range s ≡ true
unfolding acceptable
in-range s e = (both (in_range s) (limits_apart s) (both (in_range s && limits_apart s) (in_reach s) e).0).0

pub plain-answers : PlainAnswers
unfolding tick_of answered_in answer_in
plain-answers es t s e =
    let a = axis_of es in
    let m = motion_after s a.motion t in
    let r = in-range s (in-force-acceptable es s e) in
    subst
    (λ (x : Active). Plain s t (tick_under x a t).axis.motion (tick_under x a t).answer)
    (sym e)
    (record {
      torque = torque-plain s r m.mode t.set (torque_on t m) (whole_demand (demand_in s t));
      speed = speed-plain s r m.phase (bit_of t.control 8);
      position = position-plain s r m.home (followed_in t m) t.position;
    })

pub plain-data : PlainData
unfolding position_from
plain-data =
    record {
      layout1 = λ w top. ap (signed 28) (omega arith);
      layout2 = λ w top h. ap (signed 32) (omega arith);
      layout3 = λ w top h. ap (signed 32) (omega arith);
    }
