-- The words of a sheet, on an axis that is not live, leave it in force and homing idle, and all else of the motion as it was. So two axes whose drives
-- are equal are alike after them.
-- Assumes nothing.
use Prim.Native.Nat.{ℕ}
use mathlib.Core.Path.{◌≡◌, refl, sym, ap, ◌∙◌, subst}
use mathlib.Core.Bool.{Bool, true, false}
use mathlib.Core.List.{List, [], ◌∷◌, ◌++◌, map, map-append}
use Rattle.settings.specs.declared.Settings.{Settings}
use Rattle.checks.specs.Check.{sendable}
use Rattle.words.specs.Word.{packed}
use Rattle.words.specs.Encode.{checksum_of, words_from, sent, words_of}
use Rattle.reader.specs.Read.{empty_pending}
use Rattle.states.specs.declared.State.{State}
use Rattle.states.specs.States.{live_of}
use Rattle.ticks.specs.Motion.{Motion, idled}
use Rattle.rules.specs.Axis.{Axis}
use Rattle.rules.specs.Word.{with_pending, word_of}
use Rattle.demands.specs.Events.{Event, word, tick}
use Rattle.demands.specs.Replies.{axis_from}
use Rattle.demands.specs.Whole.{words_in, after_takeover}
use Rattle.demands.proofs.Whole.{round_trip}
use Rattle.independence.specs.Alike.{EqualButUnits, EqualDrive, Alike, answers_from, is_takeover}
use Rattle.independence.specs.Rehearsals.{RehearsalsAlike}
use Rattle.independence.proofs.Takeovers.{other-leaves, takeover-leaves}
use Rattle.independence.proofs.Alike.{ticks-alike}

words-first : (a : Axis) (ws : List ℕ) (es : List Event) → answers_from a (map word ws ++ es) ≡ answers_from (axis_from a (map word ws)) es
words-first a [] es = refl
words-first a (w ∷ ws) es = words-first (word_of a w).axis ws es

its-words : (ws : List ℕ) → words_in (map word ws) ≡ ws
its-words [] = refl
its-words (w ∷ ws) = ap (λ (us : List ℕ). w ∷ us) (its-words ws)

-- a word changes nothing of the motion, or idles homing
word-idles : (a : Axis) (w : ℕ) → idled (word_of a w).axis.motion ≡ idled a.motion
word-idles a w = go (is_takeover a w) refl
  where
    go : (b : Bool) → is_takeover a w ≡ b → idled (word_of a w).axis.motion ≡ idled a.motion
    go true e = ap (λ (c : Axis). idled c.motion) (takeover-leaves a w e)
    go false e = ap (λ (c : Axis). idled c.motion) (other-leaves a w e)

words-idle : (a : Axis) (ws : List ℕ) → idled (axis_from a (map word ws)).motion ≡ idled a.motion
words-idle a [] = refl
words-idle a (w ∷ ws) = words-idle (word_of a w).axis ws ∙ word-idles a w

taken-over : (a : Axis) (l : ℕ) (s : Settings) → sendable l s ≡ true → live_of a.motion.state ≡ false
    → axis_from a (map word (words_of l s)) ≡ after_takeover s (with_pending a empty_pending)
unfolding words_of
taken-over a l s ok dead =
    let front = words_from 0 (sent l s) in
    let w = packed 15 (checksum_of (sent l s)) in
    let idle = words-idle a front in
    let state : (axis_from a (map word front)).motion.state ≡ a.motion.state = ap (λ (m : Motion). m.state) idle in
    let same : words_in (map word front) ++ w ∷ [] ≡ words_of l s = ap (λ (us : List ℕ). us ++ w ∷ []) (its-words front) in
    let t = round_trip a l s (map word front) w ok same (subst (λ (x : State). live_of x ≡ false) (sym state) dead) in
    ap (axis_from a) (map-append word front (w ∷ [])) ∙ t.left ∙ rw idle

alike-after : (a b : Axis) (s r : Settings) → EqualDrive a.motion b.motion → EqualButUnits s r → Alike (after_takeover s a) (after_takeover r b)
alike-after a b s r d h =
    record {
      others =
          record {
            settings = h;
            drive = record { state = d.state; mode = d.mode; alarm = d.alarm; control = d.control; switches = d.switches; position = d.position };
            homed = refl;
            error = refl;
          };
      leg = refl;
    }

pub rehearsals-alike : RehearsalsAlike
rehearsals-alike a b l m s r ts d dead ok-s ok-r h n =
    let one = after_takeover s (with_pending a empty_pending) in
    let other = after_takeover r (with_pending b empty_pending) in
    words-first a (words_of l s) (map tick ts)
    ∙ ap (λ (c : Axis). answers_from c (map tick ts)) (taken-over a l s ok-s dead)
    ∙ ticks-alike one other ts (alike-after (with_pending a empty_pending) (with_pending b empty_pending) s r d h) n
    ∙ ap (λ (c : Axis). answers_from c (map tick ts)) (sym (taken-over b m r ok-r (subst (λ (x : State). live_of x ≡ false) d.state dead)))
    ∙ sym (words-first b (words_of m r) (map tick ts))
