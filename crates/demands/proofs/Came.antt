-- Settings in force came by their own words: along the list, what is known of it holds the word that completed them.
-- Assumes nothing.
use Prim.Native.Nat.{ℕ}
use mathlib.Core.Path.{◌≡◌, refl, sym, ap, subst, ◌∙◌}
use mathlib.Core.Bool.{Bool, true, false, cond}
use mathlib.Core.List.{List, [], ◌∷◌, ◌++◌, append_assoc, append-nil}
use native.Mathlib.Omega.{arith}
use Rattle.settings.specs.declared.Settings.{Settings}
use Rattle.checks.proofs.Sends.{held-maximum}
use Rattle.states.specs.declared.State.{State}
use Rattle.states.specs.States.{live_of}
use Rattle.words.specs.Word.{latest}
use Rattle.words.specs.Decode.{layout_of}
use Rattle.roundtrip.specs.Stream.{EndsIn}
use Rattle.ticks.specs.declared.Tick.{Tick}
use Rattle.rules.specs.Axis.{Active, Nothing, Set}
use Rattle.demands.specs.Events.{Event, word, tick}
use Rattle.demands.specs.Takeover.{completed_by}
use Rattle.demands.specs.Known.{Known, at_first, takes_over, after_word, after_tick, next, known_from}
use Rattle.demands.specs.Whole.{words_in, Came, CameByTheirWords, CameWithMaximum}
use Rattle.demands.proofs.Takeover.{sound}
use Rattle.demands.proofs.Kept.{matches}

words_append : (es fs : List Event) → words_in (es ++ fs) ≡ words_in es ++ words_in fs
words_append [] fs = refl
words_append (word w ∷ es) fs = ap (λ (ws : List ℕ). w ∷ ws) (words_append es fs)
words_append (tick t ∷ es) fs = words_append es fs

known-append : (k : Known) (es fs : List Event) → known_from k (es ++ fs) ≡ known_from (known_from k es) fs
known-append k [] fs = refl
known-append k (e ∷ es) fs = known-append (next k e) es fs

-- what is known after some events: their words, and of the settings in force how they came
record Told (es : List Event) (k : Known) : Type 0 where
  is : known_from at_first es ≡ k
  words : k.words ≡ words_in es
  came : (s : Settings) → k.settings ≡ Set s → Came s es

-- with events after it, a word that came is still there
later : {s : Settings} {es : List Event} → Came s es → (fs : List Event) → Came s (es ++ fs)
later c fs =
    record {
      before = c.before;
      last = c.last;
      after = c.after ++ fs;
      not_live = c.not_live;
      took = c.took;
      layout = c.layout;
      cut = ap (λ (gs : List Event). gs ++ fs) c.cut ∙ append_assoc c.before (word c.last ∷ c.after) fs;
      words = c.words;
    }

module _ (es : List Event) (k : Known) (h : Told es k) where
  after-word : (w : ℕ) → Told (es ++ word w ∷ []) (next k (word w))
  after-word w = go (takes_over k ws) refl
    where
      ws : List ℕ
      ws = k.words ++ w ∷ []

      grown : ws ≡ words_in (es ++ word w ∷ [])
      grown = ap (λ (us : List ℕ). us ++ w ∷ []) h.words ∙ sym (words_append es (word w ∷ []))

      completes : (s : Settings) (live : Bool) → cond live Nothing (completed_by ws) ≡ Set s → EndsIn (layout_of (latest ws)) s (words_in es ++ w ∷ [])
      completes s true e = let z : ◌≡◌ {A = ℕ} 0 1 = cc in absurd (omega arith)
      completes s false e = subst (λ (us : List ℕ). EndsIn (layout_of (latest ws)) s (us ++ w ∷ [])) h.words (sound s ws e)

      dead : {s : Settings} (live : Bool) → cond live Nothing (completed_by ws) ≡ Set s → live ≡ false
      dead true e = let z : ◌≡◌ {A = ℕ} 0 1 = cc in absurd (omega arith)
      dead false e = refl

      told : known_from at_first (es ++ word w ∷ []) ≡ next k (word w)
      told = known-append at_first es (word w ∷ []) ∙ ap (λ (j : Known). next j (word w)) h.is

      step : {x : Active} → takes_over k ws ≡ x → next k (word w) ≡ after_word x k ws
      step e = ap (λ (y : Active). after_word y k ws) e

      go : (x : Active) → takes_over k ws ≡ x → Told (es ++ word w ∷ []) (after_word x k ws)
      go Nothing e = record { is = told ∙ step e; words = grown; came = λ s q. later (h.came s q) (word w ∷ []) }
      go (Set r) e =
          record {
            is = told ∙ step e;
            words = grown;
            came = λ s q.
                record {
                  before = es;
                  last = w;
                  after = [];
                  cut = refl;
                  not_live = subst (λ (m : State). live_of m ≡ false) (sym ((matches es).state ∙ ap (λ (j : Known). j.state) h.is)) (dead (live_of k.state) e);
                  took = (matches (es ++ word w ∷ [])).active ∙ ap (λ (j : Known). j.settings) (told ∙ step e) ∙ q;
                  layout = layout_of (latest ws);
                  words = completes s (live_of k.state) (e ∙ q);
                };
          }

  after-tick : (t : Tick) → Told (es ++ tick t ∷ []) (next k (tick t))
  after-tick t = go k.settings refl
    where
      same : k.words ≡ words_in (es ++ tick t ∷ [])
      same = h.words ∙ sym (append-nil (words_in es)) ∙ sym (words_append es (tick t ∷ []))

      told : known_from at_first (es ++ tick t ∷ []) ≡ next k (tick t)
      told = known-append at_first es (tick t ∷ []) ∙ ap (λ (j : Known). next j (tick t)) h.is

      step : {x : Active} → k.settings ≡ x → next k (tick t) ≡ after_tick x k t
      step e = ap (λ (y : Active). after_tick y k t) e

      go : (x : Active) → k.settings ≡ x → Told (es ++ tick t ∷ []) (after_tick x k t)
      go Nothing e = record { is = told ∙ step e; words = same; came = λ s q. later (h.came s q) (tick t ∷ []) }
      go (Set r) e = record { is = told ∙ step e; words = same; came = λ s q. later (h.came s q) (tick t ∷ []) }

along : (es : List Event) (k : Known) → Told es k → (fs : List Event) → Told (es ++ fs) (known_from k fs)
along es k h [] = subst (λ (gs : List Event). Told gs k) (sym (append-nil es)) h
along es k h (word w ∷ fs) =
    subst (λ (gs : List Event). Told gs (known_from k (word w ∷ fs))) (append_assoc es (word w ∷ []) fs)
    (along (es ++ word w ∷ []) (next k (word w)) (after-word es k h w) fs)
along es k h (tick t ∷ fs) =
    subst (λ (gs : List Event). Told gs (known_from k (tick t ∷ fs))) (append_assoc es (tick t ∷ []) fs)
    (along (es ++ tick t ∷ []) (next k (tick t)) (after-tick es k h t) fs)

nothing-came : Told [] at_first
nothing-came = record { is = refl; words = refl; came = λ s q. let z : ◌≡◌ {A = ℕ} 0 1 = cc in absurd (omega arith) }

pub came-by-their-words : CameByTheirWords
came-by-their-words es s e = (along [] at_first nothing-came es).came s (sym (matches es).active ∙ e)

pub came-with-maximum : CameWithMaximum
came-with-maximum es s c k = held-maximum c.layout s c.words.sound k
