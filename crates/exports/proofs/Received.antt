-- Each tick of a list of calls at its place: by induction on the calls it is handed out the rules' answer as words, which read back, and of that
-- answer demand 3 speaks.
-- Assumes nothing.
use Prim.Native.Nat.{ℕ, suc}
use mathlib.Core.Path.{◌≡◌, refl, sym, ap, ◌∙◌, subst}
use mathlib.Core.Bool.{true}
use mathlib.Core.List.{List, [], ◌∷◌, ◌++◌}
use native.Mathlib.Omega.{arith}
use lib.Ieee.{Float}
use lib.IntN.{pos}
use lib.ListN.{length}
use Rattle.counts.specs.Fits.{fits}
use Rattle.counts.specs.Wrap.{modulo}
use Rattle.counts.proofs.Fits.{i32-fits}
use Rattle.counts.proofs.Modulo.{wrapped-fits}
use Rattle.patterns.specs.Patterns.{word_at}
use Rattle.ticks.specs.declared.Tick.{Tick}
use Rattle.answers.specs.declared.Answer.{Answer}
use Rattle.rules.specs.Axis.{Active, Nothing, Axis, fresh_axis}
use Rattle.rules.specs.Tick.{tick_under, tick_of}
use Rattle.cells.specs.Cells.{axis_in}
use Rattle.demands.specs.Events.{Event, word, tick}
use Rattle.demands.specs.Replies.{Reply, answered, left_by, axis_from, replies_from, axis_of, replies}
use Rattle.demands.specs.Known.{known}
use Rattle.demands.specs.Demand.{TickPromise}
use Rattle.demands.proofs.Kept.{matches}
use Rattle.demands.proofs.Promised.{demand3}
use Rattle.records.specs.Words.{tick_in, answer_words}
use Rattle.records.specs.Back.{answer_of_words}
use Rattle.exports.specs.Calls.{TickCall}
use Rattle.exports.specs.Run.{Run, none, call_word, call_tick}
use Rattle.exports.specs.Back.{ReceivedAt, AllTicksReceived}
use Rattle.exports.proofs.Back.{all-answers-read-back}

-- what a tick after the events `before` is handed out, on words that meant the axis x before them
record Handed (x : Axis) (before : List Event) (t : Tick) (out : List (List ℕ)) : Type 0 where
  earlier : List (List ℕ)
  number : ℕ
  words : List ℕ
  later : List (List ℕ)
  place : out ≡ earlier ++ (number ∷ words) ∷ later
  one_each : length earlier ≡ length before
  numbered : number ≡ (tick_of (axis_from x before) t).answer.number
  worded : words ≡ answer_words (tick_of (axis_from x before) t).answer
  position : fits 32 t.position ≡ true

-- a word read as signed fits 32 bits
read_fits : (e : List ℕ) (f : List Float) → fits 32 (tick_in e f).position ≡ true
unfolding tick_in
read_fits e f = i32-fits (wrapped-fits (pos (word_at e 2)))

-- in no events there is no tick, and a word is none
nothing-there : {x : Event} {es : List Event} → ◌≡◌ {A = List Event} [] (x ∷ es) → ⊥
nothing-there q = let z : ◌≡◌ {A = ℕ} 0 1 = cc in omega arith

no_word : {w : ℕ} {t : Tick} {es fs : List Event} → ◌≡◌ {A = List Event} (word w ∷ es) (tick t ∷ fs) → ⊥
no_word q = let z : ◌≡◌ {A = ℕ} 0 1 = cc in omega arith

-- with no settings in force
refused-words : (a : Axis) (t : Tick) → a.active ≡ Nothing → answer_words (tick_of a t).answer ≡ 8 ∷ 0 ∷ 0 ∷ 0 ∷ 0 ∷ 0 ∷ 0 ∷ []
unfolding answer_words tick_of modulo
refused-words a t e = ap (λ (x : Active). answer_words (tick_under x a t).answer) e

-- the tick of an event's words
handed-first : {l m e a : List ℕ} {f : List Float} {r : ℕ} (out : List (List ℕ)) (t : Tick) → TickCall l e f m a r → tick_in e f ≡ t
    → Handed (axis_in l) [] t ((r ∷ a) ∷ out)
handed-first {l = l} {e = e} {a = a} {f = f} {r = r} out t c p =
    subst (λ (x : Tick). Handed (axis_in l) [] x ((r ∷ a) ∷ out)) p
    (record {
      earlier = [];
      number = r;
      words = a;
      later = out;
      place = refl;
      one_each = refl;
      numbered = c.numbered ∙ ap (λ (y : Answer). y.number) c.call.answer;
      worded = c.words ∙ ap answer_words c.call.answer;
      position = read_fits e f;
    })

-- one call more before it
handed-later : {x y : Axis} {before : List Event} {t : Tick} {out : List (List ℕ)} (e : Event) (o : List ℕ) → Handed y before t out → y ≡ left_by x e
    → Handed x (e ∷ before) t (o ∷ out)
handed-later {before = before} {t = t} {out = out} e o h p =
    let k = subst (λ (z : Axis). Handed z before t out) p h in
    record {
      earlier = o ∷ k.earlier;
      number = k.number;
      words = k.words;
      later = k.later;
      place = ap (λ (z : List (List ℕ)). o ∷ z) k.place;
      one_each = ap suc k.one_each;
      numbered = k.numbered;
      worded = k.worded;
      position = k.position;
    }

handed-at : {l m : List ℕ} {es : List Event} {out : List (List ℕ)} → Run l es out m
    → (before : List Event) (t : Tick) (after : List Event) → es ≡ before ++ tick t ∷ after → Handed (axis_in l) before t out
handed-at none [] t after q = absurd (nothing-there q)
handed-at none (x ∷ before) t after q = absurd (nothing-there q)
handed-at (call_word c r) [] t after q = absurd (no_word q)
handed-at (call_word {l = l} {w = w} {r = n} c r) (x ∷ before) t after q =
    let p : word w ≡ x = cc in
    handed-later x (n ∷ []) (handed-at r before t after cc) (c.call.axis ∙ ap (left_by (axis_in l)) p)
handed-at (call_tick {out = out} c r) [] t after q = handed-first out t c cc
handed-at (call_tick {l = l} {e = e} {a = a} {f = f} {r = n} c r) (x ∷ before) t after q =
    let p : tick (tick_in e f) ≡ x = cc in
    handed-later x (n ∷ a) (handed-at r before t after cc) (c.call.axis ∙ ap (left_by (axis_in l)) p)

-- ---- what demand 3 promises of that answer

-- at a place of a list stands one reply
same_reply : (xs ys zs : List Reply) {a b : Answer} → xs ++ answered a ∷ ys ≡ xs ++ answered b ∷ zs → a ≡ b
same_reply [] ys zs q = cc
same_reply (x ∷ xs) ys zs q = same_reply xs ys zs cc

replies-append : (a : Axis) (es fs : List Event) → replies_from a (es ++ fs) ≡ replies_from a es ++ replies_from (axis_from a es) fs
replies-append a [] fs = refl
replies-append a (e ∷ es) fs = rw (replies-append (left_by a e) es fs)

-- a tick after any list of events
promised : (before : List Event) (t : Tick) → TickPromise (known before).settings (known before) t (tick_of (axis_of before) t).answer
promised before t =
    let at = (demand3 (before ++ tick t ∷ [])).each before t [] refl in
    subst (λ (y : Answer). TickPromise (known before).settings (known before) t y)
    (same_reply (replies before) _ _ (sym at.reply ∙ replies-append fresh_axis before (tick t ∷ [])))
    at.promise

-- ---- from the fresh axis

-- the words read back
received : {before : List Event} {t : Tick} {out : List (List ℕ)} → Handed fresh_axis before t out → ReceivedAt before t out
unfolding answer_words
received {before = before} {t = t} h =
    let a = (tick_of (axis_of before) t).answer in
    let read : answer_of_words h.words ≡ a =
    ap answer_of_words h.worded ∙ all-answers-read-back (axis_of before) t h.position in
    record {
      earlier = h.earlier;
      number = h.number;
      words = h.words;
      later = h.later;
      place = h.place;
      one_each = h.one_each;
      seven = ap length h.worded;
      returned = h.numbered ∙ sym (ap (λ (w : List ℕ). word_at w 0) h.worded);
      answer = read;
      promise = subst (λ (y : Answer). TickPromise (known before).settings (known before) t y) (sym read) (promised before t);
      refused = λ n. h.worded ∙ refused-words (axis_of before) t ((matches before).active ∙ n);
    }

pub all-ticks-received : AllTicksReceived
all-ticks-received l m es out f r =
    record {
      each = λ before t after e. received (subst (λ (a : Axis). Handed a before t out) f.axis (handed-at r before t after e));
    }
