-- Whatever is called is answered as the rules answer that list of events: by induction on the calls.
-- Assumes nothing.
use Prim.Native.Nat.{ℕ}
use mathlib.Core.Path.{◌≡◌, refl, ap, ◌∙◌}
use mathlib.Core.List.{List, map}
use Rattle.rules.specs.Axis.{Axis}
use Rattle.cells.specs.Cells.{axis_in}
use Rattle.demands.specs.Events.{Event}
use Rattle.demands.specs.Replies.{axis_from, replies_from}
use Rattle.demands.proofs.Promised.{demand3}
use Rattle.exports.specs.Run.{Run, none, call_word, call_tick, shown, AllRuns, AllFreshRuns}

replied-from : {l m : List ℕ} {es : List Event} {out : List (List ℕ)} → Run l es out m → out ≡ map shown (replies_from (axis_in l) es)
replied-from none = refl
replied-from (call_word c r) = rw (c.numbered, c.call.verdict, replied-from r, c.call.axis)
replied-from (call_tick c r) = rw (c.numbered, c.words, c.call.answer, replied-from r, c.call.axis)

left-from : {l m : List ℕ} {es : List Event} {out : List (List ℕ)} → Run l es out m → axis_in m ≡ axis_from (axis_in l) es
left-from none = refl
left-from (call_word {es = es} c r) = left-from r ∙ ap (λ (a : Axis). axis_from a es) c.call.axis
left-from (call_tick {es = es} c r) = left-from r ∙ ap (λ (a : Axis). axis_from a es) c.call.axis

pub all_runs : AllRuns
all_runs l m es out r = record { replied = replied-from r; left = left-from r }

pub all-fresh-runs : AllFreshRuns
all-fresh-runs l m es out f r =
    record {
      replied = replied-from r ∙ ap (λ (a : Axis). map shown (replies_from a es)) f.axis;
      left = left-from r ∙ ap (λ (a : Axis). axis_from a es) f.axis;
      demand3 = demand3 es;
    }
