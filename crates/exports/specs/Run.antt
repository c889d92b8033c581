-- A C program's settings words and ticks, in any order, each on the words that the one before left: the numbers and answers that it receives
-- are the replies of the rules to that list. A call of `axis_fresh` begins another list, and the writer takes no axis. So the demands, which speak of the rules' replies, speak of what a C program
-- receives: demand 1 and the round trip of demand 2 from any words on, uniqueness and demand 3 from fresh ones.
-- Assumes nothing.
use Rattle.std.specs.Prelude.{ℕ, ◌≡◌, List, [], ◌∷◌, map, Float}
use Rattle.settings.specs.Refusal.{verdict_number}
use Rattle.cells.specs.Cells.{axis_in}
use Rattle.demands.specs.Events.{Event, word, tick}
use Rattle.demands.specs.Replies.{Reply, said, answered, axis_from, replies_from, axis_of, replies}
use Rattle.demands.specs.Demand.{Demand3}
use Rattle.records.specs.Words.{tick_in, answer_words}
use Rattle.exports.specs.Calls.{FreshCall, WordCall, TickCall}

-- from words l to words m: the events that the calls stand for, and what each hands out, its number and, of a tick, the answer's words
pub data Run : List ℕ → List Event → List (List ℕ) → List ℕ → Type 0 where
  none : {l : List ℕ} → Run l [] [] l
  call_word : {l m n : List ℕ} {w r : ℕ} {es : List Event} {out : List (List ℕ)} → WordCall l w m r → Run m es out n
      → Run l (word w ∷ es) ((r ∷ []) ∷ out) n
  call_tick : {l m n e a : List ℕ} {f : List Float} {r : ℕ} {es : List Event} {out : List (List ℕ)} → TickCall l e f m a r → Run m es out n
      → Run l (tick (tick_in e f) ∷ es) ((r ∷ a) ∷ out) n

-- a reply as what a call hands out
abbrev pub shown : Reply → List ℕ
shown (said v) = verdict_number v ∷ []
shown (answered a) = a.number ∷ answer_words a

-- every list of calls, from whatever words
pub record Received (l : List ℕ) (es : List Event) (out : List (List ℕ)) (m : List ℕ) : Type 0 where
  -- hands out the rules' replies
  pub replied : out ≡ map shown (replies_from (axis_in l) es)
  -- and leaves words that mean the rules' axis
  pub left : axis_in m ≡ axis_from (axis_in l) es

abbrev pub AllRuns : Type 0
AllRuns = (l m : List ℕ) (es : List Event) (out : List (List ℕ)) → Run l es out m → Received l es out m

-- from fresh words these are the replies and the axis of which demand 3 speaks, and it holds
pub record ReceivedFresh (es : List Event) (out : List (List ℕ)) (m : List ℕ) : Type 0 where
  pub replied : out ≡ map shown (replies es)
  pub left : axis_in m ≡ axis_of es
  pub demand3 : Demand3 es

abbrev pub AllFreshRuns : Type 0
AllFreshRuns = (l m : List ℕ) (es : List Event) (out : List (List ℕ)) → FreshCall l → Run l es out m → ReceivedFresh es out m
