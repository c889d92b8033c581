-- 01, "The sheet": what a settings word does to an axis.
-- Assumes nothing.
use Rattle.std.specs.Prelude.{ℕ}
use Rattle.reader.specs.Pending.{Pending, Outcome}
use Rattle.reader.specs.Read.{read_of}
use Rattle.rules.specs.Axis.{Axis, Worded}
use Rattle.rules.specs.Takeover.{Taken, taken_over}

-- the axis with other pending settings, all else as before
abbrev pub with_pending : Axis → Pending → Axis
with_pending a p =
    record {
      active = a.active;
      pending = p;
      motion = a.motion;
    }

-- the axis with what a word leaves in force, and the word's verdict
abbrev pub worded : Axis → Taken → Worded
worded a t =
    record {
      axis =
          record {
            active = t.active;
            pending = a.pending;
            motion = t.motion;
          };
      verdict = t.verdict;
    }

-- by what the reader made of the word
abbrev pub taken : Axis → Outcome → Worded
taken a o = worded a (taken_over a.active a.motion o)

unfoldable pub word_of : Axis → ℕ → Worded
word_of a w = taken (with_pending a (read_of a.pending w).pending) (read_of a.pending w).outcome
