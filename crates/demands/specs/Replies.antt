-- A list of settings words and ticks, and what it is answered: each gets the axis as the one before returned or left it.
-- Assumes nothing.
use Rattle.std.specs.Prelude.{List, [], ◌∷◌}
use Rattle.settings.specs.Refusal.{Verdict}
use Rattle.rules.specs.Axis.{Axis, fresh_axis}
use Rattle.answers.specs.declared.Answer.{Answer}
use Rattle.demands.specs.Events.{Event, word, tick}
use Rattle.rules.specs.Word.{word_of}
use Rattle.rules.specs.Tick.{tick_of}

pub data Reply : Type 0 where
  said : Verdict → Reply
  answered : Answer → Reply

-- the axis that an event leaves, and its reply
abbrev pub left_by : Axis → Event → Axis
left_by a (word w) = (word_of a w).axis
left_by a (tick t) = (tick_of a t).axis

abbrev pub reply_to : Axis → Event → Reply
reply_to a (word w) = said (word_of a w).verdict
reply_to a (tick t) = answered (tick_of a t).answer

abbrev pub axis_from : Axis → List Event → Axis
axis_from a [] = a
axis_from a (e ∷ es) = axis_from (left_by a e) es

abbrev pub replies_from : Axis → List Event → List Reply
replies_from a [] = []
replies_from a (e ∷ es) = reply_to a e ∷ replies_from (left_by a e) es

-- from the fresh axis
abbrev pub axis_of : List Event → Axis
axis_of es = axis_from fresh_axis es

abbrev pub replies : List Event → List Reply
replies es = replies_from fresh_axis es
