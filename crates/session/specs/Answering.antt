-- docs/LINES.md: "One line in, one line out, in order; a `picture` alone has more lines": what a line does to what is kept, and its answer.
-- Assumes nothing.
use Rattle.std.specs.Prelude.{◌≡◌, ℕ, ◌+◌, ◌%◌, ◌^◌, ◌≤◌, cond, List, [], ◌++◌, length, ℤ, pos, ◌==◌}
use Rattle.rules.specs.Axis.{Axis, fresh_axis}
use Rattle.rules.specs.Tick.{tick_of}
use Rattle.rules.specs.Word.{word_of}
use Rattle.cells.specs.Cells.{axis_in}
use Rattle.carriage.specs.declared.Rail.{Rail}
use Rattle.simulator.specs.declared.Outcome.{Outcome}
use Rattle.simulator.specs.declared.Trace.{Trace}
use Rattle.simulator.specs.Run.{run_of}
use Rattle.simulator.specs.Trace.{trace_of}
use Rattle.drawing.specs.Picture.{picture_text}
use Rattle.lent.specs.Lent.{written_text}
use Rattle.lines.specs.declared.Line.{Line}
use Rattle.lines.specs.declared.Line.TheVariants as line
use Rattle.lines.specs.declared.Trial.{Trial}
use Rattle.page.specs.Page.{printed}
use Rattle.page.specs.Written.{Written}
use Rattle.complaints.specs.Texts.{unreadable_text, long_text}
use Rattle.printer.specs.Texts.{fresh_text, settings_text, rail_text, word_text, tick_text, run_text}
use Rattle.settings.specs.declared.Settings.{Settings}
use Rattle.settings.specs.Refusal.{verdict_number}
use Rattle.tokens.specs.Ascii.{ascii}
use Rattle.session.specs.declared.Session.{Session}

-- an axis, the settings and the rail of later runs, and how many lines have come so far
pub record Conversation : Type 0 where
  pub axis : Axis
  pub settings : Settings
  pub rail : Rail
  pub lines : ℕ

-- what a session's words mean
abbrev pub meant : Session → Conversation
meant s = record { axis = axis_in s.axis; settings = s.settings; rail = s.rail; lines = s.lines }

-- "before the first all their numbers are 0"
abbrev pub zero_settings : Settings
zero_settings =
    record {
      method = 0;
      fast = 0;
      slow = 0;
      offset = pos 0;
      numerator = 0;
      denominator = 0;
      lower = pos 0;
      upper = pos 0;
      maximum = 0;
      positive1 = 0;
      negative1 = 0;
      positive2 = 0;
      negative2 = 0;
      option = 0;
      rated = 0;
      homing = 0;
    }

abbrev pub zero_rail : Rail
zero_rail = record { length = 0; cam = 0; width = 0; fast = 0; slow = 0 }

abbrev pub fresh_conversation : Conversation
fresh_conversation = record { axis = fresh_axis; settings = zero_settings; rail = zero_rail; lines = 0 }

-- "LINE counts every line from 1"; % 2 ^ 64 is a guard, which no run reaches
abbrev pub counted : Conversation → Conversation
counted s = record { axis = s.axis; settings = s.settings; rail = s.rail; lines = (s.lines + 1) % 2 ^ 64 }

abbrev pub with_axis : Conversation → Axis → Conversation
with_axis s a = record { axis = a; settings = s.settings; rail = s.rail; lines = s.lines }

-- "kept as they are, acceptable or not, until the next such line"
abbrev pub with_settings : Conversation → Settings → Conversation
with_settings s x = record { axis = s.axis; settings = x; rail = s.rail; lines = s.lines }

abbrev pub with_rail : Conversation → Rail → Conversation
with_rail s r = record { axis = s.axis; settings = s.settings; rail = r; lines = s.lines }

-- after a line: by the writer and by a run "the axis is left alone", and a line that cannot be read "changes nothing"
abbrev pub conversation_after : Conversation → Line → Conversation
conversation_after s line.Blank = s
conversation_after s line.Fresh = with_axis s fresh_axis
conversation_after s (line.Word w) = with_axis s (word_of s.axis w).axis
conversation_after s (line.Tick t) = with_axis s (tick_of s.axis t).axis
conversation_after s (line.Sheet w) = s
conversation_after s (line.Layout w) = s
conversation_after s (line.Settings x) = with_settings s x
conversation_after s (line.Rail r) = with_rail s r
conversation_after s (line.Run t) = s
conversation_after s (line.Picture t) = s
conversation_after s (line.Unreadable t) = s

-- "a run on that rail under these settings"
abbrev pub outcome_of : Conversation → Trial → Outcome
outcome_of s t = run_of s.rail s.settings t.start t.ticks

-- the same, followed leg by leg
abbrev pub trace_in : Conversation → Trial → Trace
trace_in s t = trace_of s.rail s.settings t.start t.ticks

-- "and the picture where N is 0"
abbrev pub drawn_text : Rail → ℤ → Trace → List ℕ
drawn_text r start t = cond (t.outcome.number == 0) (picture_text r start t) []

abbrev pub text_of : Conversation → Line → List ℕ
text_of s line.Blank = []
text_of s line.Fresh = fresh_text
text_of s (line.Word w) = word_text (verdict_number (word_of s.axis w).verdict)
text_of s (line.Tick t) = tick_text (tick_of s.axis t).answer
text_of s (line.Sheet w) = written_text (ascii "sheet ") w
text_of s (line.Layout w) = written_text (ascii "layout ") w
text_of s (line.Settings x) = settings_text
text_of s (line.Rail r) = rail_text
text_of s (line.Run t) = run_text (ascii "run ") (outcome_of s t)
text_of s (line.Picture t) = run_text (ascii "picture ") (trace_in s t).outcome ++ drawn_text s.rail t.start (trace_in s t)
text_of s (line.Unreadable t) = unreadable_text s.lines t

-- the session then means s, and the text is printed on the page
abbrev pub Answers : Session → Written → Written → Conversation → List ℕ → Type 0
Answers after page page' s text = (meant after ≡ s) × (page' ≡ printed page text)

-- every answer fits a page of 1024 bytes
abbrev pub Fits : Type 0
Fits = (s : Conversation) (l : Line) → length (text_of s l) ≤ 1024

abbrev pub LongFits : Type 0
LongFits = (line : ℕ) → length (long_text line) ≤ 1024
