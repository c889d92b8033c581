-- docs/LINES.md: "One line in, one line out, in order": what the bytes of an input come to, one after the other, however the reads cut them.
-- Assumes nothing.
use Rattle.std.specs.Prelude.{ℕ, cond, List, [], ◌∷◌, ◌++◌, ◌≡◌, eqb, Option, Some, None}
use Rattle.gather.specs.Lines.{Holds, ended_of}
use Rattle.lines.specs.Lines.{line_of}
use Rattle.complaints.specs.Texts.{long_text}
use Rattle.session.specs.Answering.{Conversation, meant, fresh_conversation, counted, conversation_after, text_of}
use Rattle.console.specs.declared.Console.{Console}

-- the conversation after the lines that have ended, and the bytes since then
pub record Stream : Type 0 where
  pub conversation : Conversation
  pub line : List ℕ

abbrev pub before_input : Stream
before_input = record { conversation = fresh_conversation; line = [] }

-- after a line of this text, or one that is too long
abbrev pub after_ended : Conversation → Option (List ℕ) → Conversation
after_ended s (Some text) = conversation_after (counted s) (line_of text)
after_ended s None = counted s

-- after a line of these bytes
abbrev pub after_line : Conversation → List ℕ → Conversation
after_line s bs = after_ended s (ended_of bs)

abbrev pub answer_ended : Conversation → Option (List ℕ) → List ℕ
answer_ended s (Some text) = text_of (counted s) (line_of text)
answer_ended s None = long_text (counted s).lines

-- and its answer
abbrev pub answer_to : Conversation → List ℕ → List ℕ
answer_to s bs = answer_ended s (ended_of bs)

-- one byte more; "A line ends with LF"
unfoldable pub with_byte : Stream → ℕ → Stream
with_byte st b = cond (eqb b 10) (record { conversation = after_line st.conversation st.line; line = [] }) (record { conversation = st.conversation; line = st.line ++ b ∷ [] })

abbrev pub with_bytes : Stream → List ℕ → Stream
with_bytes st [] = st
with_bytes st (b ∷ bs) = with_bytes (with_byte st b) bs

-- "A line ends with LF or at the end of the input": what stands after the last LF, if anything, is a line
abbrev pub finished_by : Conversation → List ℕ → Conversation
finished_by s [] = s
finished_by s (b ∷ bs) = after_line s (b ∷ bs)

-- a console stands where a stream does
pub record InStep (c : Console) (st : Stream) : Type 0 where
  pub session : meant c.session ≡ st.conversation
  pub held : Holds c.held st.line
