-- docs/LINES.md: "One line in, one line out, in order": what an input is answered, and what of it is written.
-- Assumes nothing.
use Rattle.std.specs.Prelude.{ℕ, cond, List, [], ◌∷◌, ◌++◌, ◌≡◌, eqb, length, Option, IsOk}
use Rattle.std.specs.Io.KnownBytes.{Appends, Consumes, IsAtEnd}
use Rattle.session.specs.Answering.{Conversation}
use Rattle.console.specs.declared.Console.{Console}
use Rattle.console.specs.declared.Output.{Output}
use Rattle.console.specs.Stream.{Stream, before_input, answer_to, with_byte, with_bytes, InStep}

-- what is answered at one byte more: at an LF the line that it ends
unfoldable pub answer_at : Stream → ℕ → List ℕ
answer_at st b = cond (eqb b 10) (answer_to st.conversation st.line) []

-- the answers to the lines that end in the bytes, one after the other
abbrev pub answers_to : Stream → List ℕ → List ℕ
answers_to st [] = []
answers_to st (b ∷ bs) = answer_at st b ++ answers_to (with_byte st b) bs

-- what stands after the last LF, if anything, is a line
abbrev pub last_answer : Conversation → List ℕ → List ℕ
last_answer s [] = []
last_answer s (b ∷ bs) = answer_to s (b ∷ bs)

-- all that an input is answered
abbrev pub answers_of : List ℕ → List ℕ
answers_of input =
    answers_to before_input input
    ++ last_answer (with_bytes before_input input).conversation (with_bytes before_input input).line

-- where no write has failed, the text was written and nothing else
abbrev pub Writes : {W : Type 0} → (W → Option (List ℕ)) → Output W → Output W → List ℕ → Type 0
Writes contents out out' text = IsOk out'.written → IsOk out.written × Appends (contents out.writer) (contents out'.writer) text

-- the console stands where the stream does after these bytes, and what they are answered is written
pub record AllAnswered {W : Type 0} (contents : W → Option (List ℕ)) (out out' : Output W) (c : Console) (bytes : List ℕ) (st : Stream) : Type 0 where
  pub in_step : InStep c (with_bytes st bytes)
  pub written : Writes contents out out' (answers_to st bytes)

-- a read took the next bytes of the input, and their answers are written; none are left where it took none
pub record ReadAnswered {R W : Type 0} (remaining : R → Option (List ℕ)) (contents : W → Option (List ℕ)) (input input' : R) (out out' : Output W) (c : Console) (n : ℕ) (st : Stream) : Type 0 where
  pub bytes : List ℕ
  pub read : Consumes (remaining input) (remaining input') bytes
  pub answered : AllAnswered contents out out' c bytes st
  pub count : n ≡ length bytes
  pub ends : n ≡ 0 → IsAtEnd (remaining input')
