-- A line that has ended is answered as its bytes ask: the room is enough for every line, and the page for every answer.
-- Assumes nothing.
use Prim.Native.Nat.{ℕ, ◌≤◌}
use mathlib.Core.List.{List}
use mathlib.Core.Path.{◌≡◌, subst, ◌∙◌}
use native.Mathlib.Omega.{arith}
use lib.ListN.{length}
use Rattle.std.specs.Prelude.{Option, Some, None}
use Rattle.gather.specs.Lines.{ended_of, ended_in}
use Rattle.gather.proofs.Ends.{room-enough}
use Rattle.lines.specs.Lines.{line_of}
use Rattle.page.specs.Written.{Written}
use Rattle.page.specs.Page.{blank, printed}
use Rattle.page.proofs.Printing.{fits_blank}
use Rattle.session.specs.declared.Session.{Session}
use Rattle.session.specs.Answering.{Conversation, counted, Answers}
use Rattle.session.proofs.Fits.{fits, long-fits}
use Rattle.console.specs.Stream.{after_ended, after_line, answer_ended, answer_to}

pub answered : (after : Session) (page page' : Written) (s : Conversation) (bs : List ℕ) {text : Option (List ℕ)} → text ≡ ended_in 256 bs
    → Answers after page page' (after_ended s text) (answer_ended s text) → Answers after page page' (after_line s bs) (answer_to s bs)
answered after page page' s bs e a =
    subst (λ (x : Option (List ℕ)). Answers after page page' (after_ended s x) (answer_ended s x)) (e ∙ room-enough 256 bs (omega arith)) a

answer-fits : (s : Conversation) (text : Option (List ℕ)) → length (answer_ended s text) ≤ 1024
answer-fits s (Some text) = fits (counted s) (line_of text)
answer-fits s None = long-fits (counted s).lines

-- what stands on the page then is the answer
pub whole : (s : Conversation) (bs room : List ℕ) (loan : ℕ) (page : Written) → 1024 ≤ length room → page ≡ printed (blank room loan) (answer_to s bs) → page.text ≡ answer_to s bs
whole s bs room loan page h e = rw e (fits_blank room (answer_to s bs) loan (omega (arith, answer-fits s (ended_of bs), h)))
