-- What the writer fills a buffer with is taken over as the settings that it was given: it accepts what may be sent, and its words are theirs. A later layout
-- may send what an earlier one may.
-- Assumes nothing.
use Rattle.std.specs.Prelude.{Err, Ok}
use Prim.Native.Nat.{ℕ, ◌≤◌}
use mathlib.Core.Path.{◌≡◌, refl, ◌∙◌}
use mathlib.Core.Bool.{Bool, true, false, cond, not}
use mathlib.Core.List.{List}
use borrow.Author.Tests.{ltb-false}
use lib.ListN.{length, take, drop}
use lib.Seq.{take_at}
use Rattle.settings.specs.declared.Settings.{Settings}
use Rattle.settings.specs.declared.Refusal.TheVariants.{UnknownLayout, BufferTooShort}
use Rattle.settings.specs.Refusal.{Verdict}
use Rattle.layouts.specs.Layout.{is_layout}
use Rattle.checks.proofs.Numbers.{refused-accepted}
use Rattle.words.specs.Encode.{words_of}
use Rattle.words.proofs.Words.{words_size}
use Rattle.writer.specs.Write.{needed, buffer_too_short, write_verdict, written}
use Rattle.writer.proofs.Numbers.{accepts-exactly}
use Rattle.roundtrip.proofs.Back.{later-sends}
use Rattle.demands.specs.Whole.{WrittenTrip, RewrittenTrip}
use Rattle.demands.proofs.Whole.{round_trip}

module _ (layout : ℕ) (s : Settings) (buffer : List ℕ) (v : write_verdict layout s buffer ≡ Ok tt) where
  long-enough : needed layout ≤ length buffer
  unfolding write_verdict
  long-enough = go (not (is_layout layout)) (buffer_too_short layout buffer) refl _ v
    where
      go : (a b : Bool) → buffer_too_short layout buffer ≡ b → (rest : Verdict)
          → cond a (Err UnknownLayout) (cond b (Err BufferTooShort) rest) ≡ Ok tt → needed layout ≤ length buffer
      go true b e rest r = refused-accepted UnknownLayout r
      go false true e rest r = refused-accepted BufferTooShort r
      go false false e rest r = ltb-false (length buffer) (needed layout) e

  front : take (needed layout) (written layout s buffer) ≡ words_of layout s
  front = rw v (take_at (words_of layout s) (drop (needed layout) buffer) (needed layout) (words_size layout s))

pub written-trip : WrittenTrip
written-trip a layout s buffer es w v e idle =
    round_trip a layout s es w ((accepts-exactly layout s buffer (long-enough layout s buffer v)).0 v) (e ∙ front layout s buffer v) idle

pub rewritten-trip : RewrittenTrip
rewritten-trip a l m s buffer ok le k h =
    let v = (accepts-exactly m s buffer h).1 (later-sends l m s ok le k) in
    record { accepted = v; taken_over = λ es w e idle. written-trip a m s buffer es w v e idle }
