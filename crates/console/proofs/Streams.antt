-- What is left of a chunk, up to its next LF: fed to a stream byte by byte, and taken by a console at once.
-- Assumes nothing.
use Prim.Native.Nat.{ℕ, suc, ◌+◌, ◌≤◌, ◌<◌}
use mathlib.Core.Bool.{Bool, true, false, cond}
use mathlib.Core.List.{List, [], ◌∷◌, ◌++◌, append_assoc, append-nil}
use mathlib.Core.Path.{◌≡◌, refl, sym, ap, subst, ◌∙◌}
use native.Mathlib.Omega.{arith}
use borrow.Author.Tests.{ltb-true, ltb-false}
use lib.Dec.{eqb}
use lib.ListN.{length, take, drop}
use Rattle.std.specs.Prelude.{Option, Some, None}
use Rattle.std.specs.Io.KnownBytes.{Appends}
use Rattle.scan.specs.Bytes.{index_of, index_after}
use Rattle.gather.specs.declared.Held.{Held}
use Rattle.gather.specs.Lines.{Holds, part_of, ends_in, rest_of}
use Rattle.session.specs.Answering.{Conversation, meant}
use Rattle.console.specs.declared.Console.{Console}
use Rattle.console.specs.declared.Output.{Output}
use Rattle.console.specs.Stream.{Stream, after_line, answer_to, with_byte, with_bytes, InStep}
use Rattle.console.specs.Written.{answer_at, answers_to, Writes, AllAnswered}

abbrev at : Conversation → List ℕ → Stream
at s line = record { conversation = s; line = line }

-- ---- to the next LF, and where there is none: where the stream stands, and what is answered

-- a line has ended, and the rest comes after it
abbrev Passed : Conversation → List ℕ → List ℕ → Stream → List ℕ → Type 0
Passed s line rest stream text =
    (stream ≡ with_bytes (at (after_line s line) []) rest) × (text ≡ answer_to s line ++ answers_to (at (after_line s line) []) rest)

past-lf : (ys : List ℕ) (s : Conversation) (line : List ℕ) → index_of 10 ys < length ys
    → Passed s (line ++ take (index_of 10 ys) ys) (drop (suc (index_of 10 ys)) ys) (with_bytes (at s line) ys) (answers_to (at s line) ys)
unfolding index_of index_after with_byte answer_at
past-lf [] s line h = absurd (omega arith)
past-lf (y ∷ ys) s line h = go (eqb y 10) (past-lf ys s (line ++ y ∷ [])) h
  where
    go : (t : Bool)
        → (index_of 10 ys < length ys
        → Passed s ((line ++ y ∷ []) ++ take (index_of 10 ys) ys) (drop (suc (index_of 10 ys)) ys) (with_bytes (at s (line ++ y ∷ [])) ys)
        (answers_to (at s (line ++ y ∷ [])) ys))
        → index_after t (index_of 10 ys) < suc (length ys)
        → Passed s (line ++ take (index_after t (index_of 10 ys)) (y ∷ ys)) (drop (suc (index_after t (index_of 10 ys))) (y ∷ ys))
        (with_bytes (cond t (at (after_line s line) []) (at s (line ++ y ∷ []))) ys)
        (cond t (answer_to s line) [] ++ answers_to (cond t (at (after_line s line) []) (at s (line ++ y ∷ []))) ys)
    go true k h =
        subst (λ (l : List ℕ). Passed s l ys (with_bytes (at (after_line s line) []) ys) (answer_to s line ++ answers_to (at (after_line s line) []) ys))
        (sym (append-nil line)) (refl, refl)
    go false k h =
        subst (λ (l : List ℕ). Passed s l (drop (suc (index_of 10 ys)) ys) (with_bytes (at s (line ++ y ∷ [])) ys) (answers_to (at s (line ++ y ∷ [])) ys))
        (append_assoc line (y ∷ []) (take (index_of 10 ys) ys)) (k (omega arith))

-- the line goes on
abbrev Open : Conversation → List ℕ → Stream → List ℕ → Type 0
Open s line stream text = (stream ≡ at s line) × (text ≡ [])

no-lf : (ys : List ℕ) (s : Conversation) (line : List ℕ) → length ys ≤ index_of 10 ys
    → Open s (line ++ take (index_of 10 ys) ys) (with_bytes (at s line) ys) (answers_to (at s line) ys)
unfolding index_of index_after with_byte answer_at
no-lf [] s line h = (ap (at s) (sym (append-nil line)), refl)
no-lf (y ∷ ys) s line h = go (eqb y 10) (no-lf ys s (line ++ y ∷ [])) h
  where
    go : (t : Bool)
        → (length ys ≤ index_of 10 ys
        → Open s ((line ++ y ∷ []) ++ take (index_of 10 ys) ys) (with_bytes (at s (line ++ y ∷ [])) ys) (answers_to (at s (line ++ y ∷ [])) ys))
        → suc (length ys) ≤ index_after t (index_of 10 ys)
        → Open s (line ++ take (index_after t (index_of 10 ys)) (y ∷ ys)) (with_bytes (cond t (at (after_line s line) []) (at s (line ++ y ∷ []))) ys)
        (cond t (answer_to s line) [] ++ answers_to (cond t (at (after_line s line) []) (at s (line ++ y ∷ []))) ys)
    go true k h = absurd (omega arith)
    go false k h =
        subst (λ (l : List ℕ). Open s l (with_bytes (at s (line ++ y ∷ [])) ys) (answers_to (at s (line ++ y ∷ [])) ys))
        (append_assoc line (y ∷ []) (take (index_of 10 ys) ys)) (k (omega arith))

-- there is an LF, or none, as `Held::take` says
module _ (chunk : List ℕ) where
  found : (rest : List ℕ) → Some rest ≡ rest_of chunk → (index_of 10 chunk < length chunk) × (rest ≡ drop (suc (index_of 10 chunk)) chunk)
  found rest = go (ends_in chunk) refl
    where
      go : (t : Bool) → ends_in chunk ≡ t → Some rest ≡ cond t (Some (drop (index_of 10 chunk + cond t 1 0) chunk)) None
          → (index_of 10 chunk < length chunk) × (rest ≡ drop (suc (index_of 10 chunk)) chunk)
      go true e r =
          let j : index_of 10 chunk + 1 ≡ suc (index_of 10 chunk) = omega arith in
          (ltb-true (index_of 10 chunk) (length chunk) e, rw (sym j) cc)
      go false e r = let z : Some rest ≡ None = r in cc

  not_found : None ≡ rest_of chunk → length chunk ≤ index_of 10 chunk
  not_found = go (ends_in chunk) refl
    where
      go : (t : Bool) → ends_in chunk ≡ t → None ≡ cond t (Some (drop (index_of 10 chunk + cond t 1 0) chunk)) None → length chunk ≤ index_of 10 chunk
      go true e r = cc
      go false e r = ltb-false (index_of 10 chunk) (length chunk) e

-- ---- what is written

appends-then : (a b c : Option (List ℕ)) (xs ys : List ℕ) → Appends a b xs → Appends b c ys → Appends a c (xs ++ ys)
appends-then None b c xs ys h k = tt
appends-then (Some ls) None c xs ys h k = absurd h
appends-then (Some ls) (Some ms) None xs ys h k = absurd k
appends-then (Some ls) (Some ms) (Some ns) xs ys h k = k ∙ ap (λ (l : List ℕ). l ++ ys) h ∙ append_assoc ls xs ys

appends-nothing : (a : Option (List ℕ)) → Appends a a []
appends-nothing None = tt
appends-nothing (Some ls) = sym (append-nil ls)

module _ {W : Type 0} (contents : W → Option (List ℕ)) where
  pub writes-then : (a b c : Output W) (xs ys : List ℕ) → Writes contents a b xs → Writes contents b c ys → Writes contents a c (xs ++ ys)
  writes-then a b c xs ys h k o =
      let u = k o in
      let v = h u.0 in (v.0, appends-then (contents a.writer) (contents b.writer) (contents c.writer) xs ys v.1 u.1)

  pub writes-nothing : (a : Output W) → Writes contents a a []
  writes-nothing a o = (o, appends-nothing (contents a.writer))

  -- of a chunk all but the rest is answered
  pub record Served (out out' : Output W) (chunk rest : List ℕ) (c : Console) (st : Stream) : Type 0 where
    pub stream : Stream
    pub in_step : InStep c stream
    pub moved : with_bytes st chunk ≡ with_bytes stream rest
    pub text : List ℕ
    pub written : Writes contents out out' text
    pub answers : answers_to st chunk ≡ text ++ answers_to stream rest

  pub at-first : (out : Output W) (chunk : List ℕ) (c : Console) (st : Stream) → InStep c st → Served out out chunk chunk c st
  at-first out chunk c st i = record { stream = st; in_step = i; moved = refl; text = []; written = writes-nothing out; answers = refl }

  module _ {out out' : Output W} {chunk rest : List ℕ} {c : Console} {st : Stream} (held : Held 256)
      (holds : (bs : List ℕ) → Holds c.held bs → Holds held (bs ++ part_of rest)) (m : Served out out' chunk rest c st) where
    abbrev line : List ℕ
    line = m.stream.line ++ part_of rest

    -- a line ends in what is left, and is answered
    pub one-line : (out'' : Output W) (after : List ℕ) (d : Console) → Some after ≡ rest_of rest
        → ((bs : List ℕ) → Holds held bs → meant d.session ≡ after_line (meant c.session) bs)
        → ((bs : List ℕ) → Holds held bs → Writes contents out' out'' (answer_to (meant c.session) bs))
        → Holds d.held [] → Served out out'' chunk after d st
    one-line out'' after d r a w n =
        let s = m.stream.conversation in
        let f = found rest after r in
        let k : Holds held line = holds m.stream.line m.in_step.held in
        let p : Passed s line after (with_bytes m.stream rest) (answers_to m.stream rest) =
        subst (λ (l : List ℕ). Passed s line l (with_bytes m.stream rest) (answers_to m.stream rest)) (sym f.1) (past-lf rest s m.stream.line f.0)
        in
        record {
          stream = at (after_line s line) [];
          in_step = record { session = a line k ∙ ap (λ (t : Conversation). after_line t line) m.in_step.session; held = n };
          moved = m.moved ∙ p.0;
          text = m.text ++ answer_to s line;
          written =
              writes-then out out' out'' m.text (answer_to s line) m.written
              (subst (λ (t : Conversation). Writes contents out' out'' (answer_to t line)) m.in_step.session (w line k));
          answers = m.answers ∙ ap (λ (l : List ℕ). m.text ++ l) p.1 ∙ sym (append_assoc m.text (answer_to s line) _);
        }

    -- the line goes on past the chunk
    pub no-line : None ≡ rest_of rest → AllAnswered contents out out' (record { session = c.session; held = held }) chunk st
    no-line r =
        let d : Console = record { session = c.session; held = held } in
        let o = no-lf rest m.stream.conversation m.stream.line (not_found rest r) in
        record {
          in_step = subst (InStep d) (sym (m.moved ∙ o.0)) (record { session = m.in_step.session; held = holds m.stream.line m.in_step.held });
          written = subst (Writes contents out out') (sym (m.answers ∙ ap (λ (l : List ℕ). m.text ++ l) o.1 ∙ append-nil m.text)) m.written;
        }
