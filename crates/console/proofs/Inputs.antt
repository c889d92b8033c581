-- An input that is known: how far the reads have come, and what of it is answered.
-- Assumes nothing.
use Prim.Native.Nat.{ℕ, ◌+◌, ◌≤◌}
use mathlib.Core.List.{List, [], ◌∷◌, ◌++◌, append_assoc, append-nil}
use mathlib.Core.Path.{◌≡◌, refl, sym, ap, subst, ◌∙◌}
use native.Mathlib.Omega.{arith}
use lib.ListN.{length, length-append}
use Rattle.std.specs.Prelude.{Option, Some, None}
use Rattle.std.specs.Io.KnownBytes.{Consumes, IsAtEnd}
use Rattle.console.specs.declared.Console.{Console}
use Rattle.console.specs.declared.Output.{Output}
use Rattle.console.specs.Stream.{Stream, with_byte, with_bytes, InStep}
use Rattle.console.specs.Written.{answer_at, answers_to, Writes, AllAnswered, ReadAnswered}
use Rattle.console.proofs.Streams.{writes-then, writes-nothing}

with-append : (st : Stream) (xs ys : List ℕ) → with_bytes st (xs ++ ys) ≡ with_bytes (with_bytes st xs) ys
with-append st [] ys = refl
with-append st (x ∷ xs) ys = with-append (with_byte st x) xs ys

answers-append : (st : Stream) (xs ys : List ℕ) → answers_to st (xs ++ ys) ≡ answers_to st xs ++ answers_to (with_bytes st xs) ys
answers-append st [] ys = refl
answers-append st (x ∷ xs) ys =
    ap (λ (l : List ℕ). answer_at st x ++ l) (answers-append (with_byte st x) xs ys)
    ∙ sym (append_assoc (answer_at st x) (answers_to (with_byte st x) xs) (answers_to (with_bytes (with_byte st x) xs) ys))

empty : (xs : List ℕ) → length xs ≤ 0 → xs ≡ []
empty [] h = refl
empty (x ∷ xs) h = absurd (omega arith)

module _ {R W : Type 0} (remaining : R → Option (List ℕ)) (contents : W → Option (List ℕ)) where
  -- of the input bs some bytes are read and answered; each read took one at least
  pub record Reached (input : R) (out out' : Output W) (c : Console) (reads : ℕ) (bs : List ℕ) (st : Stream) : Type 0 where
    pub done : List ℕ
    pub rest : List ℕ
    pub whole : bs ≡ done ++ rest
    pub left : remaining input ≡ Some rest
    pub answered : AllAnswered contents out out' c done st
    pub taken : reads ≤ length done

  pub at-first : (input : R) (out : Output W) (c : Console) (bs : List ℕ) (st : Stream) → remaining input ≡ Some bs → InStep c st → Reached input out out c 0 bs st
  at-first input out c bs st e i =
      record { done = []; rest = bs; whole = refl; left = e; answered = record { in_step = i; written = writes-nothing contents out }; taken = omega arith }

  module _ {input : R} {out out' : Output W} {c : Console} {reads : ℕ} {bs : List ℕ} {st : Stream} (r : Reached input out out' c reads bs st) where
    -- one read more
    pub further : (input' : R) (out'' : Output W) (d : Console) (n reads' : ℕ) → ReadAnswered remaining contents input input' out' out'' d n (with_bytes st r.done)
        → reads' ≤ reads + n → Reached input' out out'' d reads' bs st
    further input' out'' d n reads' a h = go (remaining input') refl (subst (λ (o : Option (List ℕ)). Consumes o (remaining input') a.bytes) r.left a.read)
      where
        go : (o : Option (List ℕ)) → remaining input' ≡ o → Consumes (Some r.rest) o a.bytes → Reached input' out out'' d reads' bs st
        go None e k = absurd k
        go (Some rest) e k =
            record {
              done = r.done ++ a.bytes;
              rest = rest;
              whole = r.whole ∙ ap (λ (l : List ℕ). r.done ++ l) k ∙ sym (append_assoc r.done a.bytes rest);
              left = e;
              answered =
                  record {
                    in_step = subst (InStep d) (sym (with-append st r.done a.bytes)) a.answered.in_step;
                    written =
                        subst (Writes contents out out'') (sym (answers-append st r.done a.bytes))
                        (writes-then contents out out' out'' (answers_to st r.done) (answers_to (with_bytes st r.done) a.bytes) r.answered.written a.answered.written);
                  };
              taken = omega (arith, length-append r.done a.bytes, a.count, r.taken, h);
            }

    all-of : r.rest ≡ [] → AllAnswered contents out out' c bs st
    all-of e = subst (λ (l : List ℕ). AllAnswered contents out out' c l st) (sym (r.whole ∙ ap (λ (l : List ℕ). r.done ++ l) e ∙ append-nil r.done)) r.answered

    -- the input has ended
    pub to-the-end : IsAtEnd (remaining input) → AllAnswered contents out out' c bs st
    to-the-end e = all-of (subst IsAtEnd r.left e)

    -- the reads suffice
    pub enough : length bs ≤ reads → AllAnswered contents out out' c bs st
    enough h = all-of (empty r.rest (omega (arith, h, r.taken, ap (λ (l : List ℕ). length l) r.whole, length-append r.done r.rest)))
