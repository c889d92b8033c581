-- `writer::fill` meets its contract: past the first fourteen words each store fills one word more.
-- Assumes nothing.
use Prim.Native.Nat.{ℕ, ◌+◌, ◌%◌, ◌^◌, ◌<◌}
use mathlib.Core.Path.{◌≡◌, ◌∙◌}
use mathlib.Core.List.{List, ◌++◌}
use native.Mathlib.Omega.{arith}
use borrow.Author.Rules.{rules}
use lib.ListN.{length, take, drop, get_or, set}
use lib.Seq.{length-take-le}
use Rattle.words.specs.Word.{packed}
use Rattle.words.specs.Encode.{checksum_of, words_from, sealed}
use Rattle.words.proofs.Words.{stored, length-words, words_more, total-more}
use Rattle.writer.proofs.fill.Goals as goal

-- fourteen words and the end word, and one word between them
module _ (v b : List ℕ) (n : length v ≡ 15) where
  filled : (k : ℕ) → k < 16 → length (words_from 0 (take k v)) ≡ k
  filled k h = length-words 0 (take k v) ∙ length-take-le k v (omega arith)

  fourteen : 14 < length b → set (words_from 0 (take 14 v) ++ drop 14 b) 14 (packed 15 (checksum_of (take 14 v))) ≡ sealed (take 14 v) ++ drop 15 b
  fourteen h = stored (words_from 0 (take 14 v)) b 14 _ (filled 14 (omega arith)) h

  one_more : 15 < length b → set (words_from 0 (take 14 v) ++ drop 14 b) 14 (packed 14 (get_or v 14 0)) ≡ words_from 0 (take 15 v) ++ drop 15 b
  one_more h = rw (words_more 0 v 14 (omega arith)) (stored (words_from 0 (take 14 v)) b 14 _ (filled 14 (omega arith)) (omega arith))

  summed : (checksum_of (take 14 v) + get_or v 14 0) % 2 ^ 28 ≡ checksum_of (take 15 v)
  unfolding checksum_of
  summed = omega (arith, total-more v 14 (omega arith))

  fifteen : 15 < length b
      → set (set (words_from 0 (take 14 v) ++ drop 14 b) 14 (packed 14 (get_or v 14 0))) 15 (packed 15 ((checksum_of (take 14 v) + get_or v 14 0) % 2 ^ 28))
      ≡ sealed (take 15 v) ++ drop 16 b
  fifteen h = rw (one_more h, summed) (stored (words_from 0 (take 15 v)) b 15 _ (filled 15 (omega arith)) h)

pub overflow_add-buffer-then-size-eq15 : goal.overflow_add-buffer-then-size-eq15
unfolding checksum_of
overflow_add-buffer-then-size-eq15 c = omega (arith, c.first_words-sum.ensures.value, c.requires.3 14)

pub overflow_add-buffer-else-size-eq15 : goal.overflow_add-buffer-else-size-eq15
unfolding checksum_of
overflow_add-buffer-else-size-eq15 c = omega (arith, c.first_words-sum.ensures.value)

pub returns-then-size-eq15 : goal.returns-then-size-eq15
returns-then-size-eq15 c =
    let v = c.args.values in
    let n : length v ≡ 15 = search rules in
    rw (c.first_words-sum.ensures.value, c.first_words-sum.ensures.buffer_after, c.if-size-eq15.true) (fifteen v c.args.buffer.now n (omega arith))

pub returns-else-size-eq15 : goal.returns-else-size-eq15
returns-else-size-eq15 c =
    let v = c.args.values in
    let n : length v ≡ 15 = search rules in
    let s : c.args.size ≡ 14 = omega arith in
    rw (c.first_words-sum.ensures.value, c.first_words-sum.ensures.buffer_after, s) (fourteen v c.args.buffer.now n (omega arith))
