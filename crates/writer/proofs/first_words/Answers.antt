-- `writer::first_words` meets its contract: after i turns the buffer starts with the words of the first i values, and the sum is theirs.
-- Assumes nothing.
use Prim.Native.Nat.{◌<◌, ◌+◌}
use mathlib.Core.Path.{◌≡◌, refl, ◌∙◌}
use native.Mathlib.Numerals.{add-one}
use native.Mathlib.Omega.{arith}
use borrow.Author.Rules.{rules}
use lib.ListN.{length, take}
use lib.Seq.{length-take-le}
use Rattle.words.specs.Encode.{total, checksum_of, words_from}
use Rattle.words.proofs.Words.{stored, length-words, words_more, total-more}
use Rattle.writer.proofs.first_words.Goals as goal

pub loop-i-init : goal.loop-i-init
unfolding total checksum_of words_from
loop-i-init c = record { filled = refl; summed = refl }

pub overflow_add-buffer : goal.overflow_add-buffer
overflow_add-buffer c = omega (arith, c.requires.1 c.loop-i.i)

pub overflow_add-sum : goal.overflow_add-sum
unfolding checksum_of
overflow_add-sum c = omega (arith, c.requires.1 c.loop-i.i)

pub loop-i-preserved : goal.loop-i-preserved
unfolding checksum_of
loop-i-preserved c =
    let v = c.args.values in
    let b = c.args.buffer.now in
    let i = c.loop-i.i in
    let n : length v ≡ 15 = search rules in
    let h : i < length v = omega arith in
    let filled = length-words 0 (take i v) ∙ length-take-le i v (omega arith) in
    let z : 0 + i ≡ i = omega arith in
    let t = total-more v i h in
    record {
      filled = rw (add-one, c.loop-i.invariant.filled, words_more 0 v i h, z) (stored (words_from 0 (take i v)) b i _ filled (omega arith));
      summed = rw add-one (omega arith);
    }
