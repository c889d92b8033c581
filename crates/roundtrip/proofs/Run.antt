-- A run of words: the values that have come, from a start word on, and zeros for those to come.
-- Assumes nothing.
use Prim.Native.Nat.{ℕ, suc, ◌+◌, ◌-◌, ◌<◌}
use mathlib.Core.Path.{◌≡◌, refl, sym, ◌∙◌}
use mathlib.Core.List.{List, [], ◌∷◌, ◌++◌}
use native.Mathlib.Omega.{arith}
use lib.ListN.{length, set, replicate, length-append}
use lib.Seq.{set_at, append_snoc}
use Rattle.words.specs.Decode.{layout_of}
use Rattle.reader.specs.Pending.{Pending}
use Rattle.reader.specs.Read.{layout_in, kept}
use Rattle.roundtrip.proofs.Values.{zeros}

abbrev pub pending_of : List ℕ → Pending
pending_of xs = record { count = length xs; values = xs ++ replicate (15 - length xs) 0 }

pub layout-of-run : (xs : List ℕ) → layout_in (pending_of xs) ≡ layout_of xs
layout-of-run xs = zeros xs (15 - length xs) 0

-- one more
pub kept-is : (xs : List ℕ) (x : ℕ) → length xs < 15 → kept (pending_of xs) (length xs) x ≡ pending_of (xs ++ x ∷ [])
kept-is xs x h =
    let n = length xs in
    let m = 14 - n in
    let left : 15 - n ≡ suc m = omega arith in
    let more : length (xs ++ x ∷ []) ≡ n + 1 = length-append xs (x ∷ []) in
    let rest : 15 - (n + 1) ≡ m = omega arith in
    let stored : set (xs ++ replicate (15 - n) 0) n x ≡ (xs ++ x ∷ []) ++ replicate m 0 =
    rw left (set_at xs 0 (replicate m 0) x n refl ∙ sym (append_snoc xs x (replicate m 0))) in
    rw (more, rest, stored)
