-- The front of a buffer that holds the same word everywhere.
-- Assumes nothing.
use Rattle.std.proofs.Common.{ℕ, ◌+◌, ◌-◌, ◌≤◌, ◌≡◌, sym, ap, ◌∙◌, arith, take, replicate}
use lib.ListN.{length-replicate, replicate-append-replicate}
use lib.Seq.{take_at}

pub first_words : (n m x : ℕ) → n ≤ m → take n (replicate m x) ≡ replicate n x
first_words n m x h =
    let k : m ≡ n + (m - n) = omega arith in
    ap (λ (j : ℕ). take n (replicate j x)) k
    ∙ ap (take n) (sym (replicate-append-replicate n (m - n) x))
    ∙ take_at (replicate n x) (replicate (m - n) x) n (length-replicate n x)
