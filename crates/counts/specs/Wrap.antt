-- Modulo 2 ^ k, and k bits read as signed.
-- Assumes nothing.
use Rattle.std.specs.Prelude.{ℕ, suc, ◌-◌, ◌%◌, ◌^◌, cond, ltb, ℤ, pos, negsuc, ◌-ℤ◌}

-- z modulo 2 ^ k, from 0 to 2 ^ k − 1: `negsuc n` is −(n + 1)
unfoldable pub modulo : ℕ → ℤ → ℕ
modulo k (pos n) = n % 2 ^ k
modulo k (negsuc n) = 2 ^ k - suc (n % 2 ^ k)

-- k bits read as signed (two's complement): from 2 ^ (k − 1) on, the number less 2 ^ k
unfoldable pub signed : ℕ → ℕ → ℤ
signed k n = cond (ltb n (2 ^ (k - 1))) (pos n) (pos n -ℤ pos (2 ^ k))

-- "taken modulo 2^32 and read as signed"
unfoldable pub wrapped : ℤ → ℤ
wrapped z = signed 32 (modulo 32 z)
