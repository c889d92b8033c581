-- Two functions that antt computes to the same list of values agree at each of its places.
-- Assumes nothing.
use mathlib.Core.Path.{◌≡◌, ◌∙◌, sym, subst}
use mathlib.Core.List.{List, [], ◌∷◌, head-eq_of_cons-eq, tail-eq_of_cons-eq}
use Prim.Native.Nat.{ℕ, zero, suc, ◌+◌, ◌<◌}
use native.Mathlib.Nat.{add-zero, zero-add, add-suc, suc-add, le_of_suc-le-suc, not-suc-le-zero}

module _ {A : Type 0} where
  -- f at n numbers from i on
  abbrev pub listed : (ℕ → A) → ℕ → ℕ → List A
  listed f i zero = []
  listed f i (suc n) = f i ∷ listed f (suc i) n

  from : (f g : ℕ → A) (n i k : ℕ) → listed f i n ≡ listed g i n → k < n → f (i + k) ≡ g (i + k)
  from f g zero i k e h = absurd (not-suc-le-zero h)
  from f g (suc n) i zero e h = rw (add-zero i) (head-eq_of_cons-eq e)
  from f g (suc n) i (suc k) e h =
      let q = add-suc i k ∙ sym (suc-add i k) in
      subst (λ (j : ℕ). f j ≡ g j) (sym q) (from f g n (suc i) k (tail-eq_of_cons-eq e) (le_of_suc-le-suc h))

  pub agree : (f g : ℕ → A) (n : ℕ) → listed f 0 n ≡ listed g 0 n → (k : ℕ) → k < n → f k ≡ g k
  agree f g n e k h = subst (λ (j : ℕ). f j ≡ g j) (zero-add k) (from f g n 0 k e h)
