-- Which numbers are methods, which switch picks route c, and how the code finds the routes: tests that antt computes over the table.
-- Assumes nothing.
use mathlib.Core.Path.{◌≡◌, refl, sym, ap, subst, ◌∙◌}
use mathlib.Core.Bool.{Bool, true, false, cond, ◌&&◌, ◌||◌}
use mathlib.Core.List.{List, [], ◌∷◌, map, head-eq_of_cons-eq, tail-eq_of_cons-eq}
use mathlib.Core.Option.{Option, none, some}
use Prim.Native.Nat.{ℕ, ◌+◌, ◌-◌, ◌%◌, ◌^◌, ◌≤◌, ◌<◌}
use native.Mathlib.Omega.{arith}
use lib.Dec.{eqb, leb, ltb}
use Rattle.counts.specs.Between.{between}
use Rattle.counts.specs.Bit.{bit_of}
use Rattle.ranges.specs.Range.{method_ok}
use Rattle.counts.proofs.Between.{over}
use borrow.Author.Tests.{eqb-true, leb-true, ltb-true, ltb-false, ne_eqb}
use Rattle.legs.specs.declared.events.Switches.{Switches}
use Rattle.legs.specs.Events.{switches_in}
use Rattle.legs.specs.Routes.{Row, Entry, table, lookup, row_of}
use Rattle.legs.specs.Numbers.{main_in, turn_in, skip_in, picks_in, main_route, turn_route, skip_route, skips, start_route, skip_by}
use Rattle.legs.proofs.Computed.{listed, agree}

-- what is computed of every entry of a table is so of a row that is found
pub found-same : {A : Type 0} (f g : ℕ → Row → A) (m : ℕ) (r : Row) (es : List Entry)
    → map (λ e. f e.method e.row) es ≡ map (λ e. g e.method e.row) es → lookup m es ≡ some r → f m r ≡ g m r
found-same f g m r [] q p = let z : ◌≡◌ {A = ℕ} 0 1 = cc in absurd (omega arith)
found-same f g m r (e ∷ es) q p = go (eqb m e.method) refl (found-same f g m r es (tail-eq_of_cons-eq q)) p
  where
    go : (b : Bool) → eqb m e.method ≡ b → (lookup m es ≡ some r → f m r ≡ g m r) → cond b (some e.row) (lookup m es) ≡ some r → f m r ≡ g m r
    go true t ih p = let s : e.row ≡ r = cc in rw (eqb-true m e.method t) (subst (λ x. f e.method x ≡ g e.method x) s (head-eq_of_cons-eq q))
    go false t ih p = ih p

-- no method is 36 or more
absent : (m : ℕ) (es : List Entry) → map (λ e. ltb e.method 36) es ≡ map (λ e. true) es → 36 ≤ m → lookup m es ≡ none
absent m [] q h = refl
absent m (e ∷ es) q h =
    let k : e.method < 36 = ltb-true e.method 36 (head-eq_of_cons-eq q) in
    rw (ne_eqb m e.method (λ p. omega arith)) (absent m es (tail-eq_of_cons-eq q) h)

pub beyond : (m : ℕ) → 36 ≤ m → row_of m ≡ none
unfolding row_of
beyond m h = absent m table refl h

-- what is computed of every number below 36, and of those with no row, is so of every number
pub everywhere : {A : Type 0} (f : Option Row → A) (g : ℕ → A) → listed (λ m. f (row_of m)) 0 36 ≡ listed g 0 36
    → ((m : ℕ) → 36 ≤ m → f none ≡ g m)
    → (m : ℕ) → f (row_of m) ≡ g m
everywhere f g e far m = go (ltb m 36) refl
  where
    go : (b : Bool) → ltb m 36 ≡ b → f (row_of m) ≡ g m
    go true t = agree (λ n. f (row_of n)) g 36 e m (ltb-true m 36 t)
    go false t = let h = ltb-false m 36 t in rw (beyond m h) (far m h)

-- the methods of the table are those that a sheet admits
abbrev pub is_row : Option Row → Bool
is_row none = false
is_row (some r) = true

pub method-rule : (m : ℕ) → is_row (row_of m) ≡ method_ok m
unfolding row_of method_ok
method-rule =
    everywhere is_row method_ok refl (λ n h. rw (
      over 1 2 n (omega arith) (omega arith),
      over 17 18 n (omega arith) (omega arith),
      over 23 30 n (omega arith) (omega arith),
      over 33 35 n (omega arith) (omega arith),
    ))

-- Where the code finds the other routes: b goes on as route a of the method 53 less, whose first leg turns.
abbrev pub turn_by : ℕ → ℕ
turn_by m = cond (between 23 30 m) (main_route (53 - m) - 32) 0

pub turn_rule : (m : ℕ) → turn_route m ≡ turn_by m
unfolding row_of main_route turn_route
turn_rule = everywhere turn_in turn_by refl (λ n h. rw (over 23 30 n (omega arith) (omega arith)))

-- A start picks route c by the switch that a's first leg awaits, in a method up to 30; c is then as the code finds it.
abbrev started : Option Row → Switches → ℕ
started o s = cond (picks_in o s) (skip_in o) (main_in o)

abbrev method_start : ℕ → ℕ → ℕ
method_start m bits = cond (method_ok m && leb m 30) (cond (bit_of bits (main_route m % 4)) (skip_by m) (main_route m)) (main_route m)

of-methods : (m bits : ℕ) → started (row_of m) (switches_in bits) ≡ method_start m bits
unfolding row_of main_route turn_route method_ok
of-methods m bits =
    everywhere (λ o. started o (switches_in bits)) (λ n. method_start n bits) refl (λ n h. rw (
      over 1 2 n (omega arith) (omega arith),
      over 17 18 n (omega arith) (omega arith),
      over 23 30 n (omega arith) (omega arith),
      over 33 35 n (omega arith) (omega arith),
      beyond n h,
    )) m

pub start_by : (m bits : ℕ)
    → start_route m (switches_in bits) ≡ cond (leb m 30 && bit_of bits (main_route m % 4)) (skip_by m) (main_route m)
unfolding start_route skips skip_route main_route turn_route
start_by m bits = go (row_of m) refl
  where
    split : (a b : Bool) (x y : ℕ) → cond a (cond b x y) y ≡ cond (a && b) x y
    split true b x y = refl
    split false b x y = refl

    nothing : (a b : Bool) → ◌≡◌ {A = ℕ} 0 (cond a (cond b 0 0) 0)
    nothing true true = refl
    nothing true false = refl
    nothing false b = refl

    go : (o : Option Row) → row_of m ≡ o
        → start_route m (switches_in bits) ≡ cond (leb m 30 && bit_of bits (main_route m % 4)) (skip_by m) (main_route m)
    go none e = rw e (nothing (leb m 30 && bit_of bits 0) (between 25 26 m || between 29 30 m))
    go (some r) e =
        of-methods m bits
        ∙ ap (λ (b : Bool). cond (b && leb m 30) (cond (bit_of bits (main_route m % 4)) (skip_by m) (main_route m)) (main_route m)) (sym (method-rule m) ∙ ap is_row e)
        ∙ split (leb m 30) (bit_of bits (main_route m % 4)) (skip_by m) (main_route m)

-- routes fit in three bytes, and a first leg that turns has 32 to give
small : (f : Option Row → ℕ) → listed (λ m. ltb (f (row_of m)) (2 ^ 24)) 0 36 ≡ listed (λ m. true) 0 36 → ltb (f none) (2 ^ 24) ≡ true
    → (m : ℕ) → f (row_of m) < 2 ^ 24
small f e z m = ltb-true (f (row_of m)) (2 ^ 24) (everywhere (λ o. ltb (f o) (2 ^ 24)) (λ n. true) e (λ n h. z) m)

main-small : (m : ℕ) → main_route m < 2 ^ 24
unfolding row_of main_route
main-small = small main_in refl refl

pub turn_small : (m : ℕ) → turn_route m < 2 ^ 24
unfolding row_of turn_route
turn_small = small turn_in refl refl

skip-small : (m : ℕ) → skip_route m < 2 ^ 24
unfolding row_of skip_route
skip-small = small skip_in refl refl

pub start_small : (m : ℕ) (s : Switches) → start_route m s < 2 ^ 24
unfolding start_route
start_small m s = go (skips m s)
  where
    go : (b : Bool) → cond b (skip_route m) (main_route m) < 2 ^ 24
    go true = skip-small m
    go false = main-small m

pub turns_main : (m : ℕ) → 23 ≤ m → m ≤ 30 → 32 ≤ main_route m
unfolding row_of main_route
turns_main m h k =
    let e = agree (λ j. leb 32 (main_route (23 + j))) (λ j. true) 8 refl (m - 23) (omega arith) in
    let q : 23 + (m - 23) ≡ m = omega arith in
    leb-true 32 (main_route m) (rw q at e)
