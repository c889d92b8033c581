-- `spelling::spelled` meets its contract: what the text spells is what the rest of it spells after the value so far.
-- Assumes nothing.
use Prim.Native.Nat.{ℕ, suc, ◌+◌, ◌*◌, ◌^◌, ◌≤◌, ◌<◌}
use mathlib.Core.Path.{◌≡◌, sym, ap, subst, ◌∙◌}
use native.Mathlib.Nat.{le_trans, pow-le-pow_left, pow-le-pow_right}
use native.Mathlib.Numerals.{add-one}
use native.Mathlib.Omega.{arith}
use borrow.Author.Tests.{eqb-true, eqb-false}
use lib.ListN.{length, drop}
use lib.Seq.{drop-length}
use Rattle.spelling.specs.Spelling.{spelled_from, Below}
use Rattle.spelling.proofs.Reach.{further, stops, reach, within, no-digits, many-digits, most-below}
use Rattle.spelling.proofs.spelled.Goals as goal
use Rattle.spelling.proofs.spelled.Goals.{then-is_empty-via-then-is_empty, then-is_empty-via-else-is_empty+then-most-text}

-- one digit more, in a text that may have it, reaches no further than 64 bits
fits : (base v d i : ℕ) → base ≤ 16 → i < 10 → v < base ^ i → d < base → v * base + d < 16 ^ 10
fits base v d i b n h t = let sixteen : 1 ≤ 16 = omega arith in omega (arith, reach base v d i h t, le_trans (pow-le-pow_left b (suc i)) (pow-le-pow_right sixteen n))

pub returns-then-is_empty-clause-value : goal.returns-then-is_empty-clause-value
returns-then-is_empty-clause-value c =
    let a = c.args in
    elim c.then-is_empty.branch [
      | then-is_empty-via-then-is_empty w ↦ sym (no-digits a.base a.most a.text.now (eqb-true _ 0 (sym c.is_empty.ensures ∙ w.if-is_empty.true)))
      | then-is_empty-via-else-is_empty+then-most-text w ↦ sym (many-digits a.base a.most a.text.now w.if-most-text.true)
    ]

pub returns-in_err-digit-clause-value : goal.returns-in_err-digit-clause-value
returns-in_err-digit-clause-value c =
    let a = c.args in
    let l = c.loop-byte in
    c.from_residual.ensures
    ∙ sym
    (within a.base a.most a.text.now (omega arith) (omega arith)
    ∙ l.invariant.the_rest
    ∙ stops a.base l.value a.text.now l.byte-index c.requires.base_bound (omega arith) c.in_err-digit.ensures.value)

pub overflow_mul-value : goal.overflow_mul-value
overflow_mul-value c =
    let l = c.loop-byte in
    let digit = c.in_ok-digit.ensures.value in
    omega (arith, fits c.args.base l.value c.in_ok-digit.digit l.byte-index c.requires.base_bound (omega arith) l.invariant.reached (omega arith))

pub overflow_add-value : goal.overflow_add-value
overflow_add-value c =
    let l = c.loop-byte in
    let digit = c.in_ok-digit.ensures.value in
    omega (arith, fits c.args.base l.value c.in_ok-digit.digit l.byte-index c.requires.base_bound (omega arith) l.invariant.reached (omega arith))

pub loop-byte-preserved : goal.loop-byte-preserved
loop-byte-preserved c =
    let a = c.args in
    let l = c.loop-byte in
    let digit = c.in_ok-digit.ensures.value in record {
      reached = rw add-one (reach a.base l.value c.in_ok-digit.digit l.byte-index l.invariant.reached (omega arith));
      the_rest =
          rw (add-one, digit.1)
          (l.invariant.the_rest ∙ further a.base l.value a.text.now l.byte-index c.requires.base_bound (omega arith) digit.0);
    }

pub returns : goal.returns
unfolding spelled_from
returns c =
    let a = c.args in
    let l = c.loop-byte in
    let p = eqb-false _ 0 (sym c.is_empty.ensures ∙ c.if-is_empty.false) in
    let n : l.byte-index ≡ length a.text.now = omega arith in
    let value =
    sym
    (within a.base a.most a.text.now (omega arith) (omega arith)
    ∙ l.invariant.the_rest
    ∙ ap (λ k. spelled_from a.base l.value (drop k a.text.now)) n
    ∙ ap (spelled_from a.base l.value) (drop-length a.text.now)) in record {
      value = value;
      below = subst (Below (a.base ^ a.most)) (sym value) (most-below a.base a.most a.text.now (omega arith));
    }
