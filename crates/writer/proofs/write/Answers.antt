-- `writer::write` meets its contract: its tests are the definition's, in its order.
-- Assumes nothing.
use Rattle.std.specs.Prelude.{Err, Ok}
use Rattle.std.specs.Result.{IsErrAnd}
use Prim.Native.Nat.{ℕ, ◌+◌, ◌≤◌, ◌<◌}
use mathlib.Core.Path.{◌≡◌, sym, ap, ◌∙◌}
use mathlib.Core.Bool.{true, false}
use mathlib.Core.List.{List}
use native.Mathlib.Omega.{arith}
use borrow.Author.Tests.{lt-ltb, le-ltb}
use lib.ListN.{length}
use Rattle.settings.specs.declared.Settings.{Settings}
use Rattle.settings.specs.declared.Refusal.TheVariants.{UnknownLayout, BufferTooShort, LongValue, HomingTorqueLost}
use Rattle.settings.specs.declared.Refusal.{Refusal}
use Rattle.settings.specs.Refusal.{Verdict}
use Rattle.settings.specs.Ranges.{in_range}
use Rattle.layouts.specs.Layout.{is_layout, size, long_value, homing_torque_lost}
use Rattle.checks.specs.Check.{verdict_of}
use Rattle.checks.proofs.Numbers.{accepts, passes}
use Rattle.words.specs.Encode.{values_of, words_of}
use Rattle.words.proofs.Widths.{values-below, below_at}
use Rattle.layouts.proofs.Sizes.{size-least, size_below}
use Rattle.writer.specs.Write.{write_verdict}
use borrow.Author.Rules.{rules}
use Rattle.writer.proofs.write.Goals as goal

-- the verdict by the tests that were made
module _ (layout : ℕ) (s : Settings) (buffer : List ℕ) where
  unknown : is_layout layout ≡ false → write_verdict layout s buffer ≡ Err UnknownLayout
  unfolding write_verdict
  unknown k = rw k

  short : is_layout layout ≡ true → length buffer ≤ size layout → write_verdict layout s buffer ≡ Err BufferTooShort
  unfolding write_verdict
  short k h = rw (k, lt-ltb (length buffer) (size layout + 1) (omega arith))

  module _ (k : is_layout layout ≡ true) (h : size layout < length buffer) where
    long : long_value layout s ≡ true → write_verdict layout s buffer ≡ Err LongValue
    unfolding write_verdict
    long l = rw (k, le-ltb (length buffer) (size layout + 1) (omega arith), l)

    module _ (l : long_value layout s ≡ false) where
      lost : homing_torque_lost layout s ≡ true → write_verdict layout s buffer ≡ Err HomingTorqueLost
      unfolding write_verdict
      lost t = rw (k, le-ltb (length buffer) (size layout + 1) (omega arith), l, t)

      left : homing_torque_lost layout s ≡ false → write_verdict layout s buffer ≡ verdict_of s
      unfolding write_verdict
      left t = rw (k, le-ltb (length buffer) (size layout + 1) (omega arith), l, t)

-- settings that `check` accepted are in range
range : (s : Settings) → Ok tt ≡ verdict_of s → in_range s ≡ true
range s e = (passes s ((accepts s).0 (sym e))).range

-- `?` hands on the refusal
passed : (v : Verdict) (r : Refusal) → IsErrAnd v (λ (q : Refusal). q ≡ r) → v ≡ Err r
passed (Err q) r h = ap Err h
passed (Ok u) r h = absurd h

pub returns-then-not-is_layout : goal.returns-then-not-is_layout
returns-then-not-is_layout c =
    let a = c.args in
    let e = unknown a.layout a.s a.buffer.now (sym c.if-not-is_layout.ensures) in
    record { verdict = sym e; words = rw e }

pub returns-then-buffer-size : goal.returns-then-buffer-size
returns-then-buffer-size c =
    let a = c.args in
    let e = short a.layout a.s a.buffer.now (sym c.if-not-is_layout.ensures) (rw c.size-size.ensures at c.if-buffer-size.true) in
    record { verdict = sym e; words = rw e }

pub returns-then-is_long : goal.returns-then-is_long
returns-then-is_long c =
    let a = c.args in
    let e =
    long a.layout a.s a.buffer.now (sym c.if-not-is_layout.ensures) (rw c.size-size.ensures at c.if-buffer-size.false) (sym c.if-is_long.ensures) in
    record { verdict = sym e; words = rw e }

pub returns-then-loses_homing_torque : goal.returns-then-loses_homing_torque
returns-then-loses_homing_torque c =
    let a = c.args in
    let e =
    lost a.layout a.s a.buffer.now (sym c.if-not-is_layout.ensures) (rw c.size-size.ensures at c.if-buffer-size.false) (sym c.if-is_long.ensures)
    (sym c.if-loses_homing_torque.ensures) in
    record { verdict = sym e; words = rw e }

pub values-data-requires : goal.values-data-requires
values-data-requires c = range c.args.s c.in_ok-check.ensures

pub fill-requires : goal.fill-requires
fill-requires c =
    let a = c.args in
    let least = size-least a.layout in
    let below = size_below a.layout in (
      rw c.size-size.ensures least,
      rw c.size-size.ensures (omega arith),
      search rules,
      rw c.values-data.ensures
          (below_at (values_of a.layout a.s) (values-below a.layout a.s (sym c.if-not-is_layout.ensures) (range a.s c.in_ok-check.ensures))),
    )

pub returns-in_err-check : goal.returns-in_err-check
returns-in_err-check c =
    let a = c.args in
    let e =
    left a.layout a.s a.buffer.now (sym c.if-not-is_layout.ensures) (rw c.size-size.ensures at c.if-buffer-size.false) (sym c.if-is_long.ensures)
    (sym c.if-loses_homing_torque.ensures)
    ∙ sym c.in_err-check.ensures in
    record { verdict = passed _ _ c.from_residual.ensures.1 ∙ sym e; words = rw e }

pub returns : goal.returns
unfolding words_of
returns c =
    let a = c.args in
    let e =
    left a.layout a.s a.buffer.now (sym c.if-not-is_layout.ensures) (rw c.size-size.ensures at c.if-buffer-size.false) (sym c.if-is_long.ensures)
    (sym c.if-loses_homing_torque.ensures)
    ∙ sym c.in_ok-check.ensures in
    record { verdict = sym e; words = rw e (c.fill.ensures ∙ rw (c.size-size.ensures, c.values-data.ensures)) }
