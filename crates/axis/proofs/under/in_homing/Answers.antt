-- `axis::under::in_homing` meets its contract: homing starts, steps, or stays as it is.
-- Assumes nothing.
use Prim.Native.Nat.{ℕ}
use mathlib.Core.Path.{sym, ap, ◌∙◌}
use mir.Syntax.{w32}
use mir.Val.{SFits}
use Rattle.patterns.proofs.Numbers.{read32}
use Rattle.control.specs.Control.{bit_rises}
use Rattle.homing.specs.Phase.{phase_of, homed_in, running_in}
use Rattle.cells.specs.Cells.{motion_in}
use Rattle.axis.proofs.Branches.{bits-of-tick, starts, arrives, fresh_start, rests}
use borrow.Author.Rules.{rules}
use Rattle.axis.proofs.under.in_homing.Goals as goal

pub returns-then-rising : goal.returns-then-rising
returns-then-rising c =
    let at_tick : SFits w32 c.args.inputs.now.tick.position = search rules in
    let l = c.args.axis.now in
    let t = c.args.inputs.now.tick in
    let rising = sym (c.rising.ensures ∙ ap (λ (n : ℕ). bit_rises n t.control 4) c.control.ensures) ∙ c.if-rising.true in
    let switches = bits-of-tick t c.args.inputs.now.switches c.args.inputs.now.same in
    arrives l t c.settle.new.axis _ (phase_of c.start-started.result)
    (starts l t c.method-method.ensures rising switches c.start-started.ensures)
    c.bit-halted.ensures
    (fresh_start (homed_in (motion_in l).phase) rising)
    (read32 t.position at_tick.sfits)
    c.settle.ensures.moved
    (read32 c.settle.result c.settle.type_inv ∙ c.settle.ensures.speed)

pub returns-else-is_running : goal.returns-else-is_running
returns-else-is_running c =
    let b = c.args in
    let rising = sym (c.rising.ensures ∙ ap (λ (n : ℕ). bit_rises n b.inputs.now.tick.control 4) c.control.ensures) ∙ c.if-rising.false in
    let running = sym (c.is_running.ensures ∙ ap running_in c.phase-phase.ensures) ∙ c.if-is_running.false in
    rests b.axis.now b.inputs.now.tick rising running
