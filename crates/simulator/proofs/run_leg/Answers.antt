-- `simulator::run_leg` meets its contract.
-- Assumes nothing.
use Rattle.std.proofs.Common.{sym, ap, ◌∙◌, rules, to_z-of_z}
use mir.Syntax.{w64}
use mir.Val.{SFits}
use Rattle.simulator.specs.Trace.{route_in}
use Rattle.simulator.proofs.Phases.{phase-on}
use Rattle.simulator.proofs.run_leg.Goals as goal

pub returns-clause-told : goal.returns-clause-told
returns-clause-told c =
    let x : SFits w64 c.stretch.new.trip.cell = search rules in
    let route = c.route_in-route.ensures ∙ ap route_in (c.phase.ensures ∙ sym (phase-on c.args.axis.now)) in
    record { told = rw (c.stretch.ensures.led, route, to_z-of_z x); left = rw c.stretch.ensures.led }
