-- Axes that words and ticks lead to stand on the routes of the method in force, by the invariant of demand 3; so there the leg tells the route.
-- Assumes nothing.
use mathlib.Core.Path.{◌≡◌, refl, sym, ◌∙◌}
use mathlib.Core.List.{List}
use Rattle.settings.specs.declared.Settings.{Settings}
use Rattle.rules.specs.Axis.{Active, Nothing, Set}
use Rattle.demands.specs.Events.{Event}
use Rattle.demands.specs.Replies.{axis_of}
use Rattle.demands.specs.Known.{Known, Since, never, start, known}
use Rattle.demands.proofs.Matches.{phase_for}
use Rattle.demands.proofs.Kept.{matches}
use Rattle.independence.specs.Alike.{EqualInForce, Alike}
use Rattle.independence.specs.Leg.{LegTellsRoute, ReachedAlike}
use Rattle.independence.proofs.Routes.{OnRoute, idle, all-steps, starts, tells-route}

on-route : (k : Known) (s : Settings) → k.settings ≡ Set s → OnRoute s.method (phase_for k.settings k.since)
on-route k s e = rw e (go k.since)
  where
    go : (since : Since) → OnRoute s.method (phase_for (Set s) since)
    go never = idle
    go (start switches views) = all-steps s.method (starts s.method switches) views

reached : (es : List Event) (s : Settings) → (axis_of es).active ≡ Set s → OnRoute s.method (axis_of es).motion.phase
reached es s e = rw (matches es).phase (on-route (known es) s (sym (matches es).active ∙ e))

pub leg-tells-route : LegTellsRoute
leg-tells-route es fs s r p q m e = tells-route r.method (rw m at (reached es s p)) (reached fs r q) e

pub reached-alike : ReachedAlike
reached-alike es fs h = go (axis_of es).active refl (axis_of fs).active refl h.others.settings
  where
    go : (x : Active) → (axis_of es).active ≡ x → (y : Active) → (axis_of fs).active ≡ y → EqualInForce x y → Alike (axis_of es) (axis_of fs)
    go Nothing p y q k = absurd k
    go (Set s) p Nothing q k = absurd k
    go (Set s) p (Set r) q k = record { others = h.others; leg = leg-tells-route es fs s r p q k.method h.leg }
