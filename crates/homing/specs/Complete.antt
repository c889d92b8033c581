-- 01: "spells a route", here completes one. The reading of the ticks after a start, with no homing phase in it. A segment is 01's stretch.
-- Assumes nothing.
use Rattle.std.specs.Prelude.{◌≡◌, ◌⊎◌, false, List, [], ◌∷◌, ◌++◌}
use Rattle.std.proofs.Math.Bool.{So}
use Rattle.std.proofs.Math.Option.{Option, none, some}
use Rattle.legs.specs.Legs.{Leg}
use Rattle.legs.specs.Events.{View, event_counts, limit_counts}
use Rattle.legs.specs.Routes.{Plan}

abbrev pub All : (View → Type 0) → List View → Type 0
All P [] = Unit
All P (v ∷ vs) = P v × All P vs

-- the ticks are cut into a segment, whose last tick satisfies Last and whose others satisfy Before, and a rest that satisfies After
pub record Cut (Before Last : View → Type 0) (After : List View → Type 0) (vs : List View) : Type 0 where
  pub waiting : List View
  pub end : View
  pub rest : List View
  pub cut : vs ≡ waiting ++ end ∷ rest
  pub waits : All Before waiting
  pub ends : Last end
  pub then : After rest

-- a tick of leg l's segment before its end: it does not idle homing, the leg's event does not count, and no limit counts, which
-- would set the error or, in a's first leg, where there is a b, turn to it. (Where the leg awaits that limit, the two are one.)
pub record Waits (l : Leg) (v : View) : Type 0 where
  pub kept : So v.kept
  pub uncounted : event_counts l v ≡ false
  pub clear : limit_counts l v ≡ false

-- the tick that ends leg l's segment: it does not idle homing, and the leg's event counts; then no limit is looked at
pub record Ends (l : Leg) (v : View) : Type 0 where
  pub kept : So v.kept
  pub counted : So (event_counts l v)

-- the tick that ends b's first segment, where l is a's first leg: it does not idle homing, l's event does not count, a limit does
pub record Turns (l : Leg) (v : View) : Type 0 where
  pub kept : So v.kept
  pub uncounted : event_counts l v ≡ false
  pub limit : So (limit_counts l v)

-- "one stretch a leg, each ending at its first counting event"; "ticks after the last event undo nothing"
abbrev pub Completes : List Leg → List View → Type 0
Completes [] vs = Unit
Completes (l ∷ ls) vs = Cut (Waits l) (Ends l) (Completes ls) vs

abbrev pub CompletesAfterTurn : Option (List Leg) → List View → Type 0
CompletesAfterTurn none vs = ⊥
CompletesAfterTurn (some ls) vs = Completes ls vs

-- route b: its first segment waits as that of a's first leg l does, until it turns
abbrev pub CompletesTurn : List Leg → Option (List Leg) → List View → Type 0
CompletesTurn [] t vs = ⊥
CompletesTurn (l ∷ ls) t vs = Cut (Waits l) (Turns l) (CompletesAfterTurn t) vs

-- "a or b with HOM off, c with it on", and with a limit for HOM in 02's methods: the plan's main route is a or c. Where it has no turn, nothing
-- turns.
abbrev pub CompletesRoute : Plan → List View → Type 0
CompletesRoute p vs = Completes p.main vs ⊎ CompletesTurn p.main p.turn vs

-- no plan, no route
abbrev pub CompletesPlan : Option Plan → List View → Type 0
CompletesPlan none vs = ⊥
CompletesPlan (some p) vs = CompletesRoute p vs
