-- For any plan: homing is homed after a list of ticks exactly when they complete one of the plan's routes. One induction on the ticks; when
-- an event or a limit counts plays no part.
-- Assumes nothing.
use mathlib.Core.Path.{◌≡◌, refl, sym, ap, subst}
use mathlib.Core.Logic.{◌⊎◌, inl, inr, ◌↔◌, ⊎_map, ⊎_elim}
use mathlib.Core.Bool.{Bool, true, false, So, false≢true}
use mathlib.Core.List.{List, [], ◌∷◌, ◌++◌, nil≢cons, head-eq_of_cons-eq, tail-eq_of_cons-eq}
use mathlib.Core.Option.{Option, none, some}
use Rattle.legs.specs.Legs.{Leg}
use Rattle.legs.specs.Events.{View, event_counts, limit_counts}
use Rattle.legs.specs.Routes.{Plan}
use Rattle.homing.specs.Complete.{All, Cut, Waits, Ends, Turns, Completes, CompletesAfterTurn, CompletesTurn, CompletesRoute}
use Rattle.homing.specs.Progress.{Progress, idle, failed, homed, running, begin, on_limit, advance, advance_all, begun, is_homed}

-- a cut, tick by tick
module _ {W E : View → Type 0} {Th : List View → Type 0} where
  here : {v : View} {vs : List View} → E v → Th vs → Cut W E Th (v ∷ vs)
  here {v} {vs} e t = record { waiting = []; end = v; rest = vs; cut = refl; waits = tt; ends = e; then = t }

  wait : {v : View} {vs : List View} → W v → Cut W E Th vs → Cut W E Th (v ∷ vs)
  wait {v} {vs} w c =
      record { waiting = v ∷ c.waiting; end = c.end; rest = c.rest; cut = ap (λ (r : List View). v ∷ r) c.cut; waits = (w, c.waits); ends = c.ends; then = c.then }

  first : {v : View} {vs : List View} → Cut W E Th (v ∷ vs) → (W v × Cut W E Th vs) ⊎ (E v × Th vs)
  first {v} {vs} c = go c.waiting c.cut c.waits
    where
      go : (w : List View) → v ∷ vs ≡ w ++ c.end ∷ c.rest → All W w → (W v × Cut W E Th vs) ⊎ (E v × Th vs)
      go [] q a = inr (subst E (sym (head-eq_of_cons-eq q)) c.ends, subst Th (sym (tail-eq_of_cons-eq q)) c.then)
      go (x ∷ w) q a =
          inl (
            subst W (sym (head-eq_of_cons-eq q)) a.0,
            record { waiting = w; end = c.end; rest = c.rest; cut = tail-eq_of_cons-eq q; waits = a.1; ends = c.ends; then = c.then },
          )

  never : Cut W E Th [] → ⊥
  never c = go c.waiting c.cut
    where
      go : (w : List View) → [] ≡ w ++ c.end ∷ c.rest → ⊥
      go [] q = nil≢cons q
      go (x ∷ w) q = nil≢cons q

-- what a tick is to a leg
data Kind (l : Leg) (v : View) : Type 0 where
  lost : v.kept ≡ false → Kind l v
  ends : Ends l v → Kind l v
  turns : Turns l v → Kind l v
  waits : Waits l v → Kind l v

kind : (l : Leg) (v : View) → Kind l v
kind l v = go v.kept (event_counts l v) (limit_counts l v) refl refl refl
  where
    go : (k c r : Bool) → v.kept ≡ k → event_counts l v ≡ c → limit_counts l v ≡ r → Kind l v
    go false c r p q s = lost p
    go true true r p q s = ends (record { kept = p; counted = q })
    go true false true p q s = turns (record { kept = p; uncounted = q; limit = s })
    go true false false p q s = waits (record { kept = p; uncounted = q; clear = s })

on-lost : (l : Leg) (v : View) (ls : List Leg) (t : Option (List Leg)) → v.kept ≡ false → advance (running l ls t) v ≡ idle
unfolding advance
on-lost l v ls t p = cc

module _ {l : Leg} {v : View} (ls : List Leg) (t : Option (List Leg)) where
  on-ends : Ends l v → advance (running l ls t) v ≡ begin ls none
  unfolding advance
  on-ends e = cc

  on-turns : Turns l v → advance (running l ls t) v ≡ on_limit t
  unfolding advance
  on-turns e = cc

  on-waits : Waits l v → advance (running l ls t) v ≡ running l ls t
  unfolding advance
  on-waits w = cc

-- nothing more comes of homing that does not run
homed-stays : (vs : List View) → advance_all homed vs ≡ homed
unfolding advance
homed-stays [] = refl
homed-stays (v ∷ vs) = homed-stays vs

pub idle-stays : (vs : List View) → advance_all idle vs ≡ idle
unfolding advance
idle-stays [] = refl
idle-stays (v ∷ vs) = idle-stays vs

failed-stays : (vs : List View) → advance_all failed vs ≡ failed
unfolding advance
failed-stays [] = refl
failed-stays (v ∷ vs) = failed-stays vs

abbrev Homes : Progress → List View → Type 0
Homes p vs = So (is_homed (advance_all p vs))

abbrev Claim : List View → Type 0
Claim vs = (ls : List Leg) (t : Option (List Leg)) → Homes (begin ls t) vs ↔ (Completes ls vs ⊎ CompletesTurn ls t vs)

no-turn : (ls : List Leg) (vs : List View) → CompletesTurn ls none vs → ⊥
no-turn [] vs b = b
no-turn (l ∷ ls) vs b = b.then

module _ {vs : List View} (ih : Claim vs) where
  main-only : (ls : List Leg) → Homes (begin ls none) vs ↔ Completes ls vs
  main-only ls = (λ h. ⊎_elim (λ s. s) (λ b. absurd (no-turn ls vs b)) ((ih ls none).0 h), λ s. (ih ls none).1 (inl s))

  turned : (t : Option (List Leg)) → Homes (on_limit t) vs ↔ CompletesAfterTurn t vs
  turned none = (λ h. false≢true (rw (failed-stays vs) at h), absurd)
  turned (some ls) = main-only ls

  module _ {v : View} (l : Leg) (ls : List Leg) (t : Option (List Leg)) where
    to : Kind l v → Homes (advance (running l ls t) v) vs → Completes (l ∷ ls) (v ∷ vs) ⊎ CompletesTurn (l ∷ ls) t (v ∷ vs)
    to (lost p) h = absurd (false≢true (rw (on-lost l v ls t p, idle-stays vs) at h))
    to (ends e) h = inl (here e ((main-only ls).0 (rw (on-ends ls t e) at h)))
    to (turns e) h = inr (here e ((turned t).0 (rw (on-turns ls t e) at h)))
    to (waits w) h = ⊎_map (wait w) (wait w) ((ih (l ∷ ls) t).0 (rw (on-waits ls t w) at h))

    by-main : (Waits l v × Completes (l ∷ ls) vs) ⊎ (Ends l v × Completes ls vs) → Homes (advance (running l ls t) v) vs
    by-main (inl w) = rw (on-waits ls t w.0) ((ih (l ∷ ls) t).1 (inl w.1))
    by-main (inr e) = rw (on-ends ls t e.0) ((main-only ls).1 e.1)

    by_turn : (Waits l v × CompletesTurn (l ∷ ls) t vs) ⊎ (Turns l v × CompletesAfterTurn t vs) → Homes (advance (running l ls t) v) vs
    by_turn (inl w) = rw (on-waits ls t w.0) ((ih (l ∷ ls) t).1 (inr w.1))
    by_turn (inr e) = rw (on-turns ls t e.0) ((turned t).1 e.1)

claim : (vs : List View) → Claim vs
unfolding advance
claim [] [] t = (λ _. inl tt, λ _. refl)
claim [] (l ∷ ls) t = (λ h. absurd (false≢true h), λ s. absurd (⊎_elim never never s))
claim (v ∷ vs) [] t = (λ _. inl tt, λ _. rw (homed-stays vs))
claim (v ∷ vs) (l ∷ ls) t =
    (to (claim vs) l ls t (kind l v), ⊎_elim (λ c. by-main (claim vs) l ls t (first c)) (λ c. by_turn (claim vs) l ls t (first c)))

-- homed after the ticks since a start exactly when they complete one of the routes that the start allows
pub homed-iff : (p : Plan) (vs : List View) → So (is_homed (advance_all (begun p) vs)) ↔ CompletesRoute p vs
homed-iff p vs = claim vs p.main p.turn
