-- 01, "Homing routes", and 02, (i) and (ii): the table of routes, and the routes that a start allows.
-- Assumes nothing.
use Rattle.std.specs.Prelude.{ℕ, Bool, true, false, not, cond, List, [], ◌∷◌, map, eqb}
use Rattle.std.proofs.Math.Option.{Option, none, some}
use Rattle.legs.specs.declared.events.Switches.{Switches}
use Rattle.legs.specs.Legs.{Home, Index, LimitAhead, LimitBehind, Rise, Drop, On, Event, Leg}

-- "R HOM rises, D HOM drops, [...] Z rises"
abbrev pub R : Event
R = record { switch = Home; trigger = Rise }

abbrev pub D : Event
D = record { switch = Home; trigger = Drop }

abbrev pub Z : Event
Z = record { switch = Index; trigger = Rise }

-- L, 01's "limit rise in travel direction", by level (02, (ii)): "The routes [...] follow the level."
abbrev pub L : Event
L = record { switch = LimitAhead; trigger = On }

-- B, the drop of the limit behind (02, (i)). The first leg of 17 and 1, which (i) ends by NOT's rise, has L: it "ends by
-- it being on" (02, (ii)).
abbrev pub B : Event
B = record { switch = LimitBehind; trigger = Drop }

abbrev pub +F : Event → Leg
+F e = record { forward = true; fast = true; event = e }

abbrev pub +S : Event → Leg
+S e = record { forward = true; fast = false; event = e }

abbrev pub -F : Event → Leg
-F e = record { forward = false; fast = true; event = e }

abbrev pub -S : Event → Leg
-S e = record { forward = false; fast = false; event = e }

-- the leg that runs as l does, to the limit ahead: b's first, where l is a's (`first-legs` of homing)
abbrev pub to_limit : Leg → Leg
to_limit l = record { forward = l.forward; fast = l.fast; event = L }

-- the table's columns: "a: HOM off", "b: limit met in a's first leg", "c: HOM on"; and `picks`, the switch whose level in the start tick picks c:
-- HOM in 23 to 30, a limit in 02's methods
pub record Row : Type 0 where
  pub picks : Switches → Bool
  pub a : List Leg
  pub b : List Leg
  pub c : List Leg

abbrev HOM : Switches → Bool
HOM s = s.home

abbrev NOT : Switches → Bool
NOT s = s.negative

abbrev row23 : Row
row23 = record { picks = HOM; a = +F R ∷ -S D ∷ []; b = +F L ∷ -F R ∷ +S D ∷ -S D ∷ []; c = -S D ∷ [] }

abbrev row24 : Row
row24 = record { picks = HOM; a = +F R ∷ -S D ∷ +S R ∷ []; b = +F L ∷ -F D ∷ +S R ∷ []; c = -S D ∷ +S R ∷ [] }

abbrev row25 : Row
row25 = record { picks = HOM; a = +F D ∷ -S R ∷ []; b = +F L ∷ -F R ∷ +S D ∷ -S R ∷ []; c = +S D ∷ -S R ∷ [] }

abbrev row26 : Row
row26 = record { picks = HOM; a = +F R ∷ -S D ∷ +S D ∷ []; b = +F L ∷ -F R ∷ +S D ∷ []; c = +S D ∷ [] }

-- "Method 17 is −F until NOT rises, then +S until NOT drops; with NOT on at the start, the first leg is skipped. Method 1 is 17 with a
-- third leg, +S until Z rises."
abbrev row17 : Row
row17 = record { picks = NOT; a = -F L ∷ +S B ∷ []; b = []; c = +S B ∷ [] }

abbrev row1 : Row
row1 = record { picks = NOT; a = -F L ∷ +S B ∷ +S Z ∷ []; b = []; c = +S B ∷ +S Z ∷ [] }

-- "27 to 30 are 23 to 26 with signs turned and NOT for POT"; "18 and 2 turn the signs and use POT". The limits ahead and behind follow the
-- direction by themselves.
abbrev pub turned : Leg → Leg
turned l = record { forward = not l.forward; fast = l.fast; event = l.event }

abbrev swapped : Switches → Switches
swapped s = record { positive = s.negative; negative = s.positive; home = s.home; index = s.index }

abbrev turned_row : Row → Row
turned_row r = record { picks = λ s. r.picks (swapped s); a = map turned r.a; b = map turned r.b; c = map turned r.c }

-- one route, whatever the switches are, and no b
abbrev alone : List Leg → Row
alone ls = record { picks = λ s. false; a = ls; b = []; c = ls }

pub record Entry : Type 0 where
  pub method : ℕ
  pub row : Row

abbrev entry : ℕ → Row → Entry
entry method row = record { method = method; row = row }

-- "33 is −S Z, 34 is +S Z, 35 has no leg."
abbrev pub table : List Entry
table =
    entry 1 row1
    ∷ entry 2 (turned_row row1)
    ∷ entry 17 row17
    ∷ entry 18 (turned_row row17)
    ∷ entry 23 row23
    ∷ entry 24 row24
    ∷ entry 25 row25
    ∷ entry 26 row26
    ∷ entry 27 (turned_row row23)
    ∷ entry 28 (turned_row row24)
    ∷ entry 29 (turned_row row25)
    ∷ entry 30 (turned_row row26)
    ∷ entry 33 (alone (-S Z ∷ []))
    ∷ entry 34 (alone (+S Z ∷ []))
    ∷ entry 35 (alone [])
    ∷ []

abbrev pub lookup : ℕ → List Entry → Option Row
lookup m [] = none
lookup m (e ∷ es) = cond (eqb m e.method) (some e.row) (lookup m es)

-- a number that is no method has no row
unfoldable pub row_of : ℕ → Option Row
row_of m = lookup m table

-- the routes that a start allows: a or c, and beside an a the legs of b from its second on. b's first leg is a's first awaiting the limit
-- (`first-legs` of homing, computed for every method with a b), so b's first leg is in no plan.
pub record Plan : Type 0 where
  pub main : List Leg
  pub turn : Option (List Leg)

abbrev pub later : List Leg → Option (List Leg)
later [] = none
later (l ∷ ls) = some ls

-- "picks a or c by HOM in that tick", by the limit in a row of 02's
abbrev pub plan_by : Bool → Row → Plan
plan_by true r = record { main = r.c; turn = none }
plan_by false r = record { main = r.a; turn = later r.b }

abbrev pub plan_in : Switches → Option Row → Option Plan
plan_in s none = none
plan_in s (some r) = some (plan_by (r.picks s) r)

-- the plan of a start, by the switches of its tick
abbrev pub plan_of : ℕ → Switches → Option Plan
plan_of method s = plan_in s (row_of method)
