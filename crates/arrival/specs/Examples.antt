-- Runs computed: each row is a rail (L, u, w, f, s), a method, a start cell, a number of ticks, and what comes of it.
-- Assumes nothing.
use Rattle.std.specs.Prelude.{ℕ, Bool, not, ◌&&◌, List, [], ◌∷◌, eqb, ℤ, pos}
use Rattle.counts.specs.Tests.{minus}
use Rattle.settings.specs.declared.Settings.{Settings}
use Rattle.carriage.specs.declared.Rail.{Rail}
use Rattle.carriage.specs.Rail.{rail_fits}
use Rattle.simulator.specs.declared.Stop.{Stop}
use Rattle.simulator.specs.declared.Stop.TheVariants as stop
use Rattle.simulator.specs.declared.Outcome.{Outcome}
use Rattle.simulator.specs.Run.{run_of}
use Rattle.arrival.specs.Homes.{bound}

abbrev pub rail : ℕ → ℕ → ℕ → ℕ → ℕ → Rail
rail L u w f s = record { length = L; cam = u; width = w; fast = f; slow = s }

abbrev sheet_with : ℕ → ℕ → ℤ → ℤ → Settings
sheet_with method numerator lower upper =
    record {
      method = method;
      fast = 20000;
      slow = 500;
      offset = pos 0;
      numerator = numerator;
      denominator = 1;
      lower = lower;
      upper = upper;
      maximum = 1000;
      positive1 = 800;
      negative1 = 600;
      positive2 = 300;
      negative2 = 200;
      option = 2;
      rated = 1600;
      homing = 1000;
    }

-- acceptable under every method of 01's and 02's
abbrev pub sheet : ℕ → Settings
sheet method = sheet_with method 1 (minus 8388608) (pos 8388607)

-- sheets that the writer refuses with 3, 5 and 6
abbrev out_of_range : Settings
out_of_range = sheet 3

abbrev crossed : Settings
crossed = sheet_with 23 1 (pos 5) (pos 5)

abbrev out_of_reach : Settings
out_of_reach = sheet_with 23 1048576 (minus 8388608) (pos 8388607)

-- roomy: 1 ≤ 2, 2 ≤ 3, 2 ≤ 5 and 5 + 3 + 2 ≤ 20; its bound is 4 × (⌈22 ÷ 1⌉ + 1) + 1 = 93
abbrev pub paper : Rail
paper = rail 20 5 3 2 1

abbrev stop_number : Stop → ℕ
stop_number stop.None = 0
stop_number stop.Homed = 1
stop_number stop.Failed = 2
stop_number stop.Ticks = 3

abbrev comes_to : Outcome → ℕ → ℕ → Stop → Bool
comes_to o number ticks s = eqb o.number number && eqb o.ticks ticks && eqb (stop_number o.stop) (stop_number s)

-- on a rail under a method, from a cell, given so many ticks: the ticks run and the stop
abbrev ends : Rail → ℕ → ℕ → ℕ → ℕ → Stop → Bool
ends r method start n ticks s = comes_to (run_of r (sheet method) (pos start) n) 0 ticks s

abbrev is_refused : ℕ → Outcome → Bool
is_refused number o = comes_to o number 0 stop.None

abbrev pub in_time : List Bool
in_time =
    ends paper 23 0 93 6 stop.Homed
    ∷ ends paper 23 6 93 3 stop.Homed
    ∷ ends paper 23 19 93 14 stop.Homed
    ∷ ends paper 24 19 93 13 stop.Homed
    ∷ ends paper 25 0 93 6 stop.Homed
    ∷ ends paper 26 0 93 10 stop.Homed
    ∷ ends paper 27 0 93 12 stop.Homed
    ∷ ends paper 28 6 93 4 stop.Homed
    ∷ ends paper 29 0 93 9 stop.Homed
    ∷ ends paper 30 19 93 12 stop.Homed
    ∷ ends paper 25 6 93 4 stop.Homed
    ∷ ends paper 26 6 93 3 stop.Homed
    ∷ eqb (bound paper) 93
    ∷ []

-- the other methods there: 17 and 18 home, 1, 2, 33 and 34 end in an error, since there is no Z, 35 homes in its first tick
abbrev pub others : List Bool
others =
    ends paper 17 3 93 4 stop.Homed
    ∷ ends paper 18 17 93 5 stop.Homed
    ∷ ends paper 1 3 93 24 stop.Failed
    ∷ ends paper 2 17 93 25 stop.Failed
    ∷ ends paper 33 3 93 5 stop.Failed
    ∷ ends paper 34 18 93 3 stop.Failed
    ∷ ends paper 35 3 1 1 stop.Homed
    ∷ []

-- without "f at most w", and without "s at most f". No rail is known that needs the other two: they are kept, as 02 has them.
abbrev pub needed : List Bool
needed = ends (rail 5 2 1 2 1) 23 1 33 6 stop.Failed ∷ ends (rail 3 1 1 1 2) 25 0 13 5 stop.Failed ∷ []

-- "the number of ticks only if neither other did": homed, or error, in the last tick given
abbrev pub last : List Bool
last =
    ends paper 23 0 6 6 stop.Homed
    ∷ ends paper 23 0 5 5 stop.Ticks
    ∷ ends paper 23 0 1 1 stop.Ticks
    ∷ ends paper 34 18 3 3 stop.Failed
    ∷ ends paper 34 18 2 2 stop.Ticks
    ∷ []

-- refusals: 3, 5 and 6; then 12 at each edge, also where the sheet would be refused. (A u or w beyond 2 ^ 20 needs an L beyond it. A run of 2 ^ 24
-- ticks is too long to compute here.)
abbrev unfit : Rail → ℤ → ℕ → Bool
unfit r start n = is_refused 12 (run_of r (sheet 35) start n) && is_refused 12 (run_of r out_of_range start n)

abbrev fits : Rail → ℤ → ℕ → Bool
fits r start n = comes_to (run_of r (sheet 35) start n) 0 1 stop.Homed && is_refused 3 (run_of r out_of_range start n)

abbrev pub refusals : List Bool
refusals =
    is_refused 3 (run_of paper out_of_range (pos 0) 1)
    ∷ is_refused 5 (run_of paper crossed (pos 0) 1)
    ∷ is_refused 6 (run_of paper out_of_reach (pos 0) 1)
    ∷ fits (rail 1048576 1 1 1 1) (pos 0) 1
    ∷ unfit (rail 1048577 1 1 1 1) (pos 0) 1
    ∷ unfit (rail 0 1 1 1 1) (pos 0) 1
    ∷ unfit (rail 20 0 3 2 1) (pos 0) 1
    ∷ unfit (rail 20 5 0 2 1) (pos 0) 1
    ∷ unfit (rail 20 5 3 0 1) (pos 0) 1
    ∷ unfit (rail 20 5 3 2 0) (pos 0) 1
    ∷ fits (rail 20 5 3 1048576 1) (pos 0) 1
    ∷ unfit (rail 20 5 3 1048577 1) (pos 0) 1
    ∷ fits (rail 20 5 3 2 1048576) (pos 0) 1
    ∷ unfit (rail 20 5 3 2 1048577) (pos 0) 1
    ∷ fits (rail 20 5 15 2 1) (pos 0) 1
    ∷ unfit (rail 20 5 16 2 1) (pos 0) 1
    ∷ fits paper (pos 19) 1
    ∷ unfit paper (pos 20) 1
    ∷ unfit paper (minus 1) 1
    ∷ unfit paper (pos 0) 0
    ∷ rail_fits paper (pos 0) 16777216
    ∷ not (rail_fits paper (pos 0) 16777217)
    ∷ []
