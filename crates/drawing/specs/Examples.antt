-- Pictures, computed: that of docs/LINES.md, and one of a long rail.
-- Assumes nothing.
use Rattle.std.specs.Prelude.{ℕ, ◌++◌, ◌≡◌, ℤ, pos, negsuc}
use Rattle.carriage.specs.declared.Rail.{Rail}
use Rattle.simulator.specs.declared.LegRun.{LegRun}
use Rattle.simulator.specs.declared.Stop.TheVariants.{Homed, Ticks}
use Rattle.simulator.specs.declared.Trace.{Trace}
use Rattle.tokens.specs.Ascii.{ascii}
use Rattle.drawing.specs.Picture.{picture_text}

abbrev leg : ℕ → ℕ → ℤ → LegRun
leg route ticks cell = record { route = route; ticks = ticks; cell = cell }

-- "the run from cell 19 of a rail of 20 cells with its cam on 5, 6 and 7, fast 2 and slow 1, under method 23": +F is turned by POT
abbrev short : Rail
short = record { length = 20; cam = 5; width = 3; fast = 2; slow = 1 }

abbrev homed : Trace
homed =
    record {
      outcome = record { number = 0; ticks = 14; stop = Homed };
      first = leg 0x063a 1 (pos 21);
      second = leg 0x060e12 7 (pos 7);
      third = leg 0x060e 1 (pos 8);
      fourth = leg 0x06 4 (pos 4);
    }

abbrev pub OfTheDocument : Type 0
OfTheDocument =
    picture_text short (pos 19) homed
    ≡ ascii "N.....###............P cells 20\n"
    ++ ascii "|                   S| start 19\n"
    ++ ascii "|                   => +F ticks 1\n"
    ++ ascii "|       <============= -F ticks 7\n"
    ++ ascii "|       ->           | +S ticks 1\n"
    ++ ascii "|    <----           | -S ticks 4\n"
    ++ ascii "|    H               | home 4\n"

-- ten cells in a column; one leg ran, to a cell below 0
abbrev long : Rail
long = record { length = 580; cam = 100; width = 30; fast = 7; slow = 1 }

abbrev stopped : Trace
stopped =
    record {
      outcome = record { number = 0; ticks = 17; stop = Ticks };
      first = leg 0x51 16 (negsuc 1);
      second = leg 0 0 (pos 0);
      third = leg 0 0 (pos 0);
      fourth = leg 0 0 (pos 0);
    }

abbrev pub OfALongRail : Type 0
OfALongRail =
    picture_text long (pos 110) stopped
    ≡ ascii "N..........###.............................................P cells 580\n"
    ++ ascii "|           S                                              | start 110\n"
    ++ ascii "<============                                              | -F ticks 16\n"
    ++ ascii "T                                                          | stopped -2\n"
