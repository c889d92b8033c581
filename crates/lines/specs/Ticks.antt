-- "tick HEX4 COMMAND at I32 SWITCHES STILL SET HEX8"
-- Assumes nothing.
use Rattle.choices.specs.Choices.{at_read, standstill_read, set_read, switches_read}
use Rattle.cursors.specs.Reading.{Reading, ◌>>=◌, given}
use Rattle.orders.specs.Orders.{command_read}
use Rattle.scanner.specs.Readings.{hexadecimal_read, whole32_read}
use Rattle.ticks.specs.declared.Tick.{Tick}

unfoldable pub tick_read : Reading Tick
tick_read = do
  control ← hexadecimal_read 4
  command ← command_read
  at ← at_read
  position ← whole32_read
  switches ← switches_read
  still ← standstill_read
  set ← set_read
  alarm ← hexadecimal_read 8
  given (record {
    control = control;
    command = command;
    position = position;
    switches = switches;
    still = still;
    set = set;
    alarm = alarm;
  })
