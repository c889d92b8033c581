-- "run START TICKS", and "picture START TICKS"
-- Assumes nothing.
use Rattle.cursors.specs.Reading.{Reading, ◌>>=◌, given}
use Rattle.scanner.specs.Readings.{unsigned_read, whole32_read}
use Rattle.lines.specs.declared.Trial.{Trial}

unfoldable pub trial_read : Reading Trial
trial_read = do
  start ← whole32_read
  ticks ← unsigned_read
  given (record { start = start; ticks = ticks })
