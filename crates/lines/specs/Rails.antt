-- "rail CELLS CAM WIDTH FAST SLOW"
-- Assumes nothing.
use Rattle.carriage.specs.declared.Rail.{Rail}
use Rattle.cursors.specs.Reading.{Reading, ◌>>=◌, given}
use Rattle.scanner.specs.Readings.{unsigned_read}

unfoldable pub rail_read : Reading Rail
rail_read = do
  length ← unsigned_read
  cam ← unsigned_read
  width ← unsigned_read
  fast ← unsigned_read
  slow ← unsigned_read
  given (record { length = length; cam = cam; width = width; fast = fast; slow = slow })
