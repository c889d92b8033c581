-- docs/LINES.md: "settings METHOD FAST SLOW OFFSET NUM DEN LOWER UPPER MAX P1 N1 P2 N2 OPTION RATED [HOMING]"; `sheet`, with LENGTH before
-- METHOD and no HOMING; and `layout`, with LAYOUT and LENGTH before METHOD; "OFFSET, LOWER, UPPER [...] are I32"
-- Assumes nothing.
use Rattle.std.specs.Prelude.{ℕ, Bool, true, false, cond, not, ◌&&◌}
use Rattle.cursors.specs.Place.{at_end}
use Rattle.cursors.specs.Reading.{Reading, ◌>>=◌, given}
use Rattle.scanner.specs.Readings.{length_read, unsigned_read, whole32_read}
use Rattle.settings.specs.declared.Settings.{Settings}
use Rattle.sheets.specs.declared.Writing.{Writing}

-- METHOD .. RATED
unfoldable pub sheet_words_read : Reading Settings
sheet_words_read = do
  method ← unsigned_read
  fast ← unsigned_read
  slow ← unsigned_read
  offset ← whole32_read
  numerator ← unsigned_read
  denominator ← unsigned_read
  lower ← whole32_read
  upper ← whole32_read
  maximum ← unsigned_read
  positive1 ← unsigned_read
  negative1 ← unsigned_read
  positive2 ← unsigned_read
  negative2 ← unsigned_read
  option ← unsigned_read
  rated ← unsigned_read
  given (record {
    method = method;
    fast = fast;
    slow = slow;
    offset = offset;
    numerator = numerator;
    denominator = denominator;
    lower = lower;
    upper = upper;
    maximum = maximum;
    positive1 = positive1;
    negative1 = negative1;
    positive2 = positive2;
    negative2 = negative2;
    option = option;
    rated = rated;
    homing = maximum;
  })

-- "HOMING left out is MAX"; a line that may not have it leaves it out
unfoldable pub homing_torque_read : Bool → ℕ → Reading ℕ
homing_torque_read allowed maximum c = cond (allowed && not (at_end c)) (unsigned_read c) (given maximum c)

-- `allowed`: the line may have HOMING
unfoldable pub settings_read : Bool → Reading Settings
settings_read allowed = do
  sheet ← sheet_words_read
  homing ← homing_torque_read allowed sheet.maximum
  given (record sheet { homing = homing })

unfoldable pub fields_read : Bool → ℕ → Reading Writing
fields_read allowed layout = do
  length ← length_read
  settings ← settings_read allowed
  given (record { layout = layout; length = length; settings = settings })

-- 02, (iv): the writer "is told the layout"; "`sheet` writes layout 1, its homing torque is MAX"
abbrev pub sheet_read : Reading Writing
sheet_read = fields_read false 1

abbrev pub layout_read : Reading Writing
layout_read = unsigned_read >>= fields_read true
