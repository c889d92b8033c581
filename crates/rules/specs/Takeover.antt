-- 01, "The sheet": what the end word of a sheet does to the settings in force and to the motion.
-- Assumes nothing.
use Rattle.std.specs.Prelude.{cond, Err, Ok}
use Rattle.settings.specs.declared.Refusal.TheVariants.{DriveActive}
use Rattle.settings.specs.Refusal.{Verdict}
use Rattle.reader.specs.Pending.{Outcome, Refused, Stored, Complete}
use Rattle.states.specs.States.{live_of}
use Rattle.ticks.specs.Motion.{Motion, idled}
use Rattle.rules.specs.Axis.{Active, Set}

-- the settings in force and the motion after a word, and its verdict
pub record Taken : Type 0 where
  pub active : Active
  pub motion : Motion
  pub verdict : Verdict

abbrev answered : Active → Motion → Verdict → Taken
answered a m v = record { active = a; motion = m; verdict = v }

-- by what the reader made of the word. 7: "end word while Operation enabled or Quick stop active"; else "all its fields come into force
-- together, homed and homing error are cleared, homing is idle"
abbrev pub taken_over : Active → Motion → Outcome → Taken
taken_over a m (Refused r) = answered a m (Err r)
taken_over a m Stored = answered a m (Ok tt)
taken_over a m (Complete s) = cond (live_of m.state) (answered a m (Err DriveActive)) (answered (Set s) (idled m) (Ok tt))
