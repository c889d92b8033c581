-- `status::statusword` meets its contract: the parts add up to less than 2 ^ 16.
-- Assumes nothing.
use Rattle.homing.specs.Phase.{phase_of}
use Rattle.status.proofs.Modes.{as_added}
use Rattle.status.proofs.statusword.Goals as goal

pub returns : goal.returns
returns c =
    let b = c.args in
    rw (c.status.ensures, c.mode_bits.ensures.value) (as_added b.state b.following b.limited b.mode (phase_of b.phase))
