-- Switches, states and modes as words, each beside its type; every word means one of each.
-- Assumes nothing.
use Rattle.std.specs.Prelude.{ℕ, List, get_or}
pub use Rattle.legs.specs.Events.{weighed, switch_bits}
unfoldable pub use Rattle.states.specs.States.{state_at}
unfoldable pub use Rattle.modes.specs.Modes.{mode_at}

-- a word of a list; past the last stand zeros
abbrev pub word_at : List ℕ → ℕ → ℕ
word_at l k = get_or l k 0
