-- `spelling::spelled` meets its contract: what the text spells is what the rest of it spells after the value so far.
-- Assumes nothing.
use Prim.Native.Nat.{◌^◌, ◌<◌}
use mathlib.Core.Path.{◌≡◌}
use lib.ListN.{drop}
use Rattle.spelling.specs.Spelling.{spelled_from}
use Rattle.spelling.proofs.spelled.Given as goal

abbrev pub invariant-loop-byte : goal.invariant-loop-byte
invariant-loop-byte l = record {
  reached : l.value < l.base ^ l.byte-index;
  the_rest : spelled_from l.base 0 l.text ≡ spelled_from l.base l.value (drop l.byte-index l.text);
}
