-- After i turns the first i bytes are printed.
use Rattle.std.proofs.Common.{◌≡◌, take}
use Rattle.page.specs.Page.{seen, printed}
use Rattle.page.proofs.Page.text.Given as goal

abbrev pub invariant-loop-byte : goal.invariant-loop-byte
invariant-loop-byte l = seen l.self ≡ printed (seen l.fn.self) (take l.byte-index l.text)
