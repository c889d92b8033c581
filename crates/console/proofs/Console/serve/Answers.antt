-- `Console::serve` meets its contract: line after line of the chunk is answered, as the stream does it.
-- Assumes nothing.
use Rattle.std.proofs.Common.{sym, ap, ◌∙◌}
use Rattle.std.specs.Prelude.{option_copied}
use Rattle.console.proofs.Streams.{one-line, no-line}
use Rattle.console.proofs.Console.serve.Goals as goal

pub loop-after-preserved : goal.loop-after-preserved
loop-after-preserved g c =
    λ st i.
    let a = c.answer.ensures in
    one-line g.W.Write.contents c.take.new.self c.take.ensures.holds (c.loop-after.invariant st i) c.answer.new.output c.in-Some.after.now c.answer.new.self
    c.in-Some.ensures.rest a.session a.written a.none_held

pub returns : goal.returns
returns g c = λ st i. no-line g.W.Write.contents c.take.new.self c.take.ensures.holds (c.loop-after.invariant st i) (sym (ap option_copied c.in_default.is) ∙ c.take.ensures.rest)
