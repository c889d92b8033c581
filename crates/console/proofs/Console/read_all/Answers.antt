-- `Console::read_all` meets its contract: what is read of a known input is answered, and the reads suffice.
-- Assumes nothing.
use Rattle.std.proofs.Common.{arith}
use Rattle.console.proofs.Inputs.{further, to-the-end, enough}
use Rattle.console.proofs.Console.read_all.Goals as goal

pub returns-then-branch-eq0 : goal.returns-then-branch-eq0
returns-then-branch-eq0 g c =
    λ st bs i e h.
    let r = c.loop-read.invariant st bs i e in
    let n = c.read_once.new in
    let a = c.in_ok-read_once.ensures _ r.answered.in_step in
    to-the-end g.R.Read.remaining g.W.Write.contents
    (further g.R.Read.remaining g.W.Write.contents r n.input n.output n.self c.in_ok-read_once.field-0 0 a (omega arith)) (a.ends c.if-branch-eq0.true)

pub loop-read-preserved : goal.loop-read-preserved
loop-read-preserved g c =
    λ st bs i e.
    let r = c.loop-read.invariant st bs i e in
    let n = c.read_once.new in
    further g.R.Read.remaining g.W.Write.contents r n.input n.output n.self c.in_ok-read_once.field-0 _ (c.in_ok-read_once.ensures _ r.answered.in_step) (omega arith)

pub returns : goal.returns
returns g c = λ st bs i e h. enough g.R.Read.remaining g.W.Write.contents (c.loop-read.invariant st bs i e) (omega arith)
