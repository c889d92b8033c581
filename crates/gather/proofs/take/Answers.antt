-- `take` meets its contract: the bytes passed are kept, and the LF is as far on as it is in the rest, after them.
-- Assumes nothing.
use Rattle.std.proofs.Common.{◌++◌, take, length, subst, add-one, arith}
use Rattle.gather.specs.Lines.{Keeps, Counts}
use Rattle.gather.proofs.Parts.{before-lf, here, rest-here, nowhere, one_more}
use Rattle.gather.proofs.Counting.{taken}
use Rattle.gather.proofs.take.Goals as goal

pub returns-then-byte-eq10-clause-rest : goal.returns-then-byte-eq10-clause-rest
returns-then-byte-eq10-clause-rest c =
    let l = c.loop-i in
    rest-here c.args.chunk.now l.i (here c.args.chunk.now l.i l.invariant.place c.loop-i-test.true c.if-byte-eq10.true) c.loop-i-test.true

pub returns-then-byte-eq10-clause-keeps : goal.returns-then-byte-eq10-clause-keeps
returns-then-byte-eq10-clause-keeps c =
    let l = c.loop-i in
    λ bs k.
    subst (λ j. Keeps l.line c.then_some.result (bs ++ take j c.args.chunk.now)) (here c.args.chunk.now l.i l.invariant.place c.loop-i-test.true c.if-byte-eq10.true)
    (taken l.line (length c.args.line.now) l.count c.then_some.result (bs ++ take l.i c.args.chunk.now) l.invariant.room c.then_some.ensures (l.invariant.counts bs k))

pub loop-i-preserved : goal.loop-i-preserved
loop-i-preserved c =
    let l = c.loop-i in
    let z = before-lf c.args.chunk.now l.i c.loop-i-test.true c.if-byte-eq10.false in record {
      place = rw add-one (omega arith);
      room = omega (arith, l.invariant.room, c.push-count.ensures.line_len_unchanged);
      counts = λ bs k. rw add-one (subst (Counts _ _) (one_more bs c.args.chunk.now l.i c.loop-i-test.true) (c.push-count.ensures.counts (bs ++ take l.i c.args.chunk.now) (l.invariant.counts bs k)));
    }

pub returns-clause-keeps : goal.returns-clause-keeps
returns-clause-keeps c =
    let l = c.loop-i in
    λ bs k.
    subst (λ j. Keeps l.line c.then_some-2.result (bs ++ take j c.args.chunk.now)) (nowhere c.args.chunk.now l.i l.invariant.place (omega arith))
    (taken l.line (length c.args.line.now) l.count c.then_some-2.result (bs ++ take l.i c.args.chunk.now) l.invariant.room c.then_some-2.ensures (l.invariant.counts bs k))
