-- `axis::finish` meets its contract: the words are emptied first, which leaves the values, and then the settings come into force or not.
-- Assumes nothing.
use mathlib.Core.Path.{◌∙◌}
use Rattle.axis.proofs.Taking.{Closed, rebuilt, refused_end, complete-end}
use Rattle.axis.proofs.finish.Goals as goal

pub complete-requires : goal.complete-requires
complete-requires c =
    let closed : Closed c.args.axis.now c.args.sum c.pending_settings-s.result c.close-verdict.result c.empty.new.axis = record {
      due = c.requires;
      settings = c.pending_settings-s.ensures;
      verdict = c.close-verdict.ensures ∙ rw c.checksum.ensures;
      emptied = c.empty.ensures;
    } in
    rebuilt closed

pub returns-in-Ok : goal.returns-in-Ok
returns-in-Ok c =
    let closed : Closed c.args.axis.now c.args.sum c.pending_settings-s.result c.close-verdict.result c.empty.new.axis = record {
      due = c.requires;
      settings = c.pending_settings-s.ensures;
      verdict = c.close-verdict.ensures ∙ rw c.checksum.ensures;
      emptied = c.empty.ensures;
    } in
    complete-end closed _ _ c.in-Ok.is c.complete.ensures

pub returns-in-Err : goal.returns-in-Err
returns-in-Err c =
    let closed : Closed c.args.axis.now c.args.sum c.pending_settings-s.result c.close-verdict.result c.empty.new.axis = record {
      due = c.requires;
      settings = c.pending_settings-s.ensures;
      verdict = c.close-verdict.ensures ∙ rw c.checksum.ensures;
      emptied = c.empty.ensures;
    } in
    refused_end closed _ c.in-Err.is
