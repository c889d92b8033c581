-- `session::Session::act` meets its contract at a picture: the run's answer, and then its picture.
-- Assumes nothing.
use Rattle.std.proofs.Common.{refl, to_z-of_z, w32, SFits, rules}
use Rattle.page.proofs.Printing.{and_then}
use Rattle.session.proofs.Session.act.Goals as goal

pub returns-in-Picture : goal.returns-in-Picture
returns-in-Picture c =
    let start : SFits w32 c.in-Picture.trial.start = search rules in
    rw c.in-Picture.is (refl, rw (c.follow-trace.ensures, to_z-of_z start) at (and_then _ _ _ _ _ c.run-in-Picture.ensures c.drawn.ensures))
