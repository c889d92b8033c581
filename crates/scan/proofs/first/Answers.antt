-- `scan::first` meets its contract.
-- Assumes nothing.
use Rattle.std.proofs.Common.{eqb, rules, tests}
use Rattle.std.proofs.lemmas.Iterator.{YieldsList-from_slice}
use Rattle.std.proofs.lemmas.Iterator.Search.{position_from_yields_List}
use Rattle.scan.proofs.Places.{library}
use Rattle.scan.proofs.first.Goals as goal

pub returns : goal.returns
returns c =
    let xs = c.args.text.now in
    let byte = c.args.byte in
    rw (library byte xs)
    (position_from_yields_List (λ b. eqb b byte) _ _ _ c.position.ensures.ran (YieldsList-from_slice xs cc) (λ x b q k. search (rules, tests)))
