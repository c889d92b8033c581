-- `Page::from` meets its contract: a place past the bytes is their end.
-- Assumes nothing.
use Rattle.std.proofs.Common.{rules, min, length, ◌≡◌}
use Rattle.page.proofs.Printing.{written_up_to}
use Rattle.page.proofs.Page.from.Goals as goal

pub returns : goal.returns
returns c =
    let bytes = c.args.bytes in
    let end : c.min-end.result ≡ min c.args.at (length bytes.now) = search rules in
    written_up_to bytes.now c.args.at c.min-end.result bytes.ghost_name end
