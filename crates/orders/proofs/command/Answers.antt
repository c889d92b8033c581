-- `orders::command` meets its contract: a word means what its name means.
-- Assumes nothing.
use Rattle.std.proofs.Common.{refl}
use Rattle.cursors.specs.Place.{place_of}
use Rattle.cursors.specs.declared.Expected.TheVariants.{Command}
use Rattle.cursors.proofs.Texts.{read_by_name}
use Rattle.orders.specs.Orders.{commands, command_read}
use Rattle.orders.proofs.command.Goals as goal

pub returns : goal.returns
unfolding command_read
returns c =
    let word = c.next-word.ensures in
    read_by_name (place_of c.args.cursor.now) commands Command refl c.named.ensures c.name.ensures c.trouble.ensures word.at word.bytes word.moved
