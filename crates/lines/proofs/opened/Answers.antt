-- `lines::opened` meets its contract: a word means what its name means.
-- Assumes nothing.
use Rattle.std.proofs.Common.{refl}
use Rattle.cursors.specs.Place.{place_of}
use Rattle.cursors.specs.declared.Expected.TheVariants.{Keyword}
use Rattle.cursors.proofs.Texts.{read_by_name}
use Rattle.lines.specs.Lines.{openings, opened_read}
use Rattle.lines.proofs.opened.Goals as goal

pub returns : goal.returns
unfolding opened_read
returns c =
    let word = c.next-word.ensures in
    read_by_name (place_of c.args.cursor.now) openings Keyword refl c.named.ensures c.name.ensures c.trouble.ensures word.at word.bytes word.moved
