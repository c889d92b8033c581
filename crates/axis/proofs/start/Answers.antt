-- `axis::start` meets its contract.
-- Assumes nothing.
use mathlib.Core.Path.{sym, ◌∙◌}
use mathlib.Core.Bool.{false}
use Rattle.settings.specs.declared.Refusal.TheVariants.{UnknownLayout}
use Rattle.reader.specs.Read.{started, start_read}
use Rattle.axis.proofs.Taking.{kept_word, refused-word}
use Rattle.axis.proofs.start.Goals as goal

pub returns-then-is_layout : goal.returns-then-is_layout
unfolding start_read
returns-then-is_layout c =
    rw (sym c.is_layout.ensures ∙ c.if-is_layout.true) (kept_word _ _ false (started _) c.begin.ensures)

pub returns-else-is_layout : goal.returns-else-is_layout
unfolding start_read
returns-else-is_layout c =
    rw (sym c.is_layout.ensures ∙ c.if-is_layout.false) (refused-word _ _ false UnknownLayout c.empty.ensures)
