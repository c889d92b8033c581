-- `axis::store` meets its contract.
-- Assumes nothing.
use mathlib.Core.Path.{sym, ◌∙◌, subst}
use mathlib.Core.Bool.{false}
use Rattle.settings.specs.declared.Refusal.TheVariants.{OutOfRange}
use Rattle.reader.specs.Pending.{Pending}
use Rattle.reader.specs.Read.{kept, field_read}
use Rattle.cells.specs.Cells.{pending_in}
use Rattle.cells.specs.Writes.{Pends}
use Rattle.axis.proofs.Taking.{more-due, kept_word, refused-word}
use Rattle.axis.proofs.store.Goals as goal

pub returns-then-field_ok : goal.returns-then-field_ok
unfolding field_read
returns-then-field_ok c =
    let p = pending_in c.args.axis.now in
    let k = more-due p c.args.kind c.args.value c.requires.1 c.requires.2 in
    rw (sym c.requires.0, sym c.field_ok.ensures ∙ c.if-field_ok.true)
    (kept_word _ _ false (kept p c.args.kind c.args.value) (subst (λ (q : Pending). Pends c.args.axis.now q c.append.new.axis) k c.append.ensures))

pub returns-else-field_ok : goal.returns-else-field_ok
unfolding field_read
returns-else-field_ok c =
    rw (sym c.requires.0, sym c.field_ok.ensures ∙ c.if-field_ok.false) (refused-word _ _ false OutOfRange c.empty.ensures)
