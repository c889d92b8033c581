-- `choices::standstill` meets its contract: a word means what its name means.
-- Assumes nothing.
use Rattle.std.proofs.Common.{None, refl, ◌∙◌, rules}
use Rattle.cursors.proofs.Texts.{meaning_told}
use Rattle.choices.specs.Choices.{stills, standstill_read}
use Rattle.choices.proofs.standstill.Goals as goal

pub returns : goal.returns
unfolding standstill_read
returns c =
    let told = meaning_told stills None refl c.name.ensures c.next-word.ensures.bytes in
    let seen = c.still.ensures ∙ told in
    search rules
