-- `choices::set` meets its contract: a word means what its name means.
-- Assumes nothing.
use Rattle.std.proofs.Common.{None, refl, ◌∙◌, rules}
use Rattle.cursors.proofs.Texts.{meaning_told}
use Rattle.choices.specs.Choices.{sets, set_read}
use Rattle.choices.proofs.set.Goals as goal

pub returns : goal.returns
unfolding set_read
returns c =
    let told = meaning_told sets None refl c.name.ensures c.next-word.ensures.bytes in
    let seen = c.limit_set.ensures ∙ told in
    search rules
