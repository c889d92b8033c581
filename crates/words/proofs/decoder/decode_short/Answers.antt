-- `words::decoder::decode_short` meets its contract: over 28 bits the top ones vanish.
-- Assumes nothing.
use mathlib.Core.Path.{◌≡◌, ◌∙◌}
use lib.ListN.{length}
use mir.Facts.{to_z-of_z}
use mir.Syntax.{w32}
use mir.Val.{SFits}
use Rattle.words.specs.Decode.{at}
use Rattle.words.proofs.Decoded.{short, decoded}
use borrow.Author.Rules.{rules}
use Rattle.words.proofs.decoder.decode_short.Goals as goal

pub returns : goal.returns
returns c tops =
    let e = c.requires in
    let v = c.args.values in
    let n : length v ≡ 14 = search rules in
    let fo : SFits w32 c.short_position-offset.result = search rules in
    let fl : SFits w32 c.short_position-lower.result = search rules in
    let fu : SFits w32 c.short_position-upper.result = search rules in
    c.decode_with.ensures
    ∙ decoded v tops n
    (to_z-of_z fo ∙ c.short_position-offset.ensures ∙ short (at v 0) _ _ e)
    (to_z-of_z fl ∙ c.short_position-lower.ensures ∙ short (at v 0) _ _ e)
    (to_z-of_z fu ∙ c.short_position-upper.ensures ∙ short (at v 0) _ _ e)
    c.option.ensures c.homing.ensures
