-- `words::decoder::decode_long` meets its contract: all bits of a position count.
-- Assumes nothing.
use mathlib.Core.Path.{◌≡◌, ◌∙◌}
use lib.ListN.{length}
use mir.Facts.{to_z-of_z}
use mir.Syntax.{w32}
use mir.Val.{SFits}
use Rattle.words.specs.Decode.{at}
use Rattle.words.proofs.Decoded.{long, decoded}
use borrow.Author.Rules.{rules}
use Rattle.words.proofs.decoder.decode_long.Goals as goal

pub returns : goal.returns
returns c =
    let e = c.requires in
    let v = c.args.values in
    let n : length v ≡ 14 = search rules in
    let fo : SFits w32 c.long_position-offset.result = search rules in
    let fl : SFits w32 c.long_position-lower.result = search rules in
    let fu : SFits w32 c.long_position-upper.result = search rules in
    c.decode_with.ensures
    ∙ decoded v c.args.tops n
    (to_z-of_z fo ∙ c.long_position-offset.ensures ∙ long (at v 0) _ _ e)
    (to_z-of_z fl ∙ c.long_position-lower.ensures ∙ long (at v 0) _ _ e)
    (to_z-of_z fu ∙ c.long_position-upper.ensures ∙ long (at v 0) _ _ e)
    c.option.ensures c.homing.ensures
