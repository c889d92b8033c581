-- `cells::checksum` meets its contract: after i turns the total is that of kind 14's value and the first i, modulo 2 ^ 32.
-- Assumes nothing.
use Rattle.std.proofs.Common.{◌≡◌, ℕ, ◌+◌, ◌%◌, ◌^◌, ◌∙◌, ap, add-one, arith}
use Rattle.words.specs.Encode
use Rattle.words.specs.Encode.{checksum_of}
use Rattle.cells.specs.Lists.{cells_from}
use Rattle.cells.specs.Cells.{value_in}
use Rattle.cells.proofs.Laws.{summed, word_of_part}
use Rattle.cells.proofs.checksum.Goals as goal

pub loop-value-init : goal.loop-value-init
unfolding Encode.total
loop-value-init c = omega (arith, c.tops-total.ensures)

pub loop-value-preserved : goal.loop-value-preserved
loop-value-preserved c =
    let l = c.args.axis.now in
    let i = c.loop-value.value-index in
    rw (add-one i, word_of_part 24 14 i l (omega arith)) (omega (arith, summed l 24 i, c.loop-value.invariant))

pub returns : goal.returns
unfolding checksum_of Encode.total
returns c =
    let l = c.args.axis.now in
    let i : c.loop-value.value-index ≡ 14 = omega arith in
    let t = c.loop-value.invariant ∙ ap (λ (n : ℕ). (value_in l 14 + Encode.total (cells_from 24 n l)) % 2 ^ 32) i in
    omega (arith, t)
