-- A leg's row, and then the rows of those after it.
-- Assumes nothing.
use Prim.Native.Nat.{ℕ, suc, ◌≤◌, ◌<◌}
use mathlib.Core.List.{List}
use mathlib.Core.Path.{◌≡◌, sym, ap, ◌∙◌}
use lib.IntN.{ℤ}
use lib.ListN.{length, drop, get_or, drop_of_length-le}
use lib.Seq.{drop-cons}
use Rattle.carriage.specs.declared.Rail.{Rail}
use Rattle.simulator.specs.declared.LegRun.{LegRun}
use Rattle.page.specs.Written.{Written}
use Rattle.page.specs.Page.{printed}
use Rattle.page.proofs.Printing.{printed_then, printed_nothing}
use Rattle.drawing.specs.Picture.{leg_row, ended_at, leg_rows, last_cell}

module _ (r : Rail) (legs : List LegRun) (i : ℕ) where
  pub one_row : (page page' : Written) (cell : ℤ) (d : LegRun) → i < length legs → page' ≡ printed page (leg_row r cell (get_or legs i d))
      → printed page' (leg_rows r (ended_at cell (get_or legs i d)) (drop (suc i) legs)) ≡ printed page (leg_rows r cell (drop i legs))
  one_row page page' cell d h e =
      rw e (printed_then page (leg_row r cell (get_or legs i d)) (leg_rows r (ended_at cell (get_or legs i d)) (drop (suc i) legs)))
      ∙ ap (λ ls. printed page (leg_rows r cell ls)) (sym (drop-cons legs i d h))

  pub one_cell : (cell : ℤ) (d : LegRun) → i < length legs → last_cell (ended_at cell (get_or legs i d)) (drop (suc i) legs) ≡ last_cell cell (drop i legs)
  one_cell cell d h = ap (last_cell cell) (sym (drop-cons legs i d h))

  pub no_row : (page : Written) (cell : ℤ) → length legs ≤ i → page ≡ printed page (leg_rows r cell (drop i legs))
  no_row page cell h = sym (ap (λ ls. printed page (leg_rows r cell ls)) (drop_of_length-le legs h) ∙ printed_nothing page)
