-- Route b's first leg is a's first, run to the limit ahead; and its event counts exactly where the limit does in a's. So the tick that turns
-- (`Turns`) is the one that ends b's first segment; and where a leg's event is L, that limit is never its error.
-- Assumes nothing.
use mathlib.Core.Path.{◌≡◌, refl}
use mathlib.Core.Bool.{cond}
use mathlib.Core.List.{List, [], ◌∷◌, map}
use mathlib.Core.Option.{Option, none, some}
use Rattle.legs.specs.Legs.{Leg}
use Rattle.legs.specs.Events.{View, event_counts, limit_counts}
use Rattle.legs.specs.Routes.{table, to_limit}
use Rattle.legs.specs.Numbers.{is_route}

abbrev first_of : List Leg → Option Leg
first_of [] = none
first_of (l ∷ ls) = some l

abbrev limit_of : Option Leg → Option Leg
limit_of none = none
limit_of (some l) = some (to_limit l)

-- for each row of the table that has a b
pub first-legs : map (λ e. first_of e.row.b) table ≡ map (λ e. cond (is_route e.row.b) (limit_of (first_of e.row.a)) none) table
first-legs = refl

pub limit-counts : (l : Leg) (v : View) → event_counts (to_limit l) v ≡ limit_counts l v
unfolding event_counts limit_counts
limit-counts l v = refl
