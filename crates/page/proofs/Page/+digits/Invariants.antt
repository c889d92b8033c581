-- The measure of the cycle of calls {digits} is the count of places.
use Rattle.page.proofs.Page.+digits.Given as goal

abbrev pub decreases-digits : goal.decreases-digits
decreases-digits l = l.places
