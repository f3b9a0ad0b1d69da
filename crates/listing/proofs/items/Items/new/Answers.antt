use Rattle.listing.proofs.Joining.{joins}
use Rattle.listing.proofs.items.Items.new.Goals as goal

-- `using(joins)` on the function does not close it: the goal, once unfolded, does not show the part
pub returns-clause-joins : goal.returns-clause-joins
returns-clause-joins c = joins _
