-- All items that come, joined.
use Rattle.std.proofs.Common.{◌≡◌, List, [], ◌∷◌, None}
use Rattle.std.proofs.Math.Seq.{drop-append_seam}
use Rattle.std.specs.Iterator.{Yields}
use Rattle.listing.specs.declared.item.Item.{Item}
use Rattle.listing.specs.declared.items.Items.{Items}
use Rattle.listing.specs.Pieces.{Next, Listed, joined, Joins}

from_yields : (is : List Item) (p t u : Items) → Yields Next p is t → Next t None u → Listed p.start p.bytes.now is × (joined is ≡ p.bytes.now)
from_yields [] p t u e (none, _, _) = (rw e none, rw e (cc))
from_yields (i ∷ is) p t u (j, (some, piece, whole, start), more) last =
    let rest = from_yields is j t u more last in
    ((some, piece, rw (← start, ← whole, drop-append_seam) rest.0), rw rest.1 whole)

pub joins : (p : Items) → Joins p
joins p is (u, (t, ys, last)) = from_yields is p t u ys last
