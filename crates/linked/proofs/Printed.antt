-- In the environment of the linked program the claims on the show and on `scene-fields` hold, with nothing taken for granted.
use borrow.Fn.World.{World}
use Rattle.printed_claims.specs.Show.{ShowClaim}
use Rattle.printed_claims.specs.Listing.{ListingClaim}
use Rattle.printed_claims.proofs.Show.{show_claim}
use Rattle.printed_claims.proofs.Listing.{listing_claim}
use Rattle.linked.proofs.Linked.{linked}

pub show_claim_linked : (w : World) → ShowClaim w linked.0
show_claim_linked w = show_claim w linked.0 linked.1.show

pub listing_claim_linked : (w : World) → ListingClaim w linked.0
listing_claim_linked w = listing_claim w linked.0 linked.1.listing
