-- What the table's types mean in the model.
use Rattle.model.specs.Prefix.{Prefix as ModelPrefix}
use Rattle.model.specs.State.{Hand as ModelHand, plain, learner}
use Rattle.model.specs.Ipv4.{Hop as ModelHop, direct, via, reject, Origin as ModelOrigin, fixed, learned, Payload as ModelPayload}
use Rattle.model.specs.Routes.{Route as ModelRoute}
use Rattle.route.specs.declared.prefix.Prefix.{Prefix}
use Rattle.route.specs.declared.hop.Hop.{Hop}
use Rattle.route.specs.declared.hop.Hop.TheVariants.{Direct, Via, Reject}
use Rattle.route.specs.declared.origin.Origin.{Origin}
use Rattle.route.specs.declared.origin.Origin.TheVariants.{Fixed, Learned}
use Rattle.route.specs.declared.origin.Hand.{Hand}
use Rattle.route.specs.declared.origin.Hand.TheVariants as hand
use Rattle.route.specs.declared.hop.Payload.{Payload}
use Rattle.route.specs.declared.hop.Route.{Route}

-- What a prefix means.
abbrev pub prefix_of : Prefix → ModelPrefix
prefix_of p = record { address = p.address; length = p.length.0 }

-- What a hop means.
abbrev pub hop_of : Hop → ModelHop
hop_of (Direct p) = direct p.0
hop_of (Via p g) = via p.0 g
hop_of Reject = reject

-- What an origin means.
abbrev pub origin_of : Origin → ModelOrigin
origin_of Fixed = fixed
origin_of (Learned m) = learned m.0

-- Whose hand it is.
abbrev pub hand_is : Hand → ModelHand
hand_is hand.Plain = plain
hand_is hand.Learner = learner

-- What a payload means.
abbrev pub payload_of : Payload → ModelPayload
payload_of h = record { hop = hop_of h.hop; origin = origin_of h.origin }

-- What a route means.
abbrev pub route_of : Route → ModelRoute ModelPayload
route_of r = record { prefix = prefix_of r.prefix; payload = payload_of r.payload }
