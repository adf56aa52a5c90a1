-- How document 01's listing writes a route.
use Rattle.std.specs.Prelude.{ℕ, ◌/◌, ◌%◌, ◌^◌, List, ◌++◌, codes, decimal}
use Rattle.route.specs.declared.prefix.Prefix.{Prefix}
use Rattle.route.specs.declared.hop.Hop.{Hop}
use Rattle.route.specs.declared.hop.Hop.TheVariants.{Direct, Via, Reject}
use Rattle.route.specs.declared.origin.Origin.{Origin}
use Rattle.route.specs.declared.origin.Origin.TheVariants.{Fixed, Learned}
use Rattle.route.specs.declared.hop.Route.{Route}

-- An address: its four octets in decimal with dots between them, the highest first.
abbrev pub address_text : ℕ → List ℕ
address_text a =
    decimal (a / 2 ^ 24) ++ codes "." ++ decimal (a / 2 ^ 16 % 256) ++ codes "." ++ decimal (a / 2 ^ 8 % 256) ++ codes "." ++ decimal (a % 256)

-- A prefix: its address, a slash and its length.
abbrev pub prefix_text : Prefix → List ℕ
prefix_text p = address_text p.address ++ codes "/" ++ decimal p.length.0

-- A hop.
abbrev pub hop_text : Hop → List ℕ
hop_text (Direct p) = codes "direct " ++ decimal p.0
hop_text (Via p g) = codes "via " ++ decimal p.0 ++ codes " " ++ address_text g
hop_text Reject = codes "reject"

-- An origin: a fixed route has metric 0.
abbrev pub origin_text : Origin → List ℕ
origin_text Fixed = codes "fixed 0"
origin_text (Learned m) = codes "learned " ++ decimal m.0

-- A route.
abbrev pub route_text : Route → List ℕ
route_text r = prefix_text r.prefix ++ codes " " ++ hop_text r.payload.hop ++ codes " " ++ origin_text r.payload.origin
