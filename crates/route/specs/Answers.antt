-- Document 01's number and value for each answer.
use Rattle.std.specs.Prelude.{ℕ, Result, Ok, Err}
use Rattle.model.specs.Ipv4.{Payload as ModelPayload}
use Rattle.model.specs.Call.{Value, nothing, route, count}
use Rattle.route.specs.Means.{route_of}
use Rattle.route.specs.declared.prefix.Length.{Length}
use Rattle.route.specs.declared.hop.Route.{Route}
use Rattle.route.specs.declared.answer.Refusal.{Refusal}
use Rattle.route.specs.declared.answer.Refusal.TheVariants.{BadCapacity, ShortBuffer, BadPrefix, BadHop, AlreadyThere, NotThere, TableFull, TrialFull, NotSound, TrialIsOpen, NoTrial, NothingStanding, NoMatch, NoFurther, RouteIsFixed, BadMetric}

-- The table of numbers.
abbrev pub refusal_number : Refusal → ℕ
refusal_number BadCapacity = 1
refusal_number ShortBuffer = 2
refusal_number BadPrefix = 3
refusal_number BadHop = 4
refusal_number AlreadyThere = 5
refusal_number NotThere = 6
refusal_number TableFull = 7
refusal_number TrialFull = 8
refusal_number NotSound = 9
refusal_number TrialIsOpen = 10
refusal_number NoTrial = 11
refusal_number NothingStanding = 12
refusal_number NoMatch = 13
refusal_number NoFurther = 14
refusal_number RouteIsFixed = 15
refusal_number BadMetric = 16

-- What each answer says: its number, and its value in the model's words. "A refusal has no value."
abbrev pub answer_number : {T : Type 0} → Result T Refusal → ℕ
answer_number (Ok x) = 0
answer_number (Err r) = refusal_number r

-- The value of a lookup or a step of the walk.
abbrev pub found_value : Result Route Refusal → Value ModelPayload
found_value (Ok r) = route (route_of r)
found_value (Err x) = nothing

-- The value of room left.
abbrev pub room_value : Result ℕ Refusal → Value ModelPayload
room_value (Ok n) = count n
room_value (Err x) = nothing

-- The value of mask to length.
abbrev pub measured_value : Result Length Refusal → Value ModelPayload
measured_value (Ok n) = count n.0
measured_value (Err x) = nothing
