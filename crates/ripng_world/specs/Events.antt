-- The events of the code as those of the model.
use Rattle.ripng_world.specs.World.{Event, Deliver, Stranger, Tick, Restart, Shutdown, LinkDown, LinkUp, Reconfigure}
use Rattle.ripng_world.specs.declared.event.Event as coded
use Rattle.ripng_world.specs.declared.event.Event.TheVariants as variants

-- the event of the model
abbrev pub event_of : coded.Event → Event
event_of (variants.Deliver datagram router iface now) = Deliver datagram router iface now
event_of (variants.Stranger router arrival) = Stranger router arrival
event_of (variants.Tick router now word) = Tick router now word
event_of (variants.Restart router now) = Restart router now
event_of (variants.Shutdown router now) = Shutdown router now
event_of (variants.LinkDown router now iface) = LinkDown router now iface
event_of (variants.LinkUp router now iface) = LinkUp router now iface
event_of (variants.Reconfigure router now c) = Reconfigure router now c
