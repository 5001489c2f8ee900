-- What is wrong with a part, said of what it is a part of.
use Rattle.ripngd_config.specs.Faults.{RefusesKey}
use Rattle.ripngd_config.specs.declared.fault.ConfigFault.{ConfigFault}
use Rattle.ripngd_config.specs.declared.fault.ConfigFault.TheVariants.{BadToml, MissingKey, WrongType, BadValue, UnknownKey, Router, PortTwice, PeerTwice, OutOfMemory}

pub key_refuses : (P Q : ConfigFault → Type 0) → ((f : ConfigFault) → P f → Q f) → (f : ConfigFault) → RefusesKey P f → RefusesKey Q f
key_refuses P Q then (BadToml place) h = h
key_refuses P Q then (MissingKey path) h = then _ h
key_refuses P Q then (WrongType path) h = then _ h
key_refuses P Q then (BadValue path) h = then _ h
key_refuses P Q then (UnknownKey path) h = then _ h
key_refuses P Q then (Router refused named) h = h
key_refuses P Q then (PortTwice path) h = h
key_refuses P Q then (PeerTwice path) h = h
key_refuses P Q then OutOfMemory h = h
