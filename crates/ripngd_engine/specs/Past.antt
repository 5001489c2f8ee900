-- What proofs know of the past of a link, of clients and of a log.
use Rattle.std.specs.Prelude.{ℕ, List, []}
use Rattle.ripngd_engine.specs.Link.{Call}
use Rattle.ripngd_engine.specs.declared.peer.Peer.{Peer}
use Rattle.ripngd_engine.specs.declared.peer.Place.{Place}

-- where a link was bound, and with which peers; its calls, the lines of clients that were obeyed, and the bytes of a log, in order
pub record Past : Type 0 where
  pub places : List Place
  pub peers : List (List Peer)
  pub calls : List Call
  pub lines : List (List ℕ)
  pub bytes : List ℕ

-- nothing has happened
abbrev pub no_past : Past
no_past = record { places = []; peers = []; calls = []; lines = []; bytes = [] }
