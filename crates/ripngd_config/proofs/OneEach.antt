-- What the tables make has a place and a list of peers for each interface.
use Rattle.std.proofs.Common.{◌≡◌, ◌∙◌, ℕ, Bool, List, Vec, ap, length, map, sym}
use Rattle.std.proofs.lemmas.List.{length-map}
use Rattle.std.specs.declared.alloc.Global.{Global}
use Rattle.router_core.specs.Config.{Config as RouterConfig}
use Rattle.ripngd_config.specs.Configuration.{HasOneEach, places_of, router_config_of}
use Rattle.ripngd_config.specs.declared.configuration.Config.{Config}
use Rattle.ripngd_config.specs.declared.tables.Document.{Document}
use Rattle.ripngd_engine.specs.declared.peer.Peer.{Peer}
use Rattle.ripngd_engine.specs.declared.peer.Place.{Place}

pub one_each : (tag : ℕ) (quiet : Bool) (d : Document) (c : Config) → c.router ≡ router_config_of tag quiet d → c.places.items ≡ places_of d → c.peers.items ≡ map (λ t. t.peers) d.interfaces.items
    → HasOneEach c
one_each tag quiet d c router places peers =
    let count : length c.router.interfaces ≡ length d.interfaces.items = ap (λ (r : RouterConfig). length r.interfaces) router ∙ length-map d.interfaces.items (λ t. t.interface) in
    record {
      places = ap (λ (ps : List Place). length ps) places ∙ length-map d.interfaces.items _ ∙ sym count;
      peers = ap (λ (ps : List (Vec Peer Global)). length ps) peers ∙ length-map d.interfaces.items (λ t. t.peers) ∙ sym count;
    }
