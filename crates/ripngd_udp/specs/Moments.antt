-- The moments that a clock has given, of which this reading is the last.
use Rattle.std.specs.Prelude.{ℕ, List, [], ◌∷◌, ◌++◌}
use Rattle.ripngd_udp.specs.declared.moments.Reading.{Reading}
use Rattle.ripngd_udp.specs.declared.moments.Reading.TheVariants as readings

-- none at first, and then each after those before it
abbrev pub moments_with : Reading → List ℕ
moments_with readings.Made = []
moments_with (readings.Gave before now) = before.now.past ++ now ∷ []
