use Rattle.ripng_world.proofs.Telling.{aged_sound}
use Rattle.ripng_world.proofs.Keeping.{heard_sound}
use Rattle.ripng_world.proofs.WorldRuns.{changed_sound}
use Rattle.ripng_world.proofs.Unchanged.{aged_first, heard_first}
use Rattle.ripng_world.proofs.laws.keeps_routes_backed.Goals as goal

pub returns-clause-heard : goal.returns-clause-heard
returns-clause-heard c = heard_sound

pub returns-clause-aged : goal.returns-clause-aged
returns-clause-aged c = aged_sound

pub returns-clause-changed : goal.returns-clause-changed
returns-clause-changed c = changed_sound

pub returns-clause-heard_fixed : goal.returns-clause-heard_fixed
returns-clause-heard_fixed c = heard_first

pub returns-clause-aged_fixed : goal.returns-clause-aged_fixed
returns-clause-aged_fixed c = aged_first
