use Rattle.std.proofs.Common.{[], None, refl}
use Rattle.ripng_trace.specs.Saying.{BreaksOff, Said, SaysAside, SaysEvent, SaysStart}
use Rattle.ripng_trace.proofs.Reading.{lines_told, until_told}
use Rattle.ripng_trace.proofs.tracer.readers_know_each_table.Goals as goal

pub returns-clause-told : goal.returns-clause-told
returns-clause-told c = λ said said' lab known told.
    let all = lines_told (λ (s : Said). s) SaysStart SaysEvent BreaksOff SaysAside (λ a l now b h. h) (λ a what b h. h) (λ a what b h. h) (λ a what b h. h) told.0 None said lab said' [] refl known told.1 in (all.0, all.1, all.2)

pub returns-clause-told_until : goal.returns-clause-told_until
returns-clause-told_until c = λ said said' lab known until.
    until_told (λ (s : Said). s) SaysStart SaysEvent BreaksOff SaysAside (λ a l now b h. h) (λ a what b h. h) (λ a what b h. h) (λ a what b h. h) said lab said' known until
