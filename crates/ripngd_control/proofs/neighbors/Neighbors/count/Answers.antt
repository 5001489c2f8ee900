use Rattle.std.proofs.Common.{◌≡◌, ◌∙◌, ap, inl, inr}
use Rattle.std.specs.Bool.{MatchBool}
use Rattle.ripngd_control.specs.Watching.{MakesRoom, is_sound_response, lacks_room}
use Rattle.ripngd_control.proofs.neighbors.Neighbors.count.Goals.{then-lacks_room, else-lacks_room}
use Rattle.ripngd_control.proofs.neighbors.Neighbors.count.Goals as goal

pub returns : goal.returns
returns c =
    let room : MatchBool (lacks_room c.args.arrived.now c.args.self.now) (MakesRoom (is_sound_response c.args.bytes.now c.args.fault) c.args.self.now c.if-lacks_room.self) (c.if-lacks_room.self ≡ c.args.self.now) =
    elim c.if-lacks_room.branch [
      | then-lacks_room w ↦ rw (← c.lacks_room.ensures, w.if-lacks_room.true, w.self-is, ← w.is_sound_response.ensures) w.make_room.ensures
      | else-lacks_room w ↦ rw (← c.lacks_room.ensures, w.if-lacks_room.false) w.self-is
    ] in
    let same : c.if-lacks_room.self.replaces ≡ c.args.self.now.replaces =
    elim c.if-lacks_room.branch [
      | then-lacks_room w ↦ ap (λ x. x.replaces) w.self-is ∙ elim w.make_room.ensures [ inl kept ↦ ap (λ x. x.replaces) kept.0 | inr went ↦ went.7 ]
      | else-lacks_room w ↦ ap (λ x. x.replaces) w.self-is
    ] in
    (c.if-lacks_room.self, room, c.count_in_row.ensures.counted, c.count_in_row.ensures.replaces ∙ same)
