use Rattle.std.proofs.Common.{◌≡◌, ◌<◌, Some, None, sym, ◌∙◌, arith, length, get_or}
use Rattle.am_base.specs.Names.{place_of_name}
use Rattle.am_service_defs.specs.Assembling.{taken_with}
use Rattle.am_long_messages.specs.Rooms.{begun_in}
use Rattle.am_long_messages.proofs.Keeping.{ended_by_whole_message, ended_by_other_body, rooms_after_taken_body}
use Rattle.am_long_messages.proofs.assembler.Assembler.take.Goals as goal
use Rattle.am_long_messages.proofs.assembler.Assembler.take.Goals.{in-Whole, in_default}

pub returns-clause-after : goal.returns-clause-after
returns-clause-after c =
    let rooms = c.self.inside.rooms.items in
    let before = c.self.inside.whole in
    let from = c.args.from in
    let old = c.index_mut-room.result.now in
    let new = c.take-fed.new.self in
    let body = c.args.body.now in
    let taken = taken_with (begun_in old) from body in
    let there : place_of_name from < length rooms = omega (arith, c.place.ensures.value, c.place.ensures.fits, c.self.invariant) in
    let was : old ≡ get_or rooms (place_of_name from) old = rw c.place.ensures.value at c.index_mut-room.ensures.value in
    let kept = c.take-fed.ensures.after in
    elim c.match-fed.branch [
      | in-Whole w ↦
          (let ended = ended_by_whole_message rooms from w.in-Whole.from new taken there kept (sym c.take-fed.ensures.value ∙ w.in-Whole.is) in
          rw (← c.self.view_is, c.place.ensures.value, w.self-is) (rooms_after_taken_body rooms before (Some w.in-Whole.from) from old new body there was kept ended))
      | in_default w ↦
          (let ended = ended_by_other_body from taken (λ whose e. w.in_default.not-Whole whose (c.take-fed.ensures.value ∙ e)) in
          rw (← c.self.view_is, c.place.ensures.value, w.self-is) (rooms_after_taken_body rooms before None from old new body there was kept ended))
    ]
