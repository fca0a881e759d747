use Rattle.am_world.proofs.Words.{◌<◌, length, ◌∙◌, arith, place_of_name}
use Rattle.am_world.proofs.{Spots.slice_get_of_read_item, Goes.play_shows_its_replay}
use Rattle.am_world.proofs.run.Run.node.Goals as goal

pub returns : goal.returns
returns c =
    let w = c.self.inside in
    let shows = play_shows_its_replay c.args.self.now w.journal.founding w.nodes.items w.lives w.stopped w.journal.records w.group.items c.self.view_is c.self.invariant in
    let within : place_of_name c.args.place < length w.nodes.items = omega arith in
    (shows.standing.each (place_of_name c.args.place) c.index.result.now
    (slice_get_of_read_item w.nodes.items c.from.result (place_of_name c.args.place) c.index.result.now (c.from.ensures ∙ c.place.ensures.value) within c.index.ensures)).0
