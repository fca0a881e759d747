use Rattle.am_world.proofs.Words.{ap, ◌∙◌, has_log_by_status, World, watched_is_run, NameStanding, Play, replay}
use Rattle.am_world.proofs.world.World.has_log.Goals as goal

pub returns : goal.returns
returns c =
    let p = c.self.inside.run in
    let shown = c.standing.ensures ∙ ((c.self.invariant).sees).names c.args.name in
    c.has_log.ensures ∙ ap (λ (s : NameStanding). has_log_by_status s.status) shown
    ∙ ap (λ (w : World). has_log_by_status (w.nodes c.args.name).status) (watched_is_run p.rules p.events)
    ∙ ap (λ (q : Play). has_log_by_status ((replay q).nodes c.args.name).status) c.self.view_is
