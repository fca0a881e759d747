use Rattle.am_shared_journal.proofs.Words.{rules, ap, ◌∙◌, Sat}
use Rattle.am_shared_journal.proofs.Sharing.{rule_allows_join_of_seats, rule_allows_look_at_count, joined_views_unite}
use Rattle.am_shared_journal.proofs.wire.SharedJournal.unite.Goals as goal

pub join_seat-requires : goal.join_seat-requires
join_seat-requires g c =
    (search rules, search rules, search rules, search rules, rule_allows_join_of_seats _ _ _ _ _ _ c.requires.idle.0.turn c.requires.idle.1.turn c.requires.keyed)

pub load-requires : goal.load-requires
load-requires g c =
    let is = c.join_seat.ensures.2 in
    (search rules, search rules, rule_allows_look_at_count _ _ _ _ _ (ap (λ (m : Sat). m.0.turn) is) (ap (λ (m : Sat). m.1) is ∙ c.requires.idle.0.empty))

pub returns-clause-unites : goal.returns-clause-unites
returns-clause-unites g c = joined_views_unite _ _ _ _ _ _ c.requires.keyed c.join_seat.ensures.2 c.requires.idle.0.empty c.load.ensures.2
