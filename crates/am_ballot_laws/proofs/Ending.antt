-- How a look ends a ballot that has learned all that it needs.
use Rattle.am_fetch_laws.proofs.Words.{◌≡◌, nat_lt, false, refl, Node, Ballot, is_unfinished_ballot, split_on_bool, size, ◌+◌, ◌-◌}
unfoldable use Rattle.am_model.specs.Ballots.{decide}
use Rattle.am_model.specs.Ballots.{need_set_of, need_set_without_given_up, trim_to_least_taken_by}
use Rattle.am_model.specs.Node.{top}
use Rattle.am_step_laws.specs.Looks.{HasLearned}
use Rattle.am_ballot_laws.specs.Following.{LearnedBallotsEnd, LearnedBallotsDecide}

-- such a look leaves no open ballot, and the node's status as it was
pub learned_look : (m : Node) (b : Ballot) → HasLearned m b → (is_unfinished_ballot (decide m b).node.ballot ≡ false) × ((decide m b).node.status ≡ m.status)
unfolding decide
learned_look m b h =
    let names = need_set_without_given_up b (need_set_of m b) in
    split_on_bool (nat_lt (size names) b.least)
    (λ t. rw (h.needed, h.all, h.own, t) (refl, refl))
    (λ f. split_on_bool (nat_lt (m.core.rules.window + 16 - size names) (top m + 1 - (trim_to_least_taken_by m b names).core.base))
    (λ t. rw (h.needed, h.all, h.own, f, t) (refl, refl))
    (λ g. rw (h.needed, h.all, h.own, f, g) (refl, refl)))

pub learned_ballots_end : LearnedBallotsEnd
learned_ballots_end m b h = (learned_look m b h).0

pub learned_ballots_decide : LearnedBallotsDecide
unfolding decide
learned_ballots_decide m b h = rw (h.learned.needed, h.learned.all, h.learned.own, h.enough, h.room) refl
