-- What a coordinator and its voters do while a ballot waits for votes.
use Rattle.am_fetch_laws.proofs.Words.{◌≡◌, ℕ, ◌==◌, true, false, List, [], ◌∷◌, Some, refl, sym, ap, ◌∙◌, subst, arith, nat_tests, has, size}
use Rattle.am_fetch_laws.proofs.Words.{Stamp, stamps_are_equal, letter_to, Node, Ballot, Plan, is_member, is_sequencer, node_with_promise, finish, step, row, tick_row}
use Rattle.am_fetch_laws.proofs.Words.{tick_by_ballot, tick_by_status, hear_packet, hear_row, set_of_one_name, refresh_at_end, stamp_eq_of_itself, plan_with_letter}
use Rattle.am_fetch_laws.proofs.Words.{end_refresh_rests_with_list, is_sequencer_after_rest}
use Rattle.am_base.specs.declared.event.NodeEvent.TheVariants as does
use Rattle.am_base.specs.declared.image.Vote.{Vote}
use Rattle.am_base.specs.declared.outcome.Outcome.TheVariants as said
use Rattle.am_base.specs.Stamps.{stamp_is_less}
use Rattle.am_packet.specs.declared.packet.Packet.TheVariants as packet
use Rattle.am_model.specs.Ballots.{decide, own_vote, vote_packet_of, ballot_with_vote}
unfoldable use Rattle.am_model.specs.Ballots.{begin_ballot, keep_vote_in_ballot, give_up_in_ballot}
use Rattle.am_model.specs.Calls.{give_up_in_open_ballot}
unfoldable use Rattle.am_model.specs.Calls.{reset_row, give_up_row}
use Rattle.am_model.specs.Emit.{StepResult, invite_packet_of}
unfoldable use Rattle.am_model.specs.Resets.{invite_row, vote_row}
use Rattle.am_model.specs.Resets.{take_vote}
use Rattle.am_model.specs.Ticks.{tick_of_coordinator}
use Rattle.am_model.proofs.Sets.{set_with_name_has_size}
use Rattle.am_fetch_laws.specs.Exchanges.{Heard, hear_letters}
use Rattle.am_fetch_laws.proofs.Asking.{one_name_is_there, one_name_is_somebody, status_of_member}
use Rattle.am_fetch_laws.proofs.Exchanged.{hears_one}
use Rattle.am_ballot_laws.proofs.Fetching.{promised_leads_not}
use Rattle.am_ballot_laws.specs.Voting.{ResetsLook, Coordinates, GiveUpsLook, Invites, CoordinatorsInvite, VotesLook, MayVote, Votes, InvitesAreVoted, voted, VotersAreHeard}

-- a stamp isn't less than itself
no_stamp_is_less_than_itself : (v : Stamp) → stamp_is_less v v ≡ false
no_stamp_is_less_than_itself v = grind (arith, nat_tests)

-- ---- calls

pub resets_look : ResetsLook
unfolding step row reset_row begin_ballot finish
resets_look m least resilience h =
    let member = h.member in
    let listed = h.listed in
    let stays = h.stays in
    rw (member, listed, stays) refl

give_up_when_open : (m : Node) (b : Ballot) (name : ℕ) → b.is_over ≡ false → (name == m.core.who) ≡ false → give_up_in_open_ballot m name (Some b) ≡ give_up_in_ballot m b name
give_up_when_open m b name open_ other = rw (open_, other) refl

pub give_ups_look : GiveUpsLook
unfolding step row give_up_row finish give_up_in_ballot
give_ups_look m b name h other = ap (λ (p : Plan). (finish m p).node) (ap (give_up_in_open_ballot m name) h.last ∙ give_up_when_open m b name h.open_ other)

-- ---- a tick

tick_invites : (m : Node) (b : Ballot) (names : List ℕ) → Coordinates m b → b.answer ≡ said.Waiting names → tick_row m ≡ plan_with_letter m said.Ticked names invite_packet_of
unfolding tick_row
tick_invites m b names h answer =
    let open_ = h.open_ in
    ap (tick_by_status m) (status_of_member m.status h.listed) ∙ ap (tick_by_ballot m) h.last ∙ rw open_ (ap (tick_of_coordinator m) answer)

pub coordinators_invite : CoordinatorsInvite
unfolding step row finish
coordinators_invite m b names h answer some =
    let r = end_refresh_rests_with_list m in
    let leads : is_sequencer (refresh_at_end m) ≡ false = is_sequencer_after_rest r.rests ∙ promised_leads_not m h.below in
    subst (Invites m names) (sym (ap (finish m) (tick_invites m b names h answer))) (record {
      node = refl;
      letters = rw (leads, some) (λ i. letter_to names (packet.Invite (r.rests.who i) (r.rests.promise i)) ∷ []);
    })

-- ---- an Invite

invite_is_voted : (m : Node) (v : Stamp) → MayVote m v → hear_row m (packet.Invite v.by v) ≡ plan_with_letter (node_with_promise m v) said.Voted (set_of_one_name v.by) vote_packet_of
unfolding hear_row invite_row
invite_is_voted m v h =
    let other = h.other in
    let listed = h.listed in
    let may = h.may in
    let by : (v.by == v.by) ≡ true = grind (arith, nat_tests) in
    rw (other, listed, may, by) refl

pub invites_are_voted : InvitesAreVoted
unfolding hear_packet finish
invites_are_voted m v h =
    let p = node_with_promise m v in
    let n = refresh_at_end p in
    let r = end_refresh_rests_with_list p in
    let leads : is_sequencer n ≡ false = is_sequencer_after_rest r.rests ∙ promised_leads_not p h.below in
    let some = one_name_is_somebody v.by in
    subst (λ (q : Plan). Votes m v (finish m q)) (sym (invite_is_voted m v h)) (record {
      node = refl;
      letters = rw (leads, some) (λ i. letter_to (set_of_one_name v.by) (packet.Vote (r.rests.who i) (r.rests.promise i) (own_vote n)) ∷ []);
    })

-- ---- a Vote

vote_in_open_ballot : (m : Node) (b : Ballot) (s : ℕ) (v : Stamp) (vote : Vote) → stamp_is_less v m.core.promise ≡ false → b.is_over ≡ false → stamps_are_equal b.stamp v ≡ true → b.given_up s ≡ false
    → take_vote m s v vote (Some b) ≡ keep_vote_in_ballot m b s vote
vote_in_open_ballot m b s v vote less open_ same kept = rw (less, open_, same, kept) refl

vote_is_kept : (m : Node) (b : Ballot) (s : ℕ) (vote : Vote) → Coordinates m b → (s == m.core.who) ≡ false → b.given_up s ≡ false
    → hear_row m (packet.Vote s m.core.promise vote) ≡ keep_vote_in_ballot m b s vote
unfolding hear_row vote_row
vote_is_kept m b s vote h other kept =
    let v = m.core.promise in
    let listed = h.listed in
    let less = no_stamp_is_less_than_itself v in
    let same : stamps_are_equal b.stamp v ≡ true = ap (λ (x : Stamp). stamps_are_equal x v) h.stamp ∙ stamp_eq_of_itself v in
    rw (other, listed, less) (ap (take_vote m s v vote) h.last ∙ vote_in_open_ballot m b s v vote less h.open_ same kept)

pub votes_look : VotesLook
unfolding hear_packet finish keep_vote_in_ballot
votes_look m b s vote h other kept = ap (λ (p : Plan). (finish m p).node) (vote_is_kept m b s vote h other kept)

-- ---- an exchange

-- the end of a step
pub coordinates_after_end : (m : Node) (b : Ballot) → Coordinates m b → Coordinates (refresh_at_end m) b
coordinates_after_end m b h =
    let r = end_refresh_rests_with_list m in
    record {
      listed = ap is_member r.rests.status ∙ h.listed;
      last = r.rests.ballot ∙ h.last;
      open_ = h.open_;
      stamp = h.stamp ∙ sym r.rests.promise;
      own = ap (λ (v : Stamp). v.by) r.rests.promise ∙ h.own ∙ sym r.rests.who;
      below = (λ i. stamps_are_equal (r.rests.view i) (r.rests.promise i)) ∙ h.below;
    }

pub voters_are_heard : VotersAreHeard
voters_are_heard p m b names h =
    let v = m.core.promise in
    let c = h.coordinates in
    let some = set_with_name_has_size names p.core.who h.among in
    let somebody : (size names == 0) ≡ false = grind (arith, nat_tests) in
    let asked = coordinators_invite m b names c h.answer somebody in
    let x = refresh_at_end m in
    let r = end_refresh_rests_with_list m in
    let f = hear_packet p (packet.Invite m.core.who v) in
    let by : hear_packet p (packet.Invite v.by v) ≡ f = ap (λ i. hear_packet p (packet.Invite i v)) c.own in
    let vote = invites_are_voted p v h.voter in
    let node : f.node ≡ voted p m = sym (ap (λ (s : StepResult). s.node) by) ∙ vote.node in
    let l = letter_to names (packet.Invite m.core.who v) in
    let back = sym r.rests.promise in
    let reply = letter_to (set_of_one_name m.core.who) (packet.Vote p.core.who x.core.promise (own_vote (voted p m))) in
    let letters : f.letters ≡ reply ∷ [] = sym (ap (λ (s : StepResult). s.letters) by) ∙ vote.letters
    ∙ (λ i. letter_to (set_of_one_name (c.own i)) (packet.Vote p.core.who (back i) (own_vote (vote.node i))) ∷ []) in
    let heard : hear_letters p (step m does.Tick).letters ≡ record { node = f.node; letters = f.letters } = ap (hear_letters p) asked.letters ∙ hears_one p l h.among in
    let mine : has (set_of_one_name m.core.who) x.core.who ≡ true = ap (has (set_of_one_name m.core.who)) r.rests.who ∙ one_name_is_there m.core.who in
    let other : (p.core.who == x.core.who) ≡ false = ap (λ i. p.core.who == i) (r.rests.who ∙ sym c.own) ∙ turned v.by p.core.who h.voter.other in
    let kept : (hear_letters x (reply ∷ [])).node ≡ refresh_at_end (decide x (ballot_with_vote b p.core.who (own_vote (voted p m)))).node =
    ap (λ (g : Heard). g.node) (hears_one x reply mine) ∙ votes_look x b p.core.who (own_vote (voted p m)) (coordinates_after_end m b c) other h.kept in
    (λ i. record { sequencer = (heard i).node; member_ = (hear_letters (asked.node i) (heard i).letters).node })
    ∙ (λ i. record { sequencer = node i; member_ = (hear_letters x (letters i)).node })
    ∙ (λ i. record { sequencer = voted p m; member_ = kept i })
  where
    turned : (a b : ℕ) → (a == b) ≡ false → (b == a) ≡ false
    turned a b f = grind (arith, nat_tests)
