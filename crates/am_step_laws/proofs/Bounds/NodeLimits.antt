-- What a node has is within its limits, and each change keeps it so.
use Rattle.am_step_laws.proofs.Words.{◌≡◌, ℕ, ◌+◌, ◌<◌, ◌≤◌, ◌==◌, ◌&&◌, not, nat_le, true, false, if◌then◌else◌, List, [], ◌∷◌, length, drop, find, Option, Some, None}
use Rattle.am_step_laws.proofs.Words.{option_map, refl, sym, ap, subst, arith, All, list_any, nat_tests, All-nil, All-cons, All-append, All-map, All-filter}
use Rattle.am_step_laws.proofs.Words.{All-drop, All-weaker, most_bytes_of_body, Entry, Data, Leave, View, Vote, Report, Stamp, Outcome, IsSetOfNames, stamp_is_less, NamedVote, vote_is_less}
use Rattle.am_step_laws.proofs.Words.{all_names, better_vote_of, best_vote_from, Packet, OwnSend, KeptBody, is_body_of_send, find_body, keep_body, Node, Ballot, image_of_node, waiting_send_of}
use Rattle.am_step_laws.proofs.Words.{push_entry, BallotVerdict, overtake_lower_ballot, own_vote, best_vote_for_ballot, need_set_of, need_set_without_given_up, body_of_waiting_send, first_body_that_is_there, body_of_spread_send, bodies_after_stored_entry, refresh}
use Rattle.am_step_laws.proofs.Words.{settle_waiting_send, refresh_at_end, split_on_bool, Cause, calls, hears, CauseHasSend, by_request, by_spread, HasOpenBallot, BallotIsLookedAt, with_more}
use Rattle.am_step_laws.proofs.Words.{without_one, as_it_is, LooksAtBallot, finds_itself_out, decides, IsNumberedBy, asked_send, own_send, asked_join, asked_leave, CarriesEntry}
use Rattle.am_step_laws.proofs.Words.{whole_entry, by_number, Change, Changes, unchanged, changed, refreshes, settles, numbers, keeps_body, stores, begins_list}
use Rattle.am_step_laws.proofs.Words.{promises, opens, looks, fetches, stores_view, queues, collects, closes, all_gives_found_item, with_fronts_of, refresh_changes_only_fronts, refresh_rests_with_list}
use Rattle.am_step_laws.proofs.Words.{end_refresh_rests_with_list, settle_changes_only_sends, sender_of, Bounds, bounds_one_higher, decided_view}
use Rattle.am_base.specs.declared.event.NodeEvent.TheVariants as does
use Rattle.am_packet.specs.declared.packet.Packet.TheVariants as packet
use Rattle.am_node_defs.specs.Sends as own
use Rattle.am_step_laws.proofs.Bounds.Limits.{ImageIsWithinLimits, EntryIsWithinLimits, higher_bounds_keep_image, higher_bounds_keep_entry, members_of_image_are_set, told_image_is_within_limits, selection_of_set_is_set}
use Rattle.am_step_laws.proofs.{Rests.settle_keeps_property}

-- ---- what a node has

pub record SendIsWithinLimits (b : Bounds) (s : OwnSend) : Type 0 where
  pub req : s.req ≤ b.requests
  pub body : length s.body ≤ most_bytes_of_body

abbrev pub KeptBodyIsWithinLimits : KeptBody → Type 0
KeptBodyIsWithinLimits kept = length kept.body ≤ most_bytes_of_body

pub record VotesAreWithinLimits (b : Bounds) (ballot : Ballot) : Type 0 where
  pub round : ballot.stamp.round ≤ b.rounds
  pub resilience : ballot.resilience ≤ 15
  pub votes : (name : ℕ) (vote : Vote) → ballot.votes name ≡ Some vote → IsSetOfNames vote.members

abbrev pub BallotIsWithinLimits : Bounds → Option Ballot → Type 0
BallotIsWithinLimits b None = Unit {0}
BallotIsWithinLimits b (Some ballot) = VotesAreWithinLimits b ballot

pub record NodeIsWithinLimits (b : Bounds) (m : Node) : Type 0 where
  pub image : ImageIsWithinLimits b m.core.log.image
  pub entries : All (EntryIsWithinLimits b) m.core.log.entries
  pub sends : All (SendIsWithinLimits b) m.sends.queue
  pub bodies : All KeptBodyIsWithinLimits m.bodies
  pub ballot : BallotIsWithinLimits b m.ballot

-- ---- what a packet tells

abbrev pub PacketIsWithinLimits : Bounds → Packet → Type 0
PacketIsWithinLimits b (packet.Request s v report req body) = (req ≤ b.requests) × (length body ≤ most_bytes_of_body)
PacketIsWithinLimits b (packet.Spread s v report req body) = (req ≤ b.requests) × (length body ≤ most_bytes_of_body)
PacketIsWithinLimits b (packet.Bcast s v base acc number e) = EntryIsWithinLimits b e
PacketIsWithinLimits b (packet.Order s v base acc number from req) = req ≤ b.requests
PacketIsWithinLimits b (packet.Hold s v base high req) = req ≤ b.requests
PacketIsWithinLimits b (packet.Welcome s v base join image) = ImageIsWithinLimits b image
PacketIsWithinLimits b (packet.Vote s v vote) = IsSetOfNames vote.members × (vote.view.round ≤ b.rounds)
PacketIsWithinLimits b (packet.Piece s v base number e) = EntryIsWithinLimits b e
PacketIsWithinLimits b (packet.Result s base number v) = (number ≤ b.lists) × IsSetOfNames v.members × (v.resilience ≤ 15)
PacketIsWithinLimits b _ = Unit {0}

-- what makes a node do a step
pub record CauseIsWithinLimits (b : Bounds) (c : Cause) : Type 0 where
  pub heard : (p : Packet) → c ≡ hears p → PacketIsWithinLimits b p
  pub senders : (p : Packet) → c ≡ hears p → sender_of p < 256
  pub called : (body : List ℕ) → c ≡ calls (does.Send body) → length body ≤ most_bytes_of_body

-- ---- wider bounds

votes_more : (b : Bounds) (ballot : Option Ballot) → BallotIsWithinLimits b ballot → BallotIsWithinLimits (bounds_one_higher b) ballot
votes_more b None h = tt
votes_more b (Some ballot) h = let r = h.round in record { round = omega arith; resilience = h.resilience; votes = h.votes }

send_more : (b : Bounds) (s : OwnSend) → SendIsWithinLimits b s → SendIsWithinLimits (bounds_one_higher b) s
send_more b s h = let r = h.req in record { req = omega arith; body = h.body }

pub higher_bounds_keep_node : (b : Bounds) (m : Node) → NodeIsWithinLimits b m → NodeIsWithinLimits (bounds_one_higher b) m
higher_bounds_keep_node b m h = record {
  image = higher_bounds_keep_image b m.core.log.image h.image;
  entries = All-weaker (EntryIsWithinLimits b) (EntryIsWithinLimits (bounds_one_higher b)) (higher_bounds_keep_entry b) m.core.log.entries h.entries;
  sends = All-weaker (SendIsWithinLimits b) (SendIsWithinLimits (bounds_one_higher b)) (send_more b) m.sends.queue h.sends;
  bodies = h.bodies;
  ballot = votes_more b m.ballot h.ballot;
}

pub higher_bounds_keep_packet : (b : Bounds) (p : Packet) → PacketIsWithinLimits b p → PacketIsWithinLimits (bounds_one_higher b) p
higher_bounds_keep_packet b (packet.Request s v report req body) h = let r = h.0 in (omega arith, h.1)
higher_bounds_keep_packet b (packet.Spread s v report req body) h = let r = h.0 in (omega arith, h.1)
higher_bounds_keep_packet b (packet.Bcast s v base acc number e) h = higher_bounds_keep_entry b e h
higher_bounds_keep_packet b (packet.Order s v base acc number from req) h = omega arith
higher_bounds_keep_packet b (packet.Hold s v base high req) h = omega arith
higher_bounds_keep_packet b (packet.Welcome s v base join image) h = higher_bounds_keep_image b image h
higher_bounds_keep_packet b (packet.Vote s v vote) h = let r = h.1 in (h.0, omega arith)
higher_bounds_keep_packet b (packet.Piece s v base number e) h = higher_bounds_keep_entry b e h
higher_bounds_keep_packet b (packet.Result s base number v) h = let r = h.0 in (omega arith, h.1, h.2)
higher_bounds_keep_packet b _ h = tt

-- ---- entries

pushed_within : (b : Bounds) (m : Node) (e : Entry) → EntryIsWithinLimits b e → NodeIsWithinLimits b m → NodeIsWithinLimits b (push_entry m e)
pushed_within b m e is h = record {
  image = h.image;
  entries = All-append (EntryIsWithinLimits b) m.core.log.entries (e ∷ []) h.entries (All-cons (EntryIsWithinLimits b) e [] is (All-nil (EntryIsWithinLimits b)));
  sends = h.sends;
  bodies = h.bodies;
  ballot = h.ballot;
}

send_brought : (b : Bounds) (c : Cause) (s : ℕ) (v : Stamp) (report : Report) (req : ℕ) (body : List ℕ) → CauseHasSend c s v report req body
    → ((p : Packet) → c ≡ hears p → PacketIsWithinLimits b p) → (req ≤ b.requests) × (length body ≤ most_bytes_of_body)
send_brought b c s v report req body (by_request s1 v1 report1 req1 body1) heard = heard (packet.Request s v report req body) refl
send_brought b c s v report req body (by_spread s1 v1 report1 req1 body1) heard = heard (packet.Spread s v report req body) refl

pub brought_request_is_within_bound : (b : Bounds) (c : Cause) (s : ℕ) (v : Stamp) (report : Report) (req : ℕ) (body : List ℕ) → CauseHasSend c s v report req body
    → ((p : Packet) → c ≡ hears p → PacketIsWithinLimits b p) → req ≤ b.requests
brought_request_is_within_bound b c s v report req body by heard = (send_brought b c s v report req body by heard).0

waiting_within : (b : Bounds) (m : Node) (s : OwnSend) → waiting_send_of m ≡ Some s → NodeIsWithinLimits b m → SendIsWithinLimits b s
waiting_within b m s is h = (all_gives_found_item (SendIsWithinLimits b) own.is_unsettled m.sends.queue s h.sends is).0

numbered_within : (b : Bounds) (c : Cause) (m : Node) (e : Entry) → IsNumberedBy c m e → CauseIsWithinLimits b c → NodeIsWithinLimits b m → EntryIsWithinLimits b e
numbered_within b c m e (asked_send s v report req body by known stays next) from h = send_brought b c s v report req body by from.heard
numbered_within b c m e (own_send s is last) from h = let k = waiting_within b m s is h in (k.req, k.body)
numbered_within b c m e (asked_join s v is other fit) from h = from.senders (packet.JoinAsk s v) is
numbered_within b c m e (asked_leave s v report is other known stays) from h = tt

-- ---- bodies

-- what is so of a body that is found
abbrev pub HoldsOfFoundBody : (ℕ → ℕ → List ℕ → Type 0) → ℕ → ℕ → Option (List ℕ) → Type 0
HoldsOfFoundBody P from req None = Unit {0}
HoldsOfFoundBody P from req (Some body) = P from req body

as_asked : (P : ℕ → ℕ → List ℕ → Type 0) (a b from req : ℕ) (body : List ℕ) → ((a == from) && (b == req)) ≡ true → P a b body → P from req body
as_asked P a b from req body t h =
    let e : a ≡ from = grind (arith, nat_tests) in
    let f : b ≡ req = grind (arith, nat_tests) in
    subst (λ name. P name req body) e (subst (λ r. P a r body) f h)

own_body_has : (P : ℕ → ℕ → List ℕ → Type 0) (m : Node) (from req : ℕ) (w : Option OwnSend) → ((s : OwnSend) → w ≡ Some s → P m.core.who s.req s.body)
    → HoldsOfFoundBody P from req (body_of_waiting_send m from req w)
own_body_has P m from req None h = tt
own_body_has P m from req (Some s) h = split_on_bool ((from == m.core.who) && (s.req == req))
    (λ t.
    let same : ((m.core.who == from) && (s.req == req)) ≡ true = grind (arith, nat_tests) in
    rw t (as_asked P m.core.who s.req from req s.body same (h s refl)))
    (λ f. rw f tt)

found_has : (P : ℕ → ℕ → List ℕ → Type 0) (from req : ℕ) (found : Option KeptBody)
    → ((kept : KeptBody) → found ≡ Some kept → P kept.from kept.req kept.body × (is_body_of_send from req kept ≡ true))
    → HoldsOfFoundBody P from req (option_map (λ kept. kept.body) found)
found_has P from req None h = tt
found_has P from req (Some kept) h = let k = h kept refl in as_asked P kept.from kept.req from req kept.body k.1 k.0

either_has : (P : ℕ → ℕ → List ℕ → Type 0) (from req : ℕ) (x y : Option (List ℕ)) → HoldsOfFoundBody P from req x → HoldsOfFoundBody P from req y
    → HoldsOfFoundBody P from req (first_body_that_is_there x y)
either_has P from req None y h k = k
either_has P from req (Some body) y h k = h

-- what is so of the node's own sends and of the bodies that it keeps
pub found_body_has_property : (P : ℕ → ℕ → List ℕ → Type 0) (m : Node) (from req : ℕ) → All (λ (s : OwnSend). P m.core.who s.req s.body) m.sends.queue
    → All (λ (kept : KeptBody). P kept.from kept.req kept.body) m.bodies → HoldsOfFoundBody P from req (body_of_spread_send m from req)
found_body_has_property P m from req sends bodies =
    either_has P from req (body_of_waiting_send m from req (waiting_send_of m)) (find_body from req m.bodies)
    (own_body_has P m from req (waiting_send_of m)
    (λ s is. (all_gives_found_item (λ (s : OwnSend). P m.core.who s.req s.body) own.is_unsettled m.sends.queue s sends is).0))
    (found_has P from req (find (is_body_of_send from req) m.bodies)
    (λ kept is. all_gives_found_item (λ (kept : KeptBody). P kept.from kept.req kept.body) (is_body_of_send from req) m.bodies kept bodies is))

pub kept_bodies_have_property : (P : KeptBody → Type 0) (bodies : List KeptBody) (e : Entry) → All P bodies → All P (bodies_after_stored_entry bodies e)
kept_bodies_have_property P bodies (Data from req body) h = All-filter (λ kept. not ((kept.from == from) && nat_le kept.req req)) P bodies h
kept_bodies_have_property P bodies _ h = h

carried_within : (b : Bounds) (c : Cause) (m : Node) (s : ℕ) (v : Stamp) (base acc number : ℕ) (e : Entry) → CarriesEntry c m s v base acc number e
    → CauseIsWithinLimits b c → NodeIsWithinLimits b m → EntryIsWithinLimits b e
carried_within b c m s v base acc number e (whole_entry x is) from h = from.heard (packet.Bcast s v base acc number e) is
carried_within b c m s v base acc number e (by_number name req body is found) from h =
    let P : ℕ → ℕ → List ℕ → Type 0 = λ from req body. length body ≤ most_bytes_of_body in
    let own = All-weaker (SendIsWithinLimits b) (λ (s : OwnSend). length s.body ≤ most_bytes_of_body) (λ s k. k.body) m.sends.queue h.sends in
    (from.heard (packet.Order s v base acc number name req) is, subst (HoldsOfFoundBody P name req) found (found_body_has_property P m name req own h.bodies))

kept_within : (s req : ℕ) (body : List ℕ) (bodies : List KeptBody) → length body ≤ most_bytes_of_body → All KeptBodyIsWithinLimits bodies
    → All KeptBodyIsWithinLimits (keep_body s req body bodies)
kept_within s req body bodies low h = split_on_bool (list_any (is_body_of_send s req) bodies)
    (λ t. rw t h)
    (λ f. rw f (All-append KeptBodyIsWithinLimits (if nat_le 16 (length bodies) then drop 1 bodies else bodies) _
    (split_on_bool (nat_le 16 (length bodies)) (λ t. rw t (All-drop KeptBodyIsWithinLimits 1 bodies h)) (λ g. rw g h))
    (All-cons KeptBodyIsWithinLimits _ [] low (All-nil KeptBodyIsWithinLimits))))

-- ---- sends

settled_send : (b : Bounds) (req number : ℕ) (s : OwnSend) → SendIsWithinLimits b s → SendIsWithinLimits b (own.settle_send req number s)
settled_send b req number s h = split_on_bool (s.req == req) (λ t. rw t (record { req = h.req; body = h.body })) (λ f. rw f h)

settle_within : (b : Bounds) (m : Node) → NodeIsWithinLimits b m → NodeIsWithinLimits b (settle_waiting_send m)
settle_within b m h = settle_keeps_property (NodeIsWithinLimits b) m h (λ s k w at.
    let f = own.settle_send s.req (m.core.base + 1 + k) in
    record {
      image = h.image;
      entries = h.entries;
      sends = All-map (SendIsWithinLimits b) f m.sends.queue (All-weaker (SendIsWithinLimits b) (λ s. SendIsWithinLimits b (f s))
          (settled_send b s.req (m.core.base + 1 + k)) m.sends.queue h.sends);
      bodies = h.bodies;
      ballot = h.ballot;
    })

collected_within : (b : Bounds) (req : ℕ) (sends : own.Sends) → All (SendIsWithinLimits b) sends.queue → All (SendIsWithinLimits b) (own.collect req sends).queue
collected_within b req sends h = split_on_bool (own.has_settled_send req sends)
    (λ t. rw t (All-filter (λ send. not (own.send_has_request req send)) (SendIsWithinLimits b) sends.queue h))
    (λ f. rw f h)

-- ---- refreshes

refresh_within : (b : Bounds) (m : Node) → NodeIsWithinLimits b m → NodeIsWithinLimits b (refresh m)
refresh_within b m h =
    let same : refresh m ≡ with_fronts_of m (refresh m) = refresh_changes_only_fronts m in
    subst (NodeIsWithinLimits b) (sym same) (record { image = h.image; entries = h.entries; sends = h.sends; bodies = h.bodies; ballot = h.ballot })

at_end_within : (b : Bounds) (m : Node) → NodeIsWithinLimits b m → NodeIsWithinLimits b (refresh_at_end m)
unfolding refresh_at_end
at_end_within b m h = settle_within b (refresh m) (refresh_within b m h)

-- ---- ballots

overtaken_within : (b : Bounds) (by : Stamp) (ballot : Option Ballot) → BallotIsWithinLimits b ballot → BallotIsWithinLimits b (overtake_lower_ballot by ballot)
overtaken_within b by None h = tt
overtaken_within b by (Some x) h = split_on_bool (not x.is_over && stamp_is_less x.stamp by)
    (λ t. rw t (record { round = h.round; resilience = h.resilience; votes = h.votes }))
    (λ f. rw f h)

open_within : (b : Bounds) (m : Node) (x : Ballot) → HasOpenBallot m x → NodeIsWithinLimits b m → VotesAreWithinLimits b x
open_within b m x open_ h = subst (BallotIsWithinLimits b) open_.last h.ballot

-- by what stands among the votes of a name
vote_more : (votes : ℕ → Option Vote) (name : ℕ) (new : Option Vote) → ((v : Vote) → new ≡ Some v → IsSetOfNames v.members)
    → ((i : ℕ) (v : Vote) → votes i ≡ Some v → IsSetOfNames v.members) → (i : ℕ) (v : Vote) → (if i == name then new else votes i) ≡ Some v → IsSetOfNames v.members
vote_more votes name new f h i v = split_on_bool (i == name) (λ t. rw t (f v)) (λ g. rw g (h i v))

looked_within : (b : Bounds) (c : Cause) (m : Node) (x : Ballot) → BallotIsLookedAt c m x → CauseIsWithinLimits b c → NodeIsWithinLimits b m → VotesAreWithinLimits b x
looked_within b c m x (with_more old s v shown is by low high open_ same stays) from h =
    let k = open_within b m old open_ h in
    record {
      round = k.round;
      resilience = k.resilience;
      votes =
          vote_more old.votes s (Some shown) (λ u e. let r : shown ≡ u = cc in
          subst (λ (z : Vote). IsSetOfNames z.members) r ((from.heard (packet.Vote s v shown) is).0)) k.votes;
    }
looked_within b c m x (without_one old name is open_ other) from h =
    let k = open_within b m old open_ h in
    record { round = k.round; resilience = k.resilience; votes = vote_more old.votes name None (λ u e. absurd (cc)) k.votes }
looked_within b c m x (as_it_is old open_ on) from h = open_within b m old open_ h

-- what is so of all votes is so of the best
better_is : (P : Vote → Type 0) (best : NamedVote) (name : ℕ) (o : Option Vote) → P best.vote → ((v : Vote) → o ≡ Some v → P v) → P (better_vote_of best name o).vote
better_is P best name None h f = h
better_is P best name (Some vote) h f = split_on_bool (vote_is_less best.vote vote) (λ t. rw t (f vote refl)) (λ g. rw g h)

best_is : (P : Vote → Type 0) (votes : ℕ → Option Vote) (best : NamedVote) (names : List ℕ) → P best.vote → ((name : ℕ) (v : Vote) → votes name ≡ Some v → P v)
    → P (best_vote_from votes best names).vote
unfolding best_vote_from
best_is P votes best [] h f = h
best_is P votes best (name ∷ names) h f = best_is P votes (better_vote_of best name (votes name)) names (better_is P best name (votes name) h (f name)) f

need_within : (b : Bounds) (m : Node) (x : Ballot) → VotesAreWithinLimits b x → NodeIsWithinLimits b m → IsSetOfNames (need_set_of m x)
unfolding best_vote_for_ballot
need_within b m x k h =
    best_is (λ (v : Vote). IsSetOfNames v.members) x.votes (record { by = m.core.who; vote = own_vote m }) all_names
    (members_of_image_are_set b (image_of_node m) (told_image_is_within_limits b m.core.log h.entries h.image)) k.votes

-- the View that is decided
view_within : (b : Bounds) (m : Node) (x : Ballot) → VotesAreWithinLimits b x → NodeIsWithinLimits b m
    → EntryIsWithinLimits b (View (decided_view m x (need_set_without_given_up x (need_set_of m x))))
view_within b m x k h =
    let t = (told_image_is_within_limits b m.core.log h.entries h.image).resilience in
    (k.round, selection_of_set_is_set (λ name. not (x.given_up name)) (need_set_of m x) (need_within b m x k h), omega arith)

look_within : (b : Bounds) (m : Node) (x : Ballot) (v : BallotVerdict) → LooksAtBallot m x v → VotesAreWithinLimits b x → NodeIsWithinLimits b m → NodeIsWithinLimits b v.node
look_within b m x v look k h =
    let l : (y : Ballot) → y.stamp ≡ x.stamp → y.resilience ≡ x.resilience → y.votes ≡ x.votes
    → VotesAreWithinLimits b y = λ y s r w. record { round = rw s k.round; resilience = rw r k.resilience; votes = rw w k.votes } in
    looked l look
  where
    looked : ((y : Ballot) → y.stamp ≡ x.stamp → y.resilience ≡ x.resilience → y.votes ≡ x.votes → VotesAreWithinLimits b y) → {u : BallotVerdict} → LooksAtBallot m x u
        → NodeIsWithinLimits b u.node
    looked l (decides may) =
        let p = pushed_within b m _ (view_within b m x k h) h in
        record { image = p.image; entries = p.entries; sends = p.sends; bodies = p.bodies; ballot = l _ refl refl refl }
    looked l _ = record { image = h.image; entries = h.entries; sends = h.sends; bodies = h.bodies; ballot = l _ refl refl refl }

-- ---- what only rises

record Rises (m n : Node) : Type 0 where
  pub round : m.core.promise.round ≤ n.core.promise.round
  pub last : m.sends.last ≤ n.sends.last

same_rises : (m n : Node) → n.core.promise ≡ m.core.promise → n.sends.last ≡ m.sends.last → Rises m n
same_rises m n p s = record { round = rw p (omega arith); last = rw s (omega arith) }

round_rises : (u v : Stamp) → stamp_is_less v u ≡ false → u.round ≤ v.round
round_rises u v h = grind (arith, nat_tests)

look_rises : (m : Node) (x : Ballot) (v : BallotVerdict) → LooksAtBallot m x v → Rises m v.node
look_rises m x v (finds_itself_out y) = same_rises m _ refl refl
look_rises m x v _ = same_rises m _ refl refl

change_rises : {c : Cause} {o : Outcome} (m n : Node) → Change c o m n → Rises m n
change_rises m n refreshes = let r = (refresh_rests_with_list m).rests in same_rises m (refresh m) r.promise r.asked
change_rises m n settles = same_rises m (settle_waiting_send m) (ap (λ (x : Node). x.core.promise) (settle_changes_only_sends m)) (ap (λ (x : Node). x.sends.last) (settle_changes_only_sends m))
change_rises m n (begins_list s v base join image is o may) = record { round = round_rises m.core.promise v may.promise; last = omega arith }
change_rises m n (promises v low why) = record { round = round_rises m.core.promise v low; last = omega arith }
change_rises m n (opens least resilience by may) = record { round = omega arith; last = omega arith }
change_rises m n (looks b verdict over why look is) = look_rises m b verdict look
change_rises m n (queues body is o member stays few) = record { round = omega arith; last = omega arith }
change_rises m n (collects req is) = same_rises m n refl (split_on_bool (own.has_settled_send req m.sends) (λ t. rw t refl) (λ f. rw f refl))
change_rises m n (closes leads leaves alone room) = let r = (end_refresh_rests_with_list (push_entry m (Leave m.core.who))).rests in same_rises m n r.promise r.asked
change_rises m n _ = same_rises m n refl refl

rises_on : (m n k : Node) → Rises m n → Rises n k → Rises m k
rises_on m n k h l = let a = h.round in let b = l.round in let c = h.last in let d = l.last in record { round = omega arith; last = omega arith }

changes_rise : {c : Cause} {o : Outcome} (m n : Node) → Changes c o m n → Rises m n
changes_rise m n unchanged = same_rises m m refl refl
changes_rise m n (changed {n = x} z zs) = rises_on m x n (change_rises m x z) (changes_rise x n zs)

-- ---- each change

change_within : (b : Bounds) {c : Cause} {o : Outcome} (m n : Node) → CauseIsWithinLimits b c → n.core.promise.round ≤ b.rounds → n.sends.last ≤ b.requests
    → Change c o m n → NodeIsWithinLimits b m → NodeIsWithinLimits b n
change_within b m n from round last refreshes h = refresh_within b m h
change_within b m n from round last settles h = settle_within b m h
change_within b m n from round last (numbers e leads room why) h = pushed_within b m e (numbered_within b _ m e why from h) h
change_within b m n from round last (keeps_body s v report req body is by) h =
    record {
      image = h.image;
      entries = h.entries;
      sends = h.sends;
      bodies = kept_within s req body m.bodies ((from.heard (packet.Spread s v report req body) is).1) h.bodies;
      ballot = h.ballot;
    }
change_within b m n from round last (stores s v base acc number e by seq plain may) h =
    let k = pushed_within b m e (carried_within b _ m s v base acc number e by from h) h in
    record { image = k.image; entries = k.entries; sends = k.sends; bodies = kept_bodies_have_property KeptBodyIsWithinLimits m.bodies e h.bodies; ballot = k.ballot }
change_within b m n from round last (begins_list s v base join image is o may) h =
    record {
      image = from.heard (packet.Welcome s v base join image) is;
      entries = All-nil (EntryIsWithinLimits b);
      sends = h.sends;
      bodies = h.bodies;
      ballot = h.ballot;
    }
change_within b m n from round last (promises v low why) h =
    record { image = h.image; entries = h.entries; sends = h.sends; bodies = h.bodies; ballot = overtaken_within b v m.ballot h.ballot }
change_within b m n from round last (opens least resilience by may) h =
    record {
      image = h.image;
      entries = h.entries;
      sends = h.sends;
      bodies = h.bodies;
      ballot = record { round = round; resilience = omega arith; votes = λ name vote is. absurd (cc) };
    }
change_within b m n from round last (looks x verdict over why look is) h = look_within b m x verdict look (looked_within b _ m x why from h) h
change_within b m n from round last (fetches s v base number e is by promise below who may) h =
    let k = pushed_within b m e (from.heard (packet.Piece s v base number e) is) h in
    record { image = k.image; entries = k.entries; sends = k.sends; bodies = k.bodies; ballot = k.ballot }
change_within b m n from round last (stores_view s base number v is by own other promise below may) h =
    let heard = from.heard (packet.Result s base number v) is in
    let low : v.stamp.round ≤ b.rounds = subst (λ (u : Stamp). u.round ≤ b.rounds) promise round in
    let k = pushed_within b m (View v) (low, heard.1, heard.2) h in
    record { image = k.image; entries = k.entries; sends = k.sends; bodies = k.bodies; ballot = k.ballot }
change_within b m n from round last (queues body is o member stays few) h =
    record {
      image = h.image;
      entries = h.entries;
      sends = All-append (SendIsWithinLimits b) m.sends.queue _ h.sends
          (All-cons (SendIsWithinLimits b) _ [] (record { req = last; body = from.called body is }) (All-nil (SendIsWithinLimits b)));
      bodies = h.bodies;
      ballot = h.ballot;
    }
change_within b m n from round last (collects req is) h = record {
  image = h.image;
  entries = h.entries;
  sends = collected_within b req m.sends h.sends;
  bodies = h.bodies;
  ballot = h.ballot;
}
change_within b m n from round last (closes leads leaves alone room) h =
    let k = at_end_within b (push_entry m (Leave m.core.who)) (pushed_within b m (Leave m.core.who) tt h) in
    record { image = k.image; entries = k.entries; sends = k.sends; bodies = k.bodies; ballot = k.ballot }
change_within b m n from round last _ h =
    record { image = h.image; entries = h.entries; sends = h.sends; bodies = h.bodies; ballot = h.ballot }

pub changes_keep_node_within_limits : (b : Bounds) {c : Cause} {o : Outcome} (m n : Node) → CauseIsWithinLimits b c → n.core.promise.round ≤ b.rounds → n.sends.last ≤ b.requests
    → Changes c o m n → NodeIsWithinLimits b m → NodeIsWithinLimits b n
changes_keep_node_within_limits b m n from round last unchanged h = h
changes_keep_node_within_limits b m n from round last (changed {n = x} z zs) h =
    let r = changes_rise x n zs in
    changes_keep_node_within_limits b x n from round last zs (change_within b m x from (omega arith) (omega arith) z h)
