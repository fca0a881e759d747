-- Each entry that a node has, a letter tells or a group lists speaks of names that there are.
use Rattle.am_step_laws.proofs.Words.{◌≡◌, ℕ, ◌<◌, ◌==◌, ◌&&◌, not, List, [], ◌∷◌, Option, Some, None, refl, sym, subst, arith, nat_tests, All, All-nil, All-cons}
use Rattle.am_step_laws.proofs.Words.{All-append, All-weaker, split_on_bool, Stamp, Report, stamp_is_less, Entry, Data, Join, Leave, View, Outcome, Rules, MayFound, Packet}
use Rattle.am_step_laws.proofs.Words.{Letter, Event, Node, Ballot, push_entry, map_with_value, founders_entry, overtake_lower_ballot, BallotVerdict, refresh, settle_waiting_send, refresh_at_end, StepResult}
use Rattle.am_step_laws.proofs.Words.{World, start, run, world_with_record, world_with_step, packet_heard_by_act, Cause, hears, LooksAtBallot, decides, HasOpenBallot, BallotIsLookedAt, with_more, without_one}
use Rattle.am_step_laws.proofs.Words.{as_it_is, IsNumberedBy, asked_send, own_send, asked_join, asked_leave, CarriesEntry, whole_entry, by_number, CauseHasSend, by_request}
use Rattle.am_step_laws.proofs.Words.{by_spread, Change, refreshes, settles, numbers, stores, begins_list, promises, opens, looks, fetches, stores_view, closes}
use Rattle.am_step_laws.proofs.Words.{Says, bcast, order, piece, LetterSays, Effect, acting_name, IsCause, steps, item_of_index_has_property, all_gives_item_at, refresh_changes_only_fronts}
use Rattle.am_step_laws.proofs.Words.{settle_changes_only_sends, changes_keep_property, EventsKeep, runs_keep_what_events_keep, sender_of, lowest_founder_founds, first_node_has_property}
use Rattle.am_step_laws.proofs.Named.{NodesHaveTheirNames, actor_is_below_256, events_keep_names, start_has_names}
use Rattle.am_step_laws.proofs.Numbers.RunCounts.{heard_packet_was_sent}
use Rattle.am_run_laws.proofs.SentRuns.{group_entries_keep_after_step}

-- ---- names in entries

abbrev pub EntryHasSmallNames : Entry → Type 0
EntryHasSmallNames (Data from req body) = from < 256
EntryHasSmallNames (Join name) = name < 256
EntryHasSmallNames (Leave name) = name < 256
EntryHasSmallNames (View v) = v.stamp.by < 256

abbrev PacketNamed : Packet → Type 0
PacketNamed (Packet.Bcast s v base acc number e) = EntryHasSmallNames e
PacketNamed (Packet.Order s v base acc number from req) = from < 256
PacketNamed (Packet.Piece s v base number e) = EntryHasSmallNames e
PacketNamed _ = Unit {0}

abbrev LetterNamed : Letter → Type 0
LetterNamed letter = PacketNamed letter.packet

abbrev BallotNamed : Option Ballot → Type 0
BallotNamed None = Unit {0}
BallotNamed (Some b) = b.stamp.by < 256

pub record NodeHasSmallNames (m : Node) : Type 0 where
  pub who : m.core.who < 256
  pub entries : All EntryHasSmallNames m.core.log.entries
  pub ballot : BallotNamed m.ballot

-- what makes a node do a step
record CauseNamed (c : Cause) : Type 0 where
  pub heard : (p : Packet) → c ≡ hears p → PacketNamed p
  pub senders : (p : Packet) → c ≡ hears p → sender_of p < 256

-- ---- changes

pushed_named : (m : Node) (e : Entry) → EntryHasSmallNames e → NodeHasSmallNames m → NodeHasSmallNames (push_entry m e)
pushed_named m e is h = assumption (All-append EntryHasSmallNames m.core.log.entries (e ∷ []) h.entries (All-cons EntryHasSmallNames e [] is (All-nil EntryHasSmallNames)))

brought_named : (c : Cause) (s : ℕ) (v : Stamp) (report : Report) (req : ℕ) (body : List ℕ) → CauseHasSend c s v report req body → CauseNamed c → s < 256
brought_named c s v report req body (by_request s1 v1 report1 req1 body1) from = from.senders (Packet.Request s v report req body) refl
brought_named c s v report req body (by_spread s1 v1 report1 req1 body1) from = from.senders (Packet.Spread s v report req body) refl

numbered_named : (c : Cause) (m : Node) (e : Entry) → IsNumberedBy c m e → CauseNamed c → NodeHasSmallNames m → EntryHasSmallNames e
numbered_named c m e (asked_send s v report req body by known stays next) from h = brought_named c s v report req body by from
numbered_named c m e (own_send s is last) from h = h.who
numbered_named c m e (asked_join s v is other fit) from h = from.senders (Packet.JoinAsk s v) is
numbered_named c m e (asked_leave s v report is other known stays) from h = from.senders (Packet.LeaveAsk s v report) is

carried_named : (c : Cause) (m : Node) (s : ℕ) (v : Stamp) (base acc number : ℕ) (e : Entry) → CarriesEntry c m s v base acc number e → CauseNamed c → EntryHasSmallNames e
carried_named c m s v base acc number e (whole_entry x is) from = from.heard (Packet.Bcast s v base acc number e) is
carried_named c m s v base acc number e (by_number name req body is found) from = from.heard (Packet.Order s v base acc number name req) is

overtaken_named : (by : Stamp) (ballot : Option Ballot) → BallotNamed ballot → BallotNamed (overtake_lower_ballot by ballot)
overtaken_named by None h = tt
overtaken_named by (Some b) h = split_on_bool (not b.is_over && stamp_is_less b.stamp by) (λ t. rw t h) (λ f. rw f h)

open_named : (m : Node) (b : Ballot) → HasOpenBallot m b → NodeHasSmallNames m → b.stamp.by < 256
open_named m b open_ h = subst BallotNamed open_.last h.ballot

looked_named : (c : Cause) (m : Node) (b : Ballot) → BallotIsLookedAt c m b → NodeHasSmallNames m → b.stamp.by < 256
looked_named c m b (with_more old s v shown is by low high open_ same stays) h = open_named m old open_ h
looked_named c m b (without_one old name is open_ other) h = open_named m old open_ h
looked_named c m b (as_it_is old open_ on) h = open_named m old open_ h

look_named : (m : Node) (b : Ballot) (v : BallotVerdict) → LooksAtBallot m b v → b.stamp.by < 256 → NodeHasSmallNames m → NodeHasSmallNames v.node
look_named m b v (decides may) by h =
    let p = pushed_named m (View _) by h in
    record { who = p.who; entries = p.entries; ballot = by }
look_named m b v _ by h = record { who = h.who; entries = h.entries; ballot = by }

refresh_named : (m : Node) → NodeHasSmallNames m → NodeHasSmallNames (refresh m)
refresh_named m h = subst NodeHasSmallNames (sym (refresh_changes_only_fronts m)) (record { who = h.who; entries = h.entries; ballot = h.ballot })

settle_named : (m : Node) → NodeHasSmallNames m → NodeHasSmallNames (settle_waiting_send m)
settle_named m h = subst NodeHasSmallNames (sym (settle_changes_only_sends m)) (record { who = h.who; entries = h.entries; ballot = h.ballot })

at_end_named : (m : Node) → NodeHasSmallNames m → NodeHasSmallNames (refresh_at_end m)
unfolding refresh_at_end
at_end_named m h = settle_named (refresh m) (refresh_named m h)

change_keeps : {c : Cause} {o : Outcome} → CauseNamed c → (m n : Node) → Change c o m n → NodeHasSmallNames m → NodeHasSmallNames n
change_keeps from m n refreshes h = refresh_named m h
change_keeps from m n settles h = settle_named m h
change_keeps from m n (numbers e leads room why) h = pushed_named m e (numbered_named _ m e why from h) h
change_keeps from m n (stores s v base acc number e by seq plain may) h =
    let p = pushed_named m e (carried_named _ m s v base acc number e by from) h in
    record { who = p.who; entries = p.entries; ballot = p.ballot }
change_keeps from m n (begins_list s v base join image is o may) h = record { who = h.who; entries = All-nil EntryHasSmallNames; ballot = h.ballot }
change_keeps from m n (promises v low why) h = record { who = h.who; entries = h.entries; ballot = overtaken_named v m.ballot h.ballot }
change_keeps from m n (opens least resilience by may) h = record { who = h.who; entries = h.entries; ballot = h.who }
change_keeps from m n (looks b verdict over why look is) h = look_named m b verdict look (looked_named _ m b why h) h
change_keeps from m n (fetches s v base number e is by promise other which may) h =
    let p = pushed_named m e (from.heard (Packet.Piece s v base number e) is) h in
    record { who = p.who; entries = p.entries; ballot = p.ballot }
change_keeps from m n (stores_view s base number v is by own other promise below may) h =
    let sender = from.senders (Packet.Result s base number v) is in
    let same : v.stamp.by ≡ s = grind (arith, nat_tests) in
    let p = pushed_named m (View v) (omega (arith, sender, same)) h in
    record { who = p.who; entries = p.entries; ballot = p.ballot }
change_keeps from m n (closes leads leaves alone room) h =
    let p = at_end_named (push_entry m (Leave m.core.who)) (pushed_named m (Leave m.core.who) h.who h) in
    record { who = p.who; entries = p.entries; ballot = p.ballot }
change_keeps from m n _ h = record { who = h.who; entries = h.entries; ballot = h.ballot }

-- ---- letters

says_named : (m n : Node) (c : Cause) (to : List ℕ) (p : Packet) → CauseNamed c → Says m c n to p → NodeHasSmallNames n → PacketNamed p
says_named m n c to p from (bcast _ number e l s) h = item_of_index_has_property EntryHasSmallNames n.core.log.entries s.index e h.entries s.there
says_named m n c to p from (order _ number name req v report body is l s) h =
    from.senders (Packet.Spread name v report req body) is
says_named m n c to p from (piece s v stored number e is may at) h = item_of_index_has_property EntryHasSmallNames n.core.log.entries at.index e h.entries at.there
says_named m n c to p from _ h = tt

-- ---- worlds

pub record AllNamesSaidAreSmall (rules : Rules) (w : World) : Type 0 where
  pub base : NodesHaveTheirNames rules w
  pub each : (name : ℕ) → name < 256 → NodeHasSmallNames (w.nodes name)
  pub letters : All LetterNamed w.letters
  pub group : All EntryHasSmallNames w.group

cause_named : (rules : Rules) (w : World) (e : Event) (c : Cause) → AllNamesSaidAreSmall rules w → IsCause w (acting_name w e) e.act c → CauseNamed c
cause_named rules w e c h cause = record {
  heard = λ p is. (let was = heard_packet_was_sent w e c p is cause in
      subst PacketNamed was.is (all_gives_item_at LetterNamed w.letters (packet_heard_by_act e.act) was.letter h.letters was.there));
  senders = λ p is. (let was = heard_packet_was_sent w e c p is cause in
      subst (λ (x : Packet). sender_of x < 256) was.is (all_gives_item_at (λ (l : Letter). sender_of l.packet < 256) w.letters
      (packet_heard_by_act e.act) was.letter h.base.senders was.there));
}

sender_is : (n sender : Node) → n ≡ record sender { status = n.status } → NodeHasSmallNames n → NodeHasSmallNames sender
sender_is n sender is h = let k : NodeHasSmallNames (record sender { status = n.status }) = subst NodeHasSmallNames is h in
    record { who = k.who; entries = k.entries; ballot = k.ballot }

set_named : (nodes : ℕ → Node) (name : ℕ) (n : Node) → ((other : ℕ) → other < 256 → NodeHasSmallNames (nodes other)) → NodeHasSmallNames n → (other : ℕ) → other < 256
    → NodeHasSmallNames (map_with_value nodes name n other)
set_named nodes name n h k other low = split_on_bool (other == name) (λ t. rw t k) (λ f. rw f (h other low))

stepped_named : (rules : Rules) (w : World) (e : Event) (c : Cause) (s : StepResult) → NodesHaveTheirNames rules (world_with_step w e (acting_name w e) s)
    → IsCause w (acting_name w e) e.act c → Effect (w.nodes (acting_name w e)) c s → AllNamesSaidAreSmall rules w → AllNamesSaidAreSmall rules (world_with_step w e (acting_name w e) s)
unfolding world_with_step
stepped_named rules w e c s base cause effect h =
    let name = acting_name w e in
    let m = w.nodes name in
    let low = actor_is_below_256 rules w e h.base in
    let from = cause_named rules w e c h cause in
    let node = changes_keep_property NodeHasSmallNames (change_keeps from) effect.changes (h.each name low) in
    let sender = sender_is s.node effect.sender effect.is node in
    record {
      base = base;
      each = set_named w.nodes name s.node h.each node;
      letters = All-append LetterNamed w.letters s.letters h.letters
          (All-weaker (LetterSays m c effect.sender) LetterNamed
          (λ l x. says_named m effect.sender c l.to l.packet from x.says sender) s.letters effect.letters);
      group = group_entries_keep_after_step EntryHasSmallNames w.group s.node h.group node.entries;
    }

said_keeps : (rules : Rules) → EventsKeep (AllNamesSaidAreSmall rules)
unfolding world_with_record
said_keeps rules w e v (steps c s runs cause effect) h =
    stepped_named rules w e c s (events_keep_names rules w e v (steps c s runs cause effect) h.base) cause effect h
said_keeps rules w e v other h = record { base = events_keep_names rules w e v other h.base; each = h.each; letters = h.letters; group = h.group }

-- ---- runs

view_named : (rules : Rules) → MayFound rules → All EntryHasSmallNames (founders_entry rules ∷ [])
view_named rules may = let low = (lowest_founder_founds rules may).few in All-cons EntryHasSmallNames (founders_entry rules) [] (omega arith) (All-nil EntryHasSmallNames)

first_named : (rules : Rules) (name : ℕ) → MayFound rules → name < 256 → NodeHasSmallNames ((start rules).nodes name)
first_named rules name may low = first_node_has_property rules NodeHasSmallNames name
    (record { who = low; entries = view_named rules may; ballot = tt })
    (record { who = low; entries = All-nil EntryHasSmallNames; ballot = tt })

start_said : (rules : Rules) → MayFound rules → AllNamesSaidAreSmall rules (start rules)
start_said rules may = record {
  base = start_has_names rules may;
  each = λ name low. first_named rules name may low;
  letters = All-nil LetterNamed;
  group = view_named rules may;
}

-- each entry of every run
pub run_names_are_small : (rules : Rules) (events : List Event) → MayFound rules → AllNamesSaidAreSmall rules (run rules events)
run_names_are_small rules events may = runs_keep_what_events_keep (AllNamesSaidAreSmall rules) (said_keeps rules) (start rules) events (start_said rules may)
