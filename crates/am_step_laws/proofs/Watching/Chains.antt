-- What the changes of a step do to a node's entries, one after another.
use Rattle.am_step_laws.proofs.Watching.WatchedWords.{hearing_sequencer_has_log, welcomed_node_has_no_log, member_status_has_log, ◌≡◌, ℕ, ◌≤◌, true, false, List, [], ◌∷◌, ◌++◌, refl, sym, ap, ◌∙◌}
use Rattle.am_step_laws.proofs.Watching.WatchedWords.{append_assoc, arith, Outcome, Stamp, Image, Entry, View, Leave, Log, Node, Ballot}
use Rattle.am_step_laws.proofs.Watching.WatchedWords.{push_entry, has_log_by_status, BallotVerdict, refresh, settle_waiting_send, Cause, hears}
use Rattle.am_step_laws.proofs.Watching.WatchedWords.{LooksAtBallot, finds_itself_out, decides, Change, refreshes, settles, numbers}
use Rattle.am_step_laws.proofs.Watching.WatchedWords.{stores, begins_list, departs, looks, fetches, stores_view, asks_to_join, closes, Changes, unchanged, changed}
use Rattle.am_step_laws.proofs.Watching.WatchedWords.{refresh_rests_with_list, end_refresh_rests_with_list, settle_changes_only_sends, NodePartsHaveNames, HeardStampsHaveNames, NodeBallotFits, changes_keep_list_and_names}
use Rattle.am_step_laws.proofs.ViewChanges.{sequencer_is_member, hearing_member_has_log, balloting_looks_at_open_ballot}
use Rattle.am_packet.specs.declared.packet.Packet.TheVariants as packet

-- ---- entries

-- after some changes: without a list there are no entries, and else there are more
pub record HasLongerEntries (m n : Node) : Type 0 where
  pub bare : has_log_by_status n.status ≡ false → n.core.log.entries ≡ []
  pub more : List Entry
  pub is : n.core.log.entries ≡ m.core.log.entries ++ more

longer_same : (m x y : Node) → y.status ≡ x.status → y.core.log ≡ x.core.log → HasLongerEntries m x → HasLongerEntries m y
longer_same m x y stays log h = record {
  bare = λ f. ap (λ (l : Log). l.entries) log ∙ h.bare (ap has_log_by_status (sym stays) ∙ f);
  more = h.more;
  is = ap (λ (l : Log). l.entries) log ∙ h.is;
}

longer_pushed : (m x y : Node) (e : Entry) → has_log_by_status y.status ≡ true → y.core.log.entries ≡ x.core.log.entries ++ e ∷ [] → HasLongerEntries m x → HasLongerEntries m y
longer_pushed m x y e log is h = record {
  bare = λ f. absurd (cc);
  more = h.more ++ e ∷ [];
  is = is ∙ ap (λ es. es ++ e ∷ []) h.is ∙ append_assoc m.core.log.entries h.more (e ∷ []);
}

look_longer : (m x : Node) (b : Ballot) (v : BallotVerdict) → LooksAtBallot x b v → has_log_by_status x.status ≡ true → HasLongerEntries m x → HasLongerEntries m v.node
look_longer m x b v (decides may) log h = longer_pushed m x v.node _ log refl h
look_longer m x b v _ log h = longer_same m x v.node refl refl h

change_longer : {c : Cause} {o : Outcome} (m x y : Node) → Change c o x y → NodeBallotFits x → HasLongerEntries m x → HasLongerEntries m y
change_longer m x y refreshes k h = let r = refresh_rests_with_list x in longer_same m x (refresh x) r.rests.status r.log h
change_longer m x y settles k h = longer_same m x (settle_waiting_send x) (ap (λ (n : Node). n.status) (settle_changes_only_sends x)) (ap (λ (n : Node). n.core.log) (settle_changes_only_sends x)) h
change_longer m x y (numbers e leads room why) k h = longer_pushed m x y e (member_status_has_log x.status (sequencer_is_member x leads)) refl h
change_longer m x y (stores s v base acc number e by from plain may) k h = longer_pushed m x y e (hearing_sequencer_has_log x s v from) refl h
change_longer m x y (begins_list s v base join image is o may) k h =
    let none : x.core.log.entries ≡ [] = h.bare (welcomed_node_has_no_log x s v base join image may) in
    record { bare = λ f. refl; more = h.more; is = sym none ∙ h.is }
change_longer m x y (departs s v number is by leaves) k h = record { bare = λ f. absurd (cc); more = h.more; is = h.is }
change_longer m x y (looks b verdict over why look is) k h = look_longer m x b verdict look (balloting_looks_at_open_ballot x b why k).has_list h
change_longer m x y (fetches s v base number e is by promise below from may) k h = longer_pushed m x y e (hearing_member_has_log x s by) refl h
change_longer m x y (stores_view s base number v is by own other promise below may) k h =
    longer_pushed m x y (View v) (hearing_member_has_log x s by) refl h
change_longer m x y (asks_to_join is was) k h = record { bare = λ f. h.bare (ap has_log_by_status was); more = h.more; is = h.is }
change_longer m x y (closes leads leaves alone room) k h =
    let p = push_entry x (Leave x.core.who) in
    let r = end_refresh_rests_with_list p in
    longer_pushed m x y (Leave x.core.who) refl (ap (λ (l : Log). l.entries) r.log) h
change_longer m x y _ k h = longer_same m x y refl refl h

pub changes_lengthen_entries : {c : Cause} {o : Outcome} (m x n : Node) → HeardStampsHaveNames c → Changes c o x n → NodePartsHaveNames x → NodeBallotFits x → HasLongerEntries m x → HasLongerEntries m n
changes_lengthen_entries m x n heard unchanged k b h = h
changes_lengthen_entries m x n heard (changed {n = y} one more) k b h =
    let g = changes_keep_list_and_names x y heard (changed one unchanged) k b in
    changes_lengthen_entries m y n heard more g.names g.does.balloted (change_longer m x y one b h)

-- ---- where a list begins

-- a Welcome begins a list at a number up to this one
pub record WelcomeBaseIsWithin (c : Cause) (g : ℕ) : Type 0 where
  pub welcome : (s : ℕ) (v : Stamp) (base join : ℕ) (image : Image) → c ≡ hears (packet.Welcome s v base join image) → base ≤ g

look_begins : (g : ℕ) (x : Node) (b : Ballot) (v : BallotVerdict) → LooksAtBallot x b v → x.core.log.start ≤ g → v.node.core.log.start ≤ g
look_begins g x b v (finds_itself_out y) h = h
look_begins g x b v _ h = h

pub change_keeps_start_within : {c : Cause} {o : Outcome} (g : ℕ) → WelcomeBaseIsWithin c g → (x y : Node) → Change c o x y → x.core.log.start ≤ g → y.core.log.start ≤ g
change_keeps_start_within g heard x y refreshes h = let e = ap (λ (l : Log). l.start) (refresh_rests_with_list x).log in omega arith
change_keeps_start_within g heard x y settles h = let e = ap (λ (n : Node). n.core.log.start) (settle_changes_only_sends x) in omega arith
change_keeps_start_within g heard x y (begins_list s v base join image is o may) h = heard.welcome s v base join image is
change_keeps_start_within g heard x y (looks b verdict over why look is) h = look_begins g x b verdict look h
change_keeps_start_within g heard x y (closes leads leaves alone room) h = let e = ap (λ (l : Log). l.start) (end_refresh_rests_with_list (push_entry x (Leave x.core.who))).log in omega
    arith
change_keeps_start_within g heard x y _ h = h

-- a list that is there begins where it did
look_stays : (x : Node) (b : Ballot) (v : BallotVerdict) → LooksAtBallot x b v → v.node.core.log.start ≡ x.core.log.start
look_stays x b v (finds_itself_out y) = refl
look_stays x b v _ = refl

change_stays : {c : Cause} {o : Outcome} (x y : Node) → Change c o x y → has_log_by_status x.status ≡ true → y.core.log.start ≡ x.core.log.start
change_stays x y refreshes t = ap (λ (l : Log). l.start) (refresh_rests_with_list x).log
change_stays x y settles t = ap (λ (n : Node). n.core.log.start) (settle_changes_only_sends x)
change_stays x y (begins_list s v base join image is o may) t = absurd (let f = welcomed_node_has_no_log x s v base join image may in cc)
change_stays x y (looks b verdict over why look is) t = look_stays x b verdict look
change_stays x y (closes leads leaves alone room) t = ap (λ (l : Log). l.start) (end_refresh_rests_with_list (push_entry x (Leave x.core.who))).log
change_stays x y _ t = refl

pub changes_keep_log_start : {c : Cause} {o : Outcome} (x n : Node) → HeardStampsHaveNames c → Changes c o x n → NodePartsHaveNames x → NodeBallotFits x → has_log_by_status x.status ≡ true
    → n.core.log.start ≡ x.core.log.start
changes_keep_log_start x n heard unchanged k b t = refl
changes_keep_log_start x n heard (changed {n = y} one more) k b t =
    let g = changes_keep_list_and_names x y heard (changed one unchanged) k b in
    changes_keep_log_start y n heard more g.names g.does.balloted (g.does.log_ t) ∙ change_stays x y one t
