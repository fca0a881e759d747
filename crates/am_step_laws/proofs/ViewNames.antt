-- The names of the Views that stand in lists, and of ballots.
use Rattle.am_step_laws.proofs.Words.{◌≡◌, ℕ, ◌<◌, ◌&&◌, not, false, List, [], ◌∷◌, ◌++◌, Option, Some, None, sym, subst, arith, All, nat_tests, All-nil, All-cons}
use Rattle.am_step_laws.proofs.Words.{All-append, Outcome, Stamp, Entry, Leave, View, stamp_is_less, Packet, Node, Ballot, push_entry, BallotVerdict, overtake_lower_ballot, is_view}
use Rattle.am_step_laws.proofs.Words.{refresh, refresh_at_end, split_on_bool, Cause, hears, HasOpenBallot, BallotIsLookedAt, with_more, without_one, as_it_is, LooksAtBallot, decides, Says}
use Rattle.am_step_laws.proofs.Words.{piece, MayPromise, invited, overtaken_by, told_result, IsNumberedBy, asked_send, Change, refreshes}
use Rattle.am_step_laws.proofs.Words.{settles, numbers, stores, begins_list, promises, opens, looks, fetches, stores_view, closes, item_of_index_has_property, refresh_rests_with_list}
use Rattle.am_step_laws.proofs.Words.{end_refresh_rests_with_list, settle_changes_only_sends, sender_of, stamp_of}
use Rattle.am_packet.specs.declared.packet.Packet.TheVariants as packet

-- a View's stamp is of one of the 256 names
abbrev pub ViewStampHasName : Entry → Type 0
ViewStampHasName (View v) = v.stamp.by < 256
ViewStampHasName _ = Unit {0}

abbrev BallotNamed : Option Ballot → Type 0
BallotNamed None = Unit {0}
BallotNamed (Some b) = b.stamp.by < 256

pub record PartsHaveNames (who : ℕ) (promise : Stamp) (entries : List Entry) (ballot : Option Ballot) : Type 0 where
  pub who_ : who < 256
  pub promise_ : promise.by < 256
  pub entries_ : All ViewStampHasName entries
  pub ballot_ : BallotNamed ballot

abbrev pub NodePartsHaveNames : Node → Type 0
NodePartsHaveNames m = PartsHaveNames m.core.who m.core.promise m.core.log.entries m.ballot

-- what a Piece carries
abbrev pub PieceViewHasName : Packet → Type 0
PieceViewHasName (packet.Piece s v base number e) = ViewStampHasName e
PieceViewHasName _ = Unit {0}

pub record HeardStampsHaveNames (c : Cause) : Type 0 where
  pub pieces : (p : Packet) → c ≡ hears p → PieceViewHasName p
  pub senders : (p : Packet) → c ≡ hears p → sender_of p < 256
  pub stamps : (p : Packet) → c ≡ hears p → (stamp_of p).by < 256

no_view : (e : Entry) → is_view e ≡ false → ViewStampHasName e
no_view (View v) h = absurd (cc)
no_view _ h = tt

numbers_no_view : (c : Cause) (m : Node) (e : Entry) → IsNumberedBy c m e → ViewStampHasName e
numbers_no_view c m e (asked_send s v report req body by known stays next) = tt
numbers_no_view c m e _ = tt

one_more : (m : Node) (e : Entry) → ViewStampHasName e → All ViewStampHasName m.core.log.entries → All ViewStampHasName (m.core.log.entries ++ e ∷ [])
one_more m e is h = All-append ViewStampHasName m.core.log.entries (e ∷ []) h (All-cons ViewStampHasName e [] is (All-nil ViewStampHasName))

names_pushed : (m : Node) (e : Entry) → ViewStampHasName e → NodePartsHaveNames m → NodePartsHaveNames (push_entry m e)
names_pushed m e is h = record { who_ = h.who_; promise_ = h.promise_; entries_ = one_more m e is h.entries_; ballot_ = h.ballot_ }

ballot_overtaken : (by : Stamp) (ballot : Option Ballot) → BallotNamed ballot → BallotNamed (overtake_lower_ballot by ballot)
ballot_overtaken by None h = tt
ballot_overtaken by (Some b) h = split_on_bool (not b.is_over && stamp_is_less b.stamp by) (λ t. rw t h) (λ f. rw f h)

open_named : (m : Node) (b : Ballot) → HasOpenBallot m b → NodePartsHaveNames m → b.stamp.by < 256
open_named m b open_ h = subst BallotNamed open_.last h.ballot_

looked_named : {c : Cause} (m : Node) (b : Ballot) → BallotIsLookedAt c m b → NodePartsHaveNames m → b.stamp.by < 256
looked_named m b (with_more old s v shown is by low high open_ same stays) h = open_named m old open_ h
looked_named m b (without_one old name is open_ other) h = open_named m old open_ h
looked_named m b (as_it_is old open_ on) h = open_named m old open_ h

look_names : (m : Node) (b : Ballot) (v : BallotVerdict) → LooksAtBallot m b v → b.stamp.by < 256 → NodePartsHaveNames m → NodePartsHaveNames v.node
look_names m b v (decides may) k h = record { who_ = h.who_; promise_ = h.promise_; entries_ = one_more m _ k h.entries_; ballot_ = k }
look_names m b v _ k h = record { who_ = h.who_; promise_ = h.promise_; entries_ = h.entries_; ballot_ = k }

-- with the same name, list and ballot
same_names : (m n : Node) → n.core.who ≡ m.core.who → n.core.promise ≡ m.core.promise → n.core.log ≡ m.core.log → n.ballot ≡ m.ballot → NodePartsHaveNames m → NodePartsHaveNames n
same_names m n a p b c h = record {
  who_ = rw a h.who_;
  promise_ = rw p h.promise_;
  entries_ = rw b h.entries_;
  ballot_ = rw c h.ballot_;
}

pub promised_stamp_has_name : (c : Cause) (m : Node) (v : Stamp) → MayPromise c m v → HeardStampsHaveNames c → v.by < 256
promised_stamp_has_name c m v (invited s _ is by own) heard = heard.stamps (packet.Invite s v) is
promised_stamp_has_name c m v (overtaken_by s _ shown is by above) heard = heard.stamps (packet.Vote s v shown) is
promised_stamp_has_name c m v (told_result s base number w is by own other) heard = heard.stamps (packet.Result s base number w) is

pub change_keeps_stamp_names : {c : Cause} {o : Outcome} → HeardStampsHaveNames c → (m n : Node) → Change c o m n → NodePartsHaveNames m → NodePartsHaveNames n
change_keeps_stamp_names heard m n refreshes h = let r = refresh_rests_with_list m in same_names m (refresh m) r.rests.who r.rests.promise r.log r.rests.ballot h
change_keeps_stamp_names heard m n settles h = subst NodePartsHaveNames (sym (settle_changes_only_sends m)) h
change_keeps_stamp_names heard m n (numbers e leads room why) h = names_pushed m e (numbers_no_view _ m e why) h
change_keeps_stamp_names heard m n (stores s v base acc number e by from plain may) h =
    record { who_ = h.who_; promise_ = h.promise_; entries_ = one_more m e (no_view e plain) h.entries_; ballot_ = h.ballot_ }
change_keeps_stamp_names heard m n (begins_list s v base join image is o may) h =
    record { who_ = h.who_; promise_ = heard.stamps (packet.Welcome s v base join image) is; entries_ = All-nil ViewStampHasName; ballot_ = h.ballot_ }
change_keeps_stamp_names heard m n (promises v low why) h = record {
  who_ = h.who_;
  promise_ = promised_stamp_has_name _ m v why heard;
  entries_ = h.entries_;
  ballot_ = ballot_overtaken v m.ballot h.ballot_;
}
change_keeps_stamp_names heard m n (opens least resilience by may) h = record { who_ = h.who_; promise_ = h.who_; entries_ = h.entries_; ballot_ = h.who_ }
change_keeps_stamp_names heard m n (looks b verdict over why look is) h = look_names m b verdict look (looked_named m b why h) h
change_keeps_stamp_names heard m n (fetches s v base number e is by promise below from may) h =
    record { who_ = h.who_; promise_ = h.promise_; entries_ = one_more m e (heard.pieces (packet.Piece s v base number e) is) h.entries_; ballot_ = h.ballot_ }
change_keeps_stamp_names heard m n (stores_view s base number v is by own other promise below may) h =
    let few = heard.senders (packet.Result s base number v) is in
    let same : v.stamp.by ≡ s = grind (arith, nat_tests) in
    let low : v.stamp.by < 256 = omega arith in
    record { who_ = h.who_; promise_ = h.promise_; entries_ = one_more m (View v) low h.entries_; ballot_ = h.ballot_ }
change_keeps_stamp_names heard m n (closes leads leaves alone room) h =
    let p = push_entry m (Leave m.core.who) in
    let r = end_refresh_rests_with_list p in
    let k = same_names p (refresh_at_end p) r.rests.who r.rests.promise r.log r.rests.ballot (names_pushed m (Leave m.core.who) tt h) in
    record { who_ = k.who_; promise_ = k.promise_; entries_ = k.entries_; ballot_ = k.ballot_ }
change_keeps_stamp_names heard m n _ h = h

-- the entries that are served
pub served_pieces_have_names : (m n : Node) (c : Cause) (to : List ℕ) (p : Packet) → NodePartsHaveNames n → Says m c n to p → PieceViewHasName p
served_pieces_have_names m n c to p h (piece s v stored number e is may at) = item_of_index_has_property ViewStampHasName n.core.log.entries at.index e h.entries_ at.there
served_pieces_have_names m n c to p h _ = tt
