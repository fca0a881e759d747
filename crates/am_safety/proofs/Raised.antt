-- What a change keeps of a node whose Views have no less resilience than the founding.
use Rattle.am_model.specs.Ballots.{decided_view}
use Rattle.am_step_laws.proofs.Words.{◌≡◌, inl, inr, ℕ, suc, ◌+◌, ◌-◌, ◌<◌, ◌≤◌, ◌==◌, nat_lt, true, false, List, [], ◌∷◌, ◌++◌, length, take, Option}
use Rattle.am_step_laws.proofs.Words.{Some, None, refl, sym, ap, ◌∙◌, subst, arith, nat_tests, length-append, All, All-nil, All-cons, All-head, All-tail, All-append}
use Rattle.am_step_laws.proofs.Words.{All-take, split_on_bool, both_of_and, place_of_name, has, Stamp, stamp_is_less, stamps_are_equal, Entry, Leave, View, Image, Outcome, Rules}
use Rattle.am_step_laws.proofs.Words.{Log, blank, top_of_log, image_of_log, log_image_at, log_with_entry, members_of_image, after, image_after_entries, Packet, Node, Ballot, top, view, members, acts_in_its_view}
use Rattle.am_step_laws.proofs.Words.{is_sequencer, is_member, has_log_by_status, push_entry, trim_node_up_to, overtake_lower_ballot, BallotVerdict, need_set_of, need_set_without_given_up, trim_to_least_taken_by, is_view, refresh}
use Rattle.am_step_laws.proofs.Words.{Cause, hears, BallotIsLookedAt, with_more, without_one, as_it_is, LooksAtBallot, decides, Change, refreshes, settles, numbers, stores}
use Rattle.am_step_laws.proofs.Words.{begins_list, departs, promises, opens, looks, fetches, stores_view, asks_to_join, closes, member_status_has_log, stamp_eq_gives_equality, refresh_rests_with_list}
use Rattle.am_step_laws.proofs.Words.{end_refresh_rests_with_list, settle_changes_only_sends, has_member_is_in_row, blank_image_has_nobody_joined}
use Rattle.am_refinement.proofs.Words.{either}
use Rattle.am_step_laws.proofs.ViewSteps.{plain_entry_keeps_image_view, image_after_view_has_it}
use Rattle.am_step_laws.proofs.ViewChanges.{numbered_entry_is_no_view, welcomed_node_has_no_log, sequencer_is_member, hearing_member_has_log}
use Rattle.am_safety.specs.Resiliences.{IsRaised, ListBeginsWithFoundingResilience, FirstIsView, ListRaised, NodeRaised, PacketRaised}
use Rattle.am_step_laws.proofs.Receiving.{hearing_sequencer_acts}

-- ---- images

least_after : (rules : Rules) (image : Image) (number : ℕ) (e : Entry) → rules.resilience ≤ image.resilience → IsRaised rules e
    → rules.resilience ≤ (after image number e).resilience
least_after rules image number (View v) h raised = let is = (image_after_view_has_it image number v).2 in omega arith
least_after rules image number e h raised = let same = (plain_entry_keeps_image_view image number e refl).resilience in omega arith

least_fold : (rules : Rules) (image : Image) (number : ℕ) (es : List Entry) → rules.resilience ≤ image.resilience → All (IsRaised rules) es
    → rules.resilience ≤ (image_after_entries image number es).resilience
unfolding image_after_entries
least_fold rules image number [] h all = h
least_fold rules image number (e ∷ es) h all =
    least_fold rules (after image number e) (number + 1) es (least_after rules image number e h (All-head (IsRaised rules) e es all))
    (All-tail (IsRaised rules) e es all)

-- a View tells its own resilience, whatever was told before
least_viewed : (rules : Rules) (image : Image) (number : ℕ) (e : Entry) → is_view e ≡ true → IsRaised rules e
    → rules.resilience ≤ (after image number e).resilience
least_viewed rules image number (View v) is raised = let same = (image_after_view_has_it image number v).2 in omega arith
least_viewed rules image number _ is raised = absurd (cc)

least_first : (rules : Rules) (image : Image) (number : ℕ) (es : List Entry) → 0 < length es → FirstIsView es → All (IsRaised rules) es
    → rules.resilience ≤ (image_after_entries image number es).resilience
unfolding image_after_entries
least_first rules image number [] some first all = absurd (omega arith)
least_first rules image number (e ∷ es) some first all =
    least_fold rules (after image number e) (number + 1) es (least_viewed rules image number e first (All-head (IsRaised rules) e es all))
    (All-tail (IsRaised rules) e es all)

-- ---- lists

-- what a list with entries tells
pub told_resilience_ge_founding : (rules : Rules) (log : Log) → ListRaised rules log → 0 < top_of_log log → rules.resilience ≤ (image_of_log log).resilience
told_resilience_ge_founding rules log h some = either h.begins
    (λ fresh. let start = fresh.0 in
    least_first rules log.image (log.start + 1) log.entries (omega arith) (h.first start) h.entries)
    (λ later. least_fold rules log.image (log.start + 1) log.entries later.1 h.entries)

first_taken : (n : ℕ) (es : List Entry) → FirstIsView es → FirstIsView (take n es)
first_taken (suc n) (e ∷ es) h = h
first_taken _ _ h = tt

some_taken : (n : ℕ) (es : List Entry) → 0 < n → 0 < length es → 0 < length (take n es)
some_taken (suc n) (e ∷ es) some more = omega arith
some_taken _ _ some more = absurd (omega arith)

-- what it tells up to a number
pub image_at_base_is_raised : (rules : Rules) (log : Log) (base : ℕ) → ListRaised rules log → 0 < top_of_log log → log.start ≤ base
    → ListBeginsWithFoundingResilience rules base (log_image_at log base)
unfolding image_after_entries
image_at_base_is_raised rules log base h some kept = either h.begins
    (λ fresh. let start = fresh.0 in
    split_on_bool (base == 0)
    (λ t. let none : base ≡ 0 = grind (arith, nat_tests) in
    let nothing : base - log.start ≡ 0 = omega arith in
    inl (none, rw nothing fresh.1))
    (λ f. let up : 0 < base = grind (arith, nat_tests) in
    inr (
      up,
      least_first rules log.image (log.start + 1) (take (base - log.start) log.entries)
          (some_taken (base - log.start) log.entries (omega arith) (omega arith)) (first_taken (base - log.start) log.entries (h.first start))
          (All-take (IsRaised rules) (base - log.start) log.entries h.entries),
    )))
    (λ later. let up = later.0 in
    inr (
      omega arith,
      least_fold rules log.image (log.start + 1) (take (base - log.start) log.entries) later.1
          (All-take (IsRaised rules) (base - log.start) log.entries h.entries),
    ))

-- an empty list tells nothing
nothing_told : (image : Image) (number : ℕ) (es : List Entry) → length es ≡ 0 → image_after_entries image number es ≡ image
unfolding image_after_entries
nothing_told image number [] none = refl
nothing_told image number (e ∷ es) none = absurd (omega arith)

pub empty_log_tells_blank : (rules : Rules) (log : Log) → ListRaised rules log → top_of_log log ≡ 0 → image_of_log log ≡ blank
empty_log_tells_blank rules log h none = nothing_told log.image (log.start + 1) log.entries (omega arith) ∙ either h.begins
    (λ fresh. fresh.1)
    (λ later. let up = later.0 in absurd (omega arith))

first_pushed : (es : List Entry) (e : Entry) → FirstIsView es → (length es ≡ 0 → is_view e ≡ true) → FirstIsView (es ++ e ∷ [])
first_pushed [] e h is = is refl
first_pushed (x ∷ xs) e h is = h

list_pushed : (rules : Rules) (log : Log) (e : Entry) → IsRaised rules e → (top_of_log log ≡ 0 → is_view e ≡ true) → ListRaised rules log
    → ListRaised rules (log_with_entry log e)
list_pushed rules log e raised is h = record {
  begins = h.begins;
  first = λ start. first_pushed log.entries e (h.first start) (λ none. is (omega arith));
  entries = All-append (IsRaised rules) log.entries (e ∷ []) h.entries (All-cons (IsRaised rules) e [] raised (All-nil (IsRaised rules)));
}

-- ---- nodes

-- with the same list, promise and ballot, and one in the group as before
same_raised : (rules : Rules) (m n : Node) → n.core.log ≡ m.core.log → n.core.promise ≡ m.core.promise → n.ballot ≡ m.ballot
    → has_log_by_status n.status ≡ has_log_by_status m.status → NodeRaised rules m → NodeRaised rules n
same_raised rules m n log promise ballot stays h = record {
  list = subst (ListRaised rules) (sym log) h.list;
  promised = λ t. subst (λ (s : Stamp). 0 < s.round) (sym promise) (h.promised (sym stays ∙ t));
  balloted = λ b is. (let k = h.balloted b (sym ballot ∙ is) in (stays ∙ k.0, subst (λ (l : Log). 0 < top_of_log l) (sym log) k.1));
}

pushed : (rules : Rules) (m : Node) (e : Entry) → IsRaised rules e → (top m ≡ 0 → is_view e ≡ true) → NodeRaised rules m → NodeRaised rules (push_entry m e)
pushed rules m e raised is h = record {
  list = list_pushed rules m.core.log e raised is h.list;
  promised = h.promised;
  balloted = λ b at. (let k = h.balloted b at in let up = k.1 in (k.0, simp length-append (omega arith)));
}

plain_raised : (rules : Rules) (e : Entry) → is_view e ≡ false → IsRaised rules e
plain_raised rules (View v) plain = absurd (cc)
plain_raised rules _ plain = tt

-- whoever acts has entries: an empty list tells the view of round 0, which nobody has promised that has a list
pub acting_node_has_nonempty_list : (rules : Rules) (m : Node) → acts_in_its_view m ≡ true → ListRaised rules m.core.log → (has_log_by_status m.status ≡ true → 0 < m.core.promise.round) → 0 < top m
acting_node_has_nonempty_list rules m t list promised =
    let both = both_of_and (is_member m.status) (stamps_are_equal m.core.promise (view m)) t in
    let up = promised (member_status_has_log m.status both.0) in
    let same = stamp_eq_gives_equality m.core.promise (view m) both.1 in
    split_on_bool (top m == 0)
    (λ none. let empty : top m ≡ 0 = grind (arith, nat_tests) in
    let round : m.core.promise.round ≡ 0 = ap (λ (s : Stamp). s.round) same ∙ ap (λ (i : Image). i.view.round) (empty_log_tells_blank rules m.core.log list empty) in
    absurd (omega arith))
    (λ some. grind (arith, nat_tests))

pub sequencer_node_acts : (m : Node) → is_sequencer m ≡ true → acts_in_its_view m ≡ true
sequencer_node_acts m t = (both_of_and (acts_in_its_view m) ((view m).by == m.core.who) t).0

-- so an entry that is no View isn't its first
acting_pushed : (rules : Rules) (m : Node) (e : Entry) → is_view e ≡ false → acts_in_its_view m ≡ true → NodeRaised rules m → NodeRaised rules (push_entry m e)
acting_pushed rules m e plain t h =
    let some = acting_node_has_nonempty_list rules m t h.list h.promised in
    pushed rules m e (plain_raised rules e plain) (λ none. absurd (omega arith)) h

-- a member of its own list has entries
own_listed : (rules : Rules) (m : Node) → has (members m) m.core.who ≡ true → NodeRaised rules m → 0 < top m
own_listed rules m there h = split_on_bool (top m == 0)
    (λ none. let empty : top m ≡ 0 = grind (arith, nat_tests) in
    let is = empty_log_tells_blank rules m.core.log h.list empty in
    let in_blank : has (members_of_image blank) m.core.who ≡ true = ap (λ (i : Image). has (members_of_image i) m.core.who) (sym is) ∙ there in
    let joined = (has_member_is_in_row blank m.core.who refl in_blank).joined in
    let nobody = blank_image_has_nobody_joined blank (place_of_name m.core.who) refl in
    absurd (omega arith))
    (λ some. grind (arith, nat_tests))

-- ---- ballots

overtaken_some : (by : Stamp) (ballot : Option Ballot) (b : Ballot) → overtake_lower_ballot by ballot ≡ Some b → (old : Ballot) × (ballot ≡ Some old)
overtaken_some by None b is = absurd (cc)
overtaken_some by (Some old) b is = (old, refl)

-- who looks at a ballot has it
looked_listed : (rules : Rules) {c : Cause} (m : Node) (b : Ballot) → BallotIsLookedAt c m b → NodeRaised rules m → (has_log_by_status m.status ≡ true) × (0 < top m)
looked_listed rules m b (with_more old s v shown is by low high open_ same stays) h = h.balloted old open_.last
looked_listed rules m b (without_one old name is open_ other) h = h.balloted old open_.last
looked_listed rules m b (as_it_is old open_ on) h = h.balloted old open_.last

look_raised : (rules : Rules) (m : Node) (b : Ballot) (v : BallotVerdict) → LooksAtBallot m b v → (has_log_by_status m.status ≡ true) × (0 < top m) → NodeRaised rules m
    → NodeRaised rules v.node
look_raised rules m b v (decides may) has_ h =
    let least = told_resilience_ge_founding rules m.core.log h.list has_.1 in
    let names = need_set_without_given_up b (need_set_of m b) in
    let before = trim_to_least_taken_by m b names in
    let v = decided_view m b names in
    let up : rules.resilience ≤ v.resilience = omega arith in
    let k = pushed rules before (View v) up (λ none. refl) (same_raised rules m before refl refl refl refl h) in
    record { list = k.list; promised = h.promised; balloted = λ x is. (has_.0, simp length-append (omega arith)) }
look_raised rules m b v _ has_ h = record { list = h.list; promised = h.promised; balloted = λ x is. has_ }

-- ---- each change

-- of what is heard
abbrev pub CauseRaisesResilience : Rules → Cause → Type 0
CauseRaisesResilience rules c = (p : Packet) → c ≡ hears p → PacketRaised rules p

not_lower : (v promise : Stamp) → stamp_is_less v promise ≡ false → promise.round ≤ v.round
not_lower v promise low = split_on_bool (nat_lt v.round promise.round)
    (λ t. absurd (let z = rw t at low in cc))
    (λ f. grind (arith, nat_tests))

pub node_is_raised_by_change : (rules : Rules) {c : Cause} {o : Outcome} → CauseRaisesResilience rules c → (m n : Node) → Change c o m n → NodeRaised rules m → NodeRaised rules n
node_is_raised_by_change rules heard m n refreshes h =
    let r = refresh_rests_with_list m in
    same_raised rules m (refresh m) r.log r.rests.promise r.rests.ballot (ap has_log_by_status r.rests.status) h
node_is_raised_by_change rules heard m n settles h = subst (NodeRaised rules) (sym (settle_changes_only_sends m)) (same_raised rules m _ refl refl refl refl h)
node_is_raised_by_change rules heard m n (numbers e leads room why) h = acting_pushed rules m e (numbered_entry_is_no_view _ m e why) (sequencer_node_acts m leads) h
node_is_raised_by_change rules heard m n (stores s v base acc number e by from plain may) h =
    same_raised rules (push_entry m e) n refl refl refl refl (acting_pushed rules m e plain (hearing_sequencer_acts m s v from) h)
node_is_raised_by_change rules heard m n (begins_list s v base join image is o may) h =
    let told = heard (Packet.Welcome s v base join image) is in
    record {
      list = record { begins = told.1; first = λ start. tt; entries = All-nil (IsRaised rules) };
      promised = λ t. told.0;
      balloted = λ b at. absurd (let k = (h.balloted b at).0 in let none = welcomed_node_has_no_log m s v base join image may in cc);
    }
node_is_raised_by_change rules heard m n (departs s v number is by leaves) h = same_raised rules m n refl refl refl (sym (hearing_member_has_log m s by)) h
node_is_raised_by_change rules heard m n (promises v low why) h = record {
  list = h.list;
  promised = λ t. (let up = h.promised t in let more = not_lower v m.core.promise low in omega arith);
  balloted = λ b at. h.balloted (overtaken_some v m.ballot b at).0 (overtaken_some v m.ballot b at).1;
}
node_is_raised_by_change rules heard m n (opens least resilience by may) h = record {
  list = h.list;
  promised = λ t. omega arith;
  balloted = λ b at. (member_status_has_log m.status may.member, own_listed rules m may.listed h);
}
node_is_raised_by_change rules heard m n (looks b verdict over why look is) h = look_raised rules m b verdict look (looked_listed rules m b why h) h
node_is_raised_by_change rules heard m n (fetches s v base number e is by promise below from may) h =
    let told = heard (Packet.Piece s v base number e) is in
    pushed rules (trim_node_up_to m base) e told.0 (λ none. told.1 (omega arith)) (same_raised rules m (trim_node_up_to m base) refl refl refl refl h)
node_is_raised_by_change rules heard m n (stores_view s base number v is by own other promise below may) h =
    pushed rules (trim_node_up_to m base) (View v) (heard (Packet.Result s base number v) is (omega arith)) (λ none. refl)
    (same_raised rules m (trim_node_up_to m base) refl refl refl refl h)
node_is_raised_by_change rules heard m n (asks_to_join is was) h = same_raised rules m n refl refl refl (sym (ap has_log_by_status was)) h
node_is_raised_by_change rules heard m n (closes leads leaves alone room) h =
    let p = push_entry m (Leave m.core.who) in
    let r = end_refresh_rests_with_list p in
    same_raised rules p n r.log r.rests.promise r.rests.ballot (sym (member_status_has_log m.status (sequencer_is_member m leads)))
    (acting_pushed rules m (Leave m.core.who) refl (sequencer_node_acts m leads) h)
node_is_raised_by_change rules heard m n _ h = same_raised rules m n refl refl refl refl h
