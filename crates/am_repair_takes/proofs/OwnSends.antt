-- In every run a node's own row counts sends that stand in its list: the last of them stands there, later than where the row says that it joined.
use Rattle.am_step_laws.proofs.Words.{◌≡◌, ◌≢◌, ◌⊎◌, inl, inr, ℕ, ◌+◌, ◌<◌, ◌≤◌, ◌==◌, ◌&&◌, not, nat_lt, Bool, true, false, List, [], ◌∷◌, length}
use Rattle.am_step_laws.proofs.Words.{Some, refl, sym, ap, ◌∙◌, subst, arith, split_on_bool, nat_tests, if◌then◌else◌, length-append}
use Rattle.am_step_laws.proofs.Words.{Entry, Data, Join, Leave, View, Row, Image, Outcome, Rules, MayFound, place_of_name, life_of_name, blank, blank_row, row_at_place, is_blank_image}
use Rattle.am_step_laws.proofs.Words.{row_of_name, after, Log, Node, Ballot, Event, image_of_node, push_entry, top}
use Rattle.am_step_laws.proofs.Words.{BallotVerdict, refresh, settle_waiting_send, refresh_at_end, StepResult, World, start, founder, stranger_node, world_with_step, run, Cause, LooksAtBallot, decides}
use Rattle.am_step_laws.proofs.Words.{Change, refreshes, settles, numbers, stores, begins_list, looks, fetches, stores_view, closes, Changes, unchanged, changed, Effect, acting_name, IsCause, refresh_changes_only_fronts}
use Rattle.am_step_laws.proofs.Words.{slice_index, image_after_entries, get_or-replicate, mod_sixteen_lt, image_of_pushed_entry, log_entry_at, world_with_record, world_after_events, EventHappens, happens, steps, events_have_effects, settle_changes_only_sends}
use Rattle.am_base.proofs.Rows.{row_of_place, row_of_with_row, row_after_pushed_view, place_and_life_give_name}
use Rattle.am_base.specs.Lists.{row_after_view, member_life_of_row, image_with_row}
use Rattle.am_model.specs.Joining.{node_of_welcomed}
use Rattle.am_packet.specs.declared.packet.Packet.TheVariants as packet
use Rattle.am_node_defs.proofs.Lives.{UnusedPlacesHaveNoLife}
use Rattle.am_node_defs.specs.Sends as own
use Rattle.am_node_defs.specs.Sends.{unsettled_sends_are_in_line}
use Rattle.am_model.specs.Node.{own_row, founders_entry}
use Rattle.am_step_laws.proofs.Trimming.Trims.{told_image_is_used}
use Rattle.am_step_laws.proofs.Trimming.TakenRuns.{TrimsOnlyTakenAlongStep, changes_trim_only_taken, WorldTrimsOnlyTaken, events_trim_only_taken, each_node_trims_only_taken, heard_welcome_image_is_used, start_trims_only_taken}
use Rattle.am_step_laws.proofs.Views.{heard_stamps_have_names}
use Rattle.am_step_laws.proofs.ViewNames.{HeardStampsHaveNames}
use Rattle.am_step_laws.proofs.Trimming.Taken.{HeardWelcomeImageIsUsed}
use Rattle.am_step_laws.proofs.Trimming.LeaderRows.{blank_image_is_used}
use Rattle.am_step_laws.proofs.Named.{actor_is_below_256}
use Rattle.am_step_laws.proofs.Numbers.RunCounts.{founder_or_stranger_has}
use Rattle.am_repair.proofs.RepairLists.{log_grows_by_push, entry_at_is_within_log}
use Rattle.am_repair.proofs.Saying.{entry_at_of_list_item}
use Rattle.am_repair.proofs.RepairWords.{either, slice_get_of_append_back}
use Rattle.am_repair.proofs.Answered.Lined.{next_request_rose_by_changes}

-- ---- what an entry makes of a row

-- the last request and the Join's number of a place's row, for one life
abbrev last_for : ℕ → Row → ℕ
last_for life r = (if r.life == life then r else blank_row).last

abbrev joined_for : ℕ → Row → ℕ
joined_for life r = (if r.life == life then r else blank_row).joined

-- they stay, or there is a new row with no send, of no later number
data RowStays (n life : ℕ) (r s : Row) : Type 0 where
  stays : joined_for life s ≡ joined_for life r → last_for life s ≡ last_for life r → RowStays n life r s
  begins : joined_for life s ≤ n → last_for life s ≡ 0 → RowStays n life r s

left_row : (n k life : ℕ) (r : Row) → RowStays n life r (record r { left = k })
left_row n k life r = split_on_bool (r.life == life) (λ t. stays (rw (t, joined_for) refl) (rw (t, last_for) refl)) (λ f. stays (rw (f, joined_for) refl) (rw (f, last_for) refl))

new_row : (n life other joined : ℕ) (r : Row) → joined ≤ n → RowStays n life r (record { life = other; joined = joined; left = 0; last = 0 })
new_row n life other joined r low = split_on_bool (other == life) (λ t. begins (rw (t, joined_for) low) (rw (t, last_for) refl)) (λ f. begins (rw (f, joined_for) (omega arith)) (rw (f, last_for) refl))

-- of another life
other_row : (n life : ℕ) (r s : Row) → (r.life == life) ≡ false → (s.life == life) ≡ false → RowStays n life r s
other_row n life r s f g = stays (rw (f, g, joined_for) refl) (rw (f, g, last_for) refl)

viewed_row : (first : Bool) (n given life : ℕ) (r : Row) → 0 < n → RowStays n life r (row_after_view first n given r)
viewed_row true n given life r some = split_on_bool (given == 0) (λ t. rw t (stays refl refl)) (λ f. rw f (new_row n life given 1 r (omega arith)))
viewed_row false n given life r some = split_on_bool (nat_lt 0 (member_life_of_row r) && not (member_life_of_row r == given))
    (λ t. rw t (left_row n n life r))
    (λ f. rw f (stays refl refl))

row_stays : (image : Image) (n : ℕ) (e : Entry) (who : ℕ) → length image.rows ≡ 16 → 0 < n → ((req : ℕ) (body : List ℕ) → e ≢ Data who req body)
    → RowStays n (life_of_name who) (row_of_place image (place_of_name who)) (row_of_place (after image n e) (place_of_name who))
unfolding after
row_stays image n (Data from req body) who long some other = split_on_bool ((row_at_place image from).life == life_of_name from)
    (λ t.
    let r : Row = record (row_at_place image from) { last = req } in
    rw t (either (row_of_with_row image from (place_of_name who) r long)
    (λ z.
    let here : row_of_place image (place_of_name who) ≡ row_at_place image from = ap (row_of_place image) z.0 in
    let f : ((row_at_place image from).life == life_of_name who) ≡ false = split_on_bool ((row_at_place image from).life == life_of_name who)
    (λ u. absurd (let lives : life_of_name who ≡ life_of_name from = grind (arith, nat_tests) in
    let same : from ≡ who = place_and_life_give_name from who (sym z.0) (sym lives) in other req body (ap (λ k. Data k req body) same)))
    (λ g. g) in
    other_row n (life_of_name who) _ _ (ap (λ (x : Row). x.life == life_of_name who) here ∙ f) (ap (λ (x : Row). x.life == life_of_name who) z.1 ∙ f))
    (λ z. subst (RowStays n (life_of_name who) (row_of_place image (place_of_name who))) (sym z.1) (stays refl refl))))
    (λ f. rw f (stays refl refl))
row_stays image n (Join joiner) who long some other =
    let r : Row = record { life = life_of_name joiner; joined = n; left = 0; last = 0 } in
    either (row_of_with_row image joiner (place_of_name who) r long)
    (λ z. subst (RowStays n (life_of_name who) (row_of_place image (place_of_name who))) (sym z.1)
    (new_row n (life_of_name who) (life_of_name joiner) n (row_of_place image (place_of_name who)) (omega arith)))
    (λ z. subst (RowStays n (life_of_name who) (row_of_place image (place_of_name who))) (sym z.1) (stays refl refl))
row_stays image n (Leave leaver) who long some other = split_on_bool ((row_at_place image leaver).life == life_of_name leaver)
    (λ t.
    let r : Row = record (row_at_place image leaver) { left = n } in
    rw t (either (row_of_with_row image leaver (place_of_name who) r long)
    (λ z.
    let here : row_of_place image (place_of_name who) ≡ row_at_place image leaver = ap (row_of_place image) z.0 in
    subst (RowStays n (life_of_name who) (row_of_place image (place_of_name who))) (sym z.1)
    (subst (λ (x : Row). RowStays n (life_of_name who) x r) (sym here) (left_row n n (life_of_name who) (row_at_place image leaver))))
    (λ z. subst (RowStays n (life_of_name who) (row_of_place image (place_of_name who))) (sym z.1) (stays refl refl))))
    (λ f. rw f (stays refl refl))
row_stays image n (View v) who long some other =
    subst (RowStays n (life_of_name who) (row_of_place image (place_of_name who))) (sym (row_after_pushed_view image n v (place_of_name who) (mod_sixteen_lt who)))
    (viewed_row (is_blank_image image) n (slice_index v.members (place_of_name who)) (life_of_name who) (row_of_place image (place_of_name who)) some)

-- its own send
sent_row : (image : Image) (n who req : ℕ) (body : List ℕ) → length image.rows ≡ 16
    → (joined_for (life_of_name who) (row_of_place (after image n (Data who req body)) (place_of_name who)) ≡ joined_for (life_of_name who) (row_of_place image (place_of_name who)))
    × ((last_for (life_of_name who) (row_of_place (after image n (Data who req body)) (place_of_name who)) ≡ req)
    ⊎ (last_for (life_of_name who) (row_of_place (after image n (Data who req body)) (place_of_name who)) ≡ 0))
unfolding after
sent_row image n who req body long = split_on_bool ((row_at_place image who).life == life_of_name who)
    (λ t.
    let r : Row = record (row_at_place image who) { last = req } in
    let same : after image n (Data who req body) ≡ image_with_row image who r = rw t refl in
    either (row_of_with_row image who (place_of_name who) r long)
    (λ z.
    let is : row_of_place (after image n (Data who req body)) (place_of_name who) ≡ r = ap (λ (i : Image). row_of_place i (place_of_name who)) same ∙ z.1 in
    let joined : joined_for (life_of_name who) r ≡ joined_for (life_of_name who) (row_of_place image (place_of_name who)) = rw (t, joined_for) refl in
    let sent : last_for (life_of_name who) r ≡ req = rw (t, last_for) refl in
    (ap (joined_for (life_of_name who)) is ∙ joined, inl (ap (last_for (life_of_name who)) is ∙ sent)))
    (λ z. absurd (z.0 refl)))
    (λ f.
    let same : after image n (Data who req body) ≡ image = rw f refl in
    let is = ap (λ (i : Image). row_of_place i (place_of_name who)) same in
    let none : last_for (life_of_name who) (row_of_place image (place_of_name who)) ≡ 0 = rw (f, last_for) refl in
    (ap (joined_for (life_of_name who)) is, inr (ap (last_for (life_of_name who)) is ∙ none)))

-- ---- a node

-- the last of its own sends that its row counts stands in a list, later than the row's Join
abbrev pub LastStands : ℕ → Row → Log → Type 0
LastStands who row log = (number : ℕ) × (body : List ℕ) × (row.joined < number) × (log_entry_at log number ≡ Some (Data who row.last body))

pub record OwnRowStands (m : Node) : Type 0 where
  pub within : (own_row m).joined ≤ top m
  pub stands : ((own_row m).last ≡ 0) ⊎ LastStands m.core.who (own_row m) m.core.log

pushed_stands : (m : Node) (e : Entry) (row : Row) → row.joined ≡ (own_row m).joined → row.last ≡ (own_row m).last → LastStands m.core.who (own_row m) m.core.log
    → LastStands m.core.who row (push_entry m e).core.log
pushed_stands m e row joined last h =
    let within = entry_at_is_within_log m.core.log h.0 _ h.3 in
    let above = h.2 in
    let high = within.1 in
    (h.0, h.1, omega arith, (log_grows_by_push m.core.log e).entry h.0 (omega arith) ∙ h.3 ∙ ap (λ k. Some (Data m.core.who k h.1)) (sym last))

new_stands : (m : Node) (req : ℕ) (body : List ℕ) (row : Row) → row.joined ≤ top m → row.last ≡ req → LastStands m.core.who row (push_entry m (Data m.core.who req body)).core.log
new_stands m req body row low last =
    let e = Data m.core.who req body in
    let log = (push_entry m e).core.log in
    let at : log_entry_at log (top m + 1) ≡ Some e = entry_at_of_list_item log (length m.core.log.entries + 0) (top m + 1) e
    (slice_get_of_append_back m.core.log.entries (e ∷ []) 0) (omega arith) in
    (top m + 1, body, omega arith, at ∙ ap (λ k. Some (Data m.core.who k body)) (sym last))

own_data : (e : Entry) (who : ℕ) → ((req : ℕ) × (body : List ℕ) × (e ≡ Data who req body)) ⊎ ((req : ℕ) (body : List ℕ) → e ≢ Data who req body)
own_data (Data from req body) who = split_on_bool (from == who)
    (λ t. let same : from ≡ who = grind (arith, nat_tests) in inl (req, body, ap (λ k. Data k req body) same))
    (λ f. inr (λ r b same. (let z : from ≡ who = cc in grind (arith, nat_tests))))
own_data (Join name) who = inr (λ r b same. cc)
own_data (Leave name) who = inr (λ r b same. cc)
own_data (View v) who = inr (λ r b same. cc)

row_pushed : (m : Node) (e : Entry) → own_row (push_entry m e) ≡ row_of_name (after (image_of_node m) (top m + 1) e) m.core.who
row_pushed m e = ap (λ (i : Image). row_of_name i m.core.who) (image_of_pushed_entry m e)

stands_pushed : (m : Node) (e : Entry) → UnusedPlacesHaveNoLife (image_of_node m) → OwnRowStands m → OwnRowStands (push_entry m e)
stands_pushed m e used h =
    let who = m.core.who in
    let image = image_of_node m in
    let more : top (push_entry m e) ≡ top m + 1 = simp length-append (omega arith) in
    let joined = ap (λ (r : Row). r.joined) (row_pushed m e) in
    let last = ap (λ (r : Row). r.last) (row_pushed m e) in
    let within = h.within in
    either (own_data e who)
    (λ own_.
    let s = sent_row image (top m + 1) who own_.0 own_.1 used.places in
    let same : own_row (push_entry m (Data who own_.0 own_.1)) ≡ row_of_name (after image (top m + 1) (Data who own_.0 own_.1)) who = row_pushed m (Data who own_.0 own_.1) in
    let joined_ : (own_row (push_entry m (Data who own_.0 own_.1))).joined ≡ (own_row m).joined = ap (λ (r : Row). r.joined) same ∙ s.0 in
    subst (λ (x : Entry). OwnRowStands (push_entry m x)) (sym own_.2) (record {
      within = (let up : top (push_entry m (Data who own_.0 own_.1)) ≡ top m + 1 = simp length-append (omega arith) in omega arith);
      stands = either s.1
          (λ sent. inr (new_stands m own_.0 own_.1 (own_row (push_entry m (Data who own_.0 own_.1))) (omega arith) (ap (λ (r : Row). r.last) same ∙ sent)))
          (λ none. inl (ap (λ (r : Row). r.last) same ∙ none));
    }))
    (λ other. by joined last more (row_stays image (top m + 1) e who used.places (omega arith) other))
  where
    by : (own_row (push_entry m e)).joined ≡ (row_of_name (after (image_of_node m) (top m + 1) e) m.core.who).joined
        → (own_row (push_entry m e)).last ≡ (row_of_name (after (image_of_node m) (top m + 1) e) m.core.who).last → top (push_entry m e) ≡ top m + 1
        → RowStays (top m + 1) (life_of_name m.core.who) (row_of_place (image_of_node m) (place_of_name m.core.who))
        (row_of_place (after (image_of_node m) (top m + 1) e) (place_of_name m.core.who))
        → OwnRowStands (push_entry m e)
    by joined last more (stays j l) =
        let within = h.within in
        let joined_ : (own_row (push_entry m e)).joined ≡ (own_row m).joined = joined ∙ j in
        let last_ : (own_row (push_entry m e)).last ≡ (own_row m).last = last ∙ l in
        record {
          within = omega arith;
          stands = either h.stands
              (λ none. inl (last_ ∙ none))
              (λ old. inr (pushed_stands m e (own_row (push_entry m e)) joined_ last_ old));
        }
    by joined last more (begins j l) =
        let low : (own_row (push_entry m e)).joined ≤ top m + 1 = subst (λ k. k ≤ top m + 1) (sym joined) j in
        record { within = omega arith; stands = inl (last ∙ l) }

-- ---- each change

stands_refreshed : (m : Node) → OwnRowStands m → OwnRowStands (refresh m)
stands_refreshed m h = subst OwnRowStands (sym (refresh_changes_only_fronts m)) (record { within = h.within; stands = h.stands })

stands_settled : (m : Node) → OwnRowStands m → OwnRowStands (settle_waiting_send m)
stands_settled m h = subst OwnRowStands (sym (settle_changes_only_sends m)) (record { within = h.within; stands = h.stands })

stands_ended : (m : Node) → OwnRowStands m → OwnRowStands (refresh_at_end m)
unfolding refresh_at_end
stands_ended m h = stands_settled (refresh m) (stands_refreshed m h)

stands_looked : (m : Node) (b : Ballot) (v : BallotVerdict) → UnusedPlacesHaveNoLife (image_of_node m) → LooksAtBallot m b v → OwnRowStands m → OwnRowStands v.node
stands_looked m b v used (decides may) h = let k = stands_pushed m (View _) used h in record { within = k.within; stands = k.stands }
stands_looked m b v used _ h = record { within = h.within; stands = h.stands }

-- who never joined has no row
no_row : (image : Image) (name : ℕ) → UnusedPlacesHaveNoLife image → nat_lt 0 (row_of_name image name).joined ≡ false
    → ((row_of_name image name).joined ≡ 0) × ((row_of_name image name).last ≡ 0)
no_row image name used none = split_on_bool ((row_at_place image name).life == life_of_name name)
    (λ t. absurd (
    let j : nat_lt 0 (row_at_place image name).joined ≡ false = rw t at none in
    let life : (row_at_place image name).life ≡ 0 = used.unused (place_of_name name) (mod_sixteen_lt name) (grind (arith, nat_tests)) in
    let z : ⊥ = grind (arith, nat_tests) in z))
    (λ f. rw f (refl, refl))

-- a list that begins with nobody of the name
empty_stands : (n : Node) (image : Image) → n.core.log.entries ≡ [] → n.core.log.image ≡ image → (row_of_name image n.core.who).joined ≡ 0
    → (row_of_name image n.core.who).last ≡ 0 → OwnRowStands n
unfolding image_after_entries
empty_stands n image empty is none new =
    let told_ : image_of_node n ≡ image = ap (image_after_entries n.core.log.image (n.core.log.start + 1)) empty ∙ is in
    let joined : (own_row n).joined ≡ 0 = ap (λ (i : Image). (row_of_name i n.core.who).joined) told_ ∙ none in
    record { within = omega arith; stands = inl (ap (λ (i : Image). (row_of_name i n.core.who).last) told_ ∙ new) }

stands_change : (rules : Rules) {c : Cause} {o : Outcome} (m n : Node) → HeardWelcomeImageIsUsed c → TrimsOnlyTakenAlongStep rules m → Change c o m n → OwnRowStands m → OwnRowStands n
stands_change rules m n used a refreshes h = stands_refreshed m h
stands_change rules m n used a settles h = stands_settled m h
stands_change rules m n used a (numbers e leads room why) h = stands_pushed m e (told_image_is_used m a.owned.fronts) h
stands_change rules m n used a (stores s v base acc number e by seq plain may) h =
    let k = stands_pushed m e (told_image_is_used m a.owned.fronts) h in record { within = k.within; stands = k.stands }
stands_change rules m n used a (begins_list s v base join image is o may) h =
    let none = no_row image m.core.who (used (packet.Welcome s v base join image) is) may.new in
    empty_stands (node_of_welcomed m v base join image) image refl refl none.0 none.1
stands_change rules m n used a (looks b verdict over why look is) h = stands_looked m b verdict (told_image_is_used m a.owned.fronts) look h
stands_change rules m n used a (fetches s v base number e is by promise below who may) h =
    let k = stands_pushed m e (told_image_is_used m a.owned.fronts) h in record { within = k.within; stands = k.stands }
stands_change rules m n used a (stores_view s base number v is by own_ other promise below may) h =
    let k = stands_pushed m (View v) (told_image_is_used m a.owned.fronts) h in record { within = k.within; stands = k.stands }
stands_change rules m n used a (closes leads leaves alone room) h =
    let k = stands_ended (push_entry m (Leave m.core.who)) (stands_pushed m (Leave m.core.who) (told_image_is_used m a.owned.fronts) h) in
    record { within = k.within; stands = k.stands }
stands_change rules m n used a _ h = record { within = h.within; stands = h.stands }

stands_changes : (rules : Rules) {c : Cause} {o : Outcome} (m n : Node) → HeardStampsHaveNames c → HeardWelcomeImageIsUsed c → Changes c o m n → TrimsOnlyTakenAlongStep rules m
    → OwnRowStands m → OwnRowStands n
stands_changes rules m n names used unchanged a h = h
stands_changes rules m n names used (changed {n = x} one more) a h =
    stands_changes rules x n names used more (changes_trim_only_taken rules m x names used (changed one unchanged) a) (stands_change rules m x used a one h)

-- ---- runs

-- and its sends stand in line, from the first on
pub record OwnSendsStand (m : Node) : Type 0 where
  pub row : OwnRowStands m
  pub line : unsettled_sends_are_in_line m.sends.last m.sends.queue ≡ true
  pub first : 0 < own.next_request m.sends

pub AllOwnSendsStand : World → Type 0
AllOwnSendsStand w = (name : ℕ) → name < 256 → OwnSendsStand (w.nodes name)

stands_step : (rules : Rules) (w : World) (e : Event) (c : Cause) (s : StepResult) → WorldTrimsOnlyTaken rules w → IsCause w (acting_name w e) e.act c
    → Effect (w.nodes (acting_name w e)) c s → AllOwnSendsStand w → AllOwnSendsStand (world_with_step w e (acting_name w e) s)
unfolding world_with_step AllOwnSendsStand
stands_step rules w e c s laws cause effect h other few =
    let name = acting_name w e in
    let low = actor_is_below_256 rules w e laws.blanks.base.named in
    let old = h name low in
    let rose = next_request_rose_by_changes effect.changes (record { line = old.line }) in
    let next = rose.next in
    let first_ = old.first in
    let row = stands_changes rules (w.nodes name) s.node (heard_stamps_have_names rules w e c laws.blanks.base cause) (heard_welcome_image_is_used rules w e c laws cause) effect.changes
    (each_node_trims_only_taken rules w name low laws) old.row in
    let n : OwnSendsStand s.node = record { row = row; line = rose.line; first = omega arith } in
    split_on_bool (other == name) (λ t. rw t n) (λ f. rw f (h other few))

stands_after : (rules : Rules) (w : World) (e : Event) (v : World) → WorldTrimsOnlyTaken rules w → EventHappens w e v → AllOwnSendsStand w → AllOwnSendsStand v
unfolding world_with_record AllOwnSendsStand
stands_after rules w e v laws (steps c s runs cause effect) h = stands_step rules w e c s laws cause effect h
stands_after rules w e v laws _ h = h

stands_along : (rules : Rules) (w : World) (es : List Event) → WorldTrimsOnlyTaken rules w → AllOwnSendsStand w → AllOwnSendsStand (world_after_events w es)
unfolding world_after_events
stands_along rules w [] laws h = h
stands_along rules w (e ∷ es) laws h = stands_along rules (happens w e) es (events_trim_only_taken rules w e (happens w e) (events_have_effects w e) laws)
    (stands_after rules w e (happens w e) laws (events_have_effects w e) h)

-- who begins has sent nothing
blank_row_of : (name : ℕ) → ((row_of_name blank name).joined ≡ 0) × ((row_of_name blank name).last ≡ 0)
blank_row_of name =
    let row : row_at_place blank name ≡ blank_row = get_or-replicate 16 (place_of_name name) blank_row blank_row (mod_sixteen_lt name) in
    split_on_bool ((row_at_place blank name).life == life_of_name name)
    (λ t. rw t (ap (λ (r : Row). r.joined) row, ap (λ (r : Row). r.last) row))
    (λ f. rw f (refl, refl))

stranger_stands : (rules : Rules) (name : ℕ) → OwnRowStands (stranger_node rules name)
stranger_stands rules name = let b = blank_row_of name in empty_stands (stranger_node rules name) blank refl refl b.0 b.1

-- a founder before the first entry
abbrev unbegun : Rules → ℕ → Node
unbegun rules name = record (founder rules name) { core = record ((founder rules name).core) { log = record { start = 0; image = blank; entries = [] } } }

unbegun_stands : (rules : Rules) (name : ℕ) → OwnRowStands (unbegun rules name)
unbegun_stands rules name = let b = blank_row_of name in empty_stands (unbegun rules name) blank refl refl b.0 b.1

unbegun_used : (rules : Rules) (name : ℕ) → UnusedPlacesHaveNoLife (image_of_node (unbegun rules name))
unfolding image_after_entries
unbegun_used rules name = blank_image_is_used

founder_stands : (rules : Rules) (name : ℕ) → OwnRowStands (founder rules name)
founder_stands rules name =
    let k = stands_pushed (unbegun rules name) (founders_entry rules) (unbegun_used rules name) (unbegun_stands rules name) in
    record { within = k.within; stands = k.stands }

stands_start : (rules : Rules) → AllOwnSendsStand (start rules)
unfolding AllOwnSendsStand
stands_start rules name few = founder_or_stranger_has OwnSendsStand rules name
    (record { row = founder_stands rules name; line = refl; first = omega arith })
    (record { row = stranger_stands rules name; line = refl; first = omega arith })

pub run_own_sends_stand : (rules : Rules) (events : List Event) → MayFound rules → (name : ℕ) → name < 256 → OwnSendsStand ((run rules events).nodes name)
unfolding AllOwnSendsStand
run_own_sends_stand rules events may = stands_along rules (start rules) events (start_trims_only_taken rules may) (stands_start rules)
